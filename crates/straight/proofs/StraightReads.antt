-- From place to place of an ordered read, of whatever machine makes one.
use Rattle.histories.specs.Common.{value}
use Rattle.ordered_map.specs.TrieShape.{Stays}
use Rattle.template.specs.Common.{FoundBy, Goal, WalkIsTold, WalkKnows}
use Rattle.template.specs.Walk.Places.{way_from}
use Rattle.template.specs.declared.walk.Way.{Way}
use Rattle.straight.specs.StraightWalk.{KeepsTurns}
use Rattle.template.specs.Balance.{leaf_way, nodes_by}
use Rattle.order.specs.Known.{AreLastTurns, IsSearchFor}
use Rattle.order.specs.Near.{NearStands, NextStands, near_most, near_value, near_word}
use Rattle.order.specs.declared.near.NearNext.{NearNext}
use Rattle.order.specs.declared.near.NearNext.TheVariants.{Load as NearLoad, Found as NearFound}
use Rattle.order.specs.declared.near.NearRun.{NearRun}
use Rattle.order.proofs.Lemmas.{turned}
use Rattle.template.specs.Common.{path_key}
use Rattle.std.proofs.Common.{◌≡◌, ◌∙◌, ℕ, suc, ◌+◌, ◌-◌, ◌*◌, ◌<◌, ◌≤◌, Bool, true, false, List, None, Some, Result, Ok, length, [], inl, inr, refl, sym, ap, subst, arith, Err}
use Rattle.histories.specs.Common.{Turn, Ask, Done, Side, NodeNo, ScxNo, LoadInfo, LoadMarked, LoadSettled, LoadState, Settled}
use Rattle.histories.specs.Common.{Head as HeadWord, head_of, History, Call, IsRun, MatchTurn, begun_at, info, marked, node, state}
use Rattle.order.specs.Found.{BeginsAtRoot, BeginsSo, IsReading, Looks, Stands, WalksTo, head_at}
use Rattle.order.specs.Known.{IsSameRead, ReadAnswers, ReadGoes, ReadIsReady, ReadWaits}
use Rattle.order.specs.Laws.Run.{read_told}
use Rattle.order.specs.Meaning.{ReadMeaning}
use Rattle.order.specs.Loads.{load_value}
use Rattle.order.specs.Next.{MayDo, MayLoad}
use Rattle.order.specs.Paths.{BeginsNear, ComesNearer, HeadFits, LoadFits, load_left}
use Rattle.order.specs.Places.{GoesOn, MayGoOn, RunComesNearer, next_step, placed}
use Rattle.order.specs.Tries.{IsInTry}
use Rattle.order.specs.Steps.{ReadFits, phase_left, read_left, run_try_left, tries_left}
use Rattle.order.specs.declared.load.ReadLoad.{ReadLoad}
use Rattle.order.specs.declared.read.Children.{Children}
use Rattle.order.specs.declared.read.ReadBegin.TheVariants.{Walk as Walking, Root as AtRoot, Answer}
use Rattle.order.specs.declared.read.ReadNext.{ReadNext}
use Rattle.order.specs.declared.read.ReadNext.TheVariants.{Load as LoadNext, Look as LookNext, Validate as ValidateNext}
use Rattle.order.specs.declared.refused.Refused.{Refused}
use Rattle.order.specs.declared.run.ReadAt.TheVariants.{Start, Look, Walk, Validate}
use Rattle.order.specs.declared.run.ReadRun.{ReadRun}
use Rattle.order.proofs.Lemmas.{answers_all, answers_right, begins_root, begins_walk, ends_refused, found_then, near_answers, next_waits, placed_nearer, searches_on, walk_found, walk_waits}
use Rattle.template.specs.Common.{load, IsSnapshot, snap_at, VlxAnswers, VlxWaits, LlxRun, Neighbour as NeighbourOf, Pair, pair_or_none, Snap, Same, TreeAllows, IsOwnMoment, HasFoundGoal, Key as ToKey}
use Rattle.prims.specs.Vlx.Known.{HasFoundUnchanged, VlxIsTold}
use Rattle.prims.specs.Vlx.Laws.{all_same, looked_on}
use Rattle.prims.specs.declared.llx.LlxAt.TheVariants.{Marked, StateAgain}
use Rattle.template.specs.declared.walk.Found.{Found}
use Rattle.template.specs.declared.walk.WalkRun.{WalkRun}
use Rattle.order.specs.declared.last_turns.LastTurns.{LastTurns}
use Rattle.order.specs.LastTurns.{first_children, no_turns, turn_to}
use Rattle.tables.specs.declared.view.SeatedPass.{SeatedPass}
use Rattle.straight.specs.CallKinds.{Calls}
use Rattle.straight.specs.Hosts.{HostedIsTold, HostedStands, HostedWaits}
use Rattle.straight.specs.Inside.{InnerIsTold, InnerWaits}
use Rattle.straight.specs.StraightLlx.{llx_at, Looker, LookerSnaps}
use Rattle.straight.specs.StraightReads.{Reader, ReaderBegins, ReaderEnds, ReaderHasWalked, ReaderLooksAgain, ReaderRoots, ReaderSearches, ReaderWaits, at_root, searching}
use Rattle.straight.specs.StraightVlx.{Validator}
use Rattle.straight.specs.StraightWalk.{Walker, WalkerFinds, WalkerWaits}
use Rattle.tables.specs.TableRule.{history_of}
use Rattle.tables.specs.Traces.{shared_nodes}
use Rattle.straight.proofs.Advances.{few_taken}
use Rattle.straight.proofs.Hosts.{either_turn, told_on}
use Rattle.straight.proofs.Inside.{inside_host}

-- one step of a seat, of a run that then has fewer steps left
pub one_step : (before after left less : ℕ) → after ≡ suc before → less < left → after + suc less ≤ before + suc left
one_step before after left less one i = omega (arith, one, i)

-- and of the last ones
pub last_steps : (before mid after left less : ℕ) → mid ≡ suc before → less < left → after ≤ mid + suc less → after ≤ before + suc left
last_steps before mid after left less one i more = omega (arith, one, i, more)

module _ {R A : Type 0} (means : ReadMeaning R A) where
  itself : (m : ReadRun R) → IsSameRead means m m
  itself m = (refl, refl, omega arith, omega arith, refl)

module _ {M R A : Type 0} {o : Calls M} {means : ReadMeaning R A} (r : Reader o means) where
  -- what it knows, apart from its mode
  reading : (m : ReadRun R) (c : Call) (h : History) → ReadGoes means m c h → IsReading means m.read m.snaps.items c h
  reading m c h x = record { reads = x.reads; suits = x.suits }

  -- its step has found this
  abbrev IsTold : List SeatedPass → ReadRun R → ℕ → Type 0
  IsTold ps m v = HostedIsTold r ps m v

  -- what it gets takes it to what comes next
  on_to : (ps : List SeatedPass) (old m : ReadRun R) (next : ReadNext) (v : ℕ) → IsSameRead means old (placed m next) → ((h : History) → IsRun TreeAllows r.call.layout h → ReadIsReady means old r.call h (Some v) → MayGoOn means r.call h m next) → IsTold ps old v → ReaderWaits r ps m next
  on_to ps old m next v is know x = told_on r ps old (placed m next) (Some v) (Ask (next_step m next)) is (λ h run y. next_waits means m r.call h next (know h run y)) x

  -- what it gets fits the taken nodes
  pub told_fits : (ps : List SeatedPass) (m : ReadRun R) (v : ℕ) → IsTold ps m v → ReadFits means m (Some v) (nodes_by m.trie (shared_nodes o.layout))
  told_fits ps m v x = read_told means m r.call _ (Some v) (shared_nodes o.layout) (r.runs _ x.sound) (r.tells m _ (Some v) x.so.0) (few_taken o.allows o.layout r.call _ r.is_layout x.sound)

  -- so does nothing at its start
  pub begun_fits : (ps : List SeatedPass) (m : ReadRun R) → ReaderBegins r ps m → ReadFits means m None (nodes_by m.trie (shared_nodes o.layout))
  begun_fits ps m x = read_told means m r.call _ None (shared_nodes o.layout) (r.runs _ x.sound) (r.tells m _ None x.so.0) (few_taken o.allows o.layout r.call _ r.is_layout x.sound)

  -- After its loads: the read has continued
  module _ (m : ReadRun R) (read : R) (same : means.call read ≡ means.call m.read) where
    abbrev now : ReadRun R
    now = record m { read = read }

    reads_on : (c : Call) (h : History) → ReadGoes means m c h → ReadGoes means now c h
    reads_on c h x = record { reads = x.reads; suits = rw same x.suits; mode = x.mode }

    is_same : IsSameRead means m now
    is_same = (same, refl, omega arith, omega arith, refl)

    -- what is known then of what comes next, at its node
    abbrev Knows : ReadNext → ((h : History) → Type 0) → ℕ → Type 0
    Knows next known n = (snaps : List Snap) (c : Call) (h : History) → IsReading means m.read snaps c h → IsOwnMoment c h → Stands means m.read snaps c h n → known h → MayDo means read snaps c h next

    pub root_goes_on : (ps : List SeatedPass) (v : ℕ) (next : ReadNext) → Knows next (λ h. head_at h 0 ≡ head_of v) 0 → IsTold ps (at_root m) v → ReaderWaits r ps now next
    root_goes_on ps v next goes = on_to ps (at_root m) now next v is_same (λ h run y. let c = begun_at r.call y.0 in (y.0, y.1, (reads_on c h y.2, goes m.snaps.items c h (reading (at_root m) c h y.2) y.3 y.4.0 (ap head_of y.4.1))))

    -- and has fewer steps left
    some_left : (c : Call) (h : History) (next : ReadNext) (nodes n : ℕ) → MayDo means read m.snaps.items c h next → ComesNearer means read nodes next n → 0 < length m.snaps.items + n
    some_left c h (LoadNext of) nodes n y e = let i = e.0 in let j = e.1 in omega (arith, i, j)
    some_left c h (LookNext children level l) nodes n y e = let j = e.1 in omega (arith, j)
    some_left c h ValidateNext nodes n y e = let i = y.some in omega (arith, i)

    lighter : (c : Call) (h : History) (next : ReadNext) (nodes n : ℕ) → MayDo means read m.snaps.items c h next → ComesNearer means read nodes next n → read_left means (placed now next) nodes < tries_left means m nodes + (length m.snaps.items + n)
    lighter c h next nodes n may near = subst (λ k. read_left means (placed now next) nodes < m.tries * means.try_left k nodes + (length m.snaps.items + n)) same (placed_nearer means now next nodes (length m.snaps.items + n) (some_left c h next nodes n may near) (near.0, (let i = near.1 in omega (arith, i))))

    pub root_lighter : (ps : List SeatedPass) (v : ℕ) (next : ReadNext) → Knows next (λ h. head_at h 0 ≡ head_of v) 0 → ((nodes : ℕ) → HeadFits (head_of v) nodes → ComesNearer means read nodes next (67 * (2 + nodes - (head_of v).level) - 1 + means.behind m.read nodes)) → IsTold ps (at_root m) v → read_left means (placed now next) (nodes_by m.trie (shared_nodes o.layout)) < read_left means (at_root m) (nodes_by m.trie (shared_nodes o.layout))
    root_lighter ps v next goes near x =
        let y = r.tells (at_root m) _ (Some v) x.so.0 in
        let c = begun_at r.call y.0 in
        let f = told_fits ps (at_root m) v x in
        let i = f.0 in
        let p = lighter c _ next (nodes_by m.trie (shared_nodes o.layout)) _ (goes m.snaps.items c _ (reading (at_root m) c _ y.2) y.3 y.4.0 (ap head_of y.4.1)) (near (nodes_by m.trie (shared_nodes o.layout)) f) in
        omega (arith, i, p)

  -- After a load: the run has continued
  module _ (m now : ReadRun R) (of : ReadLoad) (is : IsSameRead means m now) (tries : now.tries ≡ m.tries) where
    -- what is known of it then
    abbrev Loads : ℕ → Result ReadNext Refused → Type 0
    Loads v next = (c : Call) (h : History) → ReadGoes means m c h → IsOwnMoment c h → MayLoad means m.read m.snaps.items c h of → load_value h of ≡ v → GoesOn means c h now next

    pub load_goes_on : (ps : List SeatedPass) (v : ℕ) (next : ReadNext) → Loads v (Ok next) → IsTold ps (placed m (LoadNext of)) v → ReaderWaits r ps now next
    load_goes_on ps v next goes = on_to ps (placed m (LoadNext of)) now next v is (λ h run y. (y.0, rw (is.1, tries) y.1, goes (begun_at r.call y.0) h y.2 y.3 y.4.0 y.4.1))

    pub load_last : (ps : List SeatedPass) (v : ℕ) (a : Refused) → Loads v (Err a) → IsTold ps (placed m (LoadNext of)) v → ReaderEnds r ps now (Err a)
    load_last ps v a goes x = told_on r ps (placed m (LoadNext of)) now (Some v) (Done (Err a)) is
        (λ h run y. ends_refused means now r.call y.0 h a m.tries (rw is.1 y.1) (goes (begun_at r.call y.0) h y.2 y.3 y.4.0 y.4.1)) x

    -- and has fewer steps left
    some_then : (c : Call) (h : History) (next : ReadNext) (nodes n : ℕ) → GoesOn means c h now (Ok next) → RunComesNearer means now nodes next n → 0 < n
    some_then c h (LoadNext then) nodes n y e = let i = e.0 in let j = e.1 in omega (arith, i, j)
    some_then c h (LookNext children level l) nodes n y e = let j = e.1 in omega (arith, j)
    some_then c h ValidateNext nodes n y e = let i = y.1.some in let j = e.1 in omega (arith, i, j)

    pub load_lighter : (ps : List SeatedPass) (v : ℕ) (next : ReadNext) → Loads v (Ok next) → ((nodes : ℕ) → LoadFits v nodes of → RunComesNearer means now nodes next (length m.snaps.items + load_left means m.read nodes of - 1)) → IsTold ps (placed m (LoadNext of)) v → read_left means (placed now next) (nodes_by now.trie (shared_nodes o.layout)) < read_left means (placed m (LoadNext of)) (nodes_by m.trie (shared_nodes o.layout))
    load_lighter ps v next goes near x = subst (λ t. read_left means (placed now next) (nodes_by t (shared_nodes o.layout)) < read_left means (placed m (LoadNext of)) nodes) (sym is.4)
        (subst (λ t. read_left means (placed now next) nodes < t + (length m.snaps.items + load_left means m.read nodes of - 1)) (λ i. tries i * means.try_left (is.0 i) nodes) fewer)
      where
        nodes : ℕ
        nodes = nodes_by m.trie (shared_nodes o.layout)

        y : ReadIsReady means (placed m (LoadNext of)) r.call (history_of x.planting x.known) (Some v)
        y = r.tells (placed m (LoadNext of)) _ (Some v) x.so.0

        nearer : RunComesNearer means now nodes next (length m.snaps.items + load_left means m.read nodes of - 1)
        nearer = near nodes (told_fits ps (placed m (LoadNext of)) v x)

        fewer : read_left means (placed now next) nodes < tries_left means now nodes + (length m.snaps.items + load_left means m.read nodes of - 1)
        fewer = placed_nearer means now next nodes _ (some_then (begun_at r.call y.0) _ next nodes _ (goes (begun_at r.call y.0) _ y.2 y.3 y.4.0 y.4.1) nearer) nearer

  -- It looks
  module _ (m : ReadRun R) (children : Children) (level : ℕ) where
    abbrev at : LlxRun → ReadRun R
    at llx = record m { at = Look children level llx }

    pub looker : Looker TreeAllows o
    looker = inside_host r at
        (λ llx h v run y. (begun_at (begun_at r.call y.0) y.4.1.0, (r.runs h run, y.4.1.2)))
        (λ llx now v node. itself means (at llx))
        (λ llx now h v s node turn run y. (
          y.0,
          y.1,
          y.2,
          (
            subst (λ (k : NodeNo). Looks means m.read m.snaps.items (begun_at r.call y.0) h children level k.0) (sym node) y.4.0,
            (y.4.1.0, y.4.1.1, turn (begun_at (begun_at r.call y.0) y.4.1.0) (r.runs h run, y.4.1.2)),
          ),
        ))

    -- it begins to look
    pub begins_look : (ps : List SeatedPass) (n : NodeNo) → ReaderWaits r ps m (LookNext children level n) → InnerWaits looker ps (llx_at n Marked) (load LoadMarked (marked n.0))
    unfolding looker
    begins_look ps n x = x

    -- with the snapshot it continues as its turn says
    looked : (ps : List SeatedPass) (now : ReadRun R) (n : NodeNo) (snap : Snap) (turn : Turn (Result A Refused)) → IsSameRead means m now
        → ((begin h : History) → IsInTry r.call h begin m.limit m.tries → ReadGoes means m (begun_at r.call begin) h → Looks means m.read m.snaps.items (begun_at r.call begin) h children level snap.node.0 → IsSnapshot r.call.layout h snap.node.0 snap → MatchTurn turn (ReadWaits means now r.call h) (ReadAnswers means now r.call h))
        → LookerSnaps looker ps n snap → HostedStands r ps now turn
    unfolding looker
    looked ps now n snap turn is goes x = told_on r ps (at x.last) now (Some x.told) turn (either_turn turn is) next x.so
      where
        here : x.last.node ≡ snap.node
        here = x.is_node ∙ sym x.of_node

        next : (h : History) → IsRun TreeAllows r.call.layout h → ReadIsReady means (at x.last) r.call h (Some x.told) → MatchTurn turn (ReadWaits means now r.call h) (ReadAnswers means now r.call h)
        next h run y =
            goes y.0 h y.1 y.2 (subst (λ (k : NodeNo). Looks means m.read m.snaps.items (begun_at r.call y.0) h children level k.0) here y.4.0)
            (subst (λ (k : NodeNo). IsSnapshot r.call.layout h k.0 snap) (sym x.of_node) (x.snaps (begun_at (begun_at r.call y.0) y.4.1.0) h run y.4.1.2))

    -- what is known of the run that keeps the snapshot
    abbrev Keeps : ReadRun R → Snap → Result ReadNext Refused → Type 0
    Keeps now snap next = (c : Call) (h : History) → ReadGoes means m c h → Looks means m.read m.snaps.items c h children level snap.node.0 → IsSnapshot c.layout h snap.node.0 snap → GoesOn means c h now next

    pub looks_on : (ps : List SeatedPass) (now : ReadRun R) (n : NodeNo) (snap : Snap) (next : ReadNext) → now.tries ≡ m.tries → IsSameRead means m now → Keeps now snap (Ok next) → LookerSnaps looker ps n snap → ReaderWaits r ps now next
    looks_on ps now n snap next tries is goes = looked ps (placed now next) n snap (Ask (next_step now next)) is (λ begin h try g l s. next_waits means now r.call h next (begin, rw (is.1, tries) try, goes (begun_at r.call begin) h g l s))

    pub looks_last : (ps : List SeatedPass) (now : ReadRun R) (n : NodeNo) (snap : Snap) (a : Refused) → IsSameRead means m now → Keeps now snap (Err a) → LookerSnaps looker ps n snap → ReaderEnds r ps now (Err a)
    looks_last ps now n snap a is goes = looked ps now n snap (Done (Err a)) is (λ begin h try g l s. ends_refused means now r.call begin h a m.tries (rw is.1 try) (goes (begun_at r.call begin) h g l s))

    -- its fork is no deeper than the taken nodes allow
    pub level_fits : (ps : List SeatedPass) (n : NodeNo) (snap : Snap) → LookerSnaps looker ps n snap → level + 1 < 2 + nodes_by m.trie (shared_nodes o.layout)
    unfolding looker
    level_fits ps n snap x = told_fits ps (at x.last) x.told x.so

    -- if something is in the way, it is at that place
    pub looks_again : (ps : List SeatedPass) (n : NodeNo) (b : Bool) (scx : ScxNo) → InnerWaits looker ps (llx_at n (StateAgain b scx)) (load LoadState (state scx.0)) → ReaderLooksAgain r ps m children level n b scx
    unfolding looker
    looks_again ps n b scx x = x

  -- It validates these snapshots
  module _ (m : ReadRun R) (snaps : List Snap) (e : snaps ≡ m.snaps.items) where
    abbrev asking : ℕ → ReadRun R
    asking n = record m { at = Validate n }

    pub validator : Validator o snaps
    validator = inside_host r asking
        (λ n h v run y. (begun_at (begun_at r.call y.0) y.4.0, (y.2.reads.run.1.lawful, subst (λ (l : List Snap). VlxIsTold l n (begun_at (begun_at r.call y.0) y.4.0) h v) (sym e) y.4.2)))
        (λ old now v is. itself means (asking old))
        (λ old now h v s is turn run y.
        let b = y.4.0 in let d = begun_at (begun_at r.call y.0) b in (
          y.0,
          y.1,
          y.2,
          (b, y.4.1, subst (λ (l : List Snap). VlxWaits l now d h s) e (turn d (y.2.reads.run.1.lawful, subst (λ (l : List Snap). VlxIsTold l old d h v) (sym e) y.4.2))),
        ))

    pub begins_vlx : (ps : List SeatedPass) → ReaderWaits r ps m ValidateNext → InnerWaits validator ps 1 (load LoadInfo (info (snap_at snaps 0).node.0))
    unfolding validator
    begins_vlx ps x = subst (λ (l : List Snap). HostedWaits r ps (asking 1) (load LoadInfo (info (snap_at l 0).node.0))) (sym e) x

    pub told_vlx : (ps : List SeatedPass) (n v : ℕ) → InnerIsTold validator ps n v → IsTold ps (asking n) v
    unfolding validator
    told_vlx ps n v x = x

    -- where the last info was what its snapshot found, what it has read is its answer
    pub answers_found : (ps : List SeatedPass) (now : ReadRun R) (n asked v : ℕ) (answer : A) → means.call now.read ≡ means.call m.read → now.limit ≡ m.limit → now.tries ≡ m.tries → now.trie ≡ m.trie → means.told answer ≡ means.found m.read → suc n ≡ asked → (snap_at snaps n).scx.0 ≡ v → asked ≡ length snaps → InnerIsTold validator ps asked v → ReaderEnds r ps now (Ok answer)
    unfolding validator
    answers_found ps now n asked v answer call limit tries trie tells is found all x = told_on r ps (asking asked) now (Some v) (Done (Ok answer)) (call, limit, omega (arith, tries), omega (arith, tries), trie) ends x
      where
        same : (d : Call) (h : History) → IsRun TreeAllows d.layout h → VlxIsTold m.snaps.items asked d h v → VlxAnswers m.snaps.items d h Same
        same d h run y = all_same d h m.snaps.items run.lawful
            (subst (λ (k : ℕ). HasFoundUnchanged d h m.snaps.items k) (all ∙ ap length e) (looked_on d h m.snaps.items asked n v run.lawful y is (subst (λ (l : List Snap). (snap_at l n).scx.0 ≡ v) e found)))

        ends : (h : History) → IsRun TreeAllows r.call.layout h → ReadIsReady means (asking asked) r.call h (Some v) → ReadAnswers means now r.call h (Ok answer)
        ends h run y = answers_right means m r.call y.0 y.4.0 h y.2 y.4.1 (Done Same) asked now answer (same (begun_at r.call y.4.0) h y.2.reads.run.1 y.4.2) refl y.1 call limit tells

    pub some_snap : (ps : List SeatedPass) → ReaderWaits r ps m ValidateNext → 0 < length snaps
    some_snap ps x = let w = r.opens (placed m ValidateNext) _ _ x.so.0 in let i = w.3.2.looks.within in rw e (omega (arith, i))

  -- It walks to a key, by the way of its map
  module _ (m : ReadRun R) (key : ℕ) (side : Side) (to : WalksTo means m.read key side) where
    abbrev walking : WalkRun → LastTurns → ReadRun R
    walking walk turns = record m { at = Walk walk side turns }

    abbrev pub way : Way
    way = leaf_way m.trie

    pub walker : Walker o
    walker = inside_host r (λ (w : WalkRun × LastTurns). walking w.0 w.1)
        (λ w h v run y. (begun_at r.call y.0, y.4.1))
        (λ old now v goes. itself means m)
        (λ old now h v s goes next run y.
        let w = y.4.0 in
        let c = begun_at r.call y.0 in
        let waits = next c y.4.1 in
        walk_waits means m old.0 now.0 side r.call y.0 h y.1 y.2 w.key w.goal w.goes_to (goes.1.1 ∙ w.way) goes.1.0 now.1
        (keeps c h w.key old now v (ap path_key w.goal) (ap path_key (goes.1.0 ∙ w.goal)) w.last waits.known y.4.1 goes.2)
        s goes.0 waits)
      where
        keeps : (c : Call) (h : History) (k : ℕ) (was then : WalkRun × LastTurns) (v : ℕ) → path_key was.0.goal ≡ k → path_key then.0.goal ≡ k → AreLastTurns c h k was.1 → WalkKnows c h then.0 then.0.at → WalkIsTold was.0 c h v → KeepsTurns was v then → AreLastTurns c h k then.1
        keeps c h k was then v from goal last known told (inl e) = subst (AreLastTurns c h k) (sym e) last
        keeps c h k was then v from goal last known told (inr x) = subst (AreLastTurns c h k) (sym x.0) (turned c h k then.0 was.1 goal last then.0.at known (λ leaves. subst (λ (l : ℕ). Stays c.layout (value h) l then.0.trail.node.0) from (x.1 c h told)))

    -- it begins its walk, with no snapshot
    pub walks : (ps : List SeatedPass) (old : ReadRun R) → IsSameRead means old m → m.tries ≡ old.tries → m.snaps.items ≡ [] → ReaderBegins r ps old → WalkerWaits walker ps (way_from way (ToKey key)) no_turns (load LoadSettled (node 0 (Settled HeadWord)))
    unfolding walker
    walks ps old is tries none x = told_on r ps old (walking (way_from way (ToKey key)) no_turns) None (Ask (load LoadSettled (node 0 (Settled HeadWord)))) is
        (λ h run y. begins_walk means m old (walking (way_from way (ToKey key)) no_turns) r.call r.call.start h (Ask (load LoadSettled (node 0 (Settled HeadWord)))) is tries none y.2 y.0 (way_from way (ToKey key)) key side refl refl refl to refl refl) x

    -- what it finds there
    found_leaf : (trie : Bool) (goal : Goal) (c : Call) (h : History) (f : Found) → FoundBy (leaf_way trie) goal c h f → HasFoundGoal goal c h f
    found_leaf false goal c h f x = x
    found_leaf true goal c h f x = x

    -- it ends at the leaf of that
    pub walk_ends : (ps : List SeatedPass) (f : Found) (turns : LastTurns) → WalkerFinds walker ps way (ToKey key) turns f → ReaderHasWalked r ps m side turns f
    unfolding walker
    walk_ends ps f turns x = record { last = x.last; told = x.told; finds = λ d h y. subst (λ g. HasFoundGoal g d h f) (sym x.is_goal) (found_leaf m.trie (ToKey key) d h f (x.finds d h y)); so = x.so }

  -- Behind its walk
  module _ (m : ReadRun R) (side : Side) (turns : LastTurns) (f : Found) (ps : List SeatedPass) (x : ReaderHasWalked r ps m side turns f) where
    abbrev walked : ReadRun R
    walked = record m { at = Walk x.last side turns }

    -- it may look at the last fork that counts where it has turned to its side
    looks_behind : (h : History) (y : ReadIsReady means walked r.call h (Some x.told)) → Looks means m.read m.snaps.items (begun_at r.call y.0) h (first_children side (turn_to side turns).0) 0 (turn_to side turns).0
    looks_behind h y = let c = begun_at r.call y.0 in let w = y.4.0 in walk_found means m.read m.snaps.items c h (reading m c h y.2) w.key side turns f w.goes_to w.last (subst (λ g. HasFoundGoal g c h f) w.goal (x.finds c h y.4.1))

    pub walked_looks : ReaderWaits r ps m (LookNext (first_children side (turn_to side turns).0) 0 (turn_to side turns))
    walked_looks = on_to ps walked m (LookNext (first_children side (turn_to side turns).0) 0 (turn_to side turns)) x.told (itself means m) (λ h run y. (y.0, y.1, (y.2, looks_behind h y))) x.so

    -- or searches the leaf before that
    pub walked_searches : (near : NearRun) → ((c : Call) (h : History) (key : ℕ) (of : Side) → ReadGoes means m c h → WalksTo means m.read key of → AreLastTurns c h key turns → HasFoundGoal (ToKey key) c h f → IsSearchFor means m.read c h near) → ReaderSearches r ps m near (first_children side (turn_to side turns).0) (turn_to side turns)
    walked_searches near knows = told_on r ps walked (searching m near (first_children side (turn_to side turns).0) (turn_to side turns)) (Some x.told) (Ask (load LoadSettled (near_word near))) (itself means m)
        (λ h run y. let c = begun_at r.call y.0 in let w = y.4.0 in (y.0, y.1, y.2, (record { looks = looks_behind h y; search = knows c h w.key side y.2 w.goes_to w.last (subst (λ g. HasFoundGoal g c h f) w.goal (x.finds c h y.4.1)) }, refl))) x.so

  -- It searches a leaf
  module _ (m : ReadRun R) (children : Children) (fork : NodeNo) (near : NearRun) (ps : List SeatedPass) (v : ℕ) (x : IsTold ps (searching m near children fork) v) where
    -- what the load of its word has found takes it to what comes next
    abbrev TakesTo : NearNext → Type 0
    TakesTo next = (b : History) → NearStands near b near.at → near_value near b ≡ v → NextStands near b next

    stands : (next : NearNext) → TakesTo next → (h : History) (y : ReadIsReady means (searching m near children fork) r.call h (Some v)) → NextStands near y.4.0.search.1.moment next
    stands next on h y = let z = y.4.0 in on z.search.1.moment z.search.1.stands (found_then means m (begun_at r.call y.0) h y.2 near children fork z v y.4.1)

    pub search_next : (next : NearRun) → TakesTo (NearLoad next) → ReaderSearches r ps m next children fork
    search_next next on = told_on r ps (searching m near children fork) (searching m next children fork) (Some v) (Ask (load LoadSettled (near_word next))) (itself means m)
        (λ h run y. (y.0, y.1, y.2, (searches_on means m (begun_at r.call y.0) h y.2 near children fork y.4.0 next (stands (NearLoad next) on h y), refl))) x

    -- or that is the pair
    pub search_ends : (found : Pair) (answer : A) → TakesTo (NearFound found) → ((key : ℕ) (of : Side) → means.call m.read ≡ NeighbourOf of key → means.told answer ≡ pair_or_none (Some found)) → ReaderEnds r ps m (Ok answer)
    search_ends found answer on tells = told_on r ps (searching m near children fork) m (Some v) (Done (Ok answer)) (itself means m)
        (λ h run y. near_answers means m r.call y.0 h near children fork y.1 y.2 y.4.0 found answer (stands (NearFound found) on h y) (tells near.key near.side y.4.0.search.0)) x

    -- or it looks
    pub search_looks : ReaderWaits r ps m (LookNext children 0 fork)
    search_looks = on_to ps (searching m near children fork) m (LookNext children 0 fork) v (itself means m) (λ h run y. (y.0, y.1, (y.2, y.4.0.looks))) x

  -- A try that has begun otherwise
  module _ (ps : List SeatedPass) (old m : ReadRun R) (is : IsSameRead means old m) where
    -- with the load of the root's head
    pub roots : m.tries ≡ old.tries → m.snaps.items ≡ [] → BeginsAtRoot means m.read → ReaderBegins r ps old → ReaderRoots r ps m
    roots tries none from x = told_on r ps old (at_root m) None (Ask (load LoadSettled (node 0 (Settled HeadWord)))) is
        (λ h run y. begins_root means m old (at_root m) r.call r.call.start h (Ask (load LoadSettled (node 0 (Settled HeadWord)))) is tries none y.2 y.0 from refl refl) x

    -- or ended, with nothing to be found
    pub ends_at_once : (answer : A) → BeginsSo means m.read (Answer answer) → ReaderBegins r ps old → ReaderEnds r ps m (Ok answer)
    ends_at_once answer all x = told_on r ps old m None (Done (Ok answer)) is (λ h run y. answers_all means m old r.call r.call.start h is y.2 y.0 answer all) x

-- What a try takes with which it begins
module _ {R A : Type 0} (means : ReadMeaning R A) (old m : ReadRun R) (is : IsSameRead means old m) (tries : m.tries ≡ old.tries) (none : m.snaps.items ≡ []) (at : old.at ≡ Start) (nodes before after : ℕ) where
  in_try : after ≤ before + (tries_left means m nodes + run_try_left means m nodes) → after ≤ before + read_left means old nodes
  in_try few =
      subst (λ a. after ≤ before + (tries_left means old nodes + phase_left means old nodes a)) (sym at)
      (subst (λ n. after ≤ before + n) (λ i. tries i * means.try_left (is.0 i) nodes + means.try_left (is.0 i) nodes) few)

  -- its walk, and the rest
  pub walk_in_try : (children : Children) (turn : NodeNo) (key mid : ℕ) (side : Side) → BeginsNear means m.read nodes (Walking key side) → mid ≤ before + (3 * (2 + nodes) + 5) → after ≤ mid + (near_most + suc (read_left means (placed m (LookNext children 0 turn)) nodes)) → after ≤ before + read_left means old nodes
  walk_in_try children turn key mid side near walks rest = in_try (let e = ap length none in omega (arith, e, near, walks, rest))

  -- or all from the root on
  pub root_in_try : BeginsNear means m.read nodes AtRoot → after ≤ before + suc (read_left means (at_root m) nodes) → after ≤ before + read_left means old nodes
  root_in_try near rest = in_try (let e = ap length none in omega (arith, e, near, rest))
