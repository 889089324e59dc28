-- What an ordered read waits for after each of its turns.
use Rattle.std.proofs.Common.{◌≡◌, ℕ, ◌+◌, ◌-◌, ◌*◌, ◌<◌, Bool, true, false, List, [], length, inl, inr, refl, sym, ◌∙◌, ap, subst, arith, Option, Some, None, Result, Ok, Err, IfOk, unwrap_or, Vec, Global}
use Rattle.histories.specs.Common.{Layout, Turn, Ask, Done, NodeNo, ScxNo, Step, LoadMarked, LoadSettled, Settled, Head as HeadWord, Side, marked, node, History, value, Extends, Call, IsRun, MatchTurn, begun_at}
use Rattle.template.specs.Common.{load, IsSnapshot, LlxIsReady, LlxWaits, LlxAnswers, VlxIsReady, VlxWaits, VlxAnswers, vlx_left, Llx, Snapshot, Finalized, Fail, LlxAt, LlxRun, Pair, pair_or_none, Snap}
use Rattle.template.specs.Common.{Vlx, Same, Changed, TreeAllows, IsContended, Goal, MayGo, WalkFits, walk_left, HasFoundGoal, FoundBy, IsOwnMoment, WalkIsReady, WalkWaits, IsPastRoot, Key as ToKey}
use Rattle.prims.specs.Vlx.Laws.{first_looked, looks_next}
use Rattle.prims.specs.declared.llx.LlxAt.TheVariants.{Start as LlxStart, Marked}
use Rattle.prims.proofs.Lemmas.{turn_first}
use Rattle.template.specs.Walk.Known.{WalkAnswers}
use Rattle.template.specs.declared.walk.Found.{Found}
use Rattle.template.specs.declared.walk.WalkAt.{WalkAt}
use Rattle.template.specs.declared.walk.WalkAt.TheVariants.{Start as WalkStart, Root as WalkRoot}
use Rattle.template.specs.declared.walk.WalkRun.{WalkRun}
use Rattle.template.specs.Balance.{leaf_way, map_mode, nodes_by}
use Rattle.template.specs.Walk.Steps.{WalkFitsAt, room, steps_left}
use Rattle.order.specs.Found.{BeginsAtRoot, BeginsSo, IsReading, Looks, WalksTo}
use Rattle.order.specs.Known.{AreLastTurns, IsSameRead, ReadAnswers, ReadGoes, ReadIsReady, ReadIsToldAt, ReadTurn, ReadWaits, RunStands, SearchesLeaf, Validates, Walks, WalksInTry}
use Rattle.order.specs.Laws.Kept.{root_there}
use Rattle.order.specs.Laws.Run.{no_turn, not_within, room_by}
use Rattle.order.specs.LastTurns.{no_turns}
use Rattle.order.specs.declared.last_turns.LastTurns.{LastTurns}
use Rattle.order.specs.Loads.{load_value}
use Rattle.order.specs.Meaning.{ReadMeaning}
use Rattle.order.specs.Near.{NextStands, near_left, near_value, near_word}
use Rattle.order.specs.Next.{MayLoad}
use Rattle.order.specs.Paths.{BeginsNear, ComesNearer, path_left}
use Rattle.order.specs.Places.{GoesOn, MayGoOn, RunComesNearer, next_step, placed}
use Rattle.order.specs.Steps.{ReadFits, ReadFitsAt, ReadIsNearer, phase_left, read_left, run_try_left, tries_left}
use Rattle.order.specs.Tries.{BeginsTry, IsInTry}
use Rattle.order.specs.declared.load.ReadLoad.{ReadLoad}
use Rattle.order.specs.declared.near.NearNext.TheVariants.{Load as NearLoad, Found as NearFound}
use Rattle.order.specs.declared.near.NearRun.{NearRun}
use Rattle.order.specs.declared.read.Children.{Children}
use Rattle.order.specs.declared.read.ReadBegin.TheVariants as begins
use Rattle.order.specs.declared.read.ReadNext.{ReadNext}
use Rattle.order.specs.declared.read.ReadNext.TheVariants as next
use Rattle.order.specs.declared.refused.Refused.{Refused}
use Rattle.order.specs.declared.run.ReadAt.{ReadAt}
use Rattle.order.specs.declared.run.ReadAt.TheVariants.{Start, Walk, Near, Root, Load, Look, Validate}
use Rattle.order.specs.declared.run.ReadRun.{ReadRun}
use Rattle.order.proofs.Blaming.{first_look, look_failed, look_finalized, look_changed, reply_wider, tried_before, tried_here}
use Rattle.order.proofs.Nearby.{replies_near, searches_on}
use Rattle.order.proofs.Looking.{look_ready, replies, validates}

-- a walk to a key may go to a leaf
may_walk : (lay : Layout) (trie : Bool) (k : ℕ) → lay.mode ≡ map_mode trie → MayGo lay (leaf_way trie) (ToKey k)
may_walk lay false k mode = mode
may_walk lay true k mode = mode

-- it gets nearer there as it does by its way
pub walk_less : (trie : Bool) (nodes : ℕ) (walk after : WalkRun) (got : Option ℕ) → walk.way ≡ leaf_way trie → after.way ≡ walk.way → (WalkFits walk got nodes → steps_left after nodes < steps_left walk nodes) → WalkFitsAt walk.at (unwrap_or got 0) (nodes_by trie nodes) → walk_left after.at (nodes_by trie nodes) < walk_left walk.at (nodes_by trie nodes)
walk_less trie nodes walk after got way same near fits =
    let e : room walk.way nodes ≡ nodes_by trie nodes = ap (λ w. room w nodes) way ∙ room_by trie nodes in
    let f : room after.way nodes ≡ nodes_by trie nodes = ap (λ w. room w nodes) same ∙ e in
    let less : walk_left after.at (room after.way nodes) < walk_left walk.at (room walk.way nodes) = near (subst (WalkFitsAt walk.at (unwrap_or got 0)) (sym e) fits) in
    subst (λ r. walk_left after.at r < walk_left walk.at (nodes_by trie nodes)) f (subst (λ r. walk_left after.at (room after.way nodes) < walk_left walk.at r) e less)

-- and finds that
found_leaf : (trie : Bool) (goal : Goal) (c : Call) (h : History) (f : Found) → FoundBy (leaf_way trie) goal c h f → HasFoundGoal goal c h f
found_leaf false goal c h f x = x
found_leaf true goal c h f x = x

module _ {R A : Type 0} (means : ReadMeaning R A) (m : ReadRun R) where
  -- what the read knows, apart from its mode
  pub reading : (c : Call) (h : History) → ReadGoes means m c h → IsReading means m.read m.snaps.items c h
  reading c h x = record { reads = x.reads; suits = x.suits }

  -- further on it is in the same mode
  pub goes_on_reading : (c : Call) (h : History) → ReadGoes means m c h → (read : R) (snaps : Vec Snap Global) → IsReading means read snaps.items c h → ReadGoes means (record m { read = read; snaps = snaps }) c h
  goes_on_reading c h goes read snaps x = record { reads = x.reads; suits = x.suits; mode = goes.mode }

  -- Its walk

  module _ (walk after : WalkRun) (side : Side) (c : Call) (begin h : History) (try : IsInTry c h begin m.limit m.tries) (goes : ReadGoes means m (begun_at c begin) h) (key : ℕ) (goal : walk.goal ≡ ToKey key) (to : WalksTo means m.read key side) (way : after.way ≡ leaf_way m.trie) (same : after.goal ≡ walk.goal) (next : LastTurns) (last : AreLastTurns (begun_at c begin) h key next) where
    past : (at : WalkAt) → IsPastRoot at → WalksInTry means m c h begin next at
    past WalkStart p = absurd p
    past WalkRoot p = absurd p
    past _ p = try

    -- a step behind the root takes it on, with the last forks where it has turned
    pub walk_waits : (step : Step) → IsPastRoot after.at → WalkWaits after (begun_at c begin) h step → ReadWaits means (record m { at = Walk after side next }) c h step
    walk_waits step p waits = (
      begin,
      past after.at p,
      goes,
      (record { key = key; goal = same ∙ goal; way = way; goes_to = to; last = last }, waits),
    )

  -- it ends at the leaf of its key
  pub walk_finds : (walk after : WalkRun) (c : Call) (h : History) (t : Turn Found) (f : Found) (key : ℕ) → walk.goal ≡ ToKey key → after.way ≡ leaf_way m.trie → after.goal ≡ walk.goal → t ≡ Done f → MatchTurn t (WalkWaits after c h) (WalkAnswers after c h) → HasFoundGoal (ToKey key) c h f
  walk_finds walk after c h t f key goal way same done w = subst (λ g. HasFoundGoal g c h f) (same ∙ goal) (found_leaf m.trie after.goal c h f (subst (λ by. FoundBy by after.goal c h f) way (rw done at w)))

  -- Its search of a leaf

  module _ (c : Call) (begin h : History) (near : NearRun) (children : Children) (fork : NodeNo) (try : IsInTry c h begin m.limit m.tries) (goes : ReadGoes means m (begun_at c begin) h) (x : SearchesLeaf means m.read m.snaps.items (begun_at c begin) h near children fork.0) where
    -- it waits for the load of its word
    pub near_turns : (now : ReadRun R) (turn : Turn (Result A Refused)) → now ≡ record m { at = Near near children fork } → turn ≡ Ask (load LoadSettled (near_word near)) → ReadTurn means c h now turn
    near_turns now turn is asked = rw (asked, is) (begin, try, goes, (x, refl))

    -- it goes on so
    pub near_goes_on : (next : NearRun) (now : ReadRun R) (turn : Turn (Result A Refused)) → NextStands near x.search.1.moment (NearLoad next) → now ≡ record m { at = Near next children fork } → turn ≡ Ask (load LoadSettled (near_word next)) → ReadTurn means c h now turn
    near_goes_on next now turn on is asked = rw (asked, is) (begin, try, goes, (searches_on means m (begun_at c begin) h goes near children fork x next on, refl))

    -- or that is its answer
    pub near_answers : (found : Pair) (answer : A) → NextStands near x.search.1.moment (NearFound found) → means.told answer ≡ pair_or_none (Some found) → ReadAnswers means m c h (Ok answer)
    near_answers found answer on tells = (
      goes.reads.over,
      inl (reply_wider c begin h _ _ try.begins.since (replies_near means m (begun_at c begin) h goes near children fork x found (means.told answer) on tells)),
      tried_here c h begin m.limit m.tries try,
    )

    -- or it looks at that fork
    pub near_looks : MayGoOn means c h m (next.Look children 0 fork)
    near_looks = (begin, try, (goes, x.looks))

  -- in either case with fewer steps left
  pub near_less : {T : Type 0} (now : ReadRun R) (turn : Turn T) (step : Step) (near : NearRun) (children : Children) (fork : NodeNo) (nodes most : ℕ) → now ≡ record m { at = Near near children fork } → turn ≡ Ask step → near_left near.at < most → ReadIsNearer means now nodes turn (tries_left means m nodes + (most + length m.snaps.items + path_left nodes + means.behind m.read nodes))
  near_less now turn step near children fork nodes most is asked less = rw (asked, is) (omega (arith, less))

  -- it begins with the load of the root's head, as it walks
  pub walks_first : (walk : WalkRun) (c : Call) (begin h : History) → BeginsTry c h m.limit m.tries → m.snaps.items ≡ [] → ReadGoes means m (begun_at c begin) h → (key : ℕ) (side : Side) → walk.goal ≡ ToKey key → walk.way ≡ leaf_way m.trie → walk.trail.node.0 ≡ 0 → WalksTo means m.read key side → ReadWaits means (record m { at = Walk (record walk { at = WalkRoot }) side no_turns }) c h (load LoadSettled (node 0 (Settled HeadWord)))
  walks_first walk c begin h try none goes key side goal way root to = (
    begin,
    ((try, none, to.waits), refl),
    goes,
    (
      record { key = key; goal = goal; way = way; goes_to = to; last = no_turn (begun_at c begin) h key },
      record { run = goes.reads.run; may = rw (way, goal) (may_walk c.layout m.trie key goes.mode); small = rw goal (to.small goes.suits); since = goes.reads.since; known = root; sure = λ within. absurd (not_within m.trie (sym way ∙ within)); asked = ap (λ n. load LoadSettled (node n (Settled HeadWord))) (sym root) },
    ),
  )

  -- or as it visits that
  pub roots_first : (c : Call) (begin h : History) → BeginsTry c h m.limit m.tries → m.snaps.items ≡ [] → ReadGoes means m (begun_at c begin) h → BeginsAtRoot means m.read → ReadWaits means (record m { at = Root }) c h (load LoadSettled (node 0 (Settled HeadWord)))
  roots_first c begin h try none goes x = (
    begin,
    (try, none, x.waits),
    goes,
    (record { stood = root_there (begun_at c begin) h goes.reads.run goes.reads.since; asks = x.asks; some = inl refl; waits = rw x.waits tt; here = λ b run e hold. x.root c.layout b goes.suits run }, refl),
  )

  -- a try less, and no snapshot
  goes_again : (old : ReadRun R) (c : Call) (h : History) → IsSameRead means old m → m.snaps.items ≡ [] → ReadGoes means old c h → ReadGoes means m c h
  goes_again old c h same none x = record {
    reads = rw none record { run = x.reads.run; since = x.reads.since; over = x.reads.over; quiet = x.reads.quiet; snapped = λ i p. absurd (omega (arith, p)) };
    suits = rw same.0 x.suits;
    mode = x.mode ∙ ap map_mode (sym same.4);
  }

  -- so it begins a try, or ends at once
  module _ (old now : ReadRun R) (c : Call) (begin h : History) (turn : Turn (Result A Refused)) (same : IsSameRead means old m) (tries : m.tries ≡ old.tries) (none : m.snaps.items ≡ []) (try : BeginsTry c h old.limit old.tries) (goes : ReadGoes means old (begun_at c begin) h) where
    try_now : BeginsTry c h m.limit m.tries
    try_now = rw (same.1, tries) try

    pub begins_walk : (walk : WalkRun) (key : ℕ) (side : Side) → walk.goal ≡ ToKey key → walk.way ≡ leaf_way m.trie → walk.trail.node.0 ≡ 0 → WalksTo means m.read key side → now ≡ record m { at = Walk (record walk { at = WalkRoot }) side no_turns } → turn ≡ Ask (load LoadSettled (node 0 (Settled HeadWord))) → ReadTurn means c h now turn
    begins_walk walk key side goal way root to is asked = rw (asked, is) (walks_first walk c begin h try_now none (goes_again old (begun_at c begin) h same none goes) key side goal way root to)

    pub begins_root : BeginsAtRoot means m.read → now ≡ record m { at = Root } → turn ≡ Ask (load LoadSettled (node 0 (Settled HeadWord))) → ReadTurn means c h now turn
    begins_root x is asked = rw (asked, is) (roots_first c begin h try_now none (goes_again old (begun_at c begin) h same none goes) x)

  pub answers_all : (old : ReadRun R) (c : Call) (begin h : History) → IsSameRead means old m → BeginsTry c h old.limit old.tries → ReadGoes means old (begun_at c begin) h → (answer : A) → BeginsSo means m.read (begins.Answer answer) → ReadAnswers means m c h (Ok answer)
  answers_all old c begin h same try goes answer x = (goes.reads.over, inr x, rw same.1 (tried_before c h old.limit old.tries try))

  -- with fewer steps left than in a try
  module _ {T : Type 0} (old now : ReadRun R) (nodes : ℕ) (turn : Turn T) (step : Step) (same : IsSameRead means old m) (tries : m.tries ≡ old.tries) (none : m.snaps.items ≡ []) (asked : turn ≡ Ask step) where
    each_same : run_try_left means m nodes ≡ run_try_left means old nodes
    each_same = ap (λ call. means.try_left call nodes) same.0

    all_same : tries_left means m nodes ≡ tries_left means old nodes
    all_same = λ i. tries i * means.try_left (same.0 i) nodes

    pub walk_nearer : (walk : WalkRun) (side : Side) (turns : LastTurns) (key : ℕ) → now ≡ record m { at = Walk (record walk { at = WalkRoot }) side turns } → BeginsNear means m.read nodes (begins.Walk key side) → ReadIsNearer means now nodes turn (tries_left means old nodes + run_try_left means old nodes)
    walk_nearer walk side turns key is near = let e = ap length none in let each = each_same in let all = all_same in rw (asked, is) (omega (arith, e, near, each, all))

    pub root_nearer : now ≡ record m { at = Root } → BeginsNear means m.read nodes begins.Root → ReadIsNearer means now nodes turn (tries_left means old nodes + run_try_left means old nodes)
    root_nearer is near = let e = ap length none in let each = each_same in let all = all_same in rw (asked, is) (omega (arith, e, near, each, all))

  -- Its LLXs

  module _ (c : Call) (begin look h : History) (children : Children) (low : ℕ) (llx after : LlxRun) (turn : Turn Llx) (goes : ReadGoes means m (begun_at c begin) h) (x : Looks means m.read m.snaps.items (begun_at c begin) h children low llx.node.0) (since : Extends look begin)
      (same : after.node ≡ llx.node) (w : MatchTurn turn (LlxWaits TreeAllows after (begun_at c look) h) (LlxAnswers after (begun_at c look) h)) where
    looks_same : Looks means m.read m.snaps.items (begun_at c begin) h children low after.node.0
    looks_same = subst (λ (n : NodeNo). Looks means m.read m.snaps.items (begun_at c begin) h children low n.0) (sym same) x

    -- it asks for a step
    pub looks_on : (step : Step) → turn ≡ Ask step → IsInTry c h begin m.limit m.tries → ReadWaits means (record m { at = Look children low after }) c h step
    looks_on step asked try = (begin, try, goes, (looks_same, (look, since, rw asked at w)))

    -- it has taken a snapshot
    pub snapped : (snap : Snap) → turn ≡ Done (Snapshot snap) → Looks means m.read m.snaps.items (begun_at c begin) h children low snap.node.0 × IsSnapshot c.layout h snap.node.0 snap
    snapped snap done = (rw (← is.node) at looks_same, subst (λ n. IsSnapshot c.layout h n snap) (sym is.node) is)
      where
        is : IsSnapshot c.layout h after.node.0 snap
        is = (rw done at w).0

    -- or none
    pub finalized : (n : NodeNo) (s : ScxNo) → turn ≡ Done (Finalized n s) → IsContended (begun_at c begin) h n.0 s.0
    finalized n s done = look_finalized (begun_at c begin) h m.snaps.items goes.reads after look n s since looks_same.stood (rw done at w)

    pub failed : (n : NodeNo) (s : ScxNo) → turn ≡ Done (Fail n s) → IsContended (begun_at c begin) h n.0 s.0
    failed n s done = look_failed (begun_at c begin) h m.snaps.items goes.reads after look n s since (rw done at w)

  -- Its VLX

  -- what that gets and answers, of the snapshots as they are in their list
  pub vlx_turn : (c : Call) (begin look h : History) (before after : List Snap) (asked now : ℕ) (got : Option ℕ) (turn : Turn Vlx) → before ≡ m.snaps.items → after ≡ before → ((d : Call) (k : History) → IsRun TreeAllows d.layout k → VlxIsReady before asked d k got → MatchTurn turn (VlxWaits after now d k) (VlxAnswers after d k)) → ReadGoes means m (begun_at c begin) h → VlxIsReady m.snaps.items asked (begun_at c look) h got → MatchTurn turn (VlxWaits m.snaps.items now (begun_at c look) h) (VlxAnswers m.snaps.items (begun_at c look) h)
  vlx_turn c begin look h before after asked now got turn is same step goes ready = subst (λ (l : List Snap). MatchTurn turn (VlxWaits l now (begun_at c look) h) (VlxAnswers l (begun_at c look) h)) (same ∙ is) (step (begun_at c look) h goes.reads.run.1 (subst (λ (l : List Snap). VlxIsReady l asked (begun_at c look) h got) (sym is) ready))

  pub vlx_nearer : (before after : List Snap) (asked now : ℕ) (turn : Turn Vlx) (step : Step) → before ≡ m.snaps.items → after ≡ before → turn ≡ Ask step → MatchTurn turn (λ _. vlx_left after now < vlx_left before asked) (λ _. Unit {0}) → vlx_left m.snaps.items now < vlx_left m.snaps.items asked
  vlx_nearer before after asked now turn step is same asks near = subst (λ (l : List Snap). vlx_left l now < vlx_left l asked) is (subst (λ (l : List Snap). vlx_left l now < vlx_left before asked) same (rw asks at near))

  module _ (c : Call) (begin look h : History) (goes : ReadGoes means m (begun_at c begin) h) (x : Validates means m.read m.snaps.items (begun_at c begin) h look) where
    pub validates_on : (asked : ℕ) (turn : Turn Vlx) (step : Step) → MatchTurn turn (VlxWaits m.snaps.items asked (begun_at c look) h) (VlxAnswers m.snaps.items (begun_at c look) h) → turn ≡ Ask step → IsInTry c h begin m.limit m.tries → ReadWaits means (record m { at = Validate asked }) c h step
    validates_on asked turn step w is try = (begin, try, goes, (look, x, rw is at w))

    -- where it finds all as it was, what the read has found is its answer
    pub told : (turn : Turn Vlx) (asked : ℕ) (now : ReadRun R) (answer : A) → MatchTurn turn (VlxWaits m.snaps.items asked (begun_at c look) h) (VlxAnswers m.snaps.items (begun_at c look) h) → turn ≡ Done Same → IsInTry c h begin m.limit m.tries → means.call now.read ≡ means.call m.read → now.limit ≡ m.limit → means.told answer ≡ means.found m.read → ReadAnswers means now c h (Ok answer)
    told turn asked now answer w is try call limit tells = (
      goes.reads.over,
      inl (reply_wider c begin h _ _ try.begins.since (rw call (replies means m.read m.snaps.items (begun_at c begin) look h (means.told answer) x (rw is at w) tells))),
      rw limit (tried_here c h begin m.limit m.tries try),
    )

    pub changed : (turn : Turn Vlx) (asked : ℕ) (n : NodeNo) (s : ScxNo) → MatchTurn turn (VlxWaits m.snaps.items asked (begun_at c look) h) (VlxAnswers m.snaps.items (begun_at c look) h) → turn ≡ Done (Changed n s) → IsContended (begun_at c begin) h n.0 s.0
    changed turn asked n s w is = look_changed (begun_at c begin) look h m.snaps.items n.0 s.0 goes.reads.run.1.lawful x.reads (rw is at w)

  -- What comes next

  -- it waits for the step with which that begins
  pub next_waits : (c : Call) (h : History) (next : ReadNext) → MayGoOn means c h m next → ReadWaits means (placed m next) c h (next_step m next)
  next_waits c h (next.Load of) (begin, try, on) = (begin, try, on.0, (on.1, refl))
  next_waits c h (next.Look children low n) (begin, try, on) = looks_on c begin h h children low (llx LlxStart) (llx Marked) (Ask (load LoadMarked (marked n.0))) on.0 on.1 on.0.reads.since refl (turn_first TreeAllows (begun_at c h) h on.0.reads.run.1 (llx LlxStart) (llx Marked) (Ask _) (look_ready (begun_at c begin) h m.snaps.items n.0 (llx LlxStart) on.0.reads on.1.stood refl refl) record { stands = refl; asked = refl }) _ refl try
    where
      llx : LlxAt → LlxRun
      llx at = record { node = n; at = at }
  next_waits c h next.Validate (begin, try, on) = validates_on c begin h h on.0 (validates means m.read m.snaps.items (begun_at c begin) h (reading (begun_at c begin) h on.0) on.1) 1 (Ask _) _ (looks_next (begun_at c h) h m.snaps.items 0 (first_looked (begun_at c h) h m.snaps.items 0 (first_look (begun_at c begin) h m.snaps.items on.0.reads on.1.some)) on.1.some) refl try

  pub stands_there : (now : ReadRun R) (c : Call) (h : History) (turn : Turn (Result A Refused)) (next : ReadNext) → now ≡ placed m next → turn ≡ Ask (next_step m next) → MayGoOn means c h m next → ReadTurn means c h now turn
  stands_there now c h turn next is asked x = rw (asked, is) (next_waits c h next x)

  -- or it ends, for want of memory
  pub ends_refused : (c : Call) (begin h : History) (refused : Refused) (left : ℕ) → IsInTry c h begin m.limit left → GoesOn means (begun_at c begin) h m (Err refused) → ReadAnswers means m c h (Err refused)
  ends_refused c begin h refused left try x = rw x.1 (x.0.reads.over, tt, tried_here c h begin m.limit left try)

  -- and has fewer steps left than before
  pub placed_nearer : (next : ReadNext) (nodes n : ℕ) → 0 < n → RunComesNearer means m nodes next n → read_left means (placed m next) nodes < tries_left means m nodes + n
  placed_nearer (next.Load of) nodes n some near = let j = near.1 in omega (arith, j, some)
  placed_nearer (next.Look children level node) nodes n some near = let i = near.1 in omega (arith, i)
  placed_nearer next.Validate nodes n some near = let j = near.1 in omega (arith, j, some)

  -- what is not the VLX is a step at least
  abbrev IsNoVlx : ReadNext → Type 0
  IsNoVlx next.Validate = ⊥
  IsNoVlx _ = Unit {0}

  pub some_left : (next : ReadNext) (nodes n : ℕ) → IsNoVlx next → RunComesNearer means m nodes next n → 0 < n
  some_left (next.Load of) nodes n is near = let i = near.0 in let j = near.1 in omega (arith, i, j)
  some_left (next.Look children level node) nodes n is near = let j = near.1 in omega (arith, j)
  some_left next.Validate nodes n is near = absurd is

  pub stands_nearer : {T : Type 0} (now : ReadRun R) (turn : Turn T) (next : ReadNext) (step : Step) (nodes n : ℕ) → now ≡ placed m next → turn ≡ Ask step → 0 < n → RunComesNearer means m nodes next n → ReadIsNearer means now nodes turn (tries_left means m nodes + n)
  stands_nearer now turn next step nodes n is asked some near = rw (asked, is) (placed_nearer next nodes n some near)

  -- As it gets something

  module _ (c : Call) (h : History) where
    pub at_start : (got : Option ℕ) → m.at ≡ Start → ReadIsReady means m c h got → BeginsTry c h m.limit m.tries × ReadGoes means m c h
    at_start None is r = (r.2, r.0)
    at_start (Some v) is r = absurd (subst (λ p. ReadIsToldAt means m (begun_at c r.0) h v p) is r.4)

    -- it gets what it has asked for in a try
    abbrev pub ToldInTry : (Call → Type 0) → Type 0
    ToldInTry P = (begin : History) × IsInTry c h begin m.limit m.tries × ReadGoes means m (begun_at c begin) h × IsOwnMoment (begun_at c begin) h × P (begun_at c begin)

    told_at : (v : ℕ) (at : ReadAt) → m.at ≡ at → ReadIsReady means m c h (Some v) → ToldInTry (λ d. ReadIsToldAt means m d h v at)
    told_at v at is r = (r.0, r.1, r.2, r.3, subst (λ p. ReadIsToldAt means m (begun_at c r.0) h v p) is r.4)

    pub at_walk : (got : Option ℕ) (walk : WalkRun) (side : Side) (turns : LastTurns) → m.at ≡ Walk walk side turns → ReadIsReady means m c h got → (v : ℕ) × (got ≡ Some v) × ToldInTry (λ d. Walks means m.read m.trie d h walk side turns × WalkIsReady walk d h (Some v))
    at_walk None walk side turns is r = absurd (let d : Walk walk side turns ≡ Start = sym is ∙ r.1 in cc)
    at_walk (Some v) walk side turns is r = (v, refl, told_at v (Walk walk side turns) is r)

    pub at_look : (got : Option ℕ) (children : Children) (low : ℕ) (llx : LlxRun) → m.at ≡ Look children low llx → ReadIsReady means m c h got → ToldInTry (λ d. Looks means m.read m.snaps.items d h children low llx.node.0 × ((look : History) × Extends look d.start × LlxIsReady TreeAllows llx (begun_at d look) h got))
    at_look None children low llx is r = absurd (let d : Look children low llx ≡ Start = sym is ∙ r.1 in cc)
    at_look (Some v) children low llx is r = told_at v (Look children low llx) is r

    pub at_near : (got : Option ℕ) (near : NearRun) (children : Children) (fork : NodeNo) → m.at ≡ Near near children fork → ReadIsReady means m c h got → ToldInTry (λ d. SearchesLeaf means m.read m.snaps.items d h near children fork.0 × (near_value near h ≡ unwrap_or got 0))
    at_near None near children fork is r = absurd (let d : Near near children fork ≡ Start = sym is ∙ r.1 in cc)
    at_near (Some v) near children fork is r = told_at v (Near near children fork) is r

    pub at_root : (got : Option ℕ) → m.at ≡ Root → ReadIsReady means m c h got → ToldInTry (λ d. RunStands means m d h 0 × (value h (node 0 (Settled HeadWord)) ≡ unwrap_or got 0))
    at_root None is r = absurd (let d : Root ≡ Start = sym is ∙ r.1 in cc)
    at_root (Some v) is r = told_at v Root is r

    pub at_load : (got : Option ℕ) (of : ReadLoad) → m.at ≡ Load of → ReadIsReady means m c h got → ToldInTry (λ d. MayLoad means m.read m.snaps.items d h of × (load_value h of ≡ unwrap_or got 0))
    at_load None of is r = absurd (let d : Load of ≡ Start = sym is ∙ r.1 in cc)
    at_load (Some v) of is r = told_at v (Load of) is r

    pub at_validate : (got : Option ℕ) (asked : ℕ) → m.at ≡ Validate asked → ReadIsReady means m c h got → ToldInTry (λ d. (look : History) × Validates means m.read m.snaps.items d h look × VlxIsReady m.snaps.items asked (begun_at d look) h got)
    at_validate None asked is r = absurd (let d : Validate asked ≡ Start = sym is ∙ r.1 in cc)
    at_validate (Some v) asked is r = told_at v (Validate asked) is r

  -- what it gets fits as its place says, and so it leaves fewer steps
  pub fits_at : (got : Option ℕ) (nodes : ℕ) (at : ReadAt) → m.at ≡ at → ReadFits means m got nodes → ReadFitsAt means m got nodes at
  fits_at got nodes at is fits = subst (ReadFitsAt means m got nodes) is fits

  pub left_as : {T : Type 0} (mid now : ReadRun R) (nodes n : ℕ) (turn : Turn T) → mid.tries ≡ m.tries → means.call mid.read ≡ means.call m.read → ReadIsNearer means now nodes turn (tries_left means mid nodes + n) → ReadIsNearer means now nodes turn (tries_left means m nodes + n)
  left_as mid now nodes n turn tries same near = subst (λ t. ReadIsNearer means now nodes turn (t + n)) (λ i. tries i * means.try_left (same i) nodes) near

  pub left_at : {T : Type 0} (nodes : ℕ) (now : ReadRun R) (turn : Turn T) (at : ReadAt) → m.at ≡ at → ReadIsNearer means now nodes turn (tries_left means m nodes + phase_left means m nodes at) → ReadIsNearer means now nodes turn (read_left means m nodes)
  left_at nodes now turn at is near = subst (λ p. ReadIsNearer means now nodes turn (tries_left means m nodes + phase_left means m nodes p)) (sym is) near

  -- What is said of the read is said of the run

  pub goes_read : (now : R) (c : Call) (h : History) → means.call now ≡ means.call m.read → ReadGoes means m c h → ReadGoes means (record m { read = now }) c h
  goes_read now c h same x = record { reads = x.reads; suits = rw same x.suits; mode = x.mode }

-- with the snapshots that it has
module _ {R A : Type 0} (means : ReadMeaning R A) (now : R) (m : ReadRun R) (nodes : ℕ) where
  pub goes_taken : (next : ReadNext) (n : ℕ) → ComesNearer means now nodes next n → RunComesNearer means (record m { read = now }) nodes next (length m.snaps.items + n)
  goes_taken next n near = (near.0, (let i = near.1 in omega (arith, i)))

  -- a load is done
  pub load_taken : (next : ReadNext) (n most : ℕ) → n < most → ComesNearer means now nodes next n → RunComesNearer means (record m { read = now }) nodes next (length m.snaps.items + most - 1)
  load_taken next n most less near = (near.0, (let i = near.1 in omega (arith, i, less)))

  pub all_taken : (next : Result ReadNext Refused) (n most : ℕ) → n < most → IfOk next (λ next. ComesNearer means now nodes next n) → IfOk next (λ next. RunComesNearer means (record m { read = now }) nodes next (length m.snaps.items + most - 1))
  all_taken (Ok next) n most less near = load_taken next n most less near
  all_taken (Err refused) n most less near = tt
