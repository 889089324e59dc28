-- The laws of ordered reads: rows of others leave them waiting, their steps are lawful, and what
-- they get is so.
use Rattle.std.proofs.Common.{◌≡◌, ◌≢◌, ℕ, ◌+◌, ◌<◌, ◌≤◌, Bool, true, false, length, List, [], ◌∷◌, inl, inr, refl, sym, ◌∙◌, ap, subst, arith, Option, Some, None}
use Rattle.histories.specs.Common.{NodeNo, Row, Step, Fill, LoadSettled, Settled, SettledPart, Side, Head as HeadWord, More as MoreWord}
use Rattle.histories.specs.Common.{Value as ValueWord, Word, head_of, node, History, ◌⊳◌, value, IsRun, Call, row_of, IsTold, begun_at, taken_nodes}
use Rattle.arena.specs.declared.word.Side.TheVariants as sides
use Rattle.arena.proofs.Lemmas.{ends_self}
use Rattle.prims.specs.Laws.Idle.{IsIdle, idle_if_finished}
use Rattle.prims.specs.Laws.Begun.{TakesOnly, takes_by_others, takes_by_step}
use Rattle.template.specs.Common.{load, WasInTree, IsMapRun, TreeAllows, level, begins_try, IsOwnMoment, WalkKnows, WalkWaits, IsPastRoot}
use Rattle.prims.specs.Llx.Laws.{llx_keeps, llx_lawful, llx_made, load_lawful, load_told}
use Rattle.prims.specs.Vlx.Laws.{vlx_keeps, vlx_lawful, vlx_made}
use Rattle.prims.proofs.Lemmas.{llx_fills_not, vlx_fills_not}
use Rattle.ordered_map.proofs.Lemmas.{was_passed, walk_stays, same_stays, SameSettled, settled_class, settled_leaf, settled_level, settled_toward}
use Rattle.ordered_map.proofs.MapLemmas.{stood_settled}
use Rattle.template.specs.Walk.Laws.{walk_keeps, walk_lawful, walk_made, walk_told}
use Rattle.template.specs.declared.walk.WalkAt.{WalkAt}
use Rattle.template.specs.declared.walk.WalkAt.TheVariants as places
use Rattle.template.specs.declared.walk.WalkRun.{WalkRun}
use Rattle.ordered_map.specs.Paths.{depth}
use Rattle.template.specs.Balance.{leaf_way, map_mode, nodes_by}
use Rattle.template.specs.Walk.Steps.{WalkFitsAt, room}
use Rattle.template.specs.Trails.{WasOn}
use Rattle.template.specs.declared.walk.Way.TheVariants.{InTree, InTrie, Within}
use Rattle.template.proofs.Lemmas.{BeginsNoTry, llx_begins_none, others_begin_none, own_begins, own_begins_none, vlx_begins_none, walk_begins_none, walk_fills_not, stood_inside}
use Rattle.order.specs.Found.{AreThere, IsAtLowFork, Looks, StandsIn, TakesPair, more_at}
use Rattle.order.specs.Known.{AreLastTurns, BeginsHere, IsLastTurn, ReadGoes, ReadIsReady, ReadIsToldAt, ReadWaits, ReadWaitsAt, RunStands, SearchesLeaf, StandsInTry, Validates, Walks, WalksInTry}
use Rattle.order.specs.Laws.Depth.{depth_by, fork_depth, head_fits}
use Rattle.order.specs.Laws.Kept.{begins_more, in_try_more, in_try_now, load_begins_none, near_begins_none, near_more, near_stood, reads_anew, root_there, stood_more, whenever_more, reads_more, settled_more}
use Rattle.order.specs.Loads.{load_node, load_part, load_value, load_word}
use Rattle.order.specs.Meaning.{ReadMeaning}
use Rattle.order.specs.Near.{near_part, near_word}
use Rattle.order.specs.Next.{MayLoad}
use Rattle.order.specs.Paths.{HeadFits, LoadFits}
use Rattle.order.specs.Reads.{HasStood}
use Rattle.order.specs.Steps.{ReadFits, ReadFitsAt}
use Rattle.order.specs.Tries.{IsInTry}
use Rattle.order.specs.LastTurns.{no_turns, turn_to}
use Rattle.order.specs.declared.load.LeafPlace.{LeafPlace}
use Rattle.order.specs.declared.near.NearRun.{NearRun}
use Rattle.order.specs.declared.load.ReadLoad.{ReadLoad}
use Rattle.order.specs.declared.load.ReadLoad.TheVariants as loads
use Rattle.order.specs.declared.read.Children.{Children}
use Rattle.order.specs.declared.run.ReadAt.{ReadAt}
use Rattle.order.specs.declared.run.ReadAt.TheVariants.{Start, Walk, Near, Root, Load, Look, Validate}
use Rattle.order.specs.declared.run.ReadRun.{ReadRun}
use Rattle.order.specs.declared.last_turns.LastTurns.{LastTurns}

-- a walk to a leaf does not end at a fork
pub not_within : (trie : Bool) → leaf_way trie ≡ Within → ⊥
not_within false e = let d : InTree ≡ Within = e in cc
not_within true e = let d : InTrie ≡ Within = e in cc

-- its bounds are those of its map
pub room_by : (trie : Bool) (nodes : ℕ) → room (leaf_way trie) nodes ≡ nodes_by trie nodes
room_by false nodes = refl
room_by true nodes = refl

-- a walk that has not turned has the root alone
pub no_turn : (c : Call) (h : History) (k : ℕ) → AreLastTurns c h k no_turns
no_turn c h k sides.Left = inl refl
no_turn c h k sides.Right = inl refl

module _ {R A : Type 0} (means : ReadMeaning R A) (m : ReadRun R) where
  -- One row more

  module _ (c : Call) (h : History) (r : Row) (g : IsMapRun c.layout h) (run : IsRun TreeAllows c.layout (r ⊳ h)) where
    deeper_more : (above n : ℕ) → HasStood c h n → above < level (value h) n → above < level (value (r ⊳ h)) n
    deeper_more above n x i = let e : level (value (r ⊳ h)) n ≡ level (value h) n = settled_level (value h) (value (r ⊳ h)) n (settled_more c h r run n g x) in omega (arith, e, i)

    there_more : (ns : List NodeNo) → AreThere c h ns → AreThere c (r ⊳ h) ns
    there_more [] x = tt
    there_more (n ∷ ns) x = ((stood_more c h r n.0 x.0.0, deeper_more 0 n.0 x.0.0 x.0.1), there_more ns x.1)

    last_more : (k : ℕ) (side : Side) (n : ℕ) → IsLastTurn c h k side n → IsLastTurn c (r ⊳ h) k side n
    last_more k side n (inl e) = inl e
    last_more k side n (inr x) = inr record {
      sure = record {
        on = record { first = on.first; own = on.own; passed = walk_stays r h on.first k n on.passed };
        stays = same_stays (value h) (value (r ⊳ h)) c.layout k n same x.sure.stays;
      };
      fork = settled_leaf (value h) (value (r ⊳ h)) n same ∙ x.fork;
      turn = settled_toward (value h) (value (r ⊳ h)) n k same ∙ x.turn;
    }
      where
        on : WasOn c h k n
        on = x.sure.on

        same : SameSettled (value h) (value (r ⊳ h)) n
        same = stood_settled c.layout (r ⊳ h) h n (g.0, run) (inr (ends_self h)) (was_passed h on.first k n on.passed)

    walks_more : (walk : WalkRun) (side : Side) (turns : LastTurns) → Walks means m.read m.trie c h walk side turns → Walks means m.read m.trie c (r ⊳ h) walk side turns
    walks_more walk side turns x = record { key = x.key; goal = x.goal; way = x.way; goes_to = x.goes_to; last = λ s. last_more x.key s (turn_to s turns).0 (x.last s) }

    stands_more : (n : ℕ) → RunStands means m c h n → RunStands means m c (r ⊳ h) n
    stands_more n x = record {
      stood = stood_more c h r n x.stood;
      asks = x.asks;
      some = x.some;
      waits = there_more (means.waiting m.read) x.waits;
      here = whenever_more c h r m.snaps.items _ x.here;
    }

    looks_more : (children : Children) (low n : ℕ) → Looks means m.read m.snaps.items c h children low n → Looks means m.read m.snaps.items c (r ⊳ h) children low n
    looks_more children low n x = record {
      stood = stood_more c h r n x.stood;
      asks = x.asks;
      fork = settled_leaf (value h) (value (r ⊳ h)) n same ∙ x.fork;
      deep = let e : level (value (r ⊳ h)) n ≡ level (value h) n = settled_level (value h) (value (r ⊳ h)) n same in let y = x.deep in omega (arith, e, y);
      waits = there_more (means.waiting m.read) x.waits;
      here = whenever_more c h r m.snaps.items _ x.here;
    }
      where
        same : SameSettled (value h) (value (r ⊳ h)) n
        same = settled_more c h r run n g x.stood

    fork_more : (low n : ℕ) → IsAtLowFork means m.read m.snaps.items c h low n → IsAtLowFork means m.read m.snaps.items c (r ⊳ h) low n
    fork_more low n x = record {
      stands = stands_more n x.stands;
      fork = settled_leaf (value h) (value (r ⊳ h)) n same ∙ x.fork;
      class = settled_class (value h) (value (r ⊳ h)) n same ∙ x.class;
      deep = settled_level (value h) (value (r ⊳ h)) n same ∙ x.deep;
    }
      where
        same : SameSettled (value h) (value (r ⊳ h)) n
        same = settled_more c h r run n g x.stands.stood

    place_more : (p : LeafPlace) → StandsIn means m.read m.snaps.items c h p → StandsIn means m.read m.snaps.items c (r ⊳ h) p
    place_more p x = record {
      stood = stood_more c h r p.node.0 x.stood;
      asks = x.asks;
      some = x.some;
      waits = there_more (means.waiting m.read) x.waits;
      here = whenever_more c h r m.snaps.items _ x.here;
    }

    pair_more : (p : LeafPlace) (key : ℕ) → TakesPair means m.read m.snaps.items c h p key → TakesPair means m.read m.snaps.items c (r ⊳ h) p key
    pair_more p key x = record { stands = place_more p x.stands; key_is = whenever_more c h r m.snaps.items _ x.key_is; takes = x.takes }

    load_more : (of : ReadLoad) → MayLoad means m.read m.snaps.items c h of → MayLoad means m.read m.snaps.items c (r ⊳ h) of
    load_more (loads.Head above n) x = (stands_more n.0 x.0, deeper_more above n.0 x.0.stood x.1)
    load_more (loads.Key low n) x = fork_more low n.0 x
    load_more (loads.More n) x = subst (λ more. StandsIn means m.read m.snaps.items c (r ⊳ h) (record { node = n; more = more; slot = means.starts m.read more })) (sym (settled_more c h r run n.0 g x.stood (Settled MoreWord) tt)) (place_more (record { node = n; more = more_at h n.0; slot = means.starts m.read (more_at h n.0) }) x)
    load_more (loads.Pair p) x = place_more p x
    load_more (loads.Value p key) x = pair_more p key x
    load_more (loads.High p key low) x = (pair_more p key x.0, settled_more c h r run p.node.0 g x.0.stands.stood (Settled (ValueWord p.slot)) tt ∙ x.1)

    searches_more : (near : NearRun) (children : Children) (fork : ℕ) → SearchesLeaf means m.read m.snaps.items c h near children fork → SearchesLeaf means m.read m.snaps.items c (r ⊳ h) near children fork
    searches_more near children fork x = record { looks = looks_more children 0 fork x.looks; search = (x.search.0, near_more c h r near x.search.1) }

    validates_more : (begin : History) → Validates means m.read m.snaps.items c h begin → Validates means m.read m.snaps.items c (r ⊳ h) begin
    validates_more begin x = record { asks = x.asks; own = x.own; within = inr x.within; reads = x.reads; right = x.right }

    goes_more : TakesOnly c.layout c.pass 0 h r → ReadGoes means m c h → ReadGoes means m c (r ⊳ h)
    goes_more takes x = record { reads = reads_more c h r run m.snaps.items takes x.reads; suits = x.suits; mode = x.mode }

    -- Rows of other passes

    kept_at : (s : Step) (at : ReadAt) → r.pass.0 ≢ c.pass → ReadWaitsAt means m c h s at → ReadWaitsAt means m c (r ⊳ h) s at
    kept_at s Start other w = w
    kept_at s (Walk walk side turns) other w = (walks_more walk side turns w.0, walk_keeps walk c h s r run other w.1)
    kept_at s (Near near children fork) other w = (searches_more near children fork.0 w.0, w.1)
    kept_at s Root other w = (stands_more 0 w.0, w.1)
    kept_at s (Load of) other w = (load_more of w.0, w.1)
    kept_at s (Look children low llx) other w = (looks_more children low llx.node.0 w.0, (w.1.0, w.1.1, llx_keeps TreeAllows llx (begun_at c w.1.0) h s r run other w.1.2))
    kept_at s (Validate asked) other w = (w.0, validates_more w.0 w.1, vlx_keeps TreeAllows m.snaps.items asked (begun_at c w.0) h s r run other w.2)

  module _ (c : Call) (h begin : History) (r : Row) (idle : IsIdle c.layout c.pass (r ⊳ h)) (none : begins_try c.pass r ≡ false) where
    begins_on : BeginsHere means m c h → BeginsHere means m c (r ⊳ h)
    begins_on x = (begins_more c h r m.limit m.tries idle none x.0, x.1, x.2)

    walks_on : (turns : LastTurns) (p : WalkAt) → WalksInTry means m c h begin turns p → WalksInTry means m c (r ⊳ h) begin turns p
    walks_on turns places.Root x = (begins_on x.0, x.1)
    walks_on turns _ x = in_try_more c h r m.limit m.tries idle begin none x

    try_more : (at : ReadAt) → StandsInTry means m c h begin at → StandsInTry means m c (r ⊳ h) begin at
    try_more (Walk walk side turns) x = walks_on turns walk.at x
    try_more Root x = begins_on x
    try_more _ x = in_try_more c h r m.limit m.tries idle begin none x

  -- rows of other passes leave a read waiting for the same step
  pub read_keeps : (c : Call) (h : History) (s : Step) (r : Row) → IsRun TreeAllows c.layout (r ⊳ h) → r.pass.0 ≢ c.pass → ReadWaits means m c h s → ReadWaits means m c (r ⊳ h) s
  read_keeps c h s r run other w = (
    w.0,
    try_more c h w.0 r (idle_if_finished c (r ⊳ h) run.lawful goes.reads.over) (others_begin_none c.pass r other) m.at w.1,
    goes,
    kept_at (begun_at c w.0) h r w.2.reads.run run s m.at other w.3,
  )
    where
      goes : ReadGoes means m (begun_at c w.0) (r ⊳ h)
      goes = goes_more (begun_at c w.0) h r w.2.reads.run run (takes_by_others c.layout c.pass 0 h r run.lawful other) w.2

  -- The step that it waits for

  -- a load of a settled word of a node that has been in the tree continues the run
  load_on : (c : Call) (h : History) (s : Step) (n : ℕ) (part : SettledPart) → IsMapRun c.layout h → WasInTree h n → s ≡ load LoadSettled (node n (Settled part)) → IsRun TreeAllows c.layout (row_of c s h ⊳ h)
  load_on c h s n part g x asked = load_lawful TreeAllows c h LoadSettled (node n (Settled part)) s g.1 asked record { word = tt; same = refl } (λ q. cc) (stood_inside c.layout h n g x)

  load_stood : (c : Call) (h : History) (of : ReadLoad) → MayLoad means m.read m.snaps.items c h of → HasStood c h (load_node of).0
  load_stood c h (loads.Head above n) x = x.0.stood
  load_stood c h (loads.Key low n) x = x.stands.stood
  load_stood c h (loads.More n) x = x.stood
  load_stood c h (loads.Pair p) x = x.stood
  load_stood c h (loads.Value p key) x = x.stands.stood
  load_stood c h (loads.High p key low) x = x.0.stands.stood

  lawful_at : (c : Call) (h : History) (s : Step) (at : ReadAt) → IsMapRun c.layout h → ReadWaitsAt means m c h s at → IsRun TreeAllows c.layout (row_of c s h ⊳ h)
  lawful_at c h s Start g w = absurd w
  lawful_at c h s (Walk walk side turns) g w = walk_lawful walk c h s g.1 w.1
  lawful_at c h s (Near near children fork) g w = load_on c h s near.node.0 (near_part near.at) g (near_stood c h near w.0.search.1) w.1
  lawful_at c h s Root g w = load_on c h s 0 HeadWord g w.0.stood.stood w.1
  lawful_at c h s (Load of) g w = load_on c h s (load_node of).0 (load_part of) g (load_stood c h of w.0).stood w.1
  lawful_at c h s (Look children low llx) g w = llx_lawful TreeAllows llx (begun_at c w.1.0) h s g.1 w.1.2
  lawful_at c h s (Validate asked) g w = vlx_lawful TreeAllows m.snaps.items asked (begun_at c w.0) h s g.1 w.2

  -- the step that a read waits for continues the run
  pub read_lawful : (c : Call) (h : History) (s : Step) → IsRun TreeAllows c.layout h → ReadWaits means m c h s → IsRun TreeAllows c.layout (row_of c s h ⊳ h)
  read_lawful c h s run w = lawful_at (begun_at c w.0) h s m.at w.2.reads.run w.3

  -- It fills nothing

  load_fills_not : (s : Step) (w : Word) → s ≡ load LoadSettled w → s.kind ≢ Fill
  load_fills_not s w e f = let z : LoadSettled ≡ Fill = sym (ap (λ (t : Step). t.kind) e) ∙ f in cc

  fills_not_at : (c : Call) (h : History) (s : Step) (at : ReadAt) → ReadWaitsAt means m c h s at → s.kind ≢ Fill
  fills_not_at c h s Start w = absurd w
  fills_not_at c h s (Walk walk side turns) w = walk_fills_not walk c h s w.1
  fills_not_at c h s (Near near children fork) w = load_fills_not s (near_word near) w.1
  fills_not_at c h s Root w = load_fills_not s (node 0 (Settled HeadWord)) w.1
  fills_not_at c h s (Load of) w = load_fills_not s (load_word of) w.1
  fills_not_at c h s (Look children low llx) w = llx_fills_not TreeAllows llx (begun_at c w.1.0) h s w.1.2
  fills_not_at c h s (Validate asked) w = vlx_fills_not m.snaps.items asked (begun_at c w.0) h s w.2

  -- a read never asks for a fill: it takes nothing of its share
  pub read_fills_not : (c : Call) (h : History) (s : Step) → ReadWaits means m c h s → s.kind ≢ Fill
  read_fills_not c h s w = fills_not_at (begun_at c w.0) h s m.at w.3

  -- It has something to find

  load_asks : (c : Call) (h : History) (of : ReadLoad) → MayLoad means m.read m.snaps.items c h of → means.asks (means.call m.read)
  load_asks c h (loads.Head above n) x = x.0.asks
  load_asks c h (loads.Key low n) x = x.stands.asks
  load_asks c h (loads.More n) x = x.asks
  load_asks c h (loads.Pair p) x = x.asks
  load_asks c h (loads.Value p key) x = x.stands.asks
  load_asks c h (loads.High p key low) x = x.0.stands.asks

  asks_at : (c : Call) (h : History) (s : Step) (at : ReadAt) → ReadWaitsAt means m c h s at → means.asks (means.call m.read)
  asks_at c h s Start w = absurd w
  asks_at c h s (Walk walk side turns) w = w.0.goes_to.asks
  asks_at c h s (Near near children fork) w = w.0.looks.asks
  asks_at c h s Root w = w.0.asks
  asks_at c h s (Load of) w = load_asks c h of w.0
  asks_at c h s (Look children low llx) w = w.0.asks
  asks_at c h s (Validate asked) w = w.1.asks

  -- a read that waits for a step has something to find
  pub read_asks : (c : Call) (h : History) (s : Step) → ReadWaits means m c h s → means.asks (means.call m.read)
  read_asks c h s w = asks_at (begun_at c w.0) h s m.at w.3

  -- Its own row

  module _ (c : Call) (h : History) (s : Step) (v : ℕ) (g : IsMapRun c.layout h) (run : IsRun TreeAllows c.layout (row_of c s h ⊳ h)) (t : IsTold s.access (value h s.word) v) where
    abbrev r : Row
    r = row_of c s h

    made_at : (at : ReadAt) → ReadWaitsAt means m c h s at → ReadIsToldAt means m c (row_of c s h ⊳ h) v at
    made_at Start w = w
    made_at (Walk walk side turns) w = (walks_more c h r g run walk side turns w.0, walk_made walk c h s v run t w.1)
    made_at (Near near children fork) w = (searches_more c h r g run near children fork.0 w.0, load_told c h LoadSettled (near_word near) s v w.1 t)
    made_at Root w = (stands_more c h r g run 0 w.0, load_told c h LoadSettled (node 0 (Settled HeadWord)) s v w.1 t)
    made_at (Load of) w = (load_more c h r g run of w.0, load_told c h LoadSettled (load_word of) s v w.1 t)
    made_at (Look children low llx) w = (looks_more c h r g run children low llx.node.0 w.0, (w.1.0, w.1.1, llx_made TreeAllows llx (begun_at c w.1.0) h s v run t w.1.2))
    made_at (Validate asked) w = (w.0, validates_more c h r g run w.0 w.1, vlx_made TreeAllows m.snaps.items asked (begun_at c w.0) h s v run t w.2)

  -- so it may be called at this place, once its step has found v
  abbrev ReadyAt : Call → History → ℕ → ReadAt → Type 0
  ReadyAt c h v at = (begin : History) × IsInTry c h begin m.limit m.tries × ReadGoes means m (begun_at c begin) h × IsOwnMoment (begun_at c begin) h × ReadIsToldAt means m (begun_at c begin) h v at

  module _ (c : Call) (h : History) (s : Step) (v : ℕ) (run : IsRun TreeAllows c.layout (row_of c s h ⊳ h)) (t : IsTold s.access (value h s.word) v) where
    abbrev made : History
    made = row_of c s h ⊳ h

    module _ (begin : History) (goes : ReadGoes means m (begun_at c begin) h) where
      goes_made : (at : ReadAt) → ReadWaitsAt means m (begun_at c begin) h s at → ReadGoes means m (begun_at c begin) made
      goes_made at w = goes_more (begun_at c begin) h (row_of c s h) goes.reads.run run (takes_by_step c.layout c.pass 0 h (row_of c s h) (fills_not_at (begun_at c begin) h s at w)) goes

      idle_made : (at : ReadAt) → ReadWaitsAt means m (begun_at c begin) h s at → IsIdle c.layout c.pass made
      idle_made at w = idle_if_finished c made run.lawful (goes_made at w).reads.over

      told_in_try : (at : ReadAt) → IsInTry c made begin m.limit m.tries → ReadWaitsAt means m (begun_at c begin) h s at → ReadyAt c made v at
      told_in_try at try w = (
        begin,
        try,
        goes_made at w,
        record { row = row_of c s h; before = h; is = refl; since = goes.reads.since; own = refl },
        made_at (begun_at c begin) h s v goes.reads.run run t at w,
      )

      -- in a try it stays in that
      stays_in_try : (at : ReadAt) → IsInTry c h begin m.limit m.tries → BeginsNoTry s → ReadWaitsAt means m (begun_at c begin) h s at → ReadyAt c made v at
      stays_in_try at try none w = told_in_try at (in_try_more c h (row_of c s h) m.limit m.tries (idle_made at w) begin (own_begins_none c s h none) try) w

    -- the load of the root's head begins one, about which it knows what it has known so far
    module _ (begin : History) (goes : ReadGoes means m (begun_at c begin) h) (try : BeginsHere means m c h) (loads : s ≡ load LoadSettled (node 0 (Settled HeadWord))) where
      begins_now : (at : ReadAt) → ReadWaitsAt means m (begun_at c begin) h s at → ReadWaitsAt means m (begun_at c h) h s at → ReadyAt c made v at
      begins_now at w again = told_in_try h record { reads = reads_anew c h m.snaps.items try.1 goes.reads.run goes.reads.over; suits = goes.suits; mode = goes.mode } at (in_try_now c h (row_of c s h) m.limit m.tries (idle_made begin goes at w) (own_begins c s h loads) try.0) again

      root_begins : ReadWaitsAt means m (begun_at c begin) h s Root → ReadyAt c made v Root
      root_begins w = begins_now Root w (record { stood = root_there (begun_at c h) h goes.reads.run (ends_self h); asks = w.0.asks; some = w.0.some; waits = rw try.2 tt; here = w.0.here }, w.1)

    walk_begins : (begin : History) (walk : WalkRun) (side : Side) (turns : LastTurns) → walk.at ≡ places.Root → WalksInTry means m c h begin turns places.Root → ReadGoes means m (begun_at c begin) h → ReadWaitsAt means m (begun_at c begin) h s (Walk walk side turns) → ReadyAt c made v (Walk walk side turns)
    walk_begins begin walk side turns e try goes w = begins_now begin goes try.0 loads (Walk walk side turns) w (record { key = w.0.key; goal = w.0.goal; way = w.0.way; goes_to = w.0.goes_to; last = rw try.1 (no_turn (begun_at c h) h w.0.key) }, again)
      where
        at_root : walk.trail.node.0 ≡ 0
        at_root = subst (WalkKnows (begun_at c begin) h walk) e w.1.known

        loads : s ≡ load LoadSettled (node 0 (Settled HeadWord))
        loads = rw (e, at_root) at w.1.asked

        again : WalkWaits walk (begun_at c h) h s
        again = record { run = w.1.run; may = w.1.may; small = w.1.small; since = ends_self h; known = subst (WalkKnows (begun_at c h) h walk) (sym e) at_root; sure = λ within. absurd (not_within m.trie (sym w.0.way ∙ within)); asked = w.1.asked }

    walk_told_in : (begin : History) (walk : WalkRun) (side : Side) (turns : LastTurns) (p : WalkAt) → walk.at ≡ p → WalksInTry means m c h begin turns p → ReadGoes means m (begun_at c begin) h → ReadWaitsAt means m (begun_at c begin) h s (Walk walk side turns) → ReadyAt c made v (Walk walk side turns)
    walk_told_in begin walk side turns places.Start e try goes w = absurd (subst (WalkKnows (begun_at c begin) h walk) e w.1.known)
    walk_told_in begin walk side turns places.Root e try goes w = walk_begins begin walk side turns e try goes w
    walk_told_in begin walk side turns _ e try goes w = stays_in_try begin goes (Walk walk side turns) try (walk_begins_none walk (begun_at c begin) h s (subst IsPastRoot (sym e) tt) w.1) w

    ready_at : (begin : History) (at : ReadAt) → StandsInTry means m c h begin at → ReadGoes means m (begun_at c begin) h → ReadWaitsAt means m (begun_at c begin) h s at → ReadyAt c made v at
    ready_at begin Start try goes w = absurd w
    ready_at begin (Walk walk side turns) try goes w = walk_told_in begin walk side turns walk.at refl try goes w
    ready_at begin (Near near children fork) try goes w = stays_in_try begin goes (Near near children fork) try (near_begins_none s near.node.0 near.at w.1) w
    ready_at begin Root try goes w = root_begins begin goes try w.1 w
    ready_at begin (Load of) try goes w = stays_in_try begin goes (Load of) try (load_begins_none means m.read m.snaps.items (begun_at c begin) h s of goes.reads.run w.0 w.1) w
    ready_at begin (Look children low llx) try goes w = stays_in_try begin goes (Look children low llx) try (llx_begins_none TreeAllows llx (begun_at c w.1.0) h s w.1.2) w
    ready_at begin (Validate asked) try goes w = stays_in_try begin goes (Validate asked) try (vlx_begins_none m.snaps.items asked (begun_at c w.0) h s w.2) w

  -- once the step is made, a read may be called with what it found
  pub read_made : (c : Call) (h : History) (s : Step) (v : ℕ) → IsRun TreeAllows c.layout (row_of c s h ⊳ h) → IsTold s.access (value h s.word) v → ReadWaits means m c h s → ReadIsReady means m c (row_of c s h ⊳ h) (Some v)
  read_made c h s v run t w = ready_at c h s v run t w.0 m.at w.1 w.2 w.3

  -- What it gets

  load_fits : (c : Call) (h : History) (v nodes : ℕ) (of : ReadLoad) → IsMapRun c.layout h → MayLoad means m.read m.snaps.items c h of → load_value h of ≡ v → depth c.layout.mode (length (taken_nodes h)) ≤ 2 + nodes → LoadFits v nodes of
  load_fits c h v nodes (loads.Head above n) g x t few =
      let fits : HeadFits (head_of v) nodes = head_fits c.layout h n.0 nodes (head_of v) g x.0.stood.stood (ap head_of t) few in
      ((let l : level (value h) n.0 ≡ (head_of v).level = ap (λ w. (head_of w).level) t in let i = x.1 in omega (arith, i, l)), fits)
  load_fits c h v nodes (loads.Key low n) g x t few = let d = fork_depth c.layout h n.0 g x.stands.stood.stood x.fork in let l = x.deep in omega (arith, d, l, few)
  load_fits c h v nodes (loads.More n) g x t few = tt
  load_fits c h v nodes (loads.Pair p) g x t few = tt
  load_fits c h v nodes (loads.Value p key) g x t few = tt
  load_fits c h v nodes (loads.High p key low) g x t few = tt

  fits_at : (c : Call) (h : History) (v nodes : ℕ) (at : ReadAt) → IsMapRun c.layout h → c.layout.mode ≡ map_mode m.trie → ReadIsToldAt means m c h v at → length (taken_nodes h) ≤ nodes → ReadFitsAt means m (Some v) (nodes_by m.trie nodes) at
  fits_at c h v nodes Start g mode x few = absurd x
  fits_at c h v nodes (Walk walk side turns) g mode x few = (x.0.way, subst (WalkFitsAt walk.at v) (ap (λ way. room way nodes) x.0.way ∙ room_by m.trie nodes) (walk_told walk c h (Some v) nodes g.1 x.1 few))
  fits_at c h v nodes (Near near children fork) g mode x few = tt
  fits_at c h v nodes Root g mode x few = head_fits c.layout h 0 _ (head_of v) g x.0.stood.stood (ap head_of x.1) (depth_by c.layout m.trie _ nodes mode few)
  fits_at c h v nodes (Load of) g mode x few = load_fits c h v _ of g x.0 x.1 (depth_by c.layout m.trie _ nodes mode few)
  fits_at c h v nodes (Look children low llx) g mode x few =
      let d = fork_depth c.layout h llx.node.0 g x.0.stood.stood x.0.fork in
      let most = depth_by c.layout m.trie _ nodes mode few in
      let deep = x.0.deep in
      omega (arith, d, deep, most)
  fits_at c h v nodes (Validate asked) g mode x few = tt

  -- what a read may get fits the nodes that are taken by then, or a trie
  pub read_told : (c : Call) (h : History) (got : Option ℕ) (nodes : ℕ) → IsRun TreeAllows c.layout h → ReadIsReady means m c h got → length (taken_nodes h) ≤ nodes → ReadFits means m got (nodes_by m.trie nodes)
  read_told c h None nodes run x few = subst (λ at. ReadFitsAt means m None (nodes_by m.trie nodes) at) (sym x.1) tt
  read_told c h (Some v) nodes run x few = fits_at (begun_at c x.0) h v nodes m.at x.2.reads.run x.2.mode x.4 few
