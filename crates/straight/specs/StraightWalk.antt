-- Calls that are at a place of a walk, of whatever machine that walks.
use Rattle.std.specs.Prelude.{◌≡◌, ◌⊎◌, ℕ, ◌+◌, ◌<◌, ◌≤◌, Bool, true, false, List}
use Rattle.atomic_table.specs.declared.shared.Seat.{Seat}
use Rattle.histories.specs.Common.{NodeNo, Step, History, value, Call, LoadChild, LoadSettled, Settled, Head as HeadWord, Side, child, node, head_of, Ghosts as Machine}
use Rattle.arena.specs.declared.head.Head.{Head}
use Rattle.arena.specs.declared.machine.Shape.{Ghosts as Shape}
use Rattle.template.specs.Common.{load, path_key, FoundBy, WalkIsTold, WalkWaits, IsPastRoot, Goal}
use Rattle.template.specs.Walk.Known.{asks_key}
use Rattle.template.specs.Walk.Places.{LoadsHead, way_at, way_from}
use Rattle.template.specs.Walk.Steps.{room}
use Rattle.ordered_map.specs.TrieShape.{Stays}
use Rattle.order.specs.LastTurns.{last_turns, no_turns, with_last_turn}
use Rattle.template.specs.declared.walk.Found.{Found}
use Rattle.template.specs.declared.walk.Trail.{Trail}
use Rattle.template.specs.declared.walk.WalkAt.{WalkAt}
use Rattle.template.specs.declared.walk.WalkAt.TheVariants.{Child, Head as AtHead}
use Rattle.template.specs.declared.walk.WalkRun.{WalkRun}
use Rattle.template.specs.declared.walk.Way.{Way}
use Rattle.order.specs.declared.last_turns.LastTurns.{LastTurns}
use Rattle.straight.specs.declared.hand.Hand.{Hand}
use Rattle.straight.specs.declared.node.Reached.{Reached}
use Rattle.tables.specs.declared.memory.PassMemory.{PassMemory}
use Rattle.tables.specs.declared.view.SeatView.{SeatView}
use Rattle.tables.specs.declared.view.SeatedPass.{SeatedPass}
use Rattle.straight.specs.CallKinds.{Calls}
use Rattle.straight.specs.Hands.{hand_calls}
use Rattle.straight.specs.Leads.{steps_made}
use Rattle.tables.specs.Traces.{shared_nodes}
use Rattle.straight.specs.Inside.{Inner, Inside, InnerIsTold, InnerWaits}
use Rattle.tables.specs.Slotted.{node_begins}
use Rattle.slots.specs.Lasting.{Lasting}

-- the second walk goes to the same goal, by the same way
abbrev pub GoesAs : WalkRun → WalkRun → Type 0
GoesAs old now = (now.goal ≡ old.goal) × (now.way ≡ old.way)

-- where the second walk turns, which the first is once it has found this, is a fork that stays on
-- the path of its key
abbrev pub StaysThere : WalkRun → ℕ → WalkRun → Type 0
StaysThere old v now = (d : Call) (h : History) → WalkIsTold old d h v → Stays d.layout (value h) (path_key old.goal) now.trail.node.0

-- It keeps a fork where it turns only if that is so. Nothing is owed for a fork that it does not
-- keep: an earlier one is as good, since the path of the key has passed that too.
abbrev pub KeepsTurns : WalkRun × LastTurns → ℕ → WalkRun × LastTurns → Type 0
KeepsTurns old v now = (now.1 ≡ old.1) ⊎ ((now.1 ≡ last_turns now.0.at now.0.trail.node old.1) × StaysThere old.0 v now.0)

-- a walk in a call of its own, with the last forks where it has turned; it goes on past the root,
-- to the same goal
abbrev pub inner_walk : Inner (WalkRun × LastTurns)
inner_walk = record {
  Context = Call;
  told = λ d m h v. WalkIsTold m.0 d h v;
  waits = λ d m h s. WalkWaits m.0 d h s;
  goes = λ old v now. IsPastRoot now.0.at × GoesAs old.0 now.0 × KeepsTurns old v now;
}

-- with a turn to this side at the node n, if it counts
abbrev pub with_turn_if : Bool → Side → NodeNo → LastTurns → LastTurns
with_turn_if true side n turns = with_last_turn side n turns
with_turn_if false side n turns = turns

-- at this place a walk asks for the head of the node that its trail has reached, whose words begin
-- there
pub record AsksHead (t : Lasting) (trail : Trail) (at : WalkAt) (start : ℕ) : Type 0 where
  pub place : LoadsHead at
  pub begins : start ≡ node_begins t trail.node

-- a walk by this way has gone down from a fork of this level to a node, whose head it asks for: it
-- is no deeper than there is room for in a table of this layout
pub record AsksBelow (t : Lasting) (way : Way) (level : ℕ) (place : Reached) : Type 0 where
  pub at : place.at ≡ AtHead level
  pub deep : level + 1 < 2 + room way (shared_nodes t.lay)
  pub begins : place.start ≡ node_begins t place.trail.node

-- the head is that of a fork whose key a walk to this goal loads
pub record IsAskedFork (goal : Goal) (head : Head) : Type 0 where
  pub fork : head.leaf ≡ false
  pub asks : asks_key goal head ≡ true

-- a walk has come nearer to its end, by at least as many steps as it has made: at most so many were
-- left to it, and so many are now
pub record WalksNearer (old new : Seat ℕ SeatView) (before now : ℕ) : Type 0 where
  pub nearer : now ≤ before
  pub steps : steps_made new + now ≤ steps_made old + before

-- a call of a machine that walks
abbrev pub Walker : {M : Type 0} → Calls M → Type 0
Walker o = Inside o inner_walk

module _ {M : Type 0} {o : Calls M} (w : Walker o) (ps : List SeatedPass) where
  -- its walk waits for this step, and has last turned at these forks
  abbrev pub WalkerWaits : WalkRun → LastTurns → Step → Type 0
  WalkerWaits m turn step = InnerWaits w ps (m, turn) step

  -- the step of its walk has found v
  abbrev pub WalkerIsTold : WalkRun → LastTurns → ℕ → Type 0
  WalkerIsTold m turn v = InnerIsTold w ps (m, turn) v

  -- its walk by this way to this goal waits for the child on this side of the node that its trail
  -- has reached, whose head is of this level; it has turned last at these forks
  abbrev pub WalkerGoesDown : Way → Goal → Trail → ℕ → Side → LastTurns → Type 0
  WalkerGoesDown way goal trail level side turn = WalkerWaits (way_at way goal trail (Child level side)) turn (load LoadChild (child trail.node.0 side))

  -- its walk by this way to this goal waits for the head of the node that it has reached
  abbrev pub WalkerIsAt : Way → Goal → Reached → Type 0
  WalkerIsAt way goal place = WalkerWaits (way_at way goal place.trail place.at) place.turns (load LoadSettled (node place.trail.node.0 (Settled HeadWord)))

  -- its walk by this way to this goal has found this in the head of the node that it has reached
  abbrev pub WalkerHasHead : Way → Goal → Reached → ℕ → Type 0
  WalkerHasHead way goal place head = WalkerIsTold (way_at way goal place.trail place.at) place.turns head

  -- its walk by this way to this goal waits for the head of the root, with which it begins
  abbrev pub WalksFromRoot : Way → Goal → Type 0
  WalksFromRoot way goal = WalkerWaits (way_from way goal) no_turns (load LoadSettled (node 0 (Settled HeadWord)))

  -- the last step of its walk by a way to a goal has found what makes this the one that it has
  -- found, and these forks are the last where it has turned
  pub record WalkerFinds (way : Way) (goal : Goal) (turn : LastTurns) (f : Found) : Type 0 where
    pub last : WalkRun
    pub is_goal : last.goal ≡ goal
    pub is_way : last.way ≡ way
    pub told : ℕ
    pub finds : (d : Call) (h : History) → WalkIsTold last d h told → FoundBy way goal d h f
    pub so : WalkerIsTold last turn told

module _ {S T M A : Type 0} (s : Shape T) (m : Machine M T A) (left : M → PassMemory → Type 0) (hand : Hand S) where
  -- the walk of a call of the hand is here, and its last step has found v
  abbrev pub HasWalked : Seat ℕ SeatView → WalkRun → ℕ → Type 0
  HasWalked seat walk v = (w : Walker (hand_calls s m left hand)) × (turn : LastTurns) × WalkerIsTold w seat.me.0.passes walk turn v

  -- whichever call it is whose walk was here at the old seat, and had found v: at the new seat that
  -- has found f in the end
  abbrev pub WalkFinds : Seat ℕ SeatView → WalkRun → ℕ → Seat ℕ SeatView → Found → Type 0
  WalkFinds old walk v new f = (w : Walker (hand_calls s m left hand)) (turn : LastTurns) → WalkerIsTold w old.me.0.passes walk turn v → WalkerFinds w new.me.0.passes walk.way walk.goal turn f

  -- or it goes down to this side of the fork, with the head in this word: there it has turned last
  -- if that counts
  abbrev pub WalkGoesDown : Seat ℕ SeatView → WalkRun → ℕ → Seat ℕ SeatView → Side → Bool → Type 0
  WalkGoesDown old walk word new side counts = (w : Walker (hand_calls s m left hand)) (turn : LastTurns) → WalkerIsTold w old.me.0.passes walk turn word → WalkerGoesDown w new.me.0.passes walk.way walk.goal walk.trail (head_of word).level side (with_turn_if counts side walk.trail.node turn)

  -- a call of the hand is to walk by this way to this goal, from the root on
  abbrev pub MayWalk : Seat ℕ SeatView → Way → Goal → Type 0
  MayWalk seat way goal = (w : Walker (hand_calls s m left hand)) × WalksFromRoot w seat.me.0.passes way goal

  -- whichever call was to do so at the old seat: at the new one its walk has found f in the end,
  -- and these forks are the last where it has turned
  abbrev pub WalkEnds : Seat ℕ SeatView → Way → Goal → Seat ℕ SeatView → LastTurns → Found → Type 0
  WalkEnds old way goal new turns f = (w : Walker (hand_calls s m left hand)) → WalksFromRoot w old.me.0.passes way goal → WalkerFinds w new.me.0.passes way goal turns f

  -- a call of the hand is to walk by this way to this goal, from this place on
  abbrev pub MayWalkFrom : Seat ℕ SeatView → Way → Goal → Reached → Type 0
  MayWalkFrom seat way goal first = (w : Walker (hand_calls s m left hand)) × WalkerIsAt w seat.me.0.passes way goal first

  -- whichever call was to do so at the old seat: at the new one its walk has found f in the end,
  -- and these forks are the last where it has turned
  abbrev pub WalkEndsFrom : Seat ℕ SeatView → Way → Goal → Reached → Seat ℕ SeatView → LastTurns → Found → Type 0
  WalkEndsFrom old way goal first new turns f = (w : Walker (hand_calls s m left hand)) → WalkerIsAt w old.me.0.passes way goal first → WalkerFinds w new.me.0.passes way goal turns f
