-- Calls of ordered reads, of whatever machine reads: at a place of the machine of the read, or
-- before what comes next.
use Rattle.std.specs.Prelude.{ℕ, suc, ◌+◌, ◌≤◌, Bool, List, Result, Ok, Err}
use Rattle.atomic_table.specs.declared.shared.Seat.{Seat}
use Rattle.histories.specs.Common.{Ghosts as Machine, Call, History, NodeNo, ScxNo, Side, LoadSettled, LoadState, Settled, Head as HeadWord, node, state}
use Rattle.arena.specs.declared.machine.Shape.{Ghosts as Shape}
use Rattle.template.specs.Balance.{nodes_by}
use Rattle.template.specs.Common.{load, HasFoundGoal, TreeAllows, WalkIsTold}
use Rattle.template.specs.declared.walk.Found.{Found}
use Rattle.template.specs.declared.walk.WalkRun.{WalkRun}
use Rattle.prims.specs.declared.llx.LlxAt.TheVariants.{StateAgain}
use Rattle.order.specs.Known.{IsSameRead, ReadAnswers, ReadIsReady, ReadWaits}
use Rattle.order.specs.LastTurns.{first_children, turn_to}
use Rattle.order.specs.Meaning.{ReadMeaning}
use Rattle.order.specs.Near.{near_most, near_word}
use Rattle.order.specs.Places.{next_step, placed}
use Rattle.order.specs.Steps.{read_left}
use Rattle.order.specs.declared.last_turns.LastTurns.{LastTurns}
use Rattle.order.specs.declared.near.NearRun.{NearRun}
use Rattle.order.specs.declared.read.Children.{Children}
use Rattle.order.specs.declared.read.ReadNext.{ReadNext}
use Rattle.order.specs.declared.read.ReadNext.TheVariants.{Look as LookNext}
use Rattle.order.specs.declared.refused.Refused.{Refused}
use Rattle.order.specs.declared.run.ReadAt.TheVariants.{Look, Near, Root, Walk}
use Rattle.order.specs.declared.run.ReadRun.{ReadRun}
use Rattle.straight.specs.declared.hand.Hand.{Hand}
use Rattle.straight.specs.declared.ordered_read.ReadStop.{ReadStop}
use Rattle.straight.specs.declared.ordered_read.ReadStop.TheVariants.{Again, Refused as RefusedSo}
use Rattle.tables.specs.declared.memory.PassMemory.{PassMemory}
use Rattle.tables.specs.declared.view.SeatView.{SeatView}
use Rattle.tables.specs.declared.view.SeatedPass.{SeatedPass}
use Rattle.straight.specs.CallKinds.{Calls}
use Rattle.straight.specs.Hands.{hand_calls, names}
use Rattle.straight.specs.Hosts.{Host, HostedBegins, HostedEnds, HostedIsTold, HostedWaits, InnerCall}
use Rattle.straight.specs.Leads.{Leads, steps_made}
use Rattle.tables.specs.Seats.{StaysAtTable}
use Rattle.straight.specs.StraightLlx.{llx_at}
use Rattle.tables.specs.Traces.{shared_nodes}

-- an ordered read that is called inside another call
abbrev pub inner_read : {R A : Type 0} → ReadMeaning R A → InnerCall (ReadRun R) (Result A Refused)
inner_read means = record { allows = TreeAllows; ready = ReadIsReady means; waits = ReadWaits means; answers = ReadAnswers means; goes = IsSameRead means; ends = IsSameRead means }

-- a call of a machine that reads
abbrev pub Reader : {M R A : Type 0} → Calls M → ReadMeaning R A → Type 0
Reader o means = Host o (inner_read means)

-- the run at the load of the root's head
abbrev pub at_root : {R : Type 0} → ReadRun R → ReadRun R
at_root m = record m { at = Root }

-- a run that searches a leaf
abbrev pub searching : {R : Type 0} → ReadRun R → NearRun → Children → NodeNo → ReadRun R
searching m near children fork = record m { at = Near near children fork }

-- a run that asks again for the state of an SCX-record that was in the way of its look at a fork
abbrev pub looking_again : {R : Type 0} → ReadRun R → Children → ℕ → NodeNo → Bool → ScxNo → ReadRun R
looking_again m children level n marked scx = record m { at = Look children level (llx_at n (StateAgain marked scx)) }

module _ {M R A : Type 0} {o : Calls M} {means : ReadMeaning R A} (r : Reader o means) (ps : List SeatedPass) where
  -- its read has not begun
  abbrev pub ReaderBegins : ReadRun R → Type 0
  ReaderBegins m = HostedBegins r ps m

  -- its read has begun a try, with the load of the root's head
  abbrev pub ReaderRoots : ReadRun R → Type 0
  ReaderRoots m = HostedWaits r ps (at_root m) (load LoadSettled (node 0 (Settled HeadWord)))

  -- its read has begun what comes next
  abbrev pub ReaderWaits : ReadRun R → ReadNext → Type 0
  ReaderWaits m next = HostedWaits r ps (placed m next) (next_step m next)

  -- its read searches a leaf so, and looks at this fork if that does not have the pair
  abbrev pub ReaderSearches : ReadRun R → NearRun → Children → NodeNo → Type 0
  ReaderSearches m near children fork = HostedWaits r ps (searching m near children fork) (load LoadSettled (near_word near))

  -- its walk has found f in the end, with these forks as the last where it has turned; its read goes
  -- down again from the last to this side
  pub record ReaderHasWalked (m : ReadRun R) (side : Side) (turns : LastTurns) (f : Found) : Type 0 where
    pub last : WalkRun
    pub told : ℕ
    pub finds : (d : Call) (h : History) → WalkIsTold last d h told → HasFoundGoal last.goal d h f
    pub so : HostedIsTold r ps (record m { at = Walk last side turns }) told

  -- its read asks again for that state
  abbrev pub ReaderLooksAgain : ReadRun R → Children → ℕ → NodeNo → Bool → ScxNo → Type 0
  ReaderLooksAgain m children level n marked scx = HostedWaits r ps (looking_again m children level n marked scx) (load LoadState (state scx.0))

  -- its read has answered
  abbrev pub ReaderEnds : ReadRun R → Result A Refused → Type 0
  ReaderEnds m a = HostedEnds r ps m a

  -- its read is about to do this, or asks again for a state, or has ended
  abbrev pub ReaderGoesOn : ReadRun R → Result ReadNext ReadStop → Type 0
  ReaderGoesOn m (Ok next) = ReaderWaits m next
  ReaderGoesOn m (Err (Again children level n marked scx)) = ReaderLooksAgain m children level n marked scx
  ReaderGoesOn m (Err (RefusedSo refused)) = ReaderEnds m (Err refused)

module _ {R A : Type 0} (means : ReadMeaning R A) where
  -- how many steps are left to it after the load of the root's head
  abbrev pub root_left : ReadRun R → ℕ → ℕ
  root_left m nodes = read_left means (at_root m) (nodes_by m.trie nodes)

  -- behind its walk, where it goes down again from the last fork to this side
  abbrev pub walked_left : ReadRun R → Side → LastTurns → ℕ → ℕ
  walked_left m side turns nodes = near_most + suc (read_left means (placed m (LookNext (first_children side (turn_to side turns).0) 0 (turn_to side turns))) (nodes_by m.trie nodes))

  -- where it asks again for that state
  abbrev pub again_left : ReadRun R → Children → ℕ → NodeNo → Bool → ScxNo → ℕ → ℕ
  again_left m children level n marked scx nodes = read_left means (looking_again m children level n marked scx) (nodes_by m.trie nodes)

  -- as it goes on so
  abbrev pub left_then : ℕ → ReadRun R → Result ReadNext ReadStop → ℕ
  left_then nodes m (Ok next) = suc (read_left means (placed m next) (nodes_by m.trie nodes))
  left_then nodes m (Err (Again children level n marked scx)) = suc (again_left m children level n marked scx nodes)
  left_then nodes m (Err (RefusedSo refused)) = 0

module _ {S T M R A B : Type 0} (s : Shape T) (m : Machine M T B) (left : M → PassMemory → Type 0) (means : ReadMeaning R A) (hand : Hand S) where
  -- in a call of the hand, a read has begun what comes next
  abbrev pub StandsToRead : Seat ℕ SeatView → ReadRun R → ReadNext → Type 0
  StandsToRead seat run next = (r : Reader (hand_calls s m left hand) means) × ReaderWaits r seat.me.0.passes run next

  -- From the old seat, about to do `next`, a read gets to the new one, about to do `behind`: at the
  -- same table, in any call of the hand. The steps left drop by at least those made, and by at
  -- least `fewer`.
  pub record ReadGoesOn (fewer : ℕ) (old : Seat ℕ SeatView) (run : ReadRun R) (next : Result ReadNext ReadStop) (new : Seat ℕ SeatView) (now : ReadRun R) (behind : Result ReadNext ReadStop) : Type 0 where
    pub table : StaysAtTable old new
    pub to : (r : Reader (hand_calls s m left hand) means) → ReaderGoesOn r old.me.0.passes run next → ReaderGoesOn r new.me.0.passes now behind
    pub nearer : fewer + left_then means (shared_nodes (names hand)) now behind ≤ left_then means (shared_nodes (names hand)) run next
    pub steps : steps_made new + left_then means (shared_nodes (names hand)) now behind ≤ steps_made old + left_then means (shared_nodes (names hand)) run next

  -- from this seat, with a read that goes on so, it ends at that one
  abbrev pub ReadEndsFrom : Seat ℕ SeatView → ReadRun R → Result ReadNext ReadStop → Seat ℕ SeatView → ReadRun R → Result A Refused → Type 0
  ReadEndsFrom old run next new now answer = Leads {K = Reader (hand_calls s m left hand) means} old new (left_then means (shared_nodes (names hand)) run next) (λ r ps. ReaderGoesOn r ps run next) (λ r ps. ReaderEnds r ps now answer)

  -- from this seat, with a read about to do `next`, it ends at that one
  abbrev pub ReadEnds : Seat ℕ SeatView → ReadRun R → ReadNext → Seat ℕ SeatView → ReadRun R → Result A Refused → Type 0
  ReadEnds old run next new now answer = ReadEndsFrom old run (Ok next) new now answer
