-- What a call has in hand, as the clauses of straight code see it.
use Rattle.std.specs.Prelude.{◌≡◌, ℕ, Bool}
use Rattle.atomic_table.specs.declared.shared.Seat.{Seat}
use Rattle.histories.specs.Common.{Ghosts as Machine, Call, Mode}
use Rattle.arena.specs.declared.machine.Shape.{Ghosts as Shape}
use Rattle.straight.specs.declared.hand.Hand.{Hand}
use Rattle.tables.specs.declared.memory.PassMemory.{PassMemory}
use Rattle.tables.specs.declared.view.SeatView.{SeatView}
use Rattle.arena.specs.declared.layout.Layout.{Layout}
use Rattle.slots.specs.Lasting.{Lasting}
use Rattle.straight.specs.CallKinds.{Calls, calls}
use Rattle.tables.specs.Slotted.{names_of_table, slots_of_table}
use Rattle.tables.specs.TablePlans.{IsTableOf}

-- how the records of its table have slots, and the layout of their names
abbrev pub hand_slots : {S : Type 0} → Hand S → Lasting
hand_slots hand = slots_of_table hand.words.now.table.shared.key

abbrev pub names : {S : Type 0} → Hand S → Layout
names hand = names_of_table hand.words.now.table.shared.key

-- its table is of a shape of this mode, whose records come back or not, and is as its plan says
abbrev pub IsHandOf : {S : Type 0} (mode : Mode) (lasts : Bool) → Hand S → Type 0
IsHandOf mode lasts hand = IsTableOf mode lasts hand.words.now.table.shared.table_id hand.words.now.table.shared.key hand.plan.now

-- so it is, and the seat is at that table
abbrev pub IsAt : {S : Type 0} (mode : Mode) (lasts : Bool) → Hand S → Seat ℕ SeatView → Type 0
IsAt mode lasts hand seat = (seat.table_id ≡ hand.words.now.table.shared.table_id) × IsHandOf mode lasts hand

-- the call has its layout and its number
abbrev pub IsCallOf : {S : Type 0} → Hand S → Call → Type 0
IsCallOf hand call = (call.layout ≡ names hand) × (call.number ≡ hand.number)

-- the calls of a machine under a shape that it is of
abbrev pub hand_calls : {S T M A : Type 0} → Shape T → Machine M T A → (M → PassMemory → Type 0) → Hand S → Calls M
hand_calls s m left hand = calls s m left (names hand) hand.number
