-- From a seat to a later one, in the same call.
use Rattle.std.specs.Prelude.{ℕ, ◌+◌, ◌≤◌, List}
use Rattle.atomic_table.specs.declared.shared.Seat.{Seat}
use Rattle.tables.specs.declared.view.SeatView.{SeatView}
use Rattle.tables.specs.declared.view.SeatedPass.{SeatedPass}
use Rattle.tables.specs.Seats.{StaysAtTable}
use Rattle.tables.specs.Traces.{seat_steps}

-- how many steps the pass of this seat has made
abbrev pub steps_made : Seat ℕ SeatView → ℕ
steps_made seat = seat_steps seat.me.0.passes

-- From this seat a call gets to that one in at most `most` steps: it stays at the table, and of
-- any call of the kind K of which P held, Q holds.
pub record Leads {K : Type 0} (old new : Seat ℕ SeatView) (most : ℕ) (P Q : K → List SeatedPass → Type 0) : Type 0 where
  pub table : StaysAtTable old new
  pub to : (k : K) → P k old.me.0.passes → Q k new.me.0.passes
  pub steps : steps_made new ≤ steps_made old + most
