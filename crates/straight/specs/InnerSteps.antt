-- Steps of machines inside the machine of a call, from a seat to the next.
use Rattle.std.specs.Prelude.{◌≡◌, ℕ, suc}
use Rattle.atomic_table.specs.declared.shared.Seat.{Seat}
use Rattle.arena.specs.declared.step.Step.{Step}
use Rattle.tables.specs.declared.view.SeatView.{SeatView}
use Rattle.straight.specs.CallKinds.{Calls}
use Rattle.straight.specs.Inside.{Inner, Inside, InnerIsTold, InnerWaits}
use Rattle.straight.specs.Leads.{steps_made}
use Rattle.tables.specs.Seats.{StaysAtTable}

module _ {M N : Type 0} (o : Calls M) (i : Inner N) where
  -- at the seat the inner machine of some call waits for this step
  abbrev pub WaitsInside : Seat ℕ SeatView → Step → Type 0
  WaitsInside seat step = (k : Inside o i) × (m : N) × InnerWaits k seat.me.0.passes m step

  -- from this seat the step is made, which leads to that one, and has found v
  pub record MakesInside (old new : Seat ℕ SeatView) (step : Step) (v : ℕ) : Type 0 where
    pub table : StaysAtTable old new
    pub told : (k : Inside o i) (m : N) → InnerWaits k old.me.0.passes m step → InnerIsTold k new.me.0.passes m v
    pub one : steps_made new ≡ suc (steps_made old)
