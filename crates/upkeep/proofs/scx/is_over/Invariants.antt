use Rattle.tables.specs.Seats.{IsSameSeat}
use Rattle.upkeep.specs.UpkeepBook.{slots_in}
use Rattle.upkeep.specs.UpkeepScx.{IsDoneTo}
use Rattle.upkeep.specs.UpkeepSteps.{RestsOn}
use Rattle.upkeep.proofs.scx.is_over.Given as goal

abbrev pub invariant-loop-place : goal.invariant-loop-place
invariant-loop-place g l = record {
  stays : IsSameSeat l.fn.seat l.seat;
  so : RestsOn g.S.Shape.allows (IsDoneTo (slots_in l.words) l.slot l.name l.place-end l.state l.plan.0 l.place) l.fn.seat.me.0 l.seat.me.0;
}
