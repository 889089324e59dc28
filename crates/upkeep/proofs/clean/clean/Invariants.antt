use Rattle.tables.specs.Seats.{IsSameSeat}
use Rattle.upkeep.specs.UpkeepBook.{slots_in}
use Rattle.upkeep.specs.UpkeepSteps.{RestsOn}
use Rattle.upkeep.proofs.UpkeepTurn.{IsClearedTo}
use Rattle.upkeep.proofs.clean.clean.Given as goal

abbrev pub invariant-loop-place : goal.invariant-loop-place
invariant-loop-place g l = record {
  stays : IsSameSeat l.fn.seat l.seat;
  so : RestsOn g.S.Shape.allows (IsClearedTo (slots_in l.words) l.kind l.slot l.place) l.fn.seat.me.0 l.seat.me.0;
}
