use Rattle.tables.specs.Seats.{IsSameSeat}
use Rattle.upkeep.specs.UpkeepPeriod.{PollsOn}
use Rattle.upkeep.specs.UpkeepSteps.{RestsOn}
use Rattle.upkeep.proofs.period.Period.begin.Given as goal

abbrev pub invariant-loop-other : goal.invariant-loop-other
invariant-loop-other g l = record {
  table : IsSameSeat l.initial.seat l.seat;
  polls : RestsOn g.S.Shape.allows (PollsOn 0 l.other l.initial.period l.period) l.initial.seat.me.0 l.seat.me.0;
}
