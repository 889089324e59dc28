use Rattle.tables.specs.Seats.{IsSameSeat}
use Rattle.upkeep.specs.UpkeepBook.{AreSameSlots, slots_in}
use Rattle.upkeep.specs.UpkeepSteps.{RestsOn}
use Rattle.upkeep.proofs.UpkeepTurns.{TurnsTo}
use Rattle.upkeep.proofs.turn.turn_all.Given as goal

abbrev pub invariant-loop-i : goal.invariant-loop-i
invariant-loop-i g l = record {
  stays : IsSameSeat l.fn.seat l.seat;
  same : AreSameSlots l.fn.own l.own;
  so : RestsOn g.S.Shape.allows (TurnsTo (slots_in l.words) l.fn.own l.own l.i) l.fn.seat.me.0 l.seat.me.0;
}
