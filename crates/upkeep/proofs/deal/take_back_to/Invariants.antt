use Rattle.std.proofs.Common.{◌-◌, ◌≤◌}
use Rattle.tables.specs.Seats.{IsSameSeat}
use Rattle.upkeep.specs.UpkeepBook.{slots_in}
use Rattle.upkeep.specs.UpkeepDeals.{AreSlotsStill, HasDealt}
use Rattle.upkeep.specs.UpkeepSteps.{RestsOn}
use Rattle.upkeep.proofs.deal.take_back_to.Given as goal

abbrev pub invariant-loop-own : goal.invariant-loop-own
invariant-loop-own g l = record {
  stays : IsSameSeat l.fn.seat l.seat;
  still : AreSlotsStill l.fn.own l.own;
  more : l.next ≤ l.own.dealt;
  few : l.own.dealt ≤ l.fn.own.dealt;
  so : RestsOn g.S.Shape.allows (HasDealt g.S.Shape.allows (slots_in l.words) l.fn.own l.own l.next l.next) l.fn.seat.me.0 l.seat.me.0;
}

abbrev pub decreases-loop-own : goal.decreases-loop-own
decreases-loop-own g l = l.own.dealt - l.next
