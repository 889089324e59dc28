use Rattle.std.proofs.Common.{◌+◌, ◌-◌, ◌≤◌}
use Rattle.tables.specs.Seats.{IsSameSeat}
use Rattle.upkeep.specs.UpkeepBook.{slots_in}
use Rattle.upkeep.specs.UpkeepDeals.{AreSlotsStill, HasDealt}
use Rattle.upkeep.specs.UpkeepSteps.{RestsOn}
use Rattle.upkeep.proofs.deal.put_more.Given as goal

abbrev pub invariant-loop-i : goal.invariant-loop-i
invariant-loop-i g l = record {
  stays : IsSameSeat l.fn.seat l.seat;
  still : AreSlotsStill l.fn.own l.own;
  more : l.fn.own.dealt ≤ l.own.dealt;
  few : l.own.dealt ≤ l.fn.own.dealt + (l.i - l.from);
  so : RestsOn g.S.Shape.allows (HasDealt g.S.Shape.allows (slots_in l.words) l.fn.own l.own l.next l.next) l.fn.seat.me.0 l.seat.me.0;
}
