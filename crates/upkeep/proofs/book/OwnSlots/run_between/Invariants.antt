use Rattle.std.proofs.Common.{◌<◌, ◌≤◌, length}
use Rattle.upkeep.proofs.book.OwnSlots.run_between.Given as goal

abbrev pub invariant-loop-i : goal.invariant-loop-i
invariant-loop-i l = record {
  start : l.start ≤ l.i;
  best : 0 < l.best.count → l.best.start < length l.self.slots.items;
}
