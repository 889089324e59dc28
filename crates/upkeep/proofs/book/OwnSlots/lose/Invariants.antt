use Rattle.std.specs.Prelude.{◌≤◌}
use Rattle.upkeep.specs.UpkeepLost.{IsFromTo, LosesOnly}
use Rattle.upkeep.proofs.book.OwnSlots.lose.Given as goal

abbrev pub invariant-loop-name : goal.invariant-loop-name
invariant-loop-name l = record {
  loses : LosesOnly (IsFromTo l.from l.name) l.fn.self l.self;
  none : l.to ≤ l.from → l.name ≤ l.from;
}
