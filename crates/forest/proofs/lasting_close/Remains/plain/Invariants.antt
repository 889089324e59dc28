use Rattle.std.proofs.Common.{◌≡◌}
use Rattle.forest.specs.Remains.{AreNamedBySlots}
use Rattle.forest.proofs.lasting_close.Remains.plain.Given as goal

abbrev pub invariant-loop-number : goal.invariant-loop-number
invariant-loop-number g l = (l.words.layout ≡ l.self.slots.table) × AreNamedBySlots l.self l.words l.number
