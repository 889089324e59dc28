use Rattle.std.proofs.Common.{◌≡◌}
use Rattle.forest.specs.Copies.{AreCopied}
use Rattle.forest.proofs.close.Closed.plain.Given as goal

abbrev pub invariant-loop-number : goal.invariant-loop-number
invariant-loop-number g l = (l.words.layout ≡ l.self.layout) × AreCopied l.self l.words l.number
