use Rattle.std.proofs.Common.{ℕ, ◌<◌}
use Rattle.tables.specs.Passes.{HasPass}
use Rattle.forest.proofs.forest.Forest.all_back.Given as goal

abbrev pub invariant-loop-number : goal.invariant-loop-number
invariant-loop-number g l = (n : ℕ) → n < l.number → HasPass l.passes n
