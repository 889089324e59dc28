use Rattle.std.proofs.Common.{length}
use Rattle.planting.proofs.trees.+grow.Given as goal

abbrev pub decreases-grow : goal.decreases-grow
decreases-grow l = length l.pairs.now
