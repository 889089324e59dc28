use Rattle.std.specs.Prelude.{take}
use Rattle.ordered_map.specs.Parts.{HoldPairs}
use Rattle.ordered_map.proofs.reader.pairs.Given as goal

abbrev pub invariant-loop-leaf : goal.invariant-loop-leaf
invariant-loop-leaf l = HoldPairs l.words (take l.leaf-index l.leaves) l.pairs.items
