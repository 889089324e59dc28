use Rattle.histories.specs.Common.{word_at}
use Rattle.forest.proofs.Copies.{AreCopiedTo}
use Rattle.forest.proofs.close.Closed.copy_node.Given as goal

abbrev pub invariant-loop-number : goal.invariant-loop-number
invariant-loop-number g l = AreCopiedTo (word_at l.self) l.self.layout l.words l.node.0 l.number
