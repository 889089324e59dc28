use Rattle.forest.specs.Remains.{by_slots}
use Rattle.forest.proofs.Copies.{AreCopiedTo}
use Rattle.forest.proofs.lasting_close.Remains.copy_node.Given as goal

abbrev pub invariant-loop-number : goal.invariant-loop-number
invariant-loop-number g l = AreCopiedTo (by_slots l.self) l.self.slots.table l.words l.node.0 l.number
