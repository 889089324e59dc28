use Rattle.std.proofs.Common.{arith}
use Rattle.ordered_map.proofs.LeafLists.{holds_more}
use Rattle.ordered_map.proofs.reader.pairs.Goals as goal

pub loop-leaf-preserved : goal.loop-leaf-preserved
loop-leaf-preserved c = holds_more c.args.words.now c.args.leaves.now c.loop-leaf.leaf-index c.loop-leaf.pairs.items c.push_held.new.pairs.items (omega (arith, c.loop-leaf-test.true)) c.loop-leaf.invariant (grind (arith, c.class_of.ensures, c.if-class_of-ne0.false)) c.in_ok-push_held.ensures
