use Rattle.std.proofs.Common.{arith}
use Rattle.ordered_map.proofs.Reading.{seen_high, seen_low}
use Rattle.ordered_map.proofs.part.look_leaf.Goals.{then-head-ne0, else-head-ne0}
use Rattle.ordered_map.proofs.part.look_leaf.Goals as goal

pub returns-then-holds_in_order : goal.returns-then-holds_in_order
returns-then-holds_in_order c = elim c.if-head-ne0.branch [ then-head-ne0 w ↦ seen_high c.args.words.now c.args.part c.requires (grind (arith, w.if-head-ne0, c.get-head.ensures)) | else-head-ne0 w ↦ seen_low c.args.words.now c.args.part c.requires (grind (arith, w.if-head-ne0, c.get-head.ensures)) (w.holds_in_order.ensures.0 (grind (arith, w.value-is, c.if-holds_in_order.true))) ]
