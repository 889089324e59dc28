use Rattle.std.proofs.Common.{arith}
use Rattle.ordered_map.proofs.Reading.{root_inside}
use Rattle.ordered_map.proofs.part.look.Goals as goal

pub returns-then-part-all_nodes : goal.returns-then-part-all_nodes
returns-then-part-all_nodes c t i =
    let x = root_inside c.args.words.now c.args.part t i in
    let n = c.all_nodes.ensures.nodes in
    let l = c.layout.ensures in
    grind (arith, x, n, l, c.if-part-all_nodes.true)
