use Rattle.histories.proofs.Lemmas.{own_node_inside}
use Rattle.judge.proofs.filling.is_open_node.Goals as goal

-- a pass's own node is one of the table
pub is_named_node-requires : goal.is_named_node-requires
is_named_node-requires c = own_node_inside c.args.judge.now.layout c.args.pass.0 c.args.node c.requires (rw c.layout.ensures at (c.is_own_node.ensures.0 c.if-is_own_node.true))
