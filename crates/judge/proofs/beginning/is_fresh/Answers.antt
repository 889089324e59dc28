use Rattle.arena.specs.Fills.{IsOwnNode}
use Rattle.histories.proofs.Lemmas.{own_node_inside}
use Rattle.judge.proofs.beginning.is_fresh.Goals as goal

pub is_unused-requires : goal.is_unused-requires
is_unused-requires c =
    let own : IsOwnNode c.args.judge.now.layout c.args.pass.0 c.args.node = rw (← c.layout.ensures) (c.is_own_node.ensures.0 c.if-is_own_node.true) in
    own_node_inside c.args.judge.now.layout c.args.pass.0 c.args.node c.requires own
