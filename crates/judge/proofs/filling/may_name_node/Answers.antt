use Rattle.arena.specs.Fills.{IsOthersNode}
use Rattle.histories.proofs.Lemmas.{own_node_inside}
use Rattle.judge.proofs.filling.may_name_node.Goals as goal

-- another's node is one of the table
pub returns-else-not-is_others_node : goal.returns-else-not-is_others_node
returns-else-not-is_others_node c =
    let others : IsOthersNode c.args.judge.now.layout c.args.pass.0 c.args.node = rw c.layout.ensures at (c.is_others_node.ensures.0 c.if-not-is_others_node.false) in (
      (λ shown other. c.is_shown.ensures.shown shown),
      (λ named. c.is_shown.ensures.inside (own_node_inside c.args.judge.now.layout others.pass c.args.node others.is_pass others.owns) (named others)),
    )
