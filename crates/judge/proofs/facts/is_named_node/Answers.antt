use Rattle.judge.proofs.Asked.{node_asked}
use Rattle.judge.proofs.facts.is_named_node.Goals as goal

pub returns : goal.returns
returns c = rw (← c.judge.view_is) (node_asked _ _ c.judge.inside.naming c.judge.invariant.lawful c.judge.invariant.naming c.args.node _ (rw (← c.judge.view_is) at c.requires) c.has_node.ensures)
