use Rattle.judge.proofs.Used.{field_asked}
use Rattle.judge.proofs.facts.was_in_field.Goals as goal

pub returns : goal.returns
returns c = rw (← c.judge.view_is) (field_asked _ _ c.judge.inside.uses c.judge.invariant.uses c.args.node _ (rw (← c.judge.view_is) at c.requires) c.was_in_field.ensures)
