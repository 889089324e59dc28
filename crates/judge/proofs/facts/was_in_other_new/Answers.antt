use Rattle.judge.proofs.Used.{new_asked}
use Rattle.judge.proofs.facts.was_in_other_new.Goals as goal

pub returns : goal.returns
returns c = rw (← c.judge.view_is) (new_asked _ _ c.judge.inside.uses c.judge.invariant.uses c.args.user c.args.node _ (rw (← c.judge.view_is) at c.requires) c.was_in_other_new.ensures)
