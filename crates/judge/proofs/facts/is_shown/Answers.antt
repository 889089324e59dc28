use Rattle.judge.proofs.Asked.{shown_asked, shown_inside}
use Rattle.judge.proofs.facts.is_shown.Goals as goal

pub returns-clause-shown : goal.returns-clause-shown
returns-clause-shown c = rw (← c.judge.view_is) (shown_asked _ _ c.judge.inside.naming c.judge.invariant.lawful c.judge.invariant.naming c.args.node _ c.has_shown.ensures)

pub returns-clause-inside : goal.returns-clause-inside
returns-clause-inside c = rw (← c.judge.view_is) (shown_inside _ _ c.judge.inside.naming c.judge.invariant.lawful c.judge.invariant.naming c.args.node _ c.has_shown.ensures)
