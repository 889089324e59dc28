use Rattle.order.proofs.range.Range.children.Goals as goal

pub returns-in-true-true : goal.returns-in-true-true
returns-in-true-true c ordered = (c.in-true-true.is-0, c.in-true-true.is-1)

pub returns-in-true-false : goal.returns-in-true-false
returns-in-true-false c ordered = c.in-true-false.is-1

pub returns-in-false-default : goal.returns-in-false-default
returns-in-false-default c ordered = c.in-false-default.is-0
