use Rattle.std.proofs.Common.{◌∙◌, ap, refl}
use Rattle.template.specs.Common.{End}
use Rattle.straight.proofs.walk.call_from.Goals as goal

pub to_goal_from-requires-clause-slot : goal.to_goal_from-requires-clause-slot
to_goal_from-requires-clause-slot g c = λ more. rw c.in-Key.is refl

pub to_goal_from-requires-clause-waits : goal.to_goal_from-requires-clause-waits
to_goal_from-requires-clause-waits g c = c.requires.waits

pub to_goal_from-requires-in-Left-clause-waits : goal.to_goal_from-requires-in-Left-clause-waits
to_goal_from-requires-in-Left-clause-waits g c = rw c.in-End.is at c.requires.waits

pub to_goal_from-requires-in-Left-clause-slot : goal.to_goal_from-requires-in-Left-clause-slot
to_goal_from-requires-in-Left-clause-slot g c = λ more. rw c.in-Left.is refl

pub to_last_from-requires-clause-waits : goal.to_last_from-requires-clause-waits
to_last_from-requires-clause-waits g c = rw (c.in-End.is ∙ ap End c.in-Right.is) at c.requires.waits

pub returns-in-Left-clause-finds : goal.returns-in-Left-clause-finds
returns-in-Left-clause-finds g c = λ w x. rw c.in-End.is (c.to_goal_from-in-Left.ensures.finds w (rw c.in-End.is at x))

pub returns-in-Right-clause-finds : goal.returns-in-Right-clause-finds
returns-in-Right-clause-finds g c = λ w x. rw (c.in-End.is ∙ ap End c.in-Right.is) (c.to_last_from.ensures.finds w (rw (c.in-End.is ∙ ap End c.in-Right.is) at x))
