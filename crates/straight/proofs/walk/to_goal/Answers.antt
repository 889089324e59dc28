use Rattle.std.proofs.Common.{arith}
use Rattle.straight.proofs.walk.to_goal.Goals as goal

pub to_goal_from-requires-clause-waits : goal.to_goal_from-requires-clause-waits
to_goal_from-requires-clause-waits g c = let r = c.requires.waits in (r.0, rw c.root.ensures r.1)

pub returns-clause-finds : goal.returns-clause-finds
returns-clause-finds g c = λ w x. c.to_goal_from.ensures.finds w (rw c.root.ensures x)

pub returns-clause-steps : goal.returns-clause-steps
returns-clause-steps g c = let steps = rw c.root.ensures at c.to_goal_from.ensures.steps in omega (arith, steps)
