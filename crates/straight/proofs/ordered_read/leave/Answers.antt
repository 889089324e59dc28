use Rattle.std.proofs.Common.{refl, arith}
use Rattle.straight.proofs.ordered_read.leave.Goals as goal

pub look_again-requires-clause-waits : goal.look_again-requires-clause-waits
look_again-requires-clause-waits g c = let w = c.requires.stops in (w.0, rw c.in-Again.is at w.1)

pub returns-in-Again : goal.returns-in-Again
returns-in-Again g c = rw c.in-Again.is c.look_again.ensures

pub returns-in-Refused : goal.returns-in-Refused
returns-in-Refused g c = rw c.in-Refused.is record { table = (refl, refl, refl); to = λ r x. x; steps = omega arith }
