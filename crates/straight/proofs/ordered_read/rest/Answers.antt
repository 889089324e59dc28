use Rattle.straight.proofs.ordered_read.rest.Goals as goal

pub validate_on-requires-clause-waits : goal.validate_on-requires-clause-waits
validate_on-requires-clause-waits g c = let w = c.requires.waits in (w.0, rw c.in-Validate.is at w.1)
