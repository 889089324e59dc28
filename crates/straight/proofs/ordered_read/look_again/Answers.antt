use Rattle.straight.proofs.ordered_read.look_again.Goals as goal

pub complete-requires-clause-stands : goal.complete-requires-clause-stands
complete-requires-clause-stands g c = let w = c.requires.waits in (w.0, rw c.load.ensures w.1)

pub returns : goal.returns
returns g c = record { table = c.complete.ensures.table; to = λ r x. c.complete.ensures.ends r (rw c.load.ensures x); steps = c.complete.ensures.steps }
