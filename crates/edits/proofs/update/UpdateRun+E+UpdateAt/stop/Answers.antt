use Rattle.edits.proofs.update.UpdateRun+E+UpdateAt.stop.Goals as goal

pub returns-in-Nothing-clause-turn : goal.returns-in-Nothing-clause-turn
returns-in-Nothing-clause-turn g c d h run x = rw c.at.ensures (rw c.in-Nothing.is at x)

pub returns-in-Lost-clause-turn : goal.returns-in-Lost-clause-turn
returns-in-Lost-clause-turn g c d h run x = let y = rw c.in-Lost.is at x in c.lost.ensures.turn d h run y.0 y.1

pub returns-in-Full-clause-turn : goal.returns-in-Full-clause-turn
returns-in-Full-clause-turn g c d h run x = rw c.in-Full.is at x
