use Rattle.straight.proofs.walk.shares_key.Goals as goal

pub returns-in-Key-clause-yes : goal.returns-in-Key-clause-yes
returns-in-Key-clause-yes g c = (g.in-Key.wanted, g.in-Key.is, λ level is. (g.shares.ensures level is).0 c)
