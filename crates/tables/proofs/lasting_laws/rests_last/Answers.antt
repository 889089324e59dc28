use Rattle.tables.proofs.LastingRests.{lasting_leaves, lasting_rests}
use Rattle.tables.proofs.lasting_laws.rests_last.Goals as goal

pub returns-clause-rests : goal.returns-clause-rests
returns-clause-rests g c = λ t planting slots id me p. lasting_rests g.S.Shape.allows t planting (λ h q rest n. c.unborn_stays_out.ensures.stays t.lay h q rest n) slots id me p

pub returns-clause-leaves : goal.returns-clause-leaves
returns-clause-leaves g c = λ t planting slots id me p. lasting_leaves g.S.Shape.allows t planting (λ h q rest n. c.unborn_stays_out.ensures.stays t.lay h q rest n) slots id me p
