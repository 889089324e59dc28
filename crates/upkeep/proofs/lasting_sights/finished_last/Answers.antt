use Rattle.upkeep.proofs.LastingFinished.{lasting_done, lasting_looked_at, lasting_over}
use Rattle.upkeep.proofs.lasting_sights.finished_last.Goals as goal

pub returns-clause-looks : goal.returns-clause-looks
returns-clause-looks g c = λ t planting slots id me p s j n one held taken between. lasting_looked_at g.S.Shape.allows t planting (λ h o rest i. c.unborn_stays_out.ensures.stays t.lay h o rest i) slots id me p one s held taken between j n

pub returns-clause-knows : goal.returns-clause-knows
returns-clause-knows g c = λ t planting slots id me p s at j one held taken between. lasting_done g.S.Shape.allows t planting (λ h o rest i. c.unborn_stays_out.ensures.stays t.lay h o rest i) slots id me p one s held taken between at j

pub returns-clause-dead : goal.returns-clause-dead
returns-clause-dead g c = λ t planting slots id me p s at one held taken between. lasting_over g.S.Shape.allows t planting (λ h o rest i. c.unborn_stays_out.ensures.stays t.lay h o rest i) slots id me p one s held taken between (c.dead_comes_back.ensures.look t.lay) at
