use Rattle.upkeep.proofs.LastingSees.{lasting_left, lasting_loads, lasting_marks, lasting_unused}
use Rattle.upkeep.proofs.lasting_sights.sights_last.Goals as goal

pub returns-clause-marks : goal.returns-clause-marks
returns-clause-marks g c = λ t planting slots id me p node one is_pass. lasting_marks g.S.Shape.allows t planting (λ h o rest n. c.unborn_stays_out.ensures.stays t.lay h o rest n) slots id me p one is_pass node

pub returns-clause-unused : goal.returns-clause-unused
returns-clause-unused g c = λ t planting slots id me p at name one is_pass. lasting_unused g.S.Shape.allows t planting (λ h o rest n. c.unborn_stays_out.ensures.stays t.lay h o rest n) slots id me p one is_pass at name

pub returns-clause-loads : goal.returns-clause-loads
returns-clause-loads g c = λ t planting slots id me p name word one is_pass. lasting_loads g.S.Shape.allows t planting (λ h o rest n. c.unborn_stays_out.ensures.stays t.lay h o rest n) slots id me p one is_pass name word

pub returns-clause-left : goal.returns-clause-left
returns-clause-left g c = λ t planting slots id me p at node m one is_pass. lasting_left g.S.Shape.allows t planting (λ h o rest n. c.unborn_stays_out.ensures.stays t.lay h o rest n) slots id me p one is_pass at node m
