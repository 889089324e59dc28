use Rattle.tables.proofs.LastingSlots.{lasting_clears, lasting_gives_back, lasting_lets_go}
use Rattle.tables.proofs.lasting_laws.slots_last.Goals as goal

pub returns-clause-lets_go : goal.returns-clause-lets_go
returns-clause-lets_go g c = λ t planting slots id me p at name one. lasting_lets_go g.S.Shape.allows t planting (λ h o rest n. c.unborn_stays_out.ensures.stays t.lay h o rest n) slots id me p one at name

pub returns-clause-zeros : goal.returns-clause-zeros
returns-clause-zeros g c = λ t planting slots id me p word slot one. lasting_clears g.S.Shape.allows t planting (λ h o rest n. c.unborn_stays_out.ensures.stays t.lay h o rest n) slots id me p one word slot

pub returns-clause-gives_back : goal.returns-clause-gives_back
returns-clause-gives_back g c = λ t planting slots id me p at name left one. lasting_gives_back g.S.Shape.allows t planting (λ h o rest n. c.unborn_stays_out.ensures.stays t.lay h o rest n) slots id me p one at name left
