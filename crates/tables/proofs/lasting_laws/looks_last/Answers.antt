use Rattle.tables.proofs.LastingLooks.{lasting_looks, lasting_polls}
use Rattle.tables.proofs.LastingNotes.{lasting_notes}
use Rattle.tables.proofs.lasting_laws.looks_last.Goals as goal

pub returns-clause-first : goal.returns-clause-first
returns-clause-first g c = λ t planting slots id me p q one. lasting_looks g.S.Shape.allows t planting (λ h o rest n. c.unborn_stays_out.ensures.stays t.lay h o rest n) slots id me p one q

pub returns-clause-again : goal.returns-clause-again
returns-clause-again g c = λ t planting slots id me p poll seen one. lasting_polls g.S.Shape.allows t planting (λ h o rest n. c.unborn_stays_out.ensures.stays t.lay h o rest n) slots id me p one poll seen

pub returns-clause-notes : goal.returns-clause-notes
returns-clause-notes g c = λ t planting slots id me p at since chosen one. let dead = c.dead_comes_back.ensures in let notes = c.notes_hold.ensures in
    lasting_notes g.S.Shape.allows t planting (λ h o rest n. c.unborn_stays_out.ensures.stays t.lay h o rest n)
    record { marked = dead.marked t.lay; finalized = dead.finalized t.lay; period = notes.period t.lay; first = notes.first t.lay; second = notes.second t.lay }
    slots id me p one at since chosen
