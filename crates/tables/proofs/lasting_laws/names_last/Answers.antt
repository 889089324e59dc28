use Rattle.tables.proofs.LastingOpens.{lasting_opens}
use Rattle.tables.proofs.LastingTakes.{lasting_next_node, lasting_next_scx, lasting_nodes, lasting_scx}
use Rattle.tables.proofs.lasting_laws.names_last.Goals as goal

pub returns-clause-opens : goal.returns-clause-opens
returns-clause-opens g c = lasting_opens g.S.Shape.allows

pub returns-clause-nodes : goal.returns-clause-nodes
returns-clause-nodes g c = λ t planting slots id me p at count left slot one. lasting_nodes g.S.Shape.allows t planting (λ h o rest n. c.unborn_stays_out.ensures.stays t.lay h o rest n) slots id me p one at count left slot

pub returns-clause-scx : goal.returns-clause-scx
returns-clause-scx g c = λ t planting slots id me p at count left slot one. lasting_scx g.S.Shape.allows t planting (λ h o rest n. c.unborn_stays_out.ensures.stays t.lay h o rest n) slots id me p one at count left slot

pub returns-clause-next_node : goal.returns-clause-next_node
returns-clause-next_node g c = λ t planting slots id me p at left slot one. lasting_next_node g.S.Shape.allows t planting (λ h o rest n. c.unborn_stays_out.ensures.stays t.lay h o rest n) slots id me p one at left slot

pub returns-clause-next_scx : goal.returns-clause-next_scx
returns-clause-next_scx g c = λ t planting slots id me p at left slot one. lasting_next_scx g.S.Shape.allows t planting (λ h o rest n. c.unborn_stays_out.ensures.stays t.lay h o rest n) slots id me p one at left slot
