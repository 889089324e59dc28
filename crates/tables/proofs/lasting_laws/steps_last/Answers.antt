use Rattle.tables.proofs.LastingMoves.{lasting_moves}
use Rattle.tables.proofs.lasting_laws.steps_last.Goals as goal

pub returns : goal.returns
returns g c = λ t planting slots id me said at f told p maps is after tells. lasting_moves g.S.Shape.allows t planting (λ h q rest n. c.unborn_stays_out.ensures.stays t.lay h q rest n) maps slots id me said at f told is after tells p
