use Rattle.resting.proofs.Lookups.{absent_out, looked_up}
use Rattle.resting.proofs.laws.lookups_tell.Goals as goal

pub returns-clause-absent : goal.returns-clause-absent
returns-clause-absent g = absent_out

pub returns-clause-out : goal.returns-clause-out
returns-clause-out g = looked_up
