use Rattle.touching.specs.Kinds.{IsNotFinal}
use Rattle.touching.proofs.Changing.{scx_touches, vlx_touches}
use Rattle.touching.proofs.Helping.{help_touches}
use Rattle.touching.proofs.Looking.{llx_touches}
use Rattle.touching.proofs.laws.parts_touch.Goals as goal

pub returns-clause-help : goal.returns-clause-help
returns-clause-help g c = help_touches IsNotFinal g.S.Shape.allows

pub returns-clause-llx : goal.returns-clause-llx
returns-clause-llx g c = llx_touches IsNotFinal g.S.Shape.allows

pub returns-clause-vlx : goal.returns-clause-vlx
returns-clause-vlx g c = vlx_touches IsNotFinal

pub returns-clause-scx : goal.returns-clause-scx
returns-clause-scx g c = scx_touches IsNotFinal g.S.Shape.allows
