use Rattle.touching.proofs.Dead.{dead_node, dead_scx, left_named}
use Rattle.touching.proofs.Left.{left_or_final, left_scx, left_untouched}
use Rattle.touching.proofs.untouched.dead_is_untouched.Goals as goal

pub returns-clause-nodes : goal.returns-clause-nodes
returns-clause-nodes g = dead_node

pub returns-clause-scx : goal.returns-clause-scx
returns-clause-scx g = dead_scx

pub returns-clause-leaves : goal.returns-clause-leaves
returns-clause-leaves g = λ c h t n run began after gone mark taken. left_untouched c h t n run began after gone taken mark

pub returns-clause-unnamed : goal.returns-clause-unnamed
returns-clause-unnamed g = left_scx

pub returns-clause-look : goal.returns-clause-look
returns-clause-look g = left_named

pub returns-clause-look_left : goal.returns-clause-look_left
returns-clause-look_left g = left_or_final
