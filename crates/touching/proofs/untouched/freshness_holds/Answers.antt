use Rattle.touching.proofs.Fresh.{final_covered, finished_named}
use Rattle.arena.proofs.Lemmas.{ends_self}
use Rattle.touching.proofs.Left.{left_covered}
use Rattle.touching.proofs.untouched.freshness_holds.Goals as goal

pub returns-clause-nodes : goal.returns-clause-nodes
returns-clause-nodes g = λ c h n l since. final_covered c h l since n

pub returns-clause-scx : goal.returns-clause-scx
returns-clause-scx g = λ c h s l since. finished_named c h l since s

pub returns-clause-left : goal.returns-clause-left
returns-clause-left g = λ c h n run began gone taken. left_covered c h c.start n run began (ends_self c.start) gone taken
