use Rattle.touching.proofs.Left.{left_since}
use Rattle.touching.proofs.Reaching.{reached_there}
use Rattle.touching.proofs.untouched.left_stays_out.Goals as goal

pub returns-clause-out : goal.returns-clause-out
returns-clause-out g = left_since

pub returns-clause-reached : goal.returns-clause-reached
returns-clause-reached g = λ lay h s n run going unwon. reached_there lay h run s going unwon n
