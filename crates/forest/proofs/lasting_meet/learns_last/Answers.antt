use Rattle.forest.proofs.LastingLearns.{lasting_learns}
use Rattle.forest.proofs.lasting_meet.learns_last.Goals as goal

pub returns : goal.returns
returns g c = lasting_learns g.S.Shape.allows
