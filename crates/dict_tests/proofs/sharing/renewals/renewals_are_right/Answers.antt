use Rattle.forest.proofs.Crowds.{new_are_of}
use Rattle.dict_tests.proofs.sharing.renewals.renewals_are_right.Goals as goal

pub loop-time-init : goal.loop-time-init
loop-time-init g c = new_are_of _ _ c.in-Ok.ensures.passes
