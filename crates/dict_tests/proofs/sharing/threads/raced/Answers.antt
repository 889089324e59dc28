use Rattle.forest.proofs.Crowds.{new_are_of}
use Rattle.dict_tests.proofs.sharing.threads.raced.Goals as goal

pub worked-requires-after_bounds : goal.worked-requires-after_bounds
worked-requires-after_bounds g c κs within = new_are_of _ _ c.in-Ok.ensures.passes
