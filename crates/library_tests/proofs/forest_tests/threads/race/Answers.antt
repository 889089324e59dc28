use Rattle.forest.proofs.Crowds.{new_are_of}
use Rattle.library_tests.proofs.forest_tests.threads.race.Goals as goal

-- the passes of a new forest are its own
pub crowd-requires-after_bounds : goal.crowd-requires-after_bounds
crowd-requires-after_bounds g c κs within = new_are_of _ _ c.in-Ok.ensures.passes
