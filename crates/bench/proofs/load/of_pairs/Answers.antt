use Rattle.forest.proofs.Crowds.{new_are_of}
use Rattle.bench.proofs.load.of_pairs.Goals as goal

pub returns-in-Ok : goal.returns-in-Ok
returns-in-Ok g c = new_are_of c.in-Ok.opened.0 c.in-Ok.opened.1.items c.in-Ok.ensures.passes
