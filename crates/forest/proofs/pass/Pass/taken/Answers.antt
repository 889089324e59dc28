use Rattle.std.proofs.Common.{ap}
use Rattle.tables.specs.Passes.{taken_of}
use Rattle.forest.proofs.pass.Pass.taken.Goals as goal

pub returns : goal.returns
returns g c = rw (c.next.ensures.1, c.self.invariant.0.first_is) (ap taken_of c.self.view_is)
