use Rattle.std.proofs.Common.{refl}
use Rattle.order.specs.declared.neighbour.Route.TheVariants.{Above}
use Rattle.order.proofs.Finding.{walks_to}
use Rattle.order.proofs.neighbour.NeighbourRead.begin.Goals as goal

pub returns-clause-begins : goal.returns-clause-begins
returns-clause-begins c = rw c.opposite-side.ensures (walks_to (record c.args.self.now { route = Above }) refl)
