use Rattle.order.proofs.Finding.{tells_this}
use Rattle.order.proofs.neighbour.NeighbourRead.value_on.Goals as goal

pub returns-clause-goes_on : goal.returns-clause-goes_on
returns-clause-goes_on c snaps d h reading own x is = tells_this c.args.self.now snaps d h c.args._place c.args.pair reading own x is
