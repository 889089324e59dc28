use Rattle.order.proofs.Finding.{low_looks}
use Rattle.order.proofs.neighbour.NeighbourRead.key_on.Goals as goal

pub returns-clause-goes_on : goal.returns-clause-goes_on
returns-clause-goes_on c snaps d h reading own x is = rw (c.children-children.ensures, c.turn.ensures) (low_looks c.args.self.now snaps d h c.args.level c.args.node c.args.key reading x is)
