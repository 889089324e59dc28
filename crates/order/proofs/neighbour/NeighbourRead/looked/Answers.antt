use Rattle.order.proofs.Finding.{below_near, goes_to}
use Rattle.order.proofs.neighbour.NeighbourRead.looked.Goals as goal

pub returns-clause-goes_on : goal.returns-clause-goes_on
returns-clause-goes_on c = rw (c.below-self.ensures, c.ways-aside.ensures) (goes_to c.args.self.now c.args.children c.args.left c.args.right)

pub returns-clause-nearer : goal.returns-clause-nearer
returns-clause-nearer c nodes = rw c.below-self.ensures (below_near c.args.self.now.route _ nodes)
