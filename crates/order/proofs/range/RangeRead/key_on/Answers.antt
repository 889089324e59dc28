use Rattle.order.proofs.RangeVisits.{low_looks}
use Rattle.order.proofs.range.RangeRead.key_on.Goals as goal

pub returns-clause-goes_on : goal.returns-clause-goes_on
returns-clause-goes_on c snaps d h reading own x is = low_looks c.args.self.now snaps d h c.children-children.result c.args.level c.args.node.0 c.args.key reading x is (c.children-children.ensures x.stands.asks.1)
