use Rattle.order.proofs.RangeVisits.{both_go, left_goes, right_goes}
use Rattle.order.proofs.range.RangeRead.looked.Goals as goal

pub returns-then-push_onto-clause-goes_on : goal.returns-then-push_onto-clause-goes_on
returns-then-push_onto-clause-goes_on c = rw c.in-Both.is (both_go c.args.self.now c.args.left c.args.right c.push_onto.new.list (rw c.if-push_onto.true at c.push_onto.ensures))

pub returns-in-Left-clause-goes_on : goal.returns-in-Left-clause-goes_on
returns-in-Left-clause-goes_on c = rw c.in-Left.is (left_goes c.args.self.now c.args.left c.args.right)

pub returns-in-Right-clause-goes_on : goal.returns-in-Right-clause-goes_on
returns-in-Right-clause-goes_on c = rw c.in-Right.is (right_goes c.args.self.now c.args.left c.args.right)
