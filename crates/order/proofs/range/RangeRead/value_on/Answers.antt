use Rattle.order.proofs.RangeVisits.{pair_taken}
use Rattle.order.proofs.range.RangeRead.value_on.Goals as goal

pub returns-then-push_onto-clause-goes_on : goal.returns-then-push_onto-clause-goes_on
returns-then-push_onto-clause-goes_on c snaps d h reading own x is =
    c.go_on.ensures.goes_on snaps d h (pair_taken c.args.self.now snaps d h c.args.place c.args.pair c.push_onto.new.list own x is (rw c.if-push_onto.true at c.push_onto.ensures))
