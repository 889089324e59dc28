use Rattle.std.proofs.Common.{sym, ◌∙◌}
use Rattle.order.proofs.Finding.{leaves_low, leaves_past, leaves_to, stands_next, takes_pair}
use Rattle.order.proofs.neighbour.NeighbourRead.pair_on.Goals as goal

pub returns-then-is_answer-clause-goes_on : goal.returns-then-is_answer-clause-goes_on
returns-then-is_answer-clause-goes_on c snaps d h reading own x is = takes_pair c.args.self.now snaps d h c.args.place c.args.key reading x is (sym c.is_answer.ensures ∙ c.if-is_answer.true)

pub returns-then-is_past-clause-goes_on : goal.returns-then-is_past-clause-goes_on
returns-then-is_past-clause-goes_on c snaps d h reading own x is = rw (c.leave.ensures.new, c.leave.ensures.next) (leaves_to c.args.self.now c.args.place.node snaps d h reading (leaves_past c.args.self.now snaps d h c.args.place c.args.key reading x is own (sym c.is_answer.ensures ∙ c.if-is_answer.false) (sym c.is_past.ensures ∙ c.if-is_past.true)))

pub returns-in-Some-clause-goes_on : goal.returns-in-Some-clause-goes_on
returns-in-Some-clause-goes_on c snaps d h reading own x is = rw c.at-self.ensures (stands_next c.args.self.now snaps d h c.args.place c.args.key reading x is own (sym c.is_answer.ensures ∙ c.if-is_answer.false) (sym c.is_past.ensures ∙ c.if-is_past.false) c.in-Some.next (sym c.behind.ensures ∙ c.in-Some.is))

pub returns-in-None-clause-goes_on : goal.returns-in-None-clause-goes_on
returns-in-None-clause-goes_on c snaps d h reading own x is = rw (c.leave-in-None.ensures.new, c.leave-in-None.ensures.next, c.at-self.ensures) (leaves_low c.args.self.now snaps d h c.args.place c.args.key reading x is own (sym c.is_answer.ensures ∙ c.if-is_answer.false) (sym c.is_past.ensures ∙ c.if-is_past.false) (sym c.behind.ensures ∙ c.in-None.is))
