use Rattle.std.proofs.Common.{sym, ◌∙◌, arith}
use Rattle.order.proofs.RangeVisits.{leaf_behind, stands_next, taken_all}
use Rattle.order.proofs.range.Range.go_on.Goals as goal

pub returns-then-len-self-clause-goes_on : goal.returns-then-len-self-clause-goes_on
returns-then-len-self-clause-goes_on c snaps d h x = taken_all c.args.self.now snaps d h c.args.place x (rw (c.len.ensures ∙ c.args.self.now.taken.ok.0) at c.if-len-self.true)

pub returns-in-Some-clause-goes_on : goal.returns-in-Some-clause-goes_on
returns-in-Some-clause-goes_on c snaps d h x = stands_next c.args.self.now snaps d h c.args.place x (rw (c.len.ensures ∙ c.args.self.now.taken.ok.0) at c.if-len-self.false) c.in-Some.place (sym c.behind.ensures ∙ c.in-Some.is)

pub returns-in-None-clause-goes_on : goal.returns-in-None-clause-goes_on
returns-in-None-clause-goes_on c snaps d h x = c.visited.ensures.goes_on snaps d h (leaf_behind c.args.self.now snaps d h c.args.place x (rw (c.len.ensures ∙ c.args.self.now.taken.ok.0) at c.if-len-self.false) (sym c.behind.ensures ∙ c.in-None.is))

pub returns-in-None-clause-nearer : goal.returns-in-None-clause-nearer
returns-in-None-clause-nearer c nodes = let n = c.visited.ensures.nearer nodes in let i = n.1 in (n.0, omega (arith, i))
