use Rattle.std.proofs.Common.{inl, inr, refl, sym, ◌∙◌, subst, arith}
use Rattle.order.specs.Range.{GoesBehind}
use Rattle.order.proofs.RangeVisits.{next_path, next_visited, none_left, visits_end}
use Rattle.order.proofs.range.Range.visited.Goals as goal

pub returns-then-self-eq0-clause-goes_on : goal.returns-then-self-eq0-clause-goes_on
returns-then-self-eq0-clause-goes_on c snaps d h x = visits_end c.args.self.now snaps d h _ x _ refl refl refl refl (inr (sym c.saturating_sub-self.ensures ∙ c.if-self-eq0.true))

pub returns-in-None-clause-goes_on : goal.returns-in-None-clause-goes_on
returns-in-None-clause-goes_on c snaps d h x = visits_end c.args.self.now snaps d h _ x _ refl refl refl refl (inl (none_left _ (sym c.args.self.now.waiting.ok.0 ∙ c.in-None.ensures.cases.0)))

pub returns-in-Some-clause-goes_on : goal.returns-in-Some-clause-goes_on
returns-in-Some-clause-goes_on c snaps d h x = next_visited c.args.self.now snaps d h c.saturating_sub-self.result (subst (GoesBehind c.args.self.now snaps d h) (sym c.saturating_sub-self.ensures) x) c.in-Some.node c.pop.new.self c.in-Some.ensures.items

pub returns-in-Some-clause-nearer : goal.returns-in-Some-clause-nearer
returns-in-Some-clause-nearer c nodes = (omega arith, rw c.saturating_sub-self.ensures (next_path _ _ (rw c.saturating_sub-self.ensures at c.if-self-eq0.false)))
