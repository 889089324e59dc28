use Rattle.std.proofs.Common.{inl, inr, sym, ap, ◌∙◌, arith}
use Rattle.ordered_map.specs.OrderedMap.{ManyPairs}
use Rattle.order.proofs.RangeVisits.{begins_at_root, begins_near, takes_nothing}
use Rattle.order.proofs.range.RangeRead.begin.Goals as goal

pub returns-then-self-eq0-clause-begins : goal.returns-then-self-eq0-clause-begins
returns-then-self-eq0-clause-begins c = ((λ asks. let some = asks.0 in let none = c.if-self-eq0.true in omega (arith, some, none)), λ map. ap ManyPairs (takes_nothing _ _ _ (inl c.if-self-eq0.true) map ∙ sym c.new.ensures.items))

pub returns-then-self-clause-begins : goal.returns-then-self-clause-begins
returns-then-self-clause-begins c = ((λ asks. let ordered = asks.1 in let none = c.if-self.true in omega (arith, ordered, none)), λ map. ap ManyPairs (takes_nothing _ _ _ (inr c.if-self.true) map ∙ sym c.new-then-self.ensures.items))

pub returns-clause-begins : goal.returns-clause-begins
returns-clause-begins c = begins_at_root (record c.args.self.now { waiting = c.clear.new.self; taken = c.clear-2.new.self; leaves = c.saturating_add-self.result }) (let i = c.if-self-eq0.false in omega (arith, i)) c.if-self.false c.clear.ensures.items c.clear-2.ensures.items c.saturating_add-self.ensures

pub returns-clause-nearer : goal.returns-clause-nearer
returns-clause-nearer c nodes = begins_near c.args.self.now.most c.saturating_add-self.result _ c.saturating_add-self.ensures
