use Rattle.std.proofs.Common.{arith, refl}
use Rattle.planting.proofs.Orders.{rises, steps_more, not_rising}
use Rattle.planting.proofs.order.first_fall.Goals as goal

pub loop-at-init : goal.loop-at-init
loop-at-init c = λ i l inside. absurd (omega (arith, l))

pub loop-at-preserved : goal.loop-at-preserved
loop-at-preserved c = steps_more c.args.pairs.now c.loop-at.at c.loop-at.invariant c.loop-at.auto.at c.if-pairs-at.false

pub returns-then-pairs-at-clause-none : goal.returns-then-pairs-at-clause-none
returns-then-pairs-at-clause-none c = ((λ z. absurd (cc)), (λ up. absurd (not_rising c.args.pairs.now c.loop-at.at c.loop-at.auto.at c.loop-at-test.true c.if-pairs-at.true up)))

pub returns-then-pairs-at-clause-place : goal.returns-then-pairs-at-clause-place
returns-then-pairs-at-clause-place c = record { some = c.loop-at.auto.at; inside = c.loop-at-test.true; falls = c.if-pairs-at.true; first = c.loop-at.invariant }

pub returns-clause-none : goal.returns-clause-none
returns-clause-none c = ((λ _. rises c.args.pairs.now (λ i l. c.loop-at.invariant i (let past = c.loop-at-test.false in omega (arith, l, past)) l)), λ _. refl)
