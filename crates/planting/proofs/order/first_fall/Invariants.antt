use Rattle.planting.specs.Orders.{AreStepsUp}
use Rattle.planting.proofs.order.first_fall.Given as goal

abbrev pub invariant-loop-at : goal.invariant-loop-at
invariant-loop-at l = AreStepsUp l.pairs l.at
