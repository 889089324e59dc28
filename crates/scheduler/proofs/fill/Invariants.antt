use Rattle.regnubas.specs.Passes.{IsOf}
use Rattle.scheduler.proofs.fill.Given as goal

abbrev pub invariant-loop-at : goal.invariant-loop-at
invariant-loop-at l = IsOf l.queue l.pass
