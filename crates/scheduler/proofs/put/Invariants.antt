use Rattle.regnubas.specs.Passes.{IsOf}
use Rattle.scheduler.proofs.put.Given as goal

abbrev pub invariant-loop-ask : goal.invariant-loop-ask
invariant-loop-ask l = IsOf l.queue l.pass
