use Rattle.regnubas.specs.Passes.{IsOf}
use Rattle.broker.proofs.count.Given as goal

abbrev pub invariant-loop-ask : goal.invariant-loop-ask
invariant-loop-ask l = IsOf l.table l.pass
