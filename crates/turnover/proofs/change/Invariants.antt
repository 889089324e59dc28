use Rattle.regnubas.specs.Passes.{IsOf}
use Rattle.turnover.proofs.change.Given as goal

abbrev pub invariant-loop-ask : goal.invariant-loop-ask
invariant-loop-ask l = IsOf l.stock l.pass
