use Rattle.regnubas.specs.Passes.{IsOf}
use Rattle.broker.proofs.work.Given as goal

abbrev pub invariant-loop-message : goal.invariant-loop-message
invariant-loop-message l = IsOf l.table l.pass
