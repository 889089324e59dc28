use Rattle.regnubas.specs.Passes.{IsOf}
use Rattle.broker.proofs.open_all.Given as goal

abbrev pub invariant-loop-topic : goal.invariant-loop-topic
invariant-loop-topic l = IsOf l.table l.pass
