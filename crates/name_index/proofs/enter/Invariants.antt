use Rattle.regnubas.specs.Passes.{IsOf}
use Rattle.name_index.proofs.enter.Given as goal

abbrev pub invariant-loop-ask : goal.invariant-loop-ask
invariant-loop-ask l = IsOf l.index l.pass
