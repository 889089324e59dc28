use Rattle.regnubas.specs.Passes.{IsOf}
use Rattle.turnover.proofs.keep_turning.Given as goal

abbrev pub invariant-loop-at : goal.invariant-loop-at
invariant-loop-at l = IsOf l.stock l.pass
