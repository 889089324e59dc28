use Rattle.regnubas.specs.Passes.{IsOf}
use Rattle.name_index.proofs.read.Given as goal

abbrev pub invariant-loop-round : goal.invariant-loop-round
invariant-loop-round l = IsOf l.index l.pass
