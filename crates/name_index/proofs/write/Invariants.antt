use Rattle.regnubas.specs.Passes.{IsOf}
use Rattle.name_index.proofs.write.Given as goal

abbrev pub invariant-loop-name : goal.invariant-loop-name
invariant-loop-name l = IsOf l.index l.pass
