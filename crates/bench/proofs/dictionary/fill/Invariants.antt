use Rattle.tables.specs.Passes.{IsOf}
use Rattle.bench.proofs.dictionary.fill.Given as goal

abbrev pub invariant-loop-draw : goal.invariant-loop-draw
invariant-loop-draw g l = IsOf l.forest l.pass
