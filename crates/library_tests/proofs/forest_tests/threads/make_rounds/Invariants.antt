use Rattle.tables.specs.Passes.{IsOf}
use Rattle.library_tests.proofs.forest_tests.threads.make_rounds.Given as goal

abbrev pub invariant-loop-round : goal.invariant-loop-round
invariant-loop-round l = IsOf l.forest l.pass
