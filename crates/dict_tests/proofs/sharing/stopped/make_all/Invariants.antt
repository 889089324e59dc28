use Rattle.tables.specs.Passes.{IsOf}
use Rattle.dict_tests.proofs.sharing.stopped.make_all.Given as goal

abbrev pub invariant-loop-edit : goal.invariant-loop-edit
invariant-loop-edit l = IsOf l.forest l.pass
