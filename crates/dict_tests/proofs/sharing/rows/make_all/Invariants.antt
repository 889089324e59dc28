use Rattle.tables.specs.Passes.{IsOf}
use Rattle.dict_tests.proofs.sharing.rows.make_all.Given as goal

abbrev pub invariant-loop-call : goal.invariant-loop-call
invariant-loop-call g l = IsOf l.forest l.pass
