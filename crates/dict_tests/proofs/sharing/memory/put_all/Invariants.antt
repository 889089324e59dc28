use Rattle.tables.specs.Passes.{IsOf}
use Rattle.dict_tests.proofs.sharing.memory.put_all.Given as goal

abbrev pub invariant-loop-key : goal.invariant-loop-key
invariant-loop-key l = IsOf l.forest l.pass
