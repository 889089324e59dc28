use Rattle.std.proofs.Common.{◌≡◌}
use Rattle.dict_tests.proofs.sharing.worker.Worker.work.Given as goal

abbrev pub invariant-loop-call : goal.invariant-loop-call
invariant-loop-call g l = l.self.forest.now ≡ l.initial.self.forest.now
