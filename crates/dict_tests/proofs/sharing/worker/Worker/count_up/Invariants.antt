use Rattle.std.proofs.Common.{◌≡◌}
use Rattle.dict_tests.proofs.sharing.worker.Worker.count_up.Given as goal

abbrev pub invariant-loop-ask : goal.invariant-loop-ask
invariant-loop-ask g l = l.self.forest.now ≡ l.initial.self.forest.now
