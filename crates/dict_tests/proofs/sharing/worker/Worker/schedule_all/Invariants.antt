use Rattle.std.proofs.Common.{◌≡◌}
use Rattle.dict_tests.proofs.sharing.worker.Worker.schedule_all.Given as goal

abbrev pub invariant-loop-number : goal.invariant-loop-number
invariant-loop-number g l = l.self.forest.now ≡ l.initial.self.forest.now
