use Rattle.std.proofs.Common.{◌≡◌}
use Rattle.dict_tests.proofs.sharing.worker.Worker.finds.Given as goal

abbrev pub invariant-loop-pair : goal.invariant-loop-pair
invariant-loop-pair g l = l.self.forest.now ≡ l.initial.self.forest.now
