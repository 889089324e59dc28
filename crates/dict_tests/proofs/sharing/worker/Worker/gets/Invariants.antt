use Rattle.std.proofs.Common.{◌≡◌}
use Rattle.dict_tests.proofs.sharing.worker.Worker.gets.Given as goal

abbrev pub invariant-loop-key : goal.invariant-loop-key
invariant-loop-key g l = l.self.forest.now ≡ l.initial.self.forest.now
