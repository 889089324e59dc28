use Rattle.std.proofs.Common.{◌≡◌}
use Rattle.bench.specs.Tally.{total}
use Rattle.bench.proofs.locked.rounds.Given as goal

abbrev pub invariant-loop-call : goal.invariant-loop-call
invariant-loop-call g l = total l.tally ≡ l.call
