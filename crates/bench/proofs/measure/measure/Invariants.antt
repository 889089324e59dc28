use Rattle.std.proofs.Common.{◌≡◌, length}
use Rattle.bench.proofs.measure.measure.Given as goal

abbrev pub invariant-loop-time : goal.invariant-loop-time
invariant-loop-time g l = length l.runs.items ≡ l._time
