use Rattle.std.proofs.Common.{◌≡◌, ◌<◌, ℕ, take, length, slice_index}
use Rattle.runner.specs.Turns.{call_count}
use Rattle.runner.proofs.counts.counts.Given as goal

abbrev pub invariant-loop-call : goal.invariant-loop-call
invariant-loop-call l = record {
  long : length l.counts ≡ 32;
  each : (c : ℕ) → c < 32 → slice_index l.counts c ≡ call_count (take l.call-index l.calls) c;
}
