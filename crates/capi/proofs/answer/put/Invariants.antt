use Rattle.std.proofs.Common.{◌≡◌, ◌≤◌, ◌<◌, ◌-◌, ℕ, length, vec_len, slice_get, Some}
use Rattle.std.specs.Option.{option_map}
use Rattle.capi.specs.Answers.{pair_of}
use Rattle.capi.proofs.answer.put.Given as goal

abbrev pub invariant-loop-i : goal.invariant-loop-i
invariant-loop-i l = record {
  same : length l.room ≡ length l.initial.room;
  inside : l.i ≤ vec_len l.pairs;
  put : (j : ℕ) (p : ℕ × ℕ) → j < l.i → slice_get l.pairs.items j ≡ Some p → option_map pair_of (slice_get l.room j) ≡ Some p;
}

abbrev pub decreases-loop-i : goal.decreases-loop-i
decreases-loop-i l = vec_len l.pairs - l.i
