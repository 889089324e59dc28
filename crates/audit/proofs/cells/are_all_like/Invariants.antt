use Rattle.std.proofs.Common.{◌≡◌, ℕ, ◌<◌, slice_get, Some, true}
use Rattle.audit.proofs.cells.are_all_like.Given as goal

abbrev pub invariant-loop-place : goal.invariant-loop-place
invariant-loop-place l = (i : ℕ) → i < l.place → slice_get l.same i ≡ Some true
