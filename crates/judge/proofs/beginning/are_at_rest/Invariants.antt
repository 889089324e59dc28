use Rattle.std.proofs.Common.{◌≢◌, ℕ, ◌<◌}
use Rattle.histories.specs.Common.{value, seen, state}
use Rattle.judge.specs.Histories.{seen_history}
use Rattle.judge.proofs.beginning.are_at_rest.Given as goal

abbrev pub invariant-loop-place : goal.invariant-loop-place
invariant-loop-place l = (j : ℕ) → j < l.place → value (seen_history l.judge) (state (seen (seen_history l.judge) l.scx j)) ≢ 0
