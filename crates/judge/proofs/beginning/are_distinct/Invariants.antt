use Rattle.std.proofs.Common.{◌≢◌, ℕ, ◌<◌}
use Rattle.arena.specs.ScxRecords.{member}
use Rattle.judge.specs.Histories.{seen_history}
use Rattle.judge.proofs.beginning.are_distinct.Given as goal

abbrev pub invariant-loop-place : goal.invariant-loop-place
invariant-loop-place l = (j : ℕ) → j < l.place → (k : ℕ) → k < l.count → j ≢ k → member (seen_history l.judge) l.scx j ≢ member (seen_history l.judge) l.scx k
