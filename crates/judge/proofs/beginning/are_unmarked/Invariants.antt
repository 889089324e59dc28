use Rattle.std.proofs.Common.{◌≡◌, ℕ, ◌<◌}
use Rattle.histories.specs.Common.{value, member, seen, info, marked}
use Rattle.judge.specs.Histories.{seen_history}
use Rattle.judge.proofs.beginning.are_unmarked.Given as goal

abbrev pub invariant-loop-place : goal.invariant-loop-place
invariant-loop-place l = (j : ℕ) → j < l.place → value (seen_history l.judge) (info (member (seen_history l.judge) l.scx j)) ≡ seen (seen_history l.judge) l.scx j → value (seen_history l.judge) (marked (member (seen_history l.judge) l.scx j)) ≡ 0
