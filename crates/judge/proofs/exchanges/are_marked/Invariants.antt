use Rattle.std.proofs.Common.{◌≡◌, ℕ, ◌<◌, true}
use Rattle.histories.specs.Common.{value, member, scx_finalizes, marked}
use Rattle.judge.specs.Histories.{seen_history}
use Rattle.judge.proofs.exchanges.are_marked.Given as goal

abbrev pub invariant-loop-place : goal.invariant-loop-place
invariant-loop-place l = (j : ℕ) → j < l.place → scx_finalizes (seen_history l.judge) l.scx j ≡ true → value (seen_history l.judge) (marked (member (seen_history l.judge) l.scx j)) ≡ 1
