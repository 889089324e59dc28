use Rattle.std.proofs.Common.{ℕ, ◌<◌}
use Rattle.histories.specs.Common.{all_nodes, member}
use Rattle.judge.specs.Histories.{seen_history}
use Rattle.judge.proofs.beginning.are_inside.Given as goal

abbrev pub invariant-loop-place : goal.invariant-loop-place
invariant-loop-place l = (j : ℕ) → j < l.place → member (seen_history l.judge) l.scx j < all_nodes l.judge.layout
