use Rattle.std.proofs.Common.{ℕ, ◌<◌}
use Rattle.arena.specs.Lawful.{IsFreeze}
use Rattle.judge.specs.Histories.{seen_history}
use Rattle.judge.proofs.exchanges.is_freeze_for.Given as goal

abbrev pub invariant-loop-place : goal.invariant-loop-place
invariant-loop-place l = (k : ℕ) → k < l.place → ¬ IsFreeze l.judge.layout (seen_history l.judge) l.row l.scx k
