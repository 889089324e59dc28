use Rattle.std.proofs.Common.{ℕ, ◌<◌}
use Rattle.arena.specs.Lawful.{IsFreeze}
use Rattle.judge.specs.Histories.{seen_history}
use Rattle.judge.proofs.exchanges.is_freeze_for_any.Given as goal

abbrev pub invariant-loop-scx : goal.invariant-loop-scx
invariant-loop-scx l = (s j : ℕ) → s < l.scx → ¬ IsFreeze l.judge.layout (seen_history l.judge) l.row s j
