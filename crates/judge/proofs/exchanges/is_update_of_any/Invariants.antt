use Rattle.std.proofs.Common.{ℕ, ◌<◌}
use Rattle.arena.specs.Lawful.{IsUpdate}
use Rattle.judge.specs.Histories.{seen_history}
use Rattle.judge.proofs.exchanges.is_update_of_any.Given as goal

abbrev pub invariant-loop-scx : goal.invariant-loop-scx
invariant-loop-scx l = (s : ℕ) → s < l.scx → ¬ IsUpdate (seen_history l.judge) l.row s
