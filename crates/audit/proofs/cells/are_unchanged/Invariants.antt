use Rattle.std.proofs.Common.{ℕ, ◌<◌, get_or, Option}
use Rattle.arena.specs.History.{History}
use Rattle.record.specs.Answers.{IsAsSnapped}
use Rattle.judge.specs.Histories.{seen_history}
use Rattle.audit.specs.Remembered.{AreSnapshotsOf}
use Rattle.audit.proofs.cells.are_unchanged.Given as goal

abbrev pub invariant-loop-cell : goal.invariant-loop-cell
invariant-loop-cell l = (linked : ℕ → Option History) → AreSnapshotsOf l.judge.layout (seen_history l.judge) l.memory linked → (i : ℕ) → i < l.cell-index → IsAsSnapped l.judge.layout (seen_history l.judge) linked (get_or l.cells i 0)
