-- What the fault of an audit says of the row that it names.
use Rattle.std.specs.Prelude.{ℕ, ◌+◌, ◌-◌, ◌≤◌, length, reverse, take}
use Rattle.record.specs.declared.record.Record.{Record}
use Rattle.record.specs.LawfulRun.{AreLines}

-- the row of the first line in the record's report: before it are those of the format, of the
-- limits and of the calls
abbrev pub first_row : Record → ℕ
first_row r = length r.script.calls.items + 3

-- The row is that of a line of the run, or the one after the last, and all lines before it fit.
pub record MayBeAtFault (r : Record) (row : ℕ) : Type 0 where
  pub of_line : first_row r ≤ row
  pub within : row ≤ first_row r + length r.lines.items
  pub fit : AreLines r.script.layout r.script.limits.tries r.script.calls.items (reverse (take (row - first_row r) r.lines.items))
