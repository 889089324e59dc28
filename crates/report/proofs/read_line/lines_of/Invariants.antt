use Rattle.std.proofs.Common.{◌≡◌, ◌≤◌, ℕ, ◌+◌, ◌-◌, ◌^◌, All, List, ◌++◌, length, map, reverse, vec_len}
use Rattle.report.specs.Answers.{HasForm}
use Rattle.report.specs.Counts.{HasCountedReplies}
use Rattle.report.specs.Numbered.{AreNumbered}
use Rattle.report.specs.Spellings.{IsSpelledLine}
use Rattle.texts.specs.Reads.{IsAtRow, last_row}
use Rattle.report.specs.Report.{BeginsBehindCalls, IsCallRow, line_row, seven}
use Rattle.report.proofs.read_line.lines_of.Given as goal

abbrev pub invariant-loop-alloc : goal.invariant-loop-alloc
invariant-loop-alloc g l = record {
  counted : HasCountedReplies l.replies l.fn.passes (reverse l.lines.items);
  forms : All (HasForm l.fn.passes l.fn.calls) l.lines.items;
  calls : AreNumbered l.fn.passes (reverse l.lines.items);
  spelled : All (IsSpelledLine l.version) l.lines.items;
  number : l.fn.rows.number ≡ 3 + length l.fn.calls → length l.fn.calls ≤ 65536 → l.rows.number ≡ 3 + length l.fn.calls + vec_len l.lines;
  behind : (bytes : List ℕ) (before : List (List (List ℕ))) → IsAtRow g.R.Read.remaining bytes before 7 l.fn.rows → ¬ (IsCallRow (last_row l.fn.rows))
      → BeginsBehindCalls l.lines.items (last_row l.rows);
  rows : (bytes : List ℕ) (before : List (List (List ℕ))) → IsAtRow g.R.Read.remaining bytes before 7 l.fn.rows
      → IsAtRow g.R.Read.remaining bytes (before ++ map seven (map line_row l.lines.items)) 7 l.rows;
}

abbrev pub decreases-loop-alloc : goal.decreases-loop-alloc
decreases-loop-alloc g l = 2 ^ 64 - vec_len l.lines
