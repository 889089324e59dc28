use Rattle.std.proofs.Common.{◌≡◌, ◌≤◌, ℕ, ◌-◌, ◌+◌, All, List, [], ◌++◌, map, reverse, vec_len}
use Rattle.report.specs.Counts.{HasCounted}
use Rattle.report.specs.Spellings.{IsReported}
use Rattle.texts.specs.Reads.{IsAtRow}
use Rattle.report.specs.Report.{call_rows, seven}
use Rattle.report.proofs.read_call.calls_of.Given as goal

abbrev pub invariant-loop-layout : goal.invariant-loop-layout
invariant-loop-layout g l = record {
  few : vec_len l.calls ≤ 65536;
  accepted : All (IsReported l.version l.layout.mode l.layout.passes) l.calls.items;
  counted : HasCounted l.counts (reverse l.calls.items);
  number : l.fn.rows.number ≡ 3 → l.rows.number ≡ 3 + vec_len l.calls;
  rows : (bytes : List ℕ) (before : List (List (List ℕ))) → IsAtRow g.R.Read.remaining bytes before 7 l.fn.rows
      → IsAtRow g.R.Read.remaining bytes (before ++ map seven (call_rows [] l.calls.items)) 7 l.rows;
}

abbrev pub decreases-loop-layout : goal.decreases-loop-layout
decreases-loop-layout g l = 65536 - vec_len l.calls
