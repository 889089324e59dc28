use Rattle.std.proofs.Common.{◌≡◌, ◌≤◌, take}
use Rattle.report.specs.Report.{entries_in, replies_in, steps_in}
use Rattle.report.proofs.totals.Totals.of.Given as goal

abbrev pub invariant-loop-line : goal.invariant-loop-line
invariant-loop-line l = record {
  steps : l.totals.steps ≡ steps_in (take l.line-index l.lines);
  replies : l.totals.replies ≡ replies_in (take l.line-index l.lines);
  entries : l.totals.entries ≡ entries_in (take l.line-index l.lines);
  few_steps : l.totals.steps ≤ l.line-index;
  few_replies : l.totals.replies ≤ l.line-index;
  few_entries : l.totals.entries ≤ l.line-index;
}
