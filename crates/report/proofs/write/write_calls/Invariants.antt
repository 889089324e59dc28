use Rattle.std.proofs.Common.{◌≡◌, ◌+◌, List, [], length}
use Rattle.script.specs.declared.call.Call.{Call}
use Rattle.report.specs.Counts.{HasCounted}
use Rattle.report.specs.Report.{call_rows}
use Rattle.texts.specs.Pages.{rows_text}
use Rattle.report.proofs.Texts.{IsSent}
use Rattle.report.proofs.write.write_calls.Given as goal

abbrev pub invariant-loop-some : goal.invariant-loop-some
invariant-loop-some g l = record {
  failures : l.to.failures ≡ l.fn.to.failures;
  earlier : List Call;
  counted : HasCounted l.counts earlier;
  all : length earlier + length l.some-iterator.rest.now ≡ length l.fn.calls;
  sent : IsSent (g.W.Write.contents l.fn.to.inner) (g.W.Write.contents l.to.inner) (rows_text 7 (call_rows earlier l.some-iterator.rest.now)) (rows_text 7 (call_rows [] l.fn.calls));
}
