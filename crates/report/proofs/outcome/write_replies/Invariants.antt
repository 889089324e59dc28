use Rattle.std.proofs.Common.{◌≡◌, ◌+◌, length}
use Rattle.report.specs.Outcome.{reply_rows}
use Rattle.texts.specs.Pages.{rows_text}
use Rattle.report.proofs.Texts.{IsSent}
use Rattle.report.proofs.outcome.write_replies.Given as goal

abbrev pub invariant-loop-some : goal.invariant-loop-some
invariant-loop-some g l = record {
  failures : l.to.failures ≡ l.fn.to.failures;
  all : l.call + length l.some-iterator.rest.now ≡ length l.fn.replies;
  sent : IsSent (g.W.Write.contents l.fn.to.inner) (g.W.Write.contents l.to.inner) (rows_text 4 (reply_rows l.fn.client l.call l.some-iterator.rest.now)) (rows_text 4 (reply_rows l.fn.client 0 l.fn.replies));
}
