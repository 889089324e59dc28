use Rattle.std.proofs.Common.{◌≡◌, map}
use Rattle.texts.specs.Pages.{rows_text}
use Rattle.report.proofs.Texts.{IsSent}
use Rattle.report.proofs.as_row.write_rows.Given as goal

abbrev pub invariant-loop-some : goal.invariant-loop-some
invariant-loop-some g l = record {
  failures : l.to.failures ≡ l.fn.to.failures;
  sent : IsSent (g.W.Write.contents l.fn.to.inner) (g.W.Write.contents l.to.inner) (rows_text g.T.AsRow.width (map g.T.AsRow.fields l.some-iterator.rest.now)) (rows_text g.T.AsRow.width (map g.T.AsRow.fields l.fn.things));
}
