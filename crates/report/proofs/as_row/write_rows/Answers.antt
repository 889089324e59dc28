use Rattle.std.proofs.Common.{◌∙◌, refl}
use Rattle.report.proofs.Texts.{chunk_text, none_sent, next_sent, all_sent, so_far_sent, next_part_sent, rows_split, no_rows, on_err}
use Rattle.report.proofs.as_row.write_rows.Goals as goal

pub loop-some-init : goal.loop-some-init
loop-some-init g c = record { failures = refl; sent = rw (c.into_iter-some-iterator.ensures.into_iter_gives, c.chunks-some-items.ensures.rest) (none_sent _ _) }

pub loop-some-preserved : goal.loop-some-preserved
loop-some-preserved g c = record {
  failures = c.in_ok-send.ensures.ok ∙ c.loop-some.invariant.failures;
  sent = next_sent _ _ _ _ _ _ _ (rows_split g.T.AsRow.width g.T.AsRow.fields _ _ _ c.in-Some.ensures.steps.1.0) c.loop-some.invariant.sent
      (rw (chunk_text _ _ _ _ c.text.ensures c.in_ok-put_rows.ensures c.clear.ensures.text) at c.in_ok-send.ensures.all);
}

pub returns-clause-all : goal.returns-clause-all
returns-clause-all g c =
    all_sent _ _ _ (rw (no_rows g.T.AsRow.width g.T.AsRow.fields c.loop-some.some-iterator.rest.now c.in-None.ensures.steps.1.0) at c.loop-some.invariant.sent)

pub returns-in_err-put_rows-clause-beginning : goal.returns-in_err-put_rows-clause-beginning
returns-in_err-put_rows-clause-beginning g c = on_err c.from_residual.result (so_far_sent _ _ _ _ c.loop-some.invariant.sent)

pub returns-in_err-send-clause-beginning : goal.returns-in_err-send-clause-beginning
returns-in_err-send-clause-beginning g c =
    on_err c.from_residual-in_err-send.result
    (next_part_sent _ _ _ _ _ _ _ (rows_split g.T.AsRow.width g.T.AsRow.fields _ _ _ c.in-Some.ensures.steps.1.0) c.loop-some.invariant.sent
    (rw (chunk_text _ _ _ _ c.text.ensures c.in_ok-put_rows.ensures c.clear.ensures.text) at c.in_err-send.ensures.beginning))
