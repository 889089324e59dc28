use Rattle.std.proofs.Common.{◌≡◌, ◌+◌, ◌∙◌, ap, arith, length, refl}
use Rattle.report.specs.Outcome.{reply_rows}
use Rattle.texts.specs.Pages.{rows_text}
use Rattle.report.proofs.Outcomes.{counts_all, counts_chunk, no_replies, reply_text_after}
use Rattle.report.proofs.Texts.{chunk_text, all_sent, next_part_sent, next_sent, none_sent, on_err, so_far_sent}
use Rattle.report.proofs.outcome.write_replies.Goals as goal

pub loop-some-init : goal.loop-some-init
loop-some-init g c =
    let rest = ap (λ iterator. iterator.rest.now) c.into_iter-some-iterator.ensures.into_iter_gives ∙ c.chunks-some-items.ensures.rest in
    record {
      failures = refl;
      all = let e = ap (λ replies. length replies) rest in omega (arith, e);
      sent = rw rest (none_sent _ _);
    }

pub loop-some-preserved : goal.loop-some-preserved
loop-some-preserved g c =
    let x = c.loop-some.invariant in
    let some = c.in-Some.some.now in
    let split = c.in-Some.ensures.steps.1.0 in
    let all = counts_chunk c.loop-some.call _ _ some _ split x.all in
    let next : c.saturating_add-call.result ≡ c.loop-some.call + length some = counts_all _ _ _ (omega (arith, all)) c.saturating_add-call.ensures in
    record {
      failures = c.in_ok-send.ensures.ok ∙ x.failures;
      all = rw next all;
      sent = rw next (next_sent _ _ _ _ (rows_text 4 (reply_rows c.args.client c.loop-some.call some)) _ _ (reply_text_after c.args.client c.loop-some.call _ some _ split) x.sent
          (rw (chunk_text _ _ _ _ c.text.ensures (rw c.in_ok-put_replies.was at (c.put_replies.ensures (omega (arith, all)))) c.clear.ensures.text) at c.in_ok-send.ensures.all));
    }

pub returns-clause-all : goal.returns-clause-all
returns-clause-all g c =
    let x = c.loop-some.invariant in
    all_sent _ _ _ (rw (no_replies c.args.client c.loop-some.call c.loop-some.some-iterator.rest.now c.in-None.ensures.steps.1.0) at x.sent)

pub returns-in_err-put_replies-clause-beginning : goal.returns-in_err-put_replies-clause-beginning
returns-in_err-put_replies-clause-beginning g c = on_err c.from_residual.result (so_far_sent _ _ _ _ c.loop-some.invariant.sent)

pub returns-in_err-send-clause-beginning : goal.returns-in_err-send-clause-beginning
returns-in_err-send-clause-beginning g c =
    let x = c.loop-some.invariant in
    let some = c.in-Some.some.now in
    let split = c.in-Some.ensures.steps.1.0 in
    let all = counts_chunk c.loop-some.call _ _ some _ split x.all in
    on_err c.from_residual-in_err-send.result
    (next_part_sent _ _ _ _ (rows_text 4 (reply_rows c.args.client c.loop-some.call some)) _ _ (reply_text_after c.args.client c.loop-some.call _ some _ split) x.sent
    (rw (chunk_text _ _ _ _ c.text.ensures (rw c.in_ok-put_replies.was at (c.put_replies.ensures (omega (arith, all)))) c.clear.ensures.text) at c.in_err-send.ensures.beginning))
