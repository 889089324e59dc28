use Rattle.std.proofs.Common.{◌+◌, ◌++◌, ◌∙◌, [], ap, arith, length, length-append, refl, reverse}
use Rattle.std.proofs.lemmas.List.{length-reverse}
use Rattle.report.specs.Report.{call_rows}
use Rattle.texts.specs.Pages.{rows_text}
use Rattle.report.proofs.CallRows.{call_text_after, no_call_rows}
use Rattle.report.proofs.Outcomes.{counts_chunk}
use Rattle.report.proofs.Texts.{chunk_text, all_sent, next_part_sent, next_sent, none_sent, on_err, so_far_sent}
use Rattle.report.proofs.write.write_calls.Goals as goal

pub loop-some-init : goal.loop-some-init
loop-some-init g c =
    let rest = ap (λ iterator. iterator.rest.now) c.into_iter-some-iterator.ensures.into_iter_gives ∙ c.chunks-some-items.ensures.rest in
    record {
      failures = refl;
      earlier = [];
      counted = c.new-counts.ensures;
      all = let e = ap (λ calls. length calls) rest in omega (arith, e);
      sent = rw rest (none_sent _ _);
    }

pub loop-some-preserved : goal.loop-some-preserved
loop-some-preserved g c =
    let x = c.loop-some.invariant in
    let some = c.in-Some.some.now in
    let split = c.in-Some.ensures.steps.1.0 in
    let all = counts_chunk (length x.earlier) _ _ some _ split x.all in
    record {
      failures = c.in_ok-send.ensures.ok ∙ x.failures;
      earlier = reverse some ++ x.earlier;
      counted = rw c.in_ok-put_calls.was at (c.put_calls.ensures.counted x.earlier x.counted (omega (arith, all)));
      all = rw (length-append (reverse some) x.earlier, length-reverse some) (omega (arith, all));
      sent = next_sent _ _ _ _ (rows_text 7 (call_rows x.earlier some)) _ _ (call_text_after x.earlier _ some _ split) x.sent
          (rw (chunk_text _ _ _ _ c.text.ensures (rw c.in_ok-put_calls.was at (c.put_calls.ensures.rows x.earlier x.counted (omega (arith, all)))) c.clear.ensures.text) at c.in_ok-send.ensures.all);
    }

pub returns-clause-all : goal.returns-clause-all
returns-clause-all g c =
    let x = c.loop-some.invariant in
    all_sent _ _ _ (rw (no_call_rows x.earlier c.loop-some.some-iterator.rest.now c.in-None.ensures.steps.1.0) at x.sent)

pub returns-in_err-put_calls-clause-beginning : goal.returns-in_err-put_calls-clause-beginning
returns-in_err-put_calls-clause-beginning g c = on_err c.from_residual.result (so_far_sent _ _ _ _ c.loop-some.invariant.sent)

pub returns-in_err-send-clause-beginning : goal.returns-in_err-send-clause-beginning
returns-in_err-send-clause-beginning g c =
    let x = c.loop-some.invariant in
    let some = c.in-Some.some.now in
    let split = c.in-Some.ensures.steps.1.0 in
    let all = counts_chunk (length x.earlier) _ _ some _ split x.all in
    on_err c.from_residual-in_err-send.result
    (next_part_sent _ _ _ _ (rows_text 7 (call_rows x.earlier some)) _ _ (call_text_after x.earlier _ some _ split) x.sent
    (rw (chunk_text _ _ _ _ c.text.ensures (rw c.in_ok-put_calls.was at (c.put_calls.ensures.rows x.earlier x.counted (omega (arith, all)))) c.clear.ensures.text) at c.in_err-send.ensures.beginning))
