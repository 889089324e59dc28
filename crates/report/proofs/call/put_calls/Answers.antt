use Rattle.std.proofs.Common.{arith, ◌≡◌, ◌+◌, ◌-◌, ◌^◌, ◌<◌, [], ◌∷◌, ◌++◌, ap, append-nil, sym, ◌∙◌, length, length-take, reverse, take}
use Rattle.std.proofs.lemmas.List.{take_more, take_all}
use Rattle.report.specs.Report.{reported_call_row, call_rows, calls_by}
use Rattle.texts.specs.Pages.{line_of, rows_text}
use Rattle.texts.specs.Sheets.{sheet_text}
use Rattle.report.proofs.Counted.{counted_more}
use Rattle.report.proofs.CallRows.{call_text_more, calls_before_length, calls_before_more}
use Rattle.report.proofs.Texts.{text_behind}
use Rattle.report.proofs.call.put_calls.Goals as goal

pub loop-call-init : goal.loop-call-init
unfolding call_rows rows_text
loop-call-init c = record {
  rows = λ earlier counted fits. sym (append-nil (sheet_text c.args.sheet.now));
  counted = λ earlier counted fits. counted;
}

pub loop-call-preserved : goal.loop-call-preserved
loop-call-preserved c =
    let inv = c.loop-call.invariant in
    let calls = c.args.calls.now in
    let i = c.loop-call.call-index in
    let done = take i calls in
    let call = c.call-item.result in
    let now : take (i + 1) calls ≡ done ++ call ∷ [] = take_more calls i call (omega arith) ∙ ap (λ x. done ++ x ∷ []) (sym c.call-item.is) in
    record {
      rows = λ earlier counted fits.
          let before = reverse done ++ earlier in
          let number : c.in_ok-number.number ≡ calls_by call.client.0 before = c.in_ok-number.ensures.before ∙ inv.counted earlier counted fits call.client.0 in
          let line = line_of 7 (reported_call_row before call) in
          let added : sheet_text c.put_call.new.sheet ≡ sheet_text c.loop-call.sheet ++ line = rw (← number) c.in_ok-put_call.ensures in
          rw (now, call_text_more earlier done call) (text_behind (sheet_text c.args.sheet.now) (rows_text 7 (call_rows earlier done)) line _ _ added (inv.rows earlier counted fits));
      counted = λ earlier counted fits.
          let before = reverse done ++ earlier in
          let few : length before < 2 ^ 64 - 1 = omega (arith, calls_before_length earlier done, length-take i calls, fits) in
          rw (now, calls_before_more earlier done call) (counted_more c.loop-call.counts c.count.new.self before call (inv.counted earlier counted fits) few c.in_ok-number.ensures.counted c.in_ok-number.ensures.others);
    }

pub returns-clause-rows : goal.returns-clause-rows
returns-clause-rows c = λ earlier counted fits.
    let all = take_all c.loop-call.call-index c.args.calls.now c.loop-call-test.false in
    rw all at (c.loop-call.invariant.rows earlier counted fits)

pub returns-clause-counted : goal.returns-clause-counted
returns-clause-counted c = λ earlier counted fits.
    let all = take_all c.loop-call.call-index c.args.calls.now c.loop-call-test.false in
    rw all at (c.loop-call.invariant.counted earlier counted fits)
