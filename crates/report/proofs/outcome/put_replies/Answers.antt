use Rattle.std.proofs.Common.{◌≡◌, ◌+◌, ◌<◌, ◌^◌, [], ◌∷◌, ◌++◌, ◌∙◌, ℕ, ap, append-nil, arith, length, length-take, subst, sym, take}
use Rattle.std.proofs.lemmas.List.{take_all, take_more}
use Rattle.ordered_map.specs.declared.reply.Reply.{Reply}
use Rattle.report.specs.Outcome.{reply_row, reply_rows}
use Rattle.texts.specs.Pages.{line_of, rows_text}
use Rattle.texts.specs.Sheets.{sheet_text}
use Rattle.report.proofs.Outcomes.{counts_all, reply_text_more}
use Rattle.report.proofs.Texts.{text_behind}
use Rattle.report.proofs.outcome.put_replies.Goals as goal

pub loop-reply-init : goal.loop-reply-init
unfolding reply_rows rows_text
loop-reply-init c = record { call = λ fits. omega arith; text = λ fits. sym (append-nil (sheet_text c.args.sheet.now)) }

pub loop-reply-preserved : goal.loop-reply-preserved
loop-reply-preserved c =
    let inv = c.loop-reply.invariant in
    let within = c.loop-reply-test.true in
    record {
      call = λ fits.
          let call = inv.call fits in
          let bound : c.loop-reply.call + 1 < 2 ^ 64 = omega (arith, call, fits, within) in
          let next : c.saturating_add-call.result ≡ c.loop-reply.call + 1 = counts_all _ _ _ bound c.saturating_add-call.ensures in
          omega (arith, call, next);
      text = λ fits.
          let replies = c.args.replies.now in
          let i = c.loop-reply.reply-index in
          let reply = c.reply-item.result in
          let done = take i replies in
          let more = take_more replies i reply within ∙ ap (λ (r : Reply ℕ ℕ). done ++ r ∷ []) (sym c.reply-item.is) in
          let number : c.loop-reply.call ≡ c.args.first + length done = omega (arith, inv.call fits, length-take i replies, within) in
          let line = line_of 4 (reply_row c.args.client (c.args.first + length done) reply) in
          let added : sheet_text c.put_reply_row.new.sheet ≡ sheet_text c.loop-reply.sheet ++ line =
          subst (λ (n : ℕ). sheet_text c.put_reply_row.new.sheet ≡ sheet_text c.loop-reply.sheet ++ line_of 4 (reply_row c.args.client n reply)) number c.in_ok-put_reply_row.ensures in
          rw (more, reply_text_more c.args.client c.args.first done reply) (text_behind (sheet_text c.args.sheet.now) (rows_text 4 (reply_rows c.args.client c.args.first done)) line _ _ added (inv.text fits));
    }

pub returns : goal.returns
returns c fits =
    let all = take_all c.loop-reply.reply-index c.args.replies.now c.loop-reply-test.false in
    rw all at (c.loop-reply.invariant.text fits)
