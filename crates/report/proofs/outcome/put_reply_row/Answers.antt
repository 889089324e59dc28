use Rattle.std.proofs.Common.{◌≡◌, [], ◌∷◌, ◌++◌, ◌∙◌, ap, codes, decimal, refl, sym}
use Rattle.report.specs.Answers.{reply_text}
use Rattle.texts.specs.Sheets.{plain_line, sheet_text}
use Rattle.texts.proofs.Lemmas.{plain_row}
use Rattle.report.proofs.PlainTexts.{puts}
use Rattle.report.proofs.Texts.{on_ok_of}
use Rattle.report.proofs.outcome.put_reply_row.Goals as goal

pub returns : goal.returns
returns c =
    let start = sheet_text c.args.sheet.now in
    let client = decimal c.args.client in
    let call = decimal c.args.call in
    let reply = reply_text c.args.reply.now in
    let line = plain_row (codes "reply") client (call ∷ reply ∷ []) (refl, (c.put_field.ensures.plain, (c.put_field-2.ensures.plain, (c.in_ok-put_reply.ensures.plain, tt)))) in
    on_ok_of c.push.result
    (λ (last : sheet_text c.push.new.self ≡ sheet_text c.put_reply.new.sheet ++ codes "\n").
    let put : sheet_text c.push.new.self ≡ start ++ plain_line (codes "reply" ∷ client ∷ call ∷ reply ∷ []) =
    rw (last, c.in_ok-put_reply.ensures.text, c.put_field-2.ensures.text, c.put_field.ensures.text, c.put.ensures.text, c.in_ok-make_room.ensures.text)
    (puts start (codes "reply," ∷ client ∷ codes "," ∷ call ∷ codes "," ∷ reply ∷ codes "\n" ∷ [])) in
    put ∙ ap (λ text. start ++ text) (sym line))
    c.push.ensures
