use Rattle.std.proofs.Common.{◌≡◌, [], ◌∷◌, ◌++◌, ◌∙◌, ap, arith, codes, decimal, refl, sym}
use Rattle.report.specs.Answers.{answer_text}
use Rattle.report.specs.Report.{moment_text}
use Rattle.texts.specs.Sheets.{plain_line, sheet_text}
use Rattle.texts.proofs.Lemmas.{plain_number, plain_row}
use Rattle.report.proofs.PlainTexts.{puts}
use Rattle.report.proofs.line.put_finished.Goals as goal

pub returns : goal.returns
returns c =
    let start = sheet_text c.args.sheet.now in
    let reply = c.args.reply.now in
    let client = decimal reply.client.0 in
    let call = decimal reply.call in
    let begin = decimal reply.begin in
    let end = decimal reply.end in
    let moment = moment_text reply.moment in
    let answer = answer_text reply.answer in
    let line = plain_row (codes "reply") client (call ∷ begin ∷ end ∷ moment ∷ answer ∷ [])
    (refl, (plain_number reply.client.0 (omega arith), (c.put_field-2.ensures.plain, (c.put_field-3.ensures.plain, (c.put_field-4.ensures.plain, (c.put_moment.ensures.plain, (c.in_ok-put_answer.ensures.plain, tt))))))) in
    let put : sheet_text c.put-2.new.self ≡ start ++ plain_line (codes "reply" ∷ client ∷ call ∷ begin ∷ end ∷ moment ∷ answer ∷ []) =
    rw (c.put-2.ensures.text, c.in_ok-make_room.ensures.text, c.in_ok-put_answer.ensures.text, c.put_moment.ensures.text, c.put_field-4.ensures.text, c.put_field-3.ensures.text, c.put_field-2.ensures.text, c.put_field.ensures.text, c.put.ensures.text, c.from.ensures)
    (puts start (codes "reply," ∷ client ∷ codes "," ∷ call ∷ codes "," ∷ begin ∷ codes "," ∷ end ∷ codes "," ∷ moment ∷ codes "," ∷ answer ∷ codes "\n" ∷ [])) in
    put ∙ ap (λ text. start ++ text) (sym line)
