use Rattle.std.proofs.Common.{◌≡◌, [], ◌∷◌, ◌++◌, ◌∙◌, ap, arith, codes, decimal, refl, sym}
use Rattle.script.specs.Kinds.{kind_text}
use Rattle.report.specs.Words.{word_text}
use Rattle.texts.specs.Sheets.{plain_line, sheet_text}
use Rattle.texts.proofs.Lemmas.{plain_number, plain_row}
use Rattle.report.proofs.PlainTexts.{kind_plain, puts}
use Rattle.report.proofs.line.put_step.Goals as goal

pub returns : goal.returns
returns c =
    let start = sheet_text c.args.sheet.now in
    let row = c.args.row.now in
    let number = decimal c.args.number in
    let client = decimal row.pass.0 in
    let kind = kind_text row.kind in
    let word = word_text row.word in
    let before = decimal row.before in
    let after = decimal row.after in
    let line = plain_row (codes "step") number (client ∷ kind ∷ word ∷ before ∷ after ∷ [])
    (refl, (c.put_field.ensures.plain, (plain_number row.pass.0 (omega arith), (kind_plain row.kind, (c.put_word.ensures.plain, (c.put_field-3.ensures.plain, (c.number.ensures.plain, tt))))))) in
    let put : sheet_text c.put-5.new.self ≡ start ++ plain_line (codes "step" ∷ number ∷ client ∷ kind ∷ word ∷ before ∷ after ∷ []) =
    rw (c.put-5.ensures.text, c.number.ensures.text, c.put_field-3.ensures.text, c.put-4.ensures.text, c.put_word.ensures.text, c.put-3.ensures.text, c.put-2.ensures.text, c.put_field-2.ensures.text, c.put_field.ensures.text, c.put.ensures.text, c.kind_name.ensures, c.from.ensures)
    (puts start (codes "step," ∷ number ∷ codes "," ∷ client ∷ codes "," ∷ kind ∷ codes "," ∷ word ∷ codes "," ∷ before ∷ codes "," ∷ after ∷ codes "\n" ∷ [])) in
    put ∙ ap (λ text. start ++ text) (sym line)
