use Rattle.std.proofs.Common.{◌≡◌, [], ◌∷◌, ◌++◌, ◌∙◌, ap, arith, codes, decimal, refl, sym}
use Rattle.texts.specs.Sheets.{plain_line, sheet_text}
use Rattle.texts.proofs.Lemmas.{plain_number, plain_row}
use Rattle.report.proofs.PlainTexts.{puts}
use Rattle.report.proofs.line.put_idle.Goals as goal

pub returns : goal.returns
returns c =
    let start = sheet_text c.args.sheet.now in
    let number = decimal c.args.number in
    let client = decimal c.args.client.0 in
    let line = plain_row (codes "step") number (client ∷ codes "idle" ∷ [] ∷ [] ∷ [] ∷ [])
    (refl, (c.put_field.ensures.plain, (plain_number c.args.client.0 (omega arith), (refl, (refl, (refl, (refl, tt))))))) in
    let put : sheet_text c.put-2.new.self ≡ start ++ plain_line (codes "step" ∷ number ∷ client ∷ codes "idle" ∷ [] ∷ [] ∷ [] ∷ []) =
    rw (c.put-2.ensures.text, c.put_field-2.ensures.text, c.put_field.ensures.text, c.put.ensures.text, c.from.ensures)
    (puts start (codes "step," ∷ number ∷ codes "," ∷ client ∷ codes "," ∷ codes "idle,,,\n" ∷ [])) in
    put ∙ ap (λ text. start ++ text) (sym line)
