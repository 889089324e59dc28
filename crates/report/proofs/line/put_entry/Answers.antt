use Rattle.std.proofs.Common.{◌≡◌, [], ◌∷◌, ◌++◌, ◌∙◌, ap, arith, codes, decimal, refl, sym}
use Rattle.texts.specs.Sheets.{IsPlain, plain_line, sheet_text}
use Rattle.texts.proofs.Lemmas.{plain_append, plain_number, plain_row}
use Rattle.report.proofs.PlainTexts.{puts}
use Rattle.report.proofs.line.put_entry.Goals as goal

pub returns : goal.returns
returns c =
    let start = sheet_text c.args.sheet.now in
    let entry = c.args.entry.now in
    let place = decimal entry.place in
    let step = decimal entry.step in
    let scx = decimal entry.scx.0 in
    let client = decimal entry.client.0 in
    let call = decimal entry.call in
    let named : IsPlain (codes "s" ++ scx) = plain_append (codes "s") scx refl c.put_field-3.ensures.plain in
    let line = plain_row (codes "log") place (step ∷ (codes "s" ++ scx) ∷ client ∷ call ∷ [] ∷ [])
    (refl, (c.put_field.ensures.plain, (c.put_field-2.ensures.plain, (named, (plain_number entry.client.0 (omega arith), (c.put_field-5.ensures.plain, (refl, tt))))))) in
    let put : sheet_text c.put-3.new.self ≡ start ++ plain_line (codes "log" ∷ place ∷ step ∷ (codes "s" ++ scx) ∷ client ∷ call ∷ [] ∷ []) =
    rw (c.put-3.ensures.text, c.put_field-5.ensures.text, c.put_field-4.ensures.text, c.put_field-3.ensures.text, c.put-2.ensures.text, c.put_field-2.ensures.text, c.put_field.ensures.text, c.put.ensures.text, c.from.ensures)
    (puts start (codes "log," ∷ place ∷ codes "," ∷ step ∷ codes "," ∷ codes "s" ∷ scx ∷ codes "," ∷ client ∷ codes "," ∷ call ∷ codes "," ∷ codes "\n" ∷ [])) in
    put ∙ ap (λ text. start ++ text) (sym line)
