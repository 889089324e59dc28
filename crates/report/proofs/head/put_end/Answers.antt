use Rattle.std.proofs.Common.{◌≡◌, [], ◌∷◌, ◌++◌, ◌∙◌, ap, codes, decimal, refl, sym}
use Rattle.report.specs.Report.{counts_row}
use Rattle.texts.specs.Sheets.{plain_line, sheet_text}
use Rattle.texts.proofs.Lemmas.{plain_row}
use Rattle.report.proofs.PlainTexts.{puts}
use Rattle.report.proofs.Texts.{one_row}
use Rattle.report.proofs.head.put_end.Goals as goal

pub returns : goal.returns
returns c =
    let start = sheet_text c.args.sheet.now in
    let totals = c.args.totals in
    let steps = decimal totals.steps in
    let replies = decimal totals.replies in
    let entries = decimal totals.entries in
    let line = plain_row (codes "end") steps (replies ∷ entries ∷ [] ∷ [] ∷ [] ∷ [])
    (refl, (c.put_field.ensures.plain, (c.put_field-2.ensures.plain, (c.number.ensures.plain, (refl, (refl, (refl, tt))))))) in
    let put : sheet_text c.put-2.new.self ≡ start ++ plain_line (codes "end" ∷ steps ∷ replies ∷ entries ∷ [] ∷ [] ∷ [] ∷ []) =
    rw (c.put-2.ensures.text, c.number.ensures.text, c.put_field-2.ensures.text, c.put_field.ensures.text, c.put.ensures.text, c.in_ok-make_room.ensures.text)
    (puts start (codes "end," ∷ steps ∷ codes "," ∷ replies ∷ codes "," ∷ entries ∷ codes ",,,\n" ∷ [])) in
    put ∙ ap (λ text. start ++ text) (sym (one_row 7 (counts_row totals.steps totals.replies totals.entries) ∙ line))
