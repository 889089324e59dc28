use Rattle.std.proofs.Common.{◌≡◌, [], ◌∷◌, ◌++◌, ◌∙◌, ap, codes, decimal, refl, sym}
use Rattle.report.specs.Outcome.{outcome_end_row}
use Rattle.texts.specs.Sheets.{plain_line, sheet_text}
use Rattle.texts.proofs.Lemmas.{plain_row}
use Rattle.report.proofs.PlainTexts.{puts}
use Rattle.report.proofs.Texts.{one_row}
use Rattle.report.proofs.outcome.put_closing.Goals as goal

pub returns : goal.returns
returns c =
    let start = sheet_text c.args.sheet.now in
    let replies = decimal c.args.replies in
    let pairs = decimal c.args.pairs in
    let line = plain_row (codes "end") replies (pairs ∷ [] ∷ []) (refl, (c.put_field.ensures.plain, (c.number.ensures.plain, (refl, tt)))) in
    let put : sheet_text c.put-2.new.self ≡ start ++ plain_line (codes "end" ∷ replies ∷ pairs ∷ [] ∷ []) =
    rw (c.put-2.ensures.text, c.number.ensures.text, c.put_field.ensures.text, c.put.ensures.text, c.in_ok-make_room.ensures.text)
    (puts start (codes "end," ∷ replies ∷ codes "," ∷ pairs ∷ codes ",\n" ∷ [])) in
    put ∙ ap (λ text. start ++ text) (sym (one_row 4 (outcome_end_row c.args.replies c.args.pairs) ∙ line))
