use Rattle.std.proofs.Common.{◌≡◌, [], ◌∷◌, ◌++◌, ◌∙◌, ap, codes, decimal, refl, sym}
use Rattle.texts.specs.Sheets.{plain_line, sheet_text}
use Rattle.texts.proofs.Lemmas.{plain_row}
use Rattle.report.proofs.PlainTexts.{puts}
use Rattle.report.proofs.outcome.Tuple2U64U128AsRow.put_row.Goals as goal

pub returns : goal.returns
returns c =
    let start = sheet_text c.args.sheet.now in
    let key = decimal c.args.self.now.0 in
    let value = decimal c.args.self.now.1 in
    let line = plain_row (codes "pair") key (value ∷ [] ∷ []) (refl, (c.put_field.ensures.plain, (c.wide_number.ensures.plain, (refl, tt)))) in
    let put : sheet_text c.put-2.new.self ≡ start ++ plain_line (codes "pair" ∷ key ∷ value ∷ [] ∷ []) =
    rw (c.put-2.ensures.text, c.wide_number.ensures.text, c.put_field.ensures.text, c.put.ensures.text, c.in_ok-make_room.ensures.text)
    (puts start (codes "pair," ∷ key ∷ codes "," ∷ value ∷ codes ",\n" ∷ [])) in
    put ∙ ap (λ text. start ++ text) (sym line)
