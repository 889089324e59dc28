use Rattle.std.proofs.Common.{◌≡◌, [], ◌∷◌, ◌++◌, ◌∙◌, ap, arith, codes, decimal, refl, sym}
use Rattle.texts.specs.Sheets.{plain_line, sheet_text}
use Rattle.texts.proofs.Lemmas.{plain_number, plain_row}
use Rattle.report.proofs.PlainTexts.{puts}
use Rattle.report.proofs.head.put_limits.Goals as goal

pub returns : goal.returns
returns c =
    let start = sheet_text c.args.sheet.now in
    let limits = c.args.limits.now in
    let passes = decimal limits.passes in
    let nodes = decimal limits.nodes in
    let scx = decimal limits.scx in
    let tries = decimal limits.tries in
    let line = plain_row (codes "limits") passes (nodes ∷ scx ∷ tries ∷ [] ∷ [] ∷ [])
    (refl, (plain_number limits.passes (omega arith), (plain_number limits.nodes (omega arith), (plain_number limits.scx (omega arith), (plain_number limits.tries (omega arith), (refl, (refl, tt))))))) in
    let put : sheet_text c.put-2.new.self ≡ start ++ plain_line (codes "limits" ∷ passes ∷ nodes ∷ scx ∷ tries ∷ [] ∷ [] ∷ []) =
    rw (c.put-2.ensures.text, c.number.ensures.text, c.put_field-3.ensures.text, c.put_field-2.ensures.text, c.put_field.ensures.text, c.put.ensures.text, c.from.ensures, c.from-2.ensures, c.from-3.ensures, c.from-4.ensures)
    (puts start (codes "limits," ∷ passes ∷ codes "," ∷ nodes ∷ codes "," ∷ scx ∷ codes "," ∷ tries ∷ codes ",,\n" ∷ [])) in
    put ∙ ap (λ text. start ++ text) (sym line)
