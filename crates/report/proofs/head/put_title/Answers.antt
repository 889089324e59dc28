use Rattle.std.proofs.Common.{◌≡◌, [], ◌∷◌, ◌++◌, ◌∙◌, ap, codes, refl, sym}
use Rattle.texts.specs.Sheets.{plain_line, sheet_text}
use Rattle.texts.proofs.Lemmas.{plain_row}
use Rattle.report.specs.Report.{mode_text}
use Rattle.report.proofs.PlainTexts.{mode_plain, puts}
use Rattle.report.proofs.head.put_title.Goals as goal

pub returns : goal.returns
returns c =
    let start = sheet_text c.args.sheet.now in
    let mode = mode_text c.args.mode in
    let line = plain_row (codes "report") (codes "2") (mode ∷ [] ∷ [] ∷ [] ∷ [] ∷ []) (refl, (refl, (mode_plain c.args.mode, (refl, (refl, (refl, (refl, tt))))))) in
    let put : sheet_text c.put-5.new.self ≡ start ++ plain_line (codes "report" ∷ codes "2" ∷ mode ∷ [] ∷ [] ∷ [] ∷ [] ∷ []) =
    rw (c.put-5.ensures.text, c.put-4.ensures.text, c.mode_name.ensures.name, c.put-3.ensures.text, c.put-2.ensures.text, c.name.ensures, c.put.ensures.text)
    (puts start (codes "report," ∷ codes "2" ∷ codes "," ∷ mode ∷ codes ",,,,\n" ∷ [])) in
    put ∙ ap (λ text. start ++ text) (sym line)
