use Rattle.std.proofs.Common.{◌≡◌, List, [], ◌∷◌, ◌++◌, ◌∙◌, ℕ, ap, arith, codes, decimal, refl, string_bytes, subst, sym}
use Rattle.script.specs.Commands.{command_row}
use Rattle.texts.specs.Pages.{line_of}
use Rattle.texts.specs.Sheets.{ArePlain, plain_line, sheet_text}
use Rattle.texts.proofs.Lemmas.{plain_number, plain_row}
use Rattle.report.proofs.PlainTexts.{puts}
use Rattle.report.proofs.Texts.{on_ok_of}
use Rattle.report.proofs.call.put_call.Goals as goal

pub returns : goal.returns
returns c =
    let start = sheet_text c.args.sheet.now in
    let client = decimal c.args.call.now.client.0 in
    let number = decimal c.args.number in
    let command = c.in_ok-command.command in
    let name = command.name.now in
    let one = string_bytes command.a in
    let two = string_bytes command.b in
    let three = string_bytes command.c in
    let row : name ∷ one ∷ two ∷ three ∷ [] ≡ command_row c.args.call.now.command = c.in_ok-command.ensures.row in
    let plain : ArePlain (name ∷ one ∷ two ∷ three ∷ []) = subst ArePlain (sym row) c.in_ok-command.ensures.plain in
    let line = plain_row (codes "call") client (number ∷ name ∷ one ∷ two ∷ three ∷ []) (refl, (plain_number c.args.call.now.client.0 (omega arith), (c.put_field-2.ensures.plain, plain))) in
    on_ok_of c.push-8.result
    (λ (last : sheet_text c.push-8.new.self ≡ sheet_text c.push-7.new.self ++ codes "\n").
    let put : sheet_text c.push-8.new.self ≡ start ++ plain_line (codes "call" ∷ client ∷ number ∷ name ∷ one ∷ two ∷ three ∷ []) =
    rw (last, c.in_ok-push-7.ensures, c.as_str-3.ensures.value, c.in_ok-push-6.ensures, c.in_ok-push-5.ensures, c.as_str-2.ensures.value, c.in_ok-push-4.ensures, c.in_ok-push-3.ensures, c.as_str.ensures.value, c.in_ok-push-2.ensures, c.in_ok-push.ensures, c.put_field-2.ensures.text, c.put_field.ensures.text, c.put.ensures.text, c.in_ok-make_room.ensures.text, c.from.ensures)
    (puts start (codes "call," ∷ client ∷ codes "," ∷ number ∷ codes "," ∷ name ∷ codes "," ∷ one ∷ codes "," ∷ two ∷ codes "," ∷ three ∷ codes "\n" ∷ [])) in
    subst (λ (fields : List (List ℕ)). sheet_text c.push-8.new.self ≡ start ++ line_of 7 (codes "call" ∷ client ∷ number ∷ fields)) row (put ∙ ap (λ text. start ++ text) (sym line)))
    c.push-8.ensures
