use Rattle.std.proofs.Common.{◌+◌, ◌++◌, ◌∙◌, ap, arith, length, take}
use Rattle.std.proofs.lemmas.List.{with_items_is}
use Rattle.std.proofs.lemmas.Slice.{overwrites, take-put_mid}
use Rattle.texts.specs.Sheets.{sheet_text}
use Rattle.texts.proofs.SheetTexts.{utf8_behind}
use Rattle.texts.proofs.sheet.Sheet.put.Goals as goal

pub invariant_of-self-clause-utf8 : goal.invariant_of-self-clause-utf8
invariant_of-self-clause-utf8 c =
    let start = c.args.self.now.end in
    let text = c.args.text.now in
    let bytes = c.args.self.now.bytes in
    let within = c.args.self.now.within in
    let all = bytes.ok.0 in
    let given = c.deref_mut.ensures.value in
    let put = c.copy_from_slice.ensures.after ∙ c.as_bytes.ensures.value in
    let whole = with_items_is bytes _ (grind (arith, overwrites, c.deref_mut.ensures.value, c.copy_from_slice.ensures.after, c.as_bytes.ensures.value, within, all)) in
    utf8_behind (sheet_text c.args.self.now) text _
    (ap (take (start + length text)) whole ∙ take-put_mid start _ c.deref_mut.result.now c.copy_from_slice.new.self _ (omega (arith, ap (λ t. length t) put)) (omega (arith, within, all, ap (λ t. length t) given))
    ∙ ap (λ t. take start t ++ c.copy_from_slice.new.self) given ∙ ap (λ t. take start bytes.items ++ t) put)
    c.args.self.now.utf8 c.utf8.text
