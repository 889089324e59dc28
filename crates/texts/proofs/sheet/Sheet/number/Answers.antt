use Rattle.std.proofs.Common.{◌≡◌, ◌+◌, ◌≤◌, ◌∙◌, ap, arith, length, rules, sym, take, decimal}
use Rattle.std.specs.Vec.{with_items}
use Rattle.std.proofs.lemmas.Fmt.{length-decimal-le}
use Rattle.std.proofs.lemmas.List.{with_items_is}
use Rattle.texts.proofs.DigitCounts.{digits_stand}
use Rattle.texts.specs.Sheets.{sheet_text}
use Rattle.texts.proofs.PlainRows.{plain_number}
use Rattle.texts.proofs.SheetTexts.{digits_utf8, utf8_behind}
use Rattle.texts.proofs.sheet.Sheet.number.Goals as goal

pub overflow_add-end : goal.overflow_add-end
overflow_add-end c =
    let short : length (decimal c.args.n) ≤ 20 = length-decimal-le 20 c.args.n (omega arith) (omega arith) (omega arith) in
    omega (arith, c.args.self.now.within)

pub write_digits-requires : goal.write_digits-requires
write_digits-requires c =
    let short : length (decimal c.args.n) ≤ 20 = length-decimal-le 20 c.args.n (omega arith) (omega arith) (omega arith) in
    (omega arith, omega arith)

pub invariant_of-self-clause-utf8 : goal.invariant_of-self-clause-utf8
invariant_of-self-clause-utf8 c =
    let new = c.write_digits.new.buf in
    let same = ap (take c.write_digits.result) c.as_mut_slice.ensures.value in
    let stand = digits_stand c.args.self.now.end c.digits_in.result c.write_digits.result (decimal c.args.n) _ c.args.self.now.bytes.items new
    c.write_digits.ensures.start (sym c.digits_in.ensures) c.write_digits.ensures.written (c.write_digits.ensures.before ∙ same) in
    let whole : (with_items c.args.self.now.bytes new).items ≡ new = with_items_is c.args.self.now.bytes new (search rules) in
    utf8_behind (sheet_text c.args.self.now) (decimal c.args.n) _ (ap (take (c.args.self.now.end + c.digits_in.result)) whole ∙ stand) c.args.self.now.utf8 (digits_utf8 c.args.n (omega arith))

pub returns-clause-text : goal.returns-clause-text
returns-clause-text c =
    let new = c.write_digits.new.buf in
    let same = ap (take c.write_digits.result) c.as_mut_slice.ensures.value in
    let stand = digits_stand c.args.self.now.end c.digits_in.result c.write_digits.result (decimal c.args.n) _ c.args.self.now.bytes.items new
    c.write_digits.ensures.start (sym c.digits_in.ensures) c.write_digits.ensures.written (c.write_digits.ensures.before ∙ same) in
    let whole : (with_items c.args.self.now.bytes new).items ≡ new = with_items_is c.args.self.now.bytes new (search rules) in
    ap (take (c.args.self.now.end + c.digits_in.result)) whole ∙ stand

pub returns-clause-short : goal.returns-clause-short
returns-clause-short c = length-decimal-le 20 c.args.n (omega arith) (omega arith) (omega arith)

pub returns-clause-plain : goal.returns-clause-plain
returns-clause-plain c = plain_number c.args.n (omega arith)
