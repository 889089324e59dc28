use Rattle.std.proofs.Common.{◌∙◌, ap, rules, w64}
use Rattle.std.specs.Int.{from_be_bytes}
use Rattle.dict.proofs.Names.{copied_over, word_is, word_spells}
use Rattle.dict.proofs.name.Name8.new.Goals as goal

pub invariant_of-result : goal.invariant_of-result
invariant_of-result c =
    let text = c.args.text.now in
    let filled = copied_over text c.as_bytes-letters.result.now c.copy_from_slice.new.self c.copy_from_slice.ensures.after c.as_bytes-letters.ensures.value in
    record { spelled = word_spells text _ (search rules) (search rules) (λ i. (c.type_inv.text i).fits) (c.from_be_bytes.ensures ∙ ap (from_be_bytes w64) filled) }

pub returns-clause-word : goal.returns-clause-word
returns-clause-word c =
    let text = c.args.text.now in
    let filled = copied_over text c.as_bytes-letters.result.now c.copy_from_slice.new.self c.copy_from_slice.ensures.after c.as_bytes-letters.ensures.value in
    word_is text _ (c.from_be_bytes.ensures ∙ ap (from_be_bytes w64) filled)
