use Rattle.std.proofs.Common.{true, false, sym, ap, ◌∙◌, rules}
use Rattle.std.proofs.lemmas.Bool.{false≢true}
use Rattle.dict.specs.Names.{is_padded}
use Rattle.dict.proofs.Names.{spelled_text, tells_names}
use Rattle.dict.proofs.name.Name8.of_word.Goals as goal

pub returns-then-not-is_padded-clause-none : goal.returns-then-not-is_padded-clause-none
returns-then-not-is_padded-clause-none c = λ _ named.
    false≢true (tells_names c.args.word c.as_slice.result.now false (c.as_slice.ensures ∙ c.to_be_bytes.ensures) c.if-not-is_padded.ensures ∙ named)

pub invariant_of-result : goal.invariant_of-result
invariant_of-result c =
    record { spelled = sym (tells_names c.args.word c.as_slice.result.now true (c.as_slice.ensures ∙ c.to_be_bytes.ensures) c.if-not-is_padded.ensures) }

pub returns-clause-text : goal.returns-clause-text
returns-clause-text c =
    spelled_text c.args.word (search rules)
    (sym (c.if-not-is_padded.ensures ∙ ap is_padded (c.as_slice.ensures ∙ c.to_be_bytes.ensures)))
