use Rattle.std.proofs.Common.{◌∙◌, sym, ap, arith, rules}
use Rattle.std.proofs.lemmas.Bool.{false≢true}
use Rattle.texts.specs.Fields.{field_of}
use Rattle.texts.proofs.EndRows.{counts_entries, empty_behind, is_end_row}
use Rattle.texts.proofs.rows.counts.Goals as goal

pub returns-then-not-is_number : goal.returns-then-not-is_number
returns-then-not-is_number c width wide long is_end =
    (λ t. search rules, λ e. rw (c.if-not-is_number.true) at (c.is_number.ensures.1 (c.field.ensures ∙ ap (λ fields. field_of fields 1) e ∙ counts_entries width c.args.entries)))

pub returns-then-not-is_empty : goal.returns-then-not-is_empty
returns-then-not-is_empty c width wide long is_end = (
  λ t. search rules,
  λ e. let none = c.field-in-loop-place.ensures ∙ ap (λ fields. field_of fields c.loop-place.place) e ∙ empty_behind width c.args.entries c.loop-place.place c.loop-place.auto.place in
      absurd (false≢true (sym c.if-not-is_empty.true ∙ (rw none at c.is_empty.ensures))),
)

pub returns : goal.returns
returns c width wide long is_end =
    (λ t. is_end_row _ width c.args.entries wide long is_end (sym c.field.ensures ∙ c.is_number.ensures.0 (rw c.if-not-is_number.false (search rules))) (λ j from below. c.loop-place.invariant j from (omega (arith, below, long, c.len-place-end.ensures, c.loop-place-test.false))), λ e. search rules)
