use Rattle.std.proofs.Common.{◌∙◌, sym, arith, rules}
use Rattle.csv.specs.Records.{fields_of}
use Rattle.script.proofs.LimitsRows.{Fields, fields_are, same_limits}
use Rattle.script.proofs.Fields.{five_fields_are}
use Rattle.script.proofs.script.limits_of.Goals as goal

pub returns-clause-row : goal.returns-clause-row
returns-clause-row c h =
    five_fields_are _ _ _ _ _ _ h (search rules) (search rules) (search rules) (search rules) (search rules)

pub returns-then-ne-clause-none : goal.returns-then-ne-clause-none
returns-then-ne-clause-none c limits accepted e = let f = fields_are _ limits e in let n = f.name in search rules

pub returns-in_err-small_number_of-clause-none : goal.returns-in_err-small_number_of-clause-none
returns-in_err-small_number_of-clause-none c =
    rw c.from_residual.ensures (λ limits accepted e. c.in_err-small_number_of.ensures.spells limits.passes (omega (arith, accepted.passes)) (c.field-2.ensures ∙ (fields_are _ limits e).passes))

pub returns-in_err-small_number_of-2-clause-none : goal.returns-in_err-small_number_of-2-clause-none
returns-in_err-small_number_of-2-clause-none c =
    rw c.from_residual-in_err-small_number_of-2.ensures (λ limits accepted e. c.in_err-small_number_of-2.ensures.spells limits.nodes (omega (arith, accepted.nodes)) (c.field-3.ensures ∙ (fields_are _ limits e).nodes))

pub returns-in_err-small_number_of-3-clause-none : goal.returns-in_err-small_number_of-3-clause-none
returns-in_err-small_number_of-3-clause-none c =
    rw c.from_residual-in_err-small_number_of-3.ensures (λ limits accepted e. c.in_err-small_number_of-3.ensures.spells limits.scx (omega (arith, accepted.scx)) (c.field-4.ensures ∙ (fields_are _ limits e).scx))

pub returns-in_err-small_number_of-4-clause-none : goal.returns-in_err-small_number_of-4-clause-none
returns-in_err-small_number_of-4-clause-none c =
    rw c.from_residual-in_err-small_number_of-4.ensures (λ limits accepted e. c.in_err-small_number_of-4.ensures.spells limits.tries (omega (arith, accepted.tries)) (c.field-5.ensures ∙ (fields_are _ limits e).tries))

pub returns-in_err-layout-clause-none : goal.returns-in_err-layout-clause-none
returns-in_err-layout-clause-none c =
    let read : Fields (fields_of c.args.row.now) record { passes = c.in_ok-small_number_of.field-0; nodes = c.in_ok-small_number_of-2.field-0; scx = c.in_ok-small_number_of-3.field-0; tries = c.in_ok-small_number_of-4.field-0 } =
    record { name = search rules; passes = sym c.field-2.ensures ∙ c.in_ok-small_number_of.ensures.spells; nodes = sym c.field-3.ensures ∙ c.in_ok-small_number_of-2.ensures.spells; scx = sym c.field-4.ensures ∙ c.in_ok-small_number_of-3.ensures.spells; tries = sym c.field-5.ensures ∙ c.in_ok-small_number_of-4.ensures.spells } in
    rw c.from_residual-in_err-layout.ensures (λ limits accepted e.
    let ok = c.check.ensures.accepted.1 (same_limits _ _ limits read (fields_are _ limits e) c.in_ok-small_number_of.ensures.fits c.in_ok-small_number_of-2.ensures.fits c.in_ok-small_number_of-3.ensures.fits c.in_ok-small_number_of-4.ensures.fits accepted) in search rules)
