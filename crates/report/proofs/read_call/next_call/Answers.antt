use Rattle.std.proofs.Common.{◌∙◌, ℕ, List, [], ap, arith, get_or, refl, rules, sym}
use Rattle.std.proofs.lemmas.Fmt.{decimal_injective}
use Rattle.report.specs.Report.{calls_by}
use Rattle.report.proofs.CallFields.{whole_row}
use Rattle.report.proofs.Counted.{calls_by_bound, counted_more}
use Rattle.report.proofs.read_call.next_call.Goals as goal

pub returns-clause-counted : goal.returns-clause-counted
returns-clause-counted g c = λ earlier counted fits.
    counted_more c.args.counts.now c.count.new.self earlier c.in-Some.call counted fits c.in-Ok.ensures.counted c.in-Ok.ensures.others

pub returns-clause-row : goal.returns-clause-row
returns-clause-row g c = search rules

pub returns-in_default-clause-none : goal.returns-in_default-clause-none
returns-in_default-clause-none g c = λ earlier counted fits wide.
    rw c.fault.ensures (refl, λ call reported is. c.in_default.ensures.none call (calls_by call.client.0 earlier) reported (omega (arith, fits, calls_by_bound call.client.0 earlier)) (c.row_fields.ensures wide ∙ is ∙ whole_row call.client.0 (calls_by call.client.0 earlier) call.command))

pub returns-then-before-number-clause-none : goal.returns-then-before-number-clause-none
returns-then-before-number-clause-none g c = λ earlier counted fits wide.
    rw c.fault-then-before-number.ensures (
      refl,
      λ call reported is.
          let both = sym c.in-Some.ensures.row ∙ (c.row_fields.ensures wide ∙ is) in
          let client = decimal_injective c.in-Some.call.client.0 call.client.0 (omega (arith, c.in-Some.ensures.accepted.0, c.args.layout.passes_fit)) (omega (arith, reported.0, c.args.layout.passes_fit)) (ap (λ (fields : List (List ℕ)). get_or fields 1 []) both) in
          let number = decimal_injective c.in-Some.number (calls_by call.client.0 earlier) c.in-Some.ensures.fits (omega (arith, fits, calls_by_bound call.client.0 earlier)) (ap (λ (fields : List (List ℕ)). get_or fields 2 []) both) in
          c.if-before-number.true (c.in-Ok.ensures.before ∙ counted c.in-Some.call.client.0 ∙ ap (λ (n : ℕ). calls_by n earlier) client ∙ sym number),
    )
