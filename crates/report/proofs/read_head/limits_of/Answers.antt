use Rattle.std.proofs.Common.{◌≡◌, [], codes, decimal, subst, arith, rules, Some, Result, Ok, Err, IfOk}
use Rattle.std.specs.Result.{result_ok}
use Rattle.arena.specs.Limits.{IsLayoutOf}
use Rattle.arena.specs.declared.layout.Layout.{Layout}
use Rattle.report.proofs.Fields.{limits_are, row_is, same_limits}
use Rattle.report.proofs.read_head.limits_of.Goals as goal

pub returns-in_default-clause-none : goal.returns-in_default-clause-none
returns-in_default-clause-none c limits accepted is =
    let last = (limits_are c.args.fields limits (omega arith) is).six_is in search rules

pub returns-in_err-small_number_of-clause-none : goal.returns-in_err-small_number_of-clause-none
returns-in_err-small_number_of-clause-none c = rw c.from_residual.ensures (λ limits accepted is.
    c.in_err-small_number_of.ensures.spells limits.passes (omega (arith, accepted.passes)) (limits_are c.args.fields limits (omega arith) is).one_is)

pub returns-in_err-small_number_of-2-clause-none : goal.returns-in_err-small_number_of-2-clause-none
returns-in_err-small_number_of-2-clause-none c = rw c.from_residual-in_err-small_number_of-2.ensures (λ limits accepted is.
    c.in_err-small_number_of-2.ensures.spells limits.nodes (omega (arith, accepted.nodes)) (limits_are c.args.fields limits (omega arith) is).two_is)

pub returns-in_err-small_number_of-3-clause-none : goal.returns-in_err-small_number_of-3-clause-none
returns-in_err-small_number_of-3-clause-none c = rw c.from_residual-in_err-small_number_of-3.ensures (λ limits accepted is.
    c.in_err-small_number_of-3.ensures.spells limits.scx (omega (arith, accepted.scx)) (limits_are c.args.fields limits (omega arith) is).three_is)

pub returns-in_err-small_number_of-4-clause-none : goal.returns-in_err-small_number_of-4-clause-none
returns-in_err-small_number_of-4-clause-none c = rw c.from_residual-in_err-small_number_of-4.ensures (λ limits accepted is.
    c.in_err-small_number_of-4.ensures.spells limits.tries (omega (arith, accepted.tries)) (limits_are c.args.fields limits (omega arith) is).four_is)

pub returns-in_err-layout-clause-none : goal.returns-in_err-layout-clause-none
returns-in_err-layout-clause-none c = rw c.from_residual-in_err-layout.ensures (λ limits accepted is.
    let ok = c.check.ensures.accepted.1 (same_limits c.args.fields _ _ _ _ limits (limits_are c.args.fields limits (omega arith) is)
    c.in_ok-small_number_of.ensures.spells c.in_ok-small_number_of-2.ensures.spells c.in_ok-small_number_of-3.ensures.spells c.in_ok-small_number_of-4.ensures.spells
    c.in_ok-small_number_of.ensures.fits c.in_ok-small_number_of-2.ensures.fits c.in_ok-small_number_of-3.ensures.fits c.in_ok-small_number_of-4.ensures.fits accepted) in search rules)

pub returns-clause-row : goal.returns-clause-row
returns-clause-row c = row_is c.args.fields (codes "limits") (decimal c.in_ok-small_number_of.field-0) (decimal c.in_ok-small_number_of-2.field-0) (decimal c.in_ok-small_number_of-3.field-0) (decimal c.in_ok-small_number_of-4.field-0) [] [] (omega arith)
    (search rules) c.in_ok-small_number_of.ensures.spells c.in_ok-small_number_of-2.ensures.spells c.in_ok-small_number_of-3.ensures.spells c.in_ok-small_number_of-4.ensures.spells (search rules) (search rules)

-- what is so of a result is so of the value that is taken out of it
of_ok : {E : Type 0} (r : Result Layout E) (lay : Layout) (P : Layout → Type 0) → IfOk r P → Some lay ≡ result_ok r → P lay
of_ok (Ok found) lay P p e = subst P (let same : found ≡ lay = cc in same) p
of_ok (Err fault) lay P p e = absurd (cc)

pub returns-clause-layout : goal.returns-clause-layout
returns-clause-layout c = of_ok c.check.result c.in_ok-layout.layout (IsLayoutOf _ c.args.mode) c.check.ensures.layout c.in_ok-layout.ensures.value
