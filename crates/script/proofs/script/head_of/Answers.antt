use Rattle.std.proofs.Common.{◌≡◌, [], ◌∙◌, ap, inl, inr, length, refl, sym, arith, rules}
use Rattle.texts.specs.Reads.{last_row}
use Rattle.texts.proofs.Lemmas.{begins, passed_on}
use Rattle.script.proofs.script.head_of.Goals as goal

pub returns-in_err-advance-clause-fault : goal.returns-in_err-advance-clause-fault
returns-in_err-advance-clause-fault g c bytes told zero =
    let first : c.advance.new.self.number ≡ 1 = omega (arith, c.advance.ensures.number, zero) in
    passed_on c.advance.result c.from_residual.result c.in_err-advance.field-0.0 c.in_err-advance.was (search rules)
    (λ row cause why. (why.0 ∙ first, inr (inl (why.2, why.3, why.4, why.1))))
    (c.advance.ensures.fault bytes [] told)

pub returns-then-not-branch-clause-fault : goal.returns-then-not-branch-clause-fault
returns-then-not-branch-clause-fault g c bytes told zero =
    let first : c.advance.new.self.number ≡ 1 = omega (arith, c.advance.ensures.number, zero) in
    rw c.fault.ensures (first, inl (rw c.if-not-branch.true at (c.in_ok-advance.ensures.row bytes [] told), refl))

pub returns-in-None-clause-fault : goal.returns-in-None-clause-fault
returns-in-None-clause-fault g c bytes told zero =
    let first : c.advance.new.self.number ≡ 1 = omega (arith, c.advance.ensures.number, zero) in
    let found = rw c.if-not-branch.false at (c.in_ok-advance.ensures.row bytes [] told) in
    rw c.fault-in-None.ensures (first, inr (inr (last_row c.advance.new.self, begins _ bytes _ _ found.1, found.0, (λ limits accepted e. c.in-None.ensures.none limits accepted (c.row.ensures ∙ e)), refl)))

pub returns-in-Some-clause-says : goal.returns-in-Some-clause-says
returns-in-Some-clause-says g c bytes told =
    let found = rw c.if-not-branch.false at (c.in_ok-advance.ensures.row bytes [] told) in
    let says = sym c.row.ensures ∙ c.in-Some.ensures.row (ap length c.row.ensures ∙ found.0.0) in
    rw says at found.1
