use Rattle.std.proofs.Common.{arith, inl, rules}
use Rattle.texts.proofs.Lemmas.{passed_on}
use Rattle.report.proofs.Refused.{first_bad_row}
use Rattle.report.proofs.rows.next_row.Goals as goal

pub returns-then-branch-clause-row : goal.returns-then-branch-clause-row
returns-then-branch-clause-row g c = λ bytes so_far before. rw c.if-branch.true at (c.in_ok-advance.ensures.row bytes so_far before)

pub returns-in_err-advance-clause-fault : goal.returns-in_err-advance-clause-fault
returns-in_err-advance-clause-fault g c = λ bytes so_far before counted small begun not.
    passed_on c.advance.result c.from_residual.result c.in_err-advance.field-0.0 c.in_err-advance.was (search rules) (λ row cause why. why)
    (c.advance.ensures.fault bytes so_far before counted small begun)

pub returns-else-branch-clause-fault : goal.returns-else-branch-clause-fault
returns-else-branch-clause-fault g c = λ bytes so_far before counted small begun not.
    rw c.fault.ensures (first_bad_row bytes so_far c.advance.new.rows.number begun (inl (rw c.if-branch.false at (c.in_ok-advance.ensures.row bytes so_far before), not)) (omega (arith, c.advance.ensures.number, counted, small)))
