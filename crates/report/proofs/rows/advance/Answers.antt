use Rattle.std.proofs.Common.{arith}
use Rattle.report.proofs.Reading.{standing}
use Rattle.report.proofs.Refused.{bad_here, no_row}
use Rattle.report.proofs.Texts.{if_bad, if_err, if_ok}
use Rattle.report.proofs.rows.advance.Goals as goal

pub returns-clause-row : goal.returns-clause-row
returns-clause-row g c = λ bytes so_far before.
    if_ok c.advance.result (standing g.R.Read.remaining bytes so_far c.advance.new.self) (c.advance.ensures.row bytes so_far before)

pub returns-clause-fault : goal.returns-clause-fault
returns-clause-fault g c = λ bytes so_far before counted small begun.
    if_err c.advance.result (λ fault. if_bad fault (λ row cause why. bad_here bytes so_far why.2 row begun why.3 (no_row so_far why.2 why.4) (omega (arith, why.0, c.advance.ensures.number, counted, small))))
    (c.advance.ensures.fault bytes so_far before)
