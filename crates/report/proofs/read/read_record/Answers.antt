use Rattle.std.proofs.Common.{◌≡◌, Ok, rules}
use Rattle.report.specs.Faults.{report_fault}
use Rattle.report.specs.RowFaults.{IfRefused, IsFirstBadRow}
use Rattle.report.proofs.Texts.{of_fault}
use Rattle.report.proofs.Refused.{refused_for}
use Rattle.texts.proofs.Lemmas.{settled_bad}
use Rattle.report.proofs.read.read_record.Goals as goal

pub returns-clause-rows : goal.returns-clause-rows
returns-clause-rows g c = λ bytes known.
    let told : c.record_of-read.result ≡ Ok c.in_ok-by_failure_count.field-0 = search rules in
    rw told at (c.record_of-read.ensures.rows bytes known)

pub returns-in_err-by_failure_count-clause-refused : goal.returns-in_err-by_failure_count-clause-refused
returns-in_err-by_failure_count-clause-refused g c = λ bytes known.
    let settled = settled_bad (λ row cause. IsFirstBadRow bytes row) c.record_of-read.result c.by_failure_count.result c.by_failure_count.ensures.bad (c.record_of-read.ensures.fault bytes known) in
    of_fault c.from_residual.result (report_fault c.in_err-by_failure_count.field-0.0) (IfRefused (IsFirstBadRow bytes)) c.from_residual.ensures.1
    (refused_for (IsFirstBadRow bytes) c.in_err-by_failure_count.field-0.0 (rw c.in_err-by_failure_count.was at settled))
