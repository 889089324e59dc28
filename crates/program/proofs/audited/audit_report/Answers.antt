use Rattle.std.proofs.Common.{◌∙◌, ap, Err}
use Rattle.program.specs.Audited.{IsDeservedByReport}
use Rattle.program.specs.Status.{fault_of_audit, fault_of_report, fault_of_write}
use Rattle.program.proofs.Audits.{audit_deserves, read_deserves, write_deserves}
use Rattle.program.proofs.Deserved.{told}
use Rattle.program.proofs.audited.audit_report.Goals as goal

pub returns-clause-lawful : goal.returns-clause-lawful
returns-clause-lawful g c bytes tells =
    record {
      script = c.in_ok-record.record.script;
      lines = c.in_ok-record.record.lines.items;
      report = c.in_ok-record.ensures.rows bytes tells;
      run = c.in_ok-audit.ensures.lawful;
    }

pub returns-in_err-record-clause-deserved : goal.returns-in_err-record-clause-deserved
returns-in_err-record-clause-deserved g c bytes tells =
    told _ (fault_of_report c.in_err-record.field-0.0) (IsDeservedByReport bytes) c.from_residual.ensures.1
    (read_deserves bytes c.in_err-record.field-0.0 (c.in_err-record.ensures.refused bytes tells))

pub returns-in_err-audit-clause-deserved : goal.returns-in_err-audit-clause-deserved
returns-in_err-audit-clause-deserved g c bytes tells =
    told _ (fault_of_audit c.in_err-audit.field-0.0) (IsDeservedByReport bytes) c.from_residual-in_err-audit.ensures.1
    (audit_deserves bytes c.in_ok-record.record c.in_err-audit.field-0.0 (c.in_ok-record.ensures.rows bytes tells) (λ row is. c.audit.ensures.fault row (c.in_err-audit.was ∙ ap (λ fault. Err fault) is)))

pub returns-in_err-send-clause-deserved : goal.returns-in_err-send-clause-deserved
returns-in_err-send-clause-deserved g c bytes tells =
    told _ (fault_of_write c.in_err-send.field-0.0) (IsDeservedByReport bytes) c.from_residual-in_err-send.ensures.1 (write_deserves bytes c.in_err-send.field-0.0)
