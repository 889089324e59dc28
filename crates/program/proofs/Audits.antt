-- Faults of a report and of its audit are the program's faults.
use Rattle.std.proofs.Common.{◌≡◌, inl, inr, arith, refl, List, ℕ}
use Rattle.audit.specs.Faults.{MayBeAtFault}
use Rattle.audit.specs.declared.fault.AuditFault.{AuditFault}
use Rattle.audit.specs.declared.fault.AuditFault.TheVariants as audit
use Rattle.record.specs.declared.record.Record.{Record}
use Rattle.texts.specs.declared.fault.WriteFault.{WriteFault}
use Rattle.texts.specs.declared.fault.WriteFault.TheVariants as write
use Rattle.report.specs.RowFaults.{IfRefused, IsFirstBadRow, IsReportOf}
use Rattle.report.specs.declared.fault.ReportFault.{ReportFault}
use Rattle.report.specs.declared.fault.ReportFault.TheVariants as report
use Rattle.program.specs.Audited.{IsDeservedByReport, IsRefusedFor}
use Rattle.program.specs.Status.{fault_of_audit, fault_of_report, fault_of_write, status_of}
use Rattle.program.specs.declared.fault.Fault.{Fault}
use Rattle.program.specs.declared.fault.Fault.TheVariants.{Usage, BadGate, BadScript, BadSchedule, NotLawful, NoMemory, Read, Write}

pub read_deserves : (text : List ℕ) (fault : ReportFault) → IfRefused (IsFirstBadRow text) fault → IsDeservedByReport text (fault_of_report fault)
read_deserves text report.NoMemory bad = tt
read_deserves text report.Read bad = tt
read_deserves text (report.NotLawful row) bad = inl bad

pub audit_deserves : (text : List ℕ) (told : Record) (fault : AuditFault) → IsReportOf told.script told.lines.items text → ((row : ℕ) → fault ≡ audit.NotLawful row → MayBeAtFault told row) → IsDeservedByReport text (fault_of_audit fault)
audit_deserves text told audit.NoMemory reported bad = tt
audit_deserves text told (audit.NotLawful row) reported bad = inr (told, reported, bad row refl)

pub write_deserves : (text : List ℕ) (fault : WriteFault) → IsDeservedByReport text (fault_of_write fault)
write_deserves text write.NoMemory = tt
write_deserves text write.Write = tt

-- the status 1 is that of a row that is refused
pub row_refused : (text : List ℕ) (fault : Fault) → IsDeservedByReport text fault → status_of fault ≡ 1 → (row : ℕ) × IsRefusedFor text row
row_refused text (NotLawful row) deserved one = (row, deserved)
row_refused text (BadScript row cause) deserved one = absurd deserved
row_refused text (BadSchedule row cause) deserved one = absurd deserved
row_refused text Usage deserved one = absurd deserved
row_refused text BadGate deserved one = absurd deserved
row_refused text NoMemory deserved one = absurd (omega (arith, one))
row_refused text Read deserved one = absurd (omega (arith, one))
row_refused text Write deserved one = absurd (omega (arith, one))
