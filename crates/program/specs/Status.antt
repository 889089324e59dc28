-- The faults of the program, and their exit status.
use Rattle.std.specs.Prelude.{ℕ, ◌<◌, ◌-◌, ◌^◌}
use Rattle.texts.specs.declared.fault.WriteFault.{WriteFault}
use Rattle.texts.specs.declared.fault.WriteFault.TheVariants as write
use Rattle.script.specs.declared.fault.ScriptCause.{ScriptCause}
use Rattle.script.specs.declared.fault.ScheduleCause.{ScheduleCause}
use Rattle.texts.specs.declared.fault.TextFault.{TextFault}
use Rattle.texts.specs.declared.fault.TextFault.TheVariants as text
use Rattle.report.specs.declared.fault.ReportFault.{ReportFault}
use Rattle.report.specs.declared.fault.ReportFault.TheVariants as report
use Rattle.report.specs.declared.stream.StreamFault.{StreamFault}
use Rattle.report.specs.declared.stream.StreamFault.TheVariants as stream
use Rattle.audit.specs.declared.fault.AuditFault.{AuditFault}
use Rattle.audit.specs.declared.fault.AuditFault.TheVariants as audit
use Rattle.program.specs.declared.fault.Fault.{Fault}
use Rattle.program.specs.declared.fault.Fault.TheVariants.{Usage, BadGate, BadScript, BadSchedule, NotLawful, NoMemory, Read, Write}

-- the exit status: 1 for a refused script, schedule or report, 2 for the words, 3 for memory, 4 for
-- a read or a write that failed
abbrev pub status_of : Fault → ℕ
status_of (BadScript _ _) = 1
status_of (BadSchedule _ _) = 1
status_of (NotLawful _) = 1
status_of Usage = 2
status_of BadGate = 2
status_of NoMemory = 3
status_of Read = 4
status_of Write = 4

-- the failure count of a reader or a writer can still rise
abbrev pub CanRise : ℕ → Type 0
CanRise failures = failures < 2 ^ 64 - 1

-- the program's fault where a script was refused
abbrev pub fault_of_script : TextFault ScriptCause → Fault
fault_of_script text.NoMemory = NoMemory
fault_of_script text.Read = Read
fault_of_script (text.Bad row cause) = BadScript row cause

-- the program's fault where a schedule was refused
abbrev pub fault_of_schedule : TextFault ScheduleCause → Fault
fault_of_schedule text.NoMemory = NoMemory
fault_of_schedule text.Read = Read
fault_of_schedule (text.Bad row cause) = BadSchedule row cause

-- the program's fault where a report was not written
abbrev pub fault_of_write : WriteFault → Fault
fault_of_write write.NoMemory = NoMemory
fault_of_write write.Write = Write

-- the program's fault if a report that is written while it is played was not continued
abbrev pub fault_of_stream : StreamFault → Fault
fault_of_stream stream.NoMemory = NoMemory
fault_of_stream stream.Write = Write
fault_of_stream stream.Ended = Write

-- the program's fault where a report was not read
abbrev pub fault_of_report : ReportFault → Fault
fault_of_report report.NoMemory = NoMemory
fault_of_report report.Read = Read
fault_of_report (report.NotLawful row) = NotLawful row

-- the program's fault where a record was not found lawful
abbrev pub fault_of_audit : AuditFault → Fault
fault_of_audit audit.NoMemory = NoMemory
fault_of_audit (audit.NotLawful row) = NotLawful row
