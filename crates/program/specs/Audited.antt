-- What is said of a report that the program finds lawful.
use Rattle.std.specs.Prelude.{ℕ, ◌⊎◌, ⊤, List, codes, reverse}
use Rattle.record.specs.Common.{Script, IsLawfulRun, clients}
use Rattle.record.specs.declared.record.Line.{Line}
use Rattle.record.specs.declared.record.Record.{Record}
use Rattle.audit.specs.Faults.{MayBeAtFault}
use Rattle.report.specs.RowFaults.{IsFirstBadRow, IsReportOf}
use Rattle.program.specs.declared.fault.Fault.{Fault}
use Rattle.program.specs.declared.fault.Fault.TheVariants.{Usage, BadGate, BadScript, BadSchedule, NotLawful, NoMemory, Read, Write}

-- the text is the report, in a version that can spell them, of some calls and of the lines of a
-- lawful run of theirs, in which each turn was made by the client that its line says. The limits
-- that a row has are accepted, and the layout of the run is theirs: so it is with every script
-- (`Script`)
pub record IsReportOfLawfulRun (text : List ℕ) : Type 0 where
  pub script : Script
  pub lines : List Line
  pub report : IsReportOf script lines text
  pub run : IsLawfulRun script.layout script.limits.tries script.calls.items (reverse (clients (reverse lines))) lines

-- the text is refused for this row: it is no report, and this is its first bad row; or it is the
-- report of a record, and all lines of that before the row fit
abbrev pub IsRefusedFor : List ℕ → ℕ → Type 0
IsRefusedFor text row = IsFirstBadRow text row ⊎ ((told : Record) × IsReportOf told.script told.lines.items text × MayBeAtFault told row)

-- the text of a report deserves the fault. Memory, a read or a write may fail whatever it is.
abbrev pub IsDeservedByReport : List ℕ → Fault → Type 0
IsDeservedByReport text (NotLawful row) = IsRefusedFor text row
IsDeservedByReport text (BadScript row cause) = ⊥
IsDeservedByReport text (BadSchedule row cause) = ⊥
IsDeservedByReport text Usage = ⊥
IsDeservedByReport text BadGate = ⊥
IsDeservedByReport text NoMemory = ⊤
IsDeservedByReport text Read = ⊤
IsDeservedByReport text Write = ⊤

-- the line that says so: `lawful` and a newline
abbrev pub lawful_line : List ℕ
lawful_line = codes "lawful\n"
