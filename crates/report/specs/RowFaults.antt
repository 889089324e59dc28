-- Which row of a text is the first that is as no report has it.
use Rattle.std.specs.Prelude.{ℕ, suc, ◌≡◌, ◌≤◌, ◌<◌, ◌^◌, ◌⊎◌, ⊤, List, [], ◌∷◌, ◌++◌, All, length, map}
use Rattle.arena.specs.Limits.{IsAccepted}
use Rattle.arena.specs.declared.limits.Limits.{Limits}
use Rattle.arena.specs.declared.limits.Mode.{Mode}
use Rattle.record.specs.Common.{Call, Script}
use Rattle.record.specs.declared.record.Line.{Line}
use Rattle.texts.specs.Texts.{AreRows, BeginWithRows}
use Rattle.report.specs.Report.{version_rows, rows_told, seven}
use Rattle.report.specs.Spellings.{IsReported, IsSpelledLine}
use Rattle.report.specs.declared.fault.ReportFault.{ReportFault}
use Rattle.report.specs.declared.fault.ReportFault.TheVariants.{NoMemory, Read, NotLawful}
use Rattle.report.specs.declared.version.Version.{Version}

-- the bytes are the report of a script and of a run's lines, in a version that can spell them
pub record IsReportOf (script : Script) (lines : List Line) (bytes : List ℕ) : Type 0 where
  pub version : Version
  pub rows : AreRows bytes (map seven (version_rows version script lines))
  pub calls : All (IsReported version script.layout.mode script.layout.passes) script.calls.items
  pub spelled : All (IsSpelledLine version) lines

-- limits that are accepted, and calls that a report of this version and mode may have within them
pub record AreAdmitted (version : Version) (mode : Mode) (limits : Limits) (calls : List Call) : Type 0 where
  pub accepted : IsAccepted limits
  pub few : length calls ≤ 65536
  pub reported : All (IsReported version mode limits.passes) calls

-- these are the rows of some report: in either version, of any calls and lines that it can spell,
-- whether or not a run has them
pub record AreOfReport (rows : List (List (List ℕ))) : Type 0 where
  pub version : Version
  pub mode : Mode
  pub limits : Limits
  pub calls : List Call
  pub lines : List Line
  pub admitted : AreAdmitted version mode limits calls
  pub spelled : All (IsSpelledLine version) lines
  pub counted : length lines < 2 ^ 64
  pub are : rows ≡ map seven (rows_told version mode limits calls lines)

-- some report begins with these rows
abbrev pub BeginReport : List (List (List ℕ)) → Type 0
BeginReport rows = (more : List (List (List ℕ))) × AreOfReport (rows ++ more)

-- after these rows the text is as no report: it ends there, and they are no whole report; or a row
-- is there with which they begin none
abbrev pub FailsBehind : List ℕ → List (List (List ℕ)) → Type 0
FailsBehind bytes before = (AreRows bytes before × ¬ (AreOfReport before)) ⊎ ((row : List (List ℕ)) × BeginWithRows bytes (before ++ row ∷ []) × ¬ (BeginReport (before ++ row ∷ [])))

-- the text is no report, and this row, counted from 1, is the first at fault: some report begins
-- with those before it, and after them the text is as none
pub record IsFirstBadRow (bytes : List ℕ) (row : ℕ) : Type 0 where
  pub no_report : (rows : List (List (List ℕ))) → AreOfReport rows → ¬ (AreRows bytes rows)
  pub before : List (List (List ℕ))
  pub begun : BeginReport before
  pub fails : FailsBehind bytes before
  pub row_is : row ≡ suc (length before)

-- where a report is refused for a row, `names` holds of that row
abbrev pub IfRefused : (ℕ → Type 0) → ReportFault → Type 0
IfRefused names NoMemory = ⊤
IfRefused names Read = ⊤
IfRefused names (NotLawful row) = names row
