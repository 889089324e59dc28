-- The text of a report: the rows of its head, of the script's calls,
-- of the run's lines, and one that counts them.
use Rattle.std.specs.Prelude.{◌≡◌, ⊤, ℕ, suc, List, [], ◌∷◌, ◌++◌, codes, if◌then◌else◌, decimal, ◌==◌, map, Option, Some, None, slice_index_or}
use Rattle.arena.specs.declared.limits.Limits.{Limits}
use Rattle.arena.specs.declared.limits.Mode.{Mode}
use Rattle.arena.specs.declared.limits.Mode.TheVariants.{Tree, Trie, Records}
use Rattle.record.specs.Common.{kind_text, command_row, limits_row, Call, Script}
use Rattle.record.specs.declared.record.Line.{Line}
use Rattle.record.specs.declared.record.Line.TheVariants.{Step, Log, Reply}
use Rattle.record.specs.declared.record.TurnRow.TheVariants.{Step as Made, Idle}
use Rattle.report.specs.Answers.{answer_text}
use Rattle.report.specs.Versions.{version_text}
use Rattle.report.specs.Words.{word_text}
use Rattle.report.specs.declared.version.Version.{Version}
use Rattle.report.specs.declared.version.Version.TheVariants.{Two}
use Rattle.texts.specs.Pages.{padded, rows_text}

-- a row of a report: these fields, and empty ones after them
abbrev pub seven : List (List ℕ) → List (List ℕ)
seven = padded 7

-- The head

-- the word for a mode
abbrev pub mode_text : Mode → List ℕ
mode_text Tree = codes "tree"
mode_text Trie = codes "trie"
mode_text Records = codes "records"

-- the first row: the format's version, and the mode
abbrev pub title_in : Version → Mode → List (List ℕ)
title_in version mode = codes "report" ∷ version_text version ∷ mode_text mode ∷ []

-- as it is written: in the second version
abbrev pub title_row : Mode → List (List ℕ)
title_row mode = title_in Two mode

-- a row's first field, which says what it is
abbrev pub name_of : List (List ℕ) → List ℕ
name_of row = slice_index_or row 0 []

-- Calls

-- the row is named as one of a call
abbrev pub IsCallRow : List (List ℕ) → Type 0
IsCallRow row = name_of row ≡ codes "call"

-- how many of the calls are this client's
abbrev pub calls_by : ℕ → List Call → ℕ
calls_by c [] = 0
calls_by c (call ∷ calls) = if call.client.0 == c then suc (calls_by c calls) else calls_by c calls

-- the row of a call after these: its client's number, its own among the client's, and its command
abbrev pub reported_call_row : List Call → Call → List (List ℕ)
reported_call_row earlier call = codes "call" ∷ decimal call.client.0 ∷ decimal (calls_by call.client.0 earlier) ∷ command_row call.command

-- the rows of these calls, after earlier ones, the last of which comes first
unfoldable pub call_rows : List Call → List Call → List (List (List ℕ))
call_rows earlier [] = []
call_rows earlier (call ∷ calls) = reported_call_row earlier call ∷ call_rows (call ∷ earlier) calls

-- Lines

-- the turn of a call's moment, or an empty field where it has none
abbrev pub moment_text : Option ℕ → List ℕ
moment_text (Some moment) = decimal moment
moment_text None = []

-- the row of a line: of a step or an idle turn, of an entry of the log, of a reply
abbrev pub line_row : Line → List (List ℕ)
line_row (Step (Made number row)) = codes "step" ∷ decimal number ∷ decimal row.pass.0 ∷ kind_text row.kind ∷ word_text row.word ∷ decimal row.before ∷ decimal row.after ∷ []
line_row (Step (Idle number client)) = codes "step" ∷ decimal number ∷ decimal client.0 ∷ codes "idle" ∷ []
line_row (Log entry) = codes "log" ∷ decimal entry.place ∷ decimal entry.step ∷ (codes "s" ++ decimal entry.scx.0) ∷ decimal entry.client.0 ∷ decimal entry.call ∷ []
line_row (Reply reply) = codes "reply" ∷ decimal reply.client.0 ∷ decimal reply.call ∷ decimal reply.begin ∷ decimal reply.end ∷ moment_text reply.moment ∷ answer_text reply.answer ∷ []

-- the first row after the calls, of these lines or else this one, is not named as a call's
abbrev pub BeginsBehindCalls : List Line → List (List ℕ) → Type 0
BeginsBehindCalls [] row = ¬ (IsCallRow row)
BeginsBehindCalls (line ∷ lines) row = ⊤

-- The end

-- how many of the lines are turns
abbrev pub steps_in : List Line → ℕ
steps_in [] = 0
steps_in (Step row ∷ lines) = suc (steps_in lines)
steps_in (Log entry ∷ lines) = steps_in lines
steps_in (Reply reply ∷ lines) = steps_in lines

-- how many of the lines are replies
abbrev pub replies_in : List Line → ℕ
replies_in [] = 0
replies_in (Step row ∷ lines) = replies_in lines
replies_in (Log entry ∷ lines) = replies_in lines
replies_in (Reply reply ∷ lines) = suc (replies_in lines)

-- how many of the lines are entries of the log
abbrev pub entries_in : List Line → ℕ
entries_in [] = 0
entries_in (Step row ∷ lines) = entries_in lines
entries_in (Log entry ∷ lines) = suc (entries_in lines)
entries_in (Reply reply ∷ lines) = entries_in lines

-- the row of these counts
abbrev pub counts_row : ℕ → ℕ → ℕ → List (List ℕ)
counts_row steps replies entries = codes "end" ∷ decimal steps ∷ decimal replies ∷ decimal entries ∷ []

-- the row that counts the others by their kind
abbrev pub report_end_row : List Line → List (List ℕ)
report_end_row lines = counts_row (steps_in lines) (replies_in lines) (entries_in lines)

-- The whole

-- all rows of a report, in order: in this version, of this mode, within these limits, of these
-- calls and lines
abbrev pub rows_told : Version → Mode → Limits → List Call → List Line → List (List (List ℕ))
rows_told version mode limits calls lines = title_in version mode ∷ limits_row limits ∷ (call_rows [] calls ++ (map line_row lines ++ report_end_row lines ∷ []))

-- the first two of them
abbrev pub head_rows : Version → Mode → Limits → List (List (List ℕ))
head_rows version mode limits = map seven (title_in version mode ∷ limits_row limits ∷ [])

-- those before the lines
abbrev pub rows_of_calls : Version → Mode → Limits → List Call → List (List (List ℕ))
rows_of_calls version mode limits calls = map seven (title_in version mode ∷ limits_row limits ∷ call_rows [] calls)

-- those before the end
abbrev pub rows_of_lines : Version → Mode → Limits → List Call → List Line → List (List (List ℕ))
rows_of_lines version mode limits calls lines = rows_of_calls version mode limits calls ++ map seven (map line_row lines)

-- the rows of the report of a script and of its run's lines, in a version
abbrev pub version_rows : Version → Script → List Line → List (List (List ℕ))
version_rows version script lines = rows_told version script.layout.mode script.limits script.calls.items lines

-- as they are written
abbrev pub report_rows : Script → List Line → List (List (List ℕ))
report_rows script lines = version_rows Two script lines

-- the text of a report: its rows, one a line
abbrev pub report_text : Script → List Line → List ℕ
report_text script lines = rows_text 7 (report_rows script lines)
