-- Entries: what is written down where an update has won.
use Rattle.std.specs.Prelude.{◌≡◌, ◌≢◌, List, ◌∷◌, Some, None, IsSome}
use Rattle.histories.specs.Common.{Layout, Row as StepRow, ◌⊳◌, IsWin, Entry as Entered, log}
use Rattle.script.specs.declared.call.Call.{Call}
use Rattle.script.specs.declared.command.Command.{Command}
use Rattle.record.specs.declared.record.Line.{Line}
use Rattle.record.specs.declared.record.Line.TheVariants.{Step}
use Rattle.record.specs.declared.record.TurnRow.TheVariants.{Step as Made}
use Rattle.record.specs.declared.record.Entry.{Entry}
use Rattle.record.specs.Turns.{history, answered, begin, start, won, entry_of}
use Rattle.record.specs.CommandRules.{IsEntryFor}
use Rattle.record.specs.Commands.{next_command}
use Rattle.record.specs.Linked.{linked}

-- the row is a winning update, with this entry: of a call
-- of its SCX-record's owner, the call's only one
pub record IsWinOf (lay : Layout) (calls : List Call) (lines : List Line) (row : StepRow) (entry : Entry) : Type 0 where
  pub wins : IsWin (history lay.mode lines) row entry.scx.0
  -- no update of the owner's has won in this call before
  pub first : won lay lines entry.client.0 ≡ None
  -- the call is the owner's next, which is not answered yet
  pub call : entry.call ≡ answered lines entry.client.0
  pub command : Command
  pub is : next_command calls lines entry.client.0 ≡ Some command
  pub entered : Entered
  -- the row adds one entry to the log, that of this SCX-record, this owner and this call
  pub logged : log lay (row ⊳ history lay.mode lines) ≡ entered ∷ log lay (history lay.mode lines)
  pub same_scx : entered.scx ≡ entry.scx.0
  pub same_owner : entered.owner ≡ entry.client.0
  pub same_call : entered.call ≡ entry.call
  -- where another client makes the row, the owner's call has begun
  pub begun : row.pass.0 ≢ entry.client.0 → IsSome (begin lines entry.client.0)
  pub does : IsEntryFor lay entry.client.0 (history lay.mode lines) (start lay.mode lines entry.client.0) (linked calls lay.mode lines entry.client.0) entered command

-- the newest line is the step that this entry is of
abbrev pub IsLog : Layout → List Call → List Line → Entry → Type 0
IsLog lay calls (Step (Made number row) ∷ lines) entry = (entry_of lay lines number row ≡ Some entry) × IsWinOf lay calls lines row entry
IsLog lay calls _ entry = ⊥
