-- What an audit remembers of the lines so far. Lines have the newest first here.
use Rattle.std.specs.Prelude.{◌≡◌, ℕ, ◌<◌, Bool, true, false, List, ◌∷◌, length, reverse, take, slice_get, Option, Some, None, IfSome, is_some, drop}
use Rattle.arena.specs.Opening.{IsMap}
use Rattle.histories.specs.Common.{Layout, PassNo, Row, ◌⊳◌, IsBegin}
use Rattle.record.specs.Common.{HasRisingLevels, Call, Command, history, turns, entries, last_client, answered, begin, start, steps, won, entry_of, entry_owed}
use Rattle.record.specs.Common.{enters, HasTakenFew, IsRight, commands, next_command, IsWinOf, AreLines, OwesNothing, linked, IsFitting, IsReplyOwed}
use Rattle.record.specs.declared.record.Finished.{Finished}
use Rattle.record.specs.declared.record.Line.{Line}
use Rattle.record.specs.declared.record.Line.TheVariants.{Step}
use Rattle.record.specs.declared.record.Entry.{Entry}
use Rattle.record.specs.declared.record.TurnRow.TheVariants.{Idle}
use Rattle.record.specs.Entries.{IsLog}
use Rattle.record.specs.Steps.{IsStep}
use Rattle.record.specs.Commands.{IsNextCallAt}
use Rattle.audit.specs.Edits.{MayMakeEdit}
use Rattle.audit.specs.Remembered.{AreRemembered}
use Rattle.audit.specs.Trees.{IsMapSoFar}
use Rattle.judge.specs.Histories.{Judged, seen_history}
use Rattle.audit.specs.declared.client.ClientState.{ClientState}
use Rattle.audit.specs.declared.edits.BegunEdit.{BegunEdit}
use Rattle.audit.specs.declared.run.Replay.{Replay}

-- the lines so far
abbrev pub lines_of : Replay → List Line
lines_of run = reverse (take run.at run.record.now.lines.items)

-- what the record says of its run
abbrev pub layout_of : Replay → Layout
layout_of run = run.record.now.script.layout

abbrev pub tries_of : Replay → ℕ
tries_of run = run.record.now.script.limits.tries

abbrev pub calls_of : Replay → List Call
calls_of run = run.record.now.script.calls.items

-- whether the newest line is an idle turn
abbrev pub is_idle : List Line → Bool
is_idle (Step (Idle number client) ∷ lines) = true
is_idle _ = false

-- the number of a pass, if there is one
abbrev pub pass_number : Option PassNo → Option ℕ
pass_number None = None
pass_number (Some pass) = Some pass.0

-- what is remembered of client c is what the lines say
pub record IsClientAfter (lay : Layout) (calls : List Call) (lines : List Line) (c : ℕ) (client : ClientState) : Type 0 where
  pub pass : client.pass.0 ≡ c
  pub place : IsNextCallAt calls c (drop client.answered (commands calls c)) client.at
  pub answered : client.answered ≡ answered lines c
  pub begun : client.begun ≡ begin lines c
  pub steps : client.steps ≡ steps lines c
  pub won : client.won ≡ won lay lines c

-- so it is of each client
abbrev pub AreClientsAfter : Layout → List Call → List Line → List ClientState → Type 0
AreClientsAfter lay calls lines clients = (c : ℕ) (client : ClientState) → slice_get clients c ≡ Some client → IsClientAfter lay calls lines c client

-- The lines fit one by one, the judge has seen their steps, and what is remembered of turns, of
-- entries, of the newest line and of each client is what they say.
pub record IsSoFar (lay : Layout) (tries : ℕ) (calls : List Call) (judge : Judged) (states : List ClientState) (turned made : ℕ) (newest : Option PassNo) (due : Option Entry) (fit idles owes : Bool) (lines : List Line) : Type 0 where
  pub layout : judge.layout ≡ lay
  pub seen : seen_history judge ≡ history lay.mode lines
  pub in_order : AreLines lay tries calls lines
  pub turn : turned ≡ turns lines
  pub entries : made ≡ entries lines
  pub last : pass_number newest ≡ last_client lines
  -- the entry that is owed, which is a lawful one if it fits
  pub owed : entry_owed lay lines ≡ due
  pub fits : (entry : Entry) → fit ≡ true → due ≡ Some entry → IsLog lay calls lines entry
  pub idle : is_idle lines ≡ idles
  pub awaits : owes ≡ false → IsReplyOwed calls lines → ⊥
  pub all : length states ≡ lay.passes
  pub clients : AreClientsAfter lay calls lines states

-- so it is of a run
abbrev pub IsAfter : Replay → List Line → Type 0
IsAfter run lines = IsSoFar (layout_of run) (tries_of run) (calls_of run) run.steps.judge run.clients.items run.turn run.entries run.last run.owed run.fits run.idle run.awaits lines

-- and what a run remembers of the map
abbrev pub IsMapAfter : Replay → List Line → Type 0
IsMapAfter run lines = IsMapSoFar (layout_of run) (calls_of run) run.edits.items run.places lines

-- and what it remembers of the steps
abbrev pub AreRememberedAfter : Replay → List Line → Type 0
AreRememberedAfter run lines = AreRemembered (layout_of run) (calls_of run) lines run.steps

-- What the run remembers is what these lines say: of turns, entries and clients, of the map, and of
-- the steps.
pub record Remembers (run : Replay) (lines : List Line) : Type 0 where
  pub after : IsAfter run lines
  pub map : IsMapAfter run lines
  pub remembered : AreRememberedAfter run lines

-- The next line may be a turn of this number that makes this step, with which this entry is owed;
-- `fits` says that the entry is one that its client's call makes.
pub record IsNextStep (run : Replay) (number : ℕ) (row : Row) (owed : Option Entry) (fits : Bool) : Type 0 where
  -- nothing is owed up to now, and the step fits the lines
  pub settled : OwesNothing (layout_of run) (calls_of run) (lines_of run)
  pub step : IsStep (layout_of run) (tries_of run) (calls_of run) (lines_of run) number row
  -- in a map levels still rise after it, and if it begins something, that makes an edit
  pub rising : IsMap (layout_of run).mode → HasRisingLevels (seen_history run.steps.judge) → HasRisingLevels (row ⊳ seen_history run.steps.judge)
  pub edit : IsMap (layout_of run).mode → IsBegin (seen_history run.steps.judge) row row.after → (begun : BegunEdit) × MayMakeEdit (layout_of run) (seen_history run.steps.judge) row.after begun
  -- the entry is that of the step, and of a client that there is
  pub is_owed : entry_of (layout_of run) (lines_of run) number row ≡ owed
  pub client : IfSome owed (λ e. e.client.0 < (layout_of run).passes)
  pub wins : (e : Entry) → fits ≡ true → owed ≡ Some e → IsWinOf (layout_of run) (calls_of run) (lines_of run) row e

-- nothing but the reply is owed, and it is to the next call of this client, which has this command:
-- its answer is one that the call may give after the newest line
pub record IsReplyToNext (run : Replay) (client : ClientState) (command : Command) (reply : Finished) : Type 0 where
  pub owed : entry_owed (layout_of run) (lines_of run) ≡ None
  pub is_client : slice_get run.clients.items client.pass.0 ≡ Some client
  pub own : client.pass ≡ reply.client
  pub number : reply.call ≡ client.answered
  pub begun : client.begun ≡ Some reply.begin
  pub end : reply.end ≡ run.turn
  pub fits : IsFitting (lines_of run) command reply.answer
  -- it says that it has made a change if its client's call has won, and only then
  pub entry : enters command reply.answer ≡ is_some client.won
  pub is_next : next_command (calls_of run) (lines_of run) client.pass.0 ≡ Some command

-- the reply is right
abbrev pub IsRightReply : Replay → Finished → Command → Type 0
IsRightReply run reply command = IsRight (layout_of run) (tries_of run) reply.client.0 (history (layout_of run).mode (lines_of run)) (start (layout_of run).mode (lines_of run) reply.client.0) (linked (calls_of run) (layout_of run).mode (lines_of run) reply.client.0) command reply.answer

-- and its call has taken no more of its pass's share than it may
abbrev pub TookFew : Replay → Finished → Command → Type 0
TookFew run reply command = HasTakenFew (layout_of run) (tries_of run) reply.client.0 (history (layout_of run).mode (lines_of run)) (start (layout_of run).mode (lines_of run) reply.client.0) command
