-- What is true of an interleaving between two turns, and in the middle of one.
use Rattle.std.specs.Prelude.{◌≡◌, ◌≢◌, ℕ, suc, ◌<◌, ◌⊎◌, List, ◌∷◌, set, Option, Some, None, MatchOption, slice_get, All}
use Rattle.histories.specs.Common.{Layout, Word, IsWord, Contents, word_at, value, IsRun, Step as Ask, Row}
use Rattle.record.specs.Common.{Call, AreFilledInOrder, history, begin, clients, entries, entry_owed, turns, won, MapEdit, edit_key, value_left, written_log, AreLines, IsOfMode, OwesNothing}
use Rattle.arena.specs.Opening.{IsMap}
use Rattle.record.specs.declared.record.Line.{Line}
use Rattle.record.specs.declared.record.Line.TheVariants.{Step}
use Rattle.record.specs.declared.record.TurnRow.{TurnRow}
use Rattle.record.specs.declared.record.TurnRow.TheVariants.{Step as Made}
use Rattle.record.specs.declared.record.Finished.{Finished}
use Rattle.record.specs.declared.record.Answer.{Answer}
use Rattle.player.specs.declared.client.Running.{Running}
use Rattle.player.specs.Allowed.{PlayedAllows}
use Rattle.player.specs.Lines.{turn_lines, with_entry, with_turn}
use Rattle.player.specs.declared.client.Client.{Client}
use Rattle.player.specs.Player.{script_view}
use Rattle.player.specs.declared.interleaving.Interleaving.{Interleaving}
use Rattle.record.specs.declared.record.Entry.{Entry}
use Rattle.linearization.specs.declared.places.Change.{Change}
use Rattle.linearization.specs.declared.places.Places.{Places}
use Rattle.linearization.specs.Places.{changes, Knows, HoldsOfKey}
use Rattle.linearization.specs.Entries.{AreEntries, IsChangeOf}
use Rattle.player.specs.Moments.{IsMomentBy}
use Rattle.player.specs.ClientView.{client_edit, client_view, IsClient, WaitsForStep, IsAtNextCall}

-- the words hold what the steps have left in them, the steps
-- are a lawful run, and the lines fit one by one
pub record IsLawfulSoFar (lay : Layout) (tries : ℕ) (calls : List Call) (words : Contents) (lines : List Line) : Type 0 where
  pub layout : words.layout ≡ lay
  pub holds : (w : Word) → IsWord lay w → word_at words w ≡ value (history lay.mode lines) w
  pub sound : IsRun PlayedAllows lay (history lay.mode lines)
  pub in_order : AreLines lay tries calls lines
  -- of a map nodes are filled in order
  pub filled : IsMap lay.mode → AreFilledInOrder (history lay.mode lines)
  -- each call has a command of the mode
  pub of_mode : All (λ call. IsOfMode lay.mode call.command) calls

-- each client but the i-th is as the lines say
abbrev pub AreOthers : Layout → ℕ → List Call → List Client → List Line → ℕ → Type 0
AreOthers lay tries calls clients lines i =
    (j : ℕ) (c : Client) → j ≢ i → slice_get clients j ≡ Some c → (c.pass.0 ≡ j) × IsClient (client_view lay tries calls lines j) (begin lines j) c

-- it is the middle of a turn of this client, whose state the lines do not say
pub record IsTurnOf (lay : Layout) (tries : ℕ) (calls : List Call) (words : Contents) (clients : List Client) (lines : List Line) (c : Client) : Type 0 where
  pub so_far : IsLawfulSoFar lay tries calls words lines
  pub others : AreOthers lay tries calls clients lines c.pass.0
  pub own : slice_get clients c.pass.0 ≡ Some c

-- it is between two turns: nothing is owed, and each client is as the lines say
pub record AreBetweenTurns (lay : Layout) (tries : ℕ) (calls : List Call) (words : Contents) (clients : List Client) (lines : List Line) : Type 0 where
  pub so_far : IsLawfulSoFar lay tries calls words lines
  pub settled : OwesNothing lay calls lines
  pub each : (j : ℕ) (c : Client) → slice_get clients j ≡ Some c → (c.pass.0 ≡ j) × IsClient (client_view lay tries calls lines j) (begin lines j) c

-- of each client whose update has won since its last reply, the turn in which it did is remembered
abbrev pub AreWins : Layout → List Line → List (Option ℕ) → Type 0
AreWins lay lines wins = (c turn : ℕ) → won lay lines c ≡ Some turn → slice_get wins c ≡ Some (Some turn)

-- of a map the changes are those of the log, and each key of an edit may be changed
pub record ArePlaces (lay : Layout) (calls : List Call) (lines : List Line) (places : Places) : Type 0 where
  pub entries : IsMap lay.mode → AreEntries calls lines (changes places)
  pub keys : All (λ call. HoldsOfKey (Knows places) call.command) calls

-- the interleaving knows how many of the lines are turns, and how many are entries of the log
pub record KnowsCounts (p : Interleaving) (lines : List Line) : Type 0 where
  pub turned : p.turns ≡ turns lines
  pub entered : p.entries ≡ entries lines

-- what holds of an interleaving between two turns, after these lines, the newest first
pub record IsBetweenTurns (p : Interleaving) (lines : List Line) : Type 0 where
  pub between : AreBetweenTurns p.script.layout p.script.limits.tries p.script.calls.items p.words p.clients.items lines
  pub wins : AreWins p.script.layout lines p.wins.items
  pub places : ArePlaces p.script.layout p.script.calls.items lines p.places
  pub counted : KnowsCounts p lines

-- after these lines it has made a turn of the i-th client, which adds these, the first in
-- front, and is between two turns again
pub record HasMadeTurn (old new : Interleaving) (lines : List Line) (i : ℕ) (more : List Line) : Type 0 where
  pub script : script_view new.script ≡ script_view old.script
  pub row : TurnRow
  pub entry : Option Entry
  pub reply : Option Finished
  pub leaves : more ≡ turn_lines row entry reply
  pub between : IsBetweenTurns new (with_turn row entry reply lines)
  pub turns : clients (with_turn row entry reply lines) ≡ i ∷ clients lines

-- In the middle of a turn

-- after these lines the i-th client, whose turn it is, asks for this step
pub record IsStepAsked (p : Interleaving) (lines : List Line) (i number : ℕ) (step : Ask) : Type 0 where
  pub client : Client
  pub is : client.pass.0 ≡ i
  pub settled : OwesNothing p.script.layout p.script.calls.items lines
  pub turn : IsTurnOf p.script.layout p.script.limits.tries p.script.calls.items p.words p.clients.items lines client
  pub in_turn : number ≡ suc (turns lines)
  pub running : Running
  pub runs : client.running ≡ Some running
  pub asks : running.step ≡ step
  pub waits : WaitsForStep (client_view p.script.layout p.script.limits.tries p.script.calls.items lines client.pass.0) client running
  pub wins : AreWins p.script.layout lines p.wins.items
  pub places : ArePlaces p.script.layout p.script.calls.items lines p.places
  pub counted : KnowsCounts p lines
  -- its call began at this turn, or at the turn that the lines say
  pub began : ((begin lines client.pass.0 ≡ None) × (client.begin ≡ number)) ⊎ (begin lines client.pass.0 ≡ Some client.begin)

-- the newest of these lines is this step, whose entry is not counted yet
pub record IsMade (p : Interleaving) (lines : List Line) (number : ℕ) (row : Row) : Type 0 where
  pub older : List Line
  pub is : lines ≡ Step (Made number row) ∷ older
  pub so_far : IsLawfulSoFar p.script.layout p.script.limits.tries p.script.calls.items p.words lines
  pub entered : p.entries ≡ entries lines

-- the edit that the machine of client c has in hand, if it has one
abbrev pub owners_edit : List Client → ℕ → Option MapEdit
owners_edit clients c = client_edit (slice_get clients c)

-- the entry is of the edit that its client's machine has in hand: that is the change of its call,
-- and one of a key that may be changed
pub record IsAtEdit (lay : Layout) (calls : List Call) (lines : List Line) (clients : List Client) (e : Entry) : Type 0 where
  pub edit : MapEdit
  pub is : owners_edit clients e.client.0 ≡ Some edit
  pub by : IsChangeOf calls (written_log lines) e record { turn = e.step; key = edit_key edit; value = value_left edit }
  pub known : (places : Places) → ArePlaces lay calls lines places → Knows places (edit_key edit)

-- so it is of a map; on cells no machine has an edit in hand
pub record IsOwned (lay : Layout) (calls : List Call) (lines : List Line) (clients : List Client) (e : Entry) : Type 0 where
  pub edits : IsMap lay.mode → IsAtEdit lay calls lines clients e
  pub of_map : (edit : MapEdit) → owners_edit clients e.client.0 ≡ Some edit → IsMap lay.mode

-- the reply ends the client's call in this turn; `won` is the turn of its last update that has won
pub record IsEnd (calls : List Call) (lines : List Line) (changes : List Change) (old new : Client) (turn : ℕ) (answer : Answer) (won : Option ℕ) (reply : Finished) : Type 0 where
  pub client : reply.client ≡ old.pass
  pub call : reply.call ≡ old.number
  pub begin : reply.begin ≡ old.begin
  pub end : reply.end ≡ turn
  pub answers : reply.answer ≡ answer
  pub moment : (call : Call) (at : ℕ) → old.next ≡ Some at → slice_get calls at ≡ Some call → IsMomentBy calls lines changes call.command answer old.begin turn won reply.moment
  pub behind : IsAtNextCall calls old new

-- the newest of these lines is this step, whose entry is to be written down, if it asks for one
pub record IsEntryDue (p : Interleaving) (lines : List Line) (number : ℕ) (row : Row) : Type 0 where
  pub made : IsMade p lines number row
  pub places : ArePlaces p.script.layout p.script.calls.items lines p.places
  pub owner : (e : Entry) → entry_owed p.script.layout lines ≡ Some e → IsOwned p.script.layout p.script.calls.items lines p.clients.items e

-- the entry is the one that the newest of these lines asks for, and it has been written down
pub record HasLogged (old new : Interleaving) (lines : List Line) (number : ℕ) (entry : Option Entry) : Type 0 where
  pub owed : entry ≡ entry_owed old.script.layout lines
  pub wins : MatchOption entry (new.wins.items ≡ old.wins.items) (λ e. (e.client.0 < old.script.layout.passes) × (new.wins.items ≡ set old.wins.items e.client.0 (Some number)))
  pub entered : new.entries ≡ entries (with_entry entry lines)
  pub places : ArePlaces new.script.layout new.script.calls.items (with_entry entry lines) new.places

-- this is the reply to the call of this client, which is at its next call then
pub record IsReplied (old new : Interleaving) (turn : ℕ) (answer : Answer) (c : Client) (reply : Finished) : Type 0 where
  pub client : Client
  pub won : Option ℕ
  pub wins : slice_get old.wins.items c.pass.0 ≡ Some won
  pub end : (lines : List Line) → IsEnd old.script.calls.items lines (changes old.places) c client turn answer won reply
  pub clients : new.clients.items ≡ set old.clients.items c.pass.0 client

-- script, words and clients are as they were, and so is how many turns were made
pub record HasSameClients (old new : Interleaving) : Type 0 where
  pub script : script_view new.script ≡ script_view old.script
  pub words : new.words ≡ old.words
  pub clients : new.clients.items ≡ old.clients.items
  pub turns : new.turns ≡ old.turns

-- all is as it was except for the clients
pub record HasOtherClients (old new : Interleaving) : Type 0 where
  pub script : script_view new.script ≡ script_view old.script
  pub words : new.words ≡ old.words
  pub wins : new.wins.items ≡ old.wins.items
  pub places : new.places ≡ old.places
  pub turns : new.turns ≡ old.turns
  pub entries : new.entries ≡ old.entries
