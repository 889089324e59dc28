-- What is known of a call of the map whose answer is judged. Lines have the newest
-- first here.
use Rattle.std.specs.Prelude.{◌≡◌, ℕ, ◌<◌, ◌≤◌, List, Option, Some, None}
use Rattle.arena.specs.declared.layout.Layout.{Layout}
use Rattle.record.specs.Common.{Pair, need, MapCall, Edit, get, reply, number_reply, Reply, Value, Call, Command, HasItsEntry, enters, next_command}
use Rattle.record.specs.Common.{IsRight, linked, history, start, AreLines, map_at, map_call, reply_told, IsGreatestTurn, IsFitting, AreSpelled, turns, answered, begin, won, entry_owed}
use Rattle.record.specs.declared.record.Line.{Line}
use Rattle.record.specs.declared.record.Answer.{Answer}
use Rattle.record.specs.declared.record.Answer.TheVariants.{Map}
use Rattle.record.specs.declared.record.Finished.{Finished}
use Rattle.linearization.specs.declared.places.Change.{Change}
use Rattle.linearization.specs.Entries.{AreEntries}
use Rattle.linearization.specs.Ordered.{pairs_in}
use Rattle.audit.specs.declared.client.ClientState.{ClientState}

-- The lines so far are lawful ones, in which the words spell the map, and the changes are those of
-- their entries. The reply is one to the client's next call, of this command, which is one of the
-- map: it names the call, its first turn and its last, and an answer that the call may give after
-- the newest line.
pub record IsAsked (lay : Layout) (tries : ℕ) (calls : List Call) (lines : List Line) (changed : List Change) (client : ClientState) (command : Command) (r : Finished) : Type 0 where
  pub in_order : AreLines lay tries calls lines
  pub owed : entry_owed lay lines ≡ None
  pub spelled : AreSpelled lay calls lines
  pub entries : AreEntries calls lines changed
  pub pass : client.pass.0 ≡ r.client.0
  pub has_won : client.won ≡ won lay lines r.client.0
  pub next : next_command calls lines r.client.0 ≡ Some command
  pub of_map : (call : MapCall) × (map_call (Some command) ≡ Some call)
  pub number : r.call ≡ answered lines r.client.0
  pub begun : begin lines r.client.0 ≡ Some r.begin
  pub end : r.end ≡ turns lines
  pub fits : IsFitting lines command r.answer
  -- an update of the call has won if the answer says so, and only then
  pub entry : HasItsEntry (enters command r.answer) (won lay lines r.client.0)

-- the answer of client c's call of this command is right after these lines
abbrev pub IsRightAfter : Layout → ℕ → List Call → List Line → ℕ → Command → Answer → Type 0
IsRightAfter lay tries calls lines c command answer =
    IsRight lay tries c (history lay.mode lines) (start lay.mode lines c) (linked calls lay.mode lines c) command answer

-- after some turn of the call the map was one on which it needs this many nodes
abbrev pub NeededWithin : List Call → List Line → MapCall → ℕ → Finished → Type 0
NeededWithin calls lines call nodes r = (m : ℕ) × (r.begin ≤ m) × (m ≤ r.end) × (need call (map_at calls lines m) ≡ nodes)

-- an edit needed some after some turn of its call; a read needs nothing
abbrev pub NeededSomething : List Call → List Line → MapCall → Finished → Type 0
NeededSomething calls lines (Edit goal rule) r = (nodes : ℕ) × (0 < nodes) × NeededWithin calls lines (Edit goal rule) nodes r
NeededSomething calls lines _ r = Unit {0}

-- what is answered has the form of the call's replies, and is the one of these with the same pairs
abbrev pub IsToldByPairs : MapCall → Reply ℕ ℕ → Type 0
IsToldByPairs call told = (m : List Pair) → pairs_in (number_reply told) ≡ pairs_in (Some (reply call m)) → number_reply told ≡ Some (reply call m)

-- the reply's moment is the greatest turn of the call after which the map had at the key what it
-- answers
pub record IsValueAt (calls : List Call) (lines : List Line) (key : ℕ) (r : Finished) : Type 0 where
  pub told : Option ℕ
  pub answers : r.answer ≡ Map (Value told)
  pub turn : ℕ
  pub moment : r.moment ≡ Some turn
  pub greatest : IsGreatestTurn (λ m. get key (map_at calls lines m) ≡ told) r.begin r.end turn

-- the reply's moment is the greatest turn of the call after which the map replied what it answers
pub record IsReadAt (calls : List Call) (lines : List Line) (call : MapCall) (r : Finished) : Type 0 where
  pub turn : ℕ
  pub moment : r.moment ≡ Some turn
  pub greatest : IsGreatestTurn (λ m. reply_told r.answer ≡ Some (reply call (map_at calls lines m))) r.begin r.end turn
