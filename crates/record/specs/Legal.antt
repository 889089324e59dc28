-- All replies are those of one ordered map that takes the calls one after another, in the order of
-- their moments. Lines have the newest first here.
use Rattle.std.specs.Prelude.{◌≡◌, ℕ, suc, ◌+◌, ◌*◌, ◌≤◌, Bool, true, false, if◌then◌else◌, ◌&&◌, ◌==◌, nat_lt, not, is_none, List, [], ◌∷◌, Option, Some, None}
use Rattle.ordered_map.specs.declared.pair.Pair.{Pair}
use Rattle.ordered_map.specs.OrderedMap.{MapCall, MapReply, reply, changes_map}
use Rattle.script.specs.declared.call.Call.{Call}
use Rattle.record.specs.declared.record.Line.{Line}
use Rattle.record.specs.declared.record.Line.TheVariants.{Step, Log, Reply as ReplyLine}
use Rattle.record.specs.declared.record.Entry.{Entry}
use Rattle.record.specs.declared.record.Finished.{Finished}
use Rattle.record.specs.declared.record.Answer.{Answer}
use Rattle.record.specs.MapRecord.{map_call_of, reply_told, after_maybe}

-- Events: the entries, those of calls that are not answered too, and the answered reading calls,
-- each of these with its moment

pub data Event : Type 0 where
  Change : Entry → Event
  Read : ℕ → Finished → Event

-- whose call it is
abbrev pub event_client : Event → ℕ
event_client (Change e) = e.client.0
event_client (Read m r) = r.client.0

-- and which of the client's
abbrev pub event_call : Event → ℕ
event_call (Change e) = e.call
event_call (Read m r) = r.call

-- its place among all: by moments, and at equal moments the entry first
abbrev pub event_place : Event → ℕ
event_place (Change e) = 2 * e.step
event_place (Read m r) = 2 * m + 1

-- the events with this one after all that are before it or at the same place
abbrev pub with_event : Event → List Event → List Event
with_event x [] = x ∷ []
with_event x (y ∷ ys) =
    if nat_lt (event_place x) (event_place y) then x ∷ y ∷ ys
    else y ∷ with_event x ys

-- whether an answered call is a reading: it says something, and has not changed the map
abbrev pub has_read : Option MapCall → Option MapReply → Bool
has_read (Some call) (Some told) = not (changes_map call told)
has_read _ _ = false

-- the events, with this one if it is a reading and has a moment
abbrev pub with_reading : Bool → Option ℕ → Finished → List Event → List Event
with_reading true (Some m) r xs = with_event (Read m r) xs
with_reading _ _ r xs = xs

-- all events of a record in the order of their moments, the first in front
abbrev pub events : List Call → List Line → List Event
events calls [] = []
events calls (Step row ∷ lines) = events calls lines
events calls (Log e ∷ lines) = with_event (Change e) (events calls lines)
events calls (ReplyLine r ∷ lines) = with_reading (has_read (map_call_of calls r.client.0 r.call) (reply_told r.answer)) r.moment r (events calls lines)

-- Replies

-- the answer to call j of client c, if it is answered
abbrev pub answer_to : List Line → ℕ → ℕ → Option Answer
answer_to [] c j = None
answer_to (Step row ∷ lines) c j = answer_to lines c j
answer_to (Log e ∷ lines) c j = answer_to lines c j
answer_to (ReplyLine r ∷ lines) c j =
    if r.client.0 == c && r.call == j then Some r.answer
    else answer_to lines c j

-- it is a call of the map, and if it is answered it has answered what it replies on the map m
abbrev pub IsReplyOn : List Pair → Option MapCall → Option Answer → Type 0
IsReplyOn m (Some call) (Some answer) = reply_told answer ≡ Some (reply call m)
IsReplyOn m (Some call) None = Unit {0}
IsReplyOn m None answer = ⊥

-- taken one after another, from the map m on, each call is answered as the map replies
abbrev pub AreReplies : List Call → (ℕ → ℕ → Option Answer) → List Pair → List Event → Type 0
AreReplies calls answers m [] = Unit {0}
AreReplies calls answers m (x ∷ xs) =
    IsReplyOn m (map_call_of calls (event_client x) (event_call x)) (answers (event_client x) (event_call x))
    × AreReplies calls answers (after_maybe (map_call_of calls (event_client x) (event_call x)) m) xs

-- Which calls are among the events

-- how often call j of client c does
abbrev pub times : ℕ → ℕ → List Event → ℕ
times c j [] = 0
times c j (x ∷ xs) =
    if c == event_client x && j == event_call x then suc (times c j xs)
    else times c j xs

-- how many times an answered call has to: once if it says something, and not if it was refused
abbrev pub times_due : Option MapReply → ℕ
times_due (Some told) = 1
times_due None = 0

-- each answered call is there as many times as it has to
abbrev pub StandAsDue : List Line → List Event → Type 0
StandAsDue [] xs = Unit {0}
StandAsDue (Step row ∷ lines) xs = StandAsDue lines xs
StandAsDue (Log e ∷ lines) xs = StandAsDue lines xs
StandAsDue (ReplyLine r ∷ lines) xs = (times r.client.0 r.call xs ≡ times_due (reply_told r.answer)) × StandAsDue lines xs

-- no call is there twice
abbrev pub StandOnce : List Event → Type 0
StandOnce [] = Unit {0}
StandOnce (x ∷ xs) = (times (event_client x) (event_call x) xs ≡ 0) × StandOnce xs

-- how many calls of client c are there that are not answered
abbrev pub unanswered : (ℕ → ℕ → Option Answer) → ℕ → List Event → ℕ
unanswered answers c [] = 0
unanswered answers c (x ∷ xs) =
    if c == event_client x && is_none (answers c (event_call x)) then suc (unanswered answers c xs)
    else unanswered answers c xs

-- of each client at most one
abbrev pub AreFewUnanswered : (ℕ → ℕ → Option Answer) → List Event → Type 0
AreFewUnanswered answers [] = Unit {0}
AreFewUnanswered answers (x ∷ xs) = (unanswered answers (event_client x) (x ∷ xs) ≤ 1) × AreFewUnanswered answers xs

-- From the empty map, in the order of moments, each answered call has answered what the map
-- replies; each that says something is there once, a refused one is not, and of each client at most
-- one that is not answered.
pub record IsLegal (calls : List Call) (lines : List Line) : Type 0 where
  pub replies : AreReplies calls (answer_to lines) [] (events calls lines)
  pub counted : StandAsDue lines (events calls lines)
  pub once : StandOnce (events calls lines)
  pub few : AreFewUnanswered (answer_to lines) (events calls lines)
