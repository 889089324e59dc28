-- Where a call took place, by what it has answered.
use Rattle.std.specs.Prelude.{◌≡◌, ◌≢◌, ℕ, suc, ◌≤◌, Bool, true, false, List, Option, Some, None, IfSome, IfNone}
use Rattle.record.specs.Common.{MapCall, MapReply, OneValue, get, reply as replies_on, tells_change, Call, Command, number_reply, Reply, map_at, map_call, IsGreatestTurn}
use Rattle.ordered_map.specs.Requests.{key_told}
use Rattle.record.specs.declared.record.Line.{Line}
use Rattle.record.specs.declared.record.Answer.{Answer}
use Rattle.record.specs.declared.record.Answer.TheVariants.{Map as MapAnswer}
use Rattle.record.specs.Answers.{moment_of}
use Rattle.linearization.specs.declared.places.Change.{Change}
use Rattle.linearization.specs.Entries.{AreEntries}
use Rattle.linearization.specs.Ordered.{FallFrom, IsOrderedRead}

-- the moment of a call that reads: the greatest turn within the call, whoever's, after which the
-- map has this at the key, where the changes are those of the log
abbrev pub IsReadMoment : List Call → List Line → List Change → ℕ → Option ℕ → ℕ → ℕ → Option ℕ → Type 0
IsReadMoment calls lines changes key told first last moment = AreEntries calls lines changes → IfSome moment (λ m. IsGreatestTurn (λ n. get key (map_at calls lines n) ≡ told) first last m) × IfNone moment ((n : ℕ) → first ≤ n → n ≤ last → get key (map_at calls lines n) ≢ told)

-- the moment of an ordered read: the greatest of its turns after which the map replies what this
-- reply says, if there is one
pub record IsOrderedMoment (calls : List Call) (lines : List Line) (changes : List Change) (command : Command) (reply : Reply ℕ ℕ) (first last : ℕ) (moment : Option ℕ) : Type 0 where
  pub turn : ℕ
  pub is : moment ≡ Some turn
  pub within : first ≤ last → FallFrom (suc last) changes → (first ≤ turn) × (turn ≤ last)
  pub greatest : (call : MapCall) (n : ℕ) → AreEntries calls lines changes → FallFrom (suc last) changes → IsOrderedRead command → map_call (Some command) ≡ Some call → first ≤ n → n ≤ last → number_reply reply ≡ Some (replies_on call (map_at calls lines n)) → IsGreatestTurn (λ m. number_reply reply ≡ Some (replies_on call (map_at calls lines m))) first last turn

-- the moment of a call that reads, and has answered this: of its key, or else in order
abbrev pub IsReadingMoment : List Call → List Line → List Change → Command → Reply ℕ ℕ → Option ℕ → Option MapReply → ℕ → ℕ → Option ℕ → Type 0
IsReadingMoment calls lines changes command reply (Some key) (Some (OneValue told)) first last moment = IsReadMoment calls lines changes key told first last moment
IsReadingMoment calls lines changes command reply None (Some told) first last moment = IsOrderedMoment calls lines changes command reply first last moment
IsReadingMoment calls lines changes command reply key told first last moment = moment ≡ None

-- of a call that has changed the map it is the turn of its entry; any other reads, or was refused
abbrev pub IsWonOrRead : Bool → Type 0 → Option ℕ → Option ℕ → Type 0
IsWonOrRead true reads won moment = moment ≡ won
IsWonOrRead false reads won moment = reads

-- the moment of a call of the map with this reply, which this command makes
abbrev pub IsReplyMoment : List Call → List Line → List Change → Command → MapCall → Reply ℕ ℕ → ℕ → ℕ → Option ℕ → Option ℕ → Type 0
IsReplyMoment calls lines changes command call reply first last won moment =
    IsWonOrRead (tells_change call (number_reply reply)) (IsReadingMoment calls lines changes command reply (key_told call) (number_reply reply) first last moment) won moment

-- of a call that is one of the map, if it is
abbrev pub IsCallMoment : List Call → List Line → List Change → Command → Option MapCall → Reply ℕ ℕ → ℕ → ℕ → Option ℕ → Option ℕ → Type 0
IsCallMoment calls lines changes command (Some call) reply first last won moment = IsReplyMoment calls lines changes command call reply first last won moment
IsCallMoment calls lines changes command None reply first last won moment = moment ≡ None

-- with this answer
abbrev pub IsAnswerMoment : List Call → List Line → List Change → Command → Option MapCall → Answer → ℕ → ℕ → Option ℕ → Option ℕ → Type 0
IsAnswerMoment calls lines changes command call (MapAnswer reply) first last won moment = IsCallMoment calls lines changes command call reply first last won moment
IsAnswerMoment calls lines changes command call answer first last won moment = moment ≡ moment_of answer first last won

-- the moment of a call with this answer
abbrev pub IsMomentBy : List Call → List Line → List Change → Command → Answer → ℕ → ℕ → Option ℕ → Option ℕ → Type 0
IsMomentBy calls lines changes command = IsAnswerMoment calls lines changes command (map_call (Some command))
