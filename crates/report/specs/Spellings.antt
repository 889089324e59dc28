-- What a report of a version can spell: its numbers fit the words that keep them.
use Rattle.std.specs.Prelude.{ℕ, ◌≡◌, ◌≢◌, ◌<◌, ◌^◌, ⊤, List, All, Some, None, IfSome}
use Rattle.arena.specs.declared.limits.Mode.{Mode}
use Rattle.record.specs.Common.{IsCommand, IsOfMode, Call, Reply, Value, Pairs, Contended, NoMemory, Full as FullShare}
use Rattle.ordered_map.specs.declared.reply.Reply.TheVariants.{Pair}
use Rattle.record.specs.declared.record.Answer.{Answer}
use Rattle.record.specs.declared.record.Answer.TheVariants.{Snapshot, Finalized, Fail, Done, Lost, Same, Changed, Unlinked, Full, Map}
use Rattle.record.specs.declared.record.Entry.{Entry}
use Rattle.record.specs.declared.record.Finished.{Finished}
use Rattle.record.specs.declared.record.Line.{Line}
use Rattle.record.specs.declared.record.Line.TheVariants.{Step, Log, Reply as ReplyLine}
use Rattle.record.specs.declared.record.TurnRow.{TurnRow}
use Rattle.record.specs.declared.record.TurnRow.TheVariants.{Step as Made, Idle}
use Rattle.arena.specs.declared.step.Row.{Row as StepRow}
use Rattle.report.specs.Versions.{HasCommand, value_limit}
use Rattle.report.specs.Words.{IsSpelled}
use Rattle.report.specs.declared.version.Version.{Version}

-- no byte of the text is a space
abbrev pub HasNoSpace : List ℕ → Type 0
HasNoSpace text = All (λ b. b ≢ 32) text

-- a key of 64 bits, and a value
abbrev pub IsSpelledPair : Version → ℕ × ℕ → Type 0
IsSpelledPair version p = (p.0 < 2 ^ 64) × (p.1 < value_limit version)

-- a call that a report of this mode and of this many clients may have
abbrev pub IsReported : Version → Mode → ℕ → Call → Type 0
IsReported version mode passes call = (call.client.0 < passes) × IsOfMode mode call.command × IsCommand call.command × HasCommand version call.command

-- Replies and answers

-- a reply that has one thing after its name, in numbers that fit
abbrev pub IsTelling : Version → Reply ℕ ℕ → Type 0
IsTelling version (Value (Some value)) = value < value_limit version
IsTelling version (Pair (Some p)) = IsSpelledPair version p
IsTelling version (Contended node scx) = (node.0 < 2 ^ 64) × (scx.0 < 2 ^ 64)
IsTelling version (FullShare full) = full.left < 2 ^ 32
IsTelling version reply = ⊥

-- a reply whose numbers fit
abbrev pub IsSpelledReply : Version → Reply ℕ ℕ → Type 0
IsSpelledReply version (Value None) = ⊤
IsSpelledReply version (Pair None) = ⊤
IsSpelledReply version (Pairs ps) = All (IsSpelledPair version) ps.items
IsSpelledReply version NoMemory = ⊤
IsSpelledReply version reply = IsTelling version reply

-- an answer that has one thing after its name, in numbers that fit
abbrev pub IsTellingAnswer : Version → Answer → Type 0
IsTellingAnswer version (Snapshot left right) = (left.0 < 2 ^ 64) × (right.0 < 2 ^ 64)
IsTellingAnswer version (Fail node scx) = (node.0 < 2 ^ 64) × (scx.0 < 2 ^ 64)
IsTellingAnswer version (Lost node scx) = (node.0 < 2 ^ 64) × (scx.0 < 2 ^ 64)
IsTellingAnswer version (Changed node scx) = (node.0 < 2 ^ 64) × (scx.0 < 2 ^ 64)
IsTellingAnswer version (Unlinked node) = node.0 < 2 ^ 64
IsTellingAnswer version (Full what left) = left < 2 ^ 32
IsTellingAnswer version (Map reply) = IsTelling version reply
IsTellingAnswer version answer = ⊥

-- an answer whose numbers fit
abbrev pub IsSpelledAnswer : Version → Answer → Type 0
IsSpelledAnswer version Finalized = ⊤
IsSpelledAnswer version Done = ⊤
IsSpelledAnswer version Same = ⊤
IsSpelledAnswer version (Map reply) = IsSpelledReply version reply
IsSpelledAnswer version answer = IsTellingAnswer version answer

-- the answer is of many pairs
abbrev pub TellsPairs : Answer → Type 0
TellsPairs (Map (Pairs ps)) = ⊤
TellsPairs answer = ⊥

-- Lines

-- a step whose numbers fit, and whose word a table may have
pub record IsSpelledStep (version : Version) (row : StepRow) : Type 0 where
  pub pass : row.pass.0 < 2 ^ 32
  pub word : IsSpelled version row.word
  pub before : row.before < 2 ^ 64
  pub after : row.after < 2 ^ 64

-- a turn whose numbers fit
abbrev pub IsSpelledTurn : Version → TurnRow → Type 0
IsSpelledTurn version (Made number row) = (number < 2 ^ 64) × IsSpelledStep version row
IsSpelledTurn version (Idle number client) = (number < 2 ^ 64) × (client.0 < 2 ^ 32)

-- an entry of the log whose numbers fit
pub record IsSpelledEntry (entry : Entry) : Type 0 where
  pub place : entry.place < 2 ^ 64
  pub step : entry.step < 2 ^ 64
  pub scx : entry.scx.0 < 2 ^ 64
  pub client : entry.client.0 < 2 ^ 32
  pub call : entry.call < 2 ^ 64

-- a finished call whose numbers fit
pub record IsSpelledFinished (version : Version) (reply : Finished) : Type 0 where
  pub client : reply.client.0 < 2 ^ 32
  pub call : reply.call < 2 ^ 64
  pub begin : reply.begin < 2 ^ 64
  pub end : reply.end < 2 ^ 64
  pub moment : IfSome reply.moment (λ moment. moment < 2 ^ 64)
  pub answer : IsSpelledAnswer version reply.answer

-- a line whose numbers fit
abbrev pub IsSpelledLine : Version → Line → Type 0
IsSpelledLine version (Step row) = IsSpelledTurn version row
IsSpelledLine version (Log entry) = IsSpelledEntry entry
IsSpelledLine version (ReplyLine reply) = IsSpelledFinished version reply

-- the line is a reply
abbrev pub IsReplyLine : Line → Type 0
IsReplyLine (Step row) = ⊥
IsReplyLine (Log entry) = ⊥
IsReplyLine (ReplyLine reply) = ⊤
