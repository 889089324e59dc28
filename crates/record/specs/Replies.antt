-- Replies: to a call whose last turn is the newest one.
use Rattle.std.specs.Prelude.{◌≡◌, ℕ, ◌≤◌, List, ◌∷◌, Some}
use Rattle.arena.specs.declared.layout.Layout.{Layout}
use Rattle.script.specs.declared.call.Call.{Call}
use Rattle.script.specs.declared.command.Command.{Command}
use Rattle.record.specs.declared.record.Line.{Line}
use Rattle.record.specs.declared.record.Line.TheVariants.{Step}
use Rattle.record.specs.declared.record.TurnRow.TheVariants.{Idle}
use Rattle.record.specs.declared.record.Finished.{Finished}
use Rattle.record.specs.declared.record.Answer.{Answer}
use Rattle.record.specs.Turns.{history, turns, last_client, answered, begin, start, won}
use Rattle.record.specs.Answers.{HasItsEntry}
use Rattle.record.specs.CommandRules.{MayAnswerAtOnce, MayAnswerAfterStep, HasTakenFew, enters, IsRight, IsPlaced}
use Rattle.record.specs.Commands.{next_command}
use Rattle.record.specs.Linked.{linked}

-- the newest line is the idle turn of a client that has a call left:
-- the whole of that call, whose reply comes next
abbrev pub IsReplyOwed : List Call → List Line → Type 0
IsReplyOwed calls (Step (Idle number client) ∷ lines) = (command : Command) × (next_command calls lines client.0 ≡ Some command)
IsReplyOwed calls _ = ⊥

-- the answer is one that the command may give: after a step, or in place of one
abbrev pub IsFitting : List Line → Command → Answer → Type 0
IsFitting (Step (Idle number client) ∷ lines) command answer = MayAnswerAtOnce command answer
IsFitting lines command answer = MayAnswerAfterStep command answer

-- the reply to the next call of the client that made the newest turn, which is the call's last; a
-- call may make `tries` tries
pub record IsReply (lay : Layout) (tries : ℕ) (calls : List Call) (lines : List Line) (reply : Finished) : Type 0 where
  pub client : last_client lines ≡ Some reply.client.0
  pub call : reply.call ≡ answered lines reply.client.0
  pub begin : begin lines reply.client.0 ≡ Some reply.begin
  pub end : reply.end ≡ turns lines
  pub command : Command
  pub is : next_command calls lines reply.client.0 ≡ Some command
  pub fits : IsFitting lines command reply.answer
  -- the answer is true
  pub right : IsRight lay tries reply.client.0 (history lay.mode lines) (start lay.mode lines reply.client.0) (linked calls lay.mode lines reply.client.0) command reply.answer
  -- the call has taken no more of the client's share than it may
  pub took : HasTakenFew lay tries reply.client.0 (history lay.mode lines) (start lay.mode lines reply.client.0) command
  -- the call took place where the reply says
  pub placed : IsPlaced lay calls lines reply command
  -- the moment, if there is one, is within the call
  pub within : (m : ℕ) → reply.moment ≡ Some m → (reply.begin ≤ m) × (m ≤ reply.end)
  -- an update of the call is in the log if the answer says so, and only then
  pub entry : HasItsEntry (enters command reply.answer) (won lay lines reply.client.0)
