-- What a schedule means: which turns its orders ask for, one order after
-- another. Lines have the newest first here.
use Rattle.std.specs.Prelude.{◌≡◌, ℕ, suc, ◌+◌, ◌<◌, ◌⊎◌, List, [], ◌∷◌, ◌++◌, reverse}
use Rattle.script.specs.declared.call.Call.{Call}
use Rattle.script.specs.declared.schedule.Order.{Order}
use Rattle.script.specs.declared.schedule.Order.TheVariants.{Step, Call as CallOf, Until, Finish}
use Rattle.script.specs.declared.schedule.Schedule.{Schedule}
use Rattle.script.specs.declared.script.Script.{Script}
use Rattle.record.specs.declared.record.Line.{Line}
use Rattle.record.specs.Turns.{turns, clients, answered, made}
use Rattle.record.specs.LawfulRun.{IsLawfulRun}
use Rattle.record.specs.OneClient.{HasCall, HasNoCall, AwaitsReply, AwaitsSteps, AreMadeWhile}

-- the client whose turns an order asks for
abbrev pub ordered_client : Order → ℕ
ordered_client (Step client times) = client.0
ordered_client (CallOf client) = client.0
ordered_client (Until client kind times) = client.0
ordered_client (Finish client) = client.0

-- the order still asks for a turn; the older lines are those before its first
abbrev pub AsksForMore : List Call → Order → List Line → List Line → Type 0
-- not all of these turns are made
AsksForMore calls (Step client times) older lines = turns lines < turns older + times
-- the client has a call left, and has had no reply more
AsksForMore calls (CallOf client) older lines = AwaitsReply calls client.0 older lines
-- the client has a call left, and has not made all of these further steps of the kind
AsksForMore calls (Until client kind times) older lines = AwaitsSteps calls client.0 kind times older lines
-- the client has a call left
AsksForMore calls (Finish client) older lines = HasCall calls client.0 lines

-- nothing is left of the order, whose turns are those from the older lines to the newer
abbrev pub IsObeyed : List Call → Order → List Line → List Line → Type 0
-- this many turns were made
IsObeyed calls (Step client times) older newer = turns newer ≡ turns older + times
-- the client has one reply more; or it had no call left, and no turn was made
IsObeyed calls (CallOf client) older newer = (answered newer client.0 ≡ suc (answered older client.0)) ⊎ (HasNoCall calls client.0 older × (newer ≡ older))
-- the client has made this many more steps of the kind, or has no call left
IsObeyed calls (Until client kind times) older newer = (made newer client.0 kind ≡ made older client.0 kind + times) ⊎ HasNoCall calls client.0 newer
-- the client has no call left
IsObeyed calls (Finish client) older newer = HasNoCall calls client.0 newer

-- the lines after the older ones are the turns that the order means: all are its client's, each
-- was made while the order still asked for one, and in the end nothing is left of it
pub record IsOrdered (calls : List Call) (order : Order) (older newer : List Line) : Type 0 where
  pub behind : List Line
  pub lines : newer ≡ behind ++ older
  pub each : AreMadeWhile (AsksForMore calls order older) (ordered_client order) older behind
  pub obeyed : IsObeyed calls order older newer

-- the lines after the older ones are the turns that these orders mean, one order after another
abbrev pub AreOrdered : List Call → List Order → List Line → List Line → Type 0
AreOrdered calls [] older newer = newer ≡ older
AreOrdered calls (order ∷ orders) older newer = (between : List Line) × IsOrdered calls order older between × AreOrdered calls orders between newer

-- the lines, the first in front, are a lawful run of the script,
-- and its turns are those that the schedule means
pub record IsRunOf (script : Script) (schedule : Schedule) (lines : List Line) : Type 0 where
  pub ordered : AreOrdered script.calls.items schedule.orders.items [] (reverse lines)
  pub lawful : IsLawfulRun script.layout script.limits.tries script.calls.items (reverse (clients (reverse lines))) lines
