-- What is played as a schedule asks, while it is followed.
use Rattle.std.specs.Prelude.{◌≡◌, ◌⊎◌, ⊤, ℕ, List, [], ◌∷◌, ◌++◌}
use Rattle.script.specs.declared.call.Call.{Call}
use Rattle.script.specs.declared.schedule.Order.{Order}
use Rattle.script.specs.declared.schedule.Order.TheVariants.{Step, Call as CallOf, Until, Finish}
use Rattle.record.specs.declared.record.Line.{Line}
use Rattle.record.specs.OneClient.{AreMadeWhile, HasCall}
use Rattle.record.specs.Schedules.{AsksForMore, IsOrdered, ordered_client}
use Rattle.record.specs.Turns.{answered, made, turns}
use Rattle.player.specs.Player.{PlayerView}

-- the lines after the older ones are turns that the order means, from its first on: all are its
-- client's, and each was made while the order still asked for one
pub record IsFollowedSoFar (calls : List Call) (order : Order) (older newer : List Line) : Type 0 where
  pub behind : List Line
  pub lines : newer ≡ behind ++ older
  pub each : AreMadeWhile (AsksForMore calls order older) (ordered_client order) older behind

-- the lines after the older ones are turns that these orders mean, one order after another, as far
-- as they were followed
abbrev pub AreFollowedSoFar : List Call → List Order → List Line → List Line → Type 0
AreFollowedSoFar calls [] older newer = newer ≡ older
AreFollowedSoFar calls (order ∷ orders) older newer = IsFollowedSoFar calls order older newer ⊎ ((between : List Line) × IsOrdered calls order older between × AreFollowedSoFar calls orders between newer)

-- the script was played from the lines of p on: `so` holds of all lines now, `such` of the player
pub record HasFollowed (p : PlayerView) (so : List Line → Type 0) (such : PlayerView → Type 0) : Type 0 where
  pub later : PlayerView
  pub script : later.script ≡ p.script
  pub asked : so later.lines
  pub stands : such later

-- How much of an order is done is counted: it is obeyed once as much has been done as it wants, or
-- once its client has no call left, where it asks for no other turns

-- how much it wants
abbrev pub wanted_of : Order → ℕ
wanted_of (Step client times) = times
wanted_of (CallOf client) = 1
wanted_of (Until client kind times) = times
wanted_of (Finish client) = 1

-- how much there is, in all turns so far: turns, replies or steps of the kind; of what a `finish`
-- wants there is never any
abbrev pub counting : Order → List Line → ℕ
counting (Step client times) lines = turns lines
counting (CallOf client) lines = answered lines client.0
counting (Until client kind times) lines = made lines client.0 kind
counting (Finish client) lines = 0

-- its client may make a turn
abbrev pub MayTurn : List Call → Order → List Line → Type 0
MayTurn calls (Step client times) lines = ⊤
MayTurn calls (CallOf client) lines = HasCall calls client.0 lines
MayTurn calls (Until client kind times) lines = HasCall calls client.0 lines
MayTurn calls (Finish client) lines = HasCall calls client.0 lines
