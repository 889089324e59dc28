-- What the map answers a call that walks to a goal, and what the leaf that was found says of that.
use Rattle.std.specs.Prelude.{◌≡◌, List}
use Rattle.histories.specs.Common.{Layout, History, value, Extends}
use Rattle.template.specs.Common.{MapReply, OneValue, goal_told, pair_or_none, Spells, Pair, end_told, Goal, Key as ToKey, End}
use Rattle.template.specs.declared.walk.Found.{Found}

-- what the leaf that was found says that the goal finds in the map
abbrev pub leaf_told : Goal → Found → MapReply
leaf_told (ToKey k) f = OneValue f.value
leaf_told (End side) f = pair_or_none (end_told f)

-- at a moment of the history that is not before `start` the words spell a map that replies this
pub record IsGoalToldAt (lay : Layout) (h start : History) (goal : Goal) (told : MapReply) : Type 0 where
  pub moment : History
  pub within : Extends h moment
  pub since : Extends moment start
  pub map : List Pair
  pub spelled : Spells lay (value moment) map
  pub gives : goal_told goal map ≡ told
