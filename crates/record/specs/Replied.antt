-- What the map has replied within a call.
use Rattle.std.specs.Prelude.{◌≡◌, List}
use Rattle.histories.specs.Common.{Layout, Row, History, ◌⊳◌, value, Extends}
use Rattle.ordered_map.specs.declared.pair.Pair.{Pair}
use Rattle.ordered_map.specs.OrderedMap.{MapCall, MapReply, reply}
use Rattle.ordered_map.specs.Spelled.{Spells}

-- after some row since the call's start, the map that the words spelled replied this to the call
pub record HasReplied (lay : Layout) (now start : History) (call : MapCall) (told : MapReply) : Type 0 where
  pub row : Row
  pub before : History
  pub since : Extends before start
  pub moment : History
  pub behind : Extends moment (row ⊳ before)
  pub within : Extends now moment
  pub map : List Pair
  pub spelled : Spells lay (value moment) map
  pub replies : reply call map ≡ told
