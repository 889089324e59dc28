-- Which key of the map a command may change.
use Rattle.std.specs.Prelude.{ℕ, Option, Some, None}
use Rattle.record.specs.Common.{MapCall, Edit, Command, map_call}
use Rattle.ordered_map.specs.OrderedMap.{goal_key}

-- the key that this call may change, if it names it; one that takes the first pair does not
abbrev pub edited_key : Option MapCall → Option ℕ
edited_key (Some (Edit goal rule)) = goal_key goal None
edited_key _ = None

-- the key that a command may change, if it names it
abbrev pub changed_key : Command → Option ℕ
changed_key command = edited_key (map_call (Some command))
