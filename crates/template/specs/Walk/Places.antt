-- A walk to a goal, by its place.
use Rattle.std.specs.Prelude.{ℕ}
use Rattle.histories.specs.Common.{Side, Left}
use Rattle.ordered_map.specs.declared.rule.Goal.{Goal}
use Rattle.template.specs.declared.walk.Trail.{Trail}
use Rattle.template.specs.declared.walk.WalkAt.{WalkAt}
use Rattle.template.specs.declared.walk.WalkAt.TheVariants.{Start, Root, Head}
use Rattle.template.specs.declared.walk.Way.{Way}
use Rattle.template.specs.declared.walk.Way.TheVariants.{InTree}
use Rattle.template.specs.declared.walk.WalkRun.{WalkRun}

-- the walk by this way to this goal at this place of this trail
abbrev pub way_at : Way → Goal → Trail → WalkAt → WalkRun
way_at way goal trail at = record { goal = goal; way = way; trail = trail; at = at }

-- that of a tree
abbrev pub walk_at : Goal → Trail → WalkAt → WalkRun
walk_at goal trail at = way_at InTree goal trail at

-- the trail of a walk that is at the root
abbrev pub root_trail : Trail
root_trail = record { grand = record { 0 = 0 }; grand_side = Left; parent = record { 0 = 0 }; side = Left; node = record { 0 = 0 } }

-- the walk by this way to this goal that has asked for the head of the root
abbrev pub way_from : Way → Goal → WalkRun
way_from way goal = way_at way goal root_trail Root

-- that of a tree
abbrev pub walk_from : Goal → WalkRun
walk_from goal = way_from InTree goal

-- the trail one node further down, on this side
abbrev pub trail_below : Trail → Side → ℕ → Trail
trail_below t side n = record { grand = t.parent; grand_side = t.side; parent = t.node; side = side; node = record { 0 = n } }

-- the place is one at which a walk loads a head
abbrev pub LoadsHead : WalkAt → Type 0
LoadsHead Root = Unit {0}
LoadsHead (Head above) = Unit {0}
LoadsHead _ = ⊥

-- the place is one after the load of the root's head
abbrev pub IsPastRoot : WalkAt → Type 0
IsPastRoot Start = ⊥
IsPastRoot Root = ⊥
IsPastRoot _ = Unit {0}
