-- How many steps a walk may still ask for: three a node, of levels that rise, and five more at its
-- leaf.
use Rattle.std.specs.Prelude.{ℕ, ◌+◌, ◌-◌, ◌*◌, ◌<◌, Option, unwrap_or}
use Rattle.histories.specs.Common.{head_of, slot_no}
use Rattle.template.specs.declared.walk.Way.{Way}
use Rattle.template.specs.declared.walk.Way.TheVariants.{InTree, InTrie, Within}
use Rattle.template.specs.declared.walk.WalkRun.{WalkRun}
use Rattle.template.specs.declared.walk.WalkAt.{WalkAt}
use Rattle.template.specs.declared.walk.WalkAt.TheVariants.{Start, Root, Head, Key, Child, More, Pair, Value, High}

-- how many steps a walk may still ask for at this place, where no more nodes than these are taken:
-- a path has at most two nodes more than are taken
abbrev pub walk_left : WalkAt → ℕ → ℕ
walk_left Start nodes = 3 * (2 + nodes) + 5
walk_left Root nodes = 3 * (2 + nodes) + 4
walk_left (Head above) nodes = 3 * (1 + nodes - above) + 4
walk_left (Key head) nodes = 3 * (2 + nodes - head.level) + 3
walk_left (Child level side) nodes = 3 * (2 + nodes - level) + 2
walk_left (More head) nodes = 3 * (2 + nodes - head.level) + 3
walk_left (Pair head more slot) nodes = 3 * (2 + nodes - head.level) + 2 - slot_no slot
walk_left (Value head more slot key) nodes = 3 * (2 + nodes - head.level) - 2
walk_left (High head more slot key low) nodes = 3 * (2 + nodes - head.level) - 3

-- what a walk gets at this place does not lead it deeper than this number of taken nodes allows
abbrev pub WalkFitsAt : WalkAt → ℕ → ℕ → Type 0
WalkFitsAt Root v nodes = (head_of v).level < 2 + nodes
WalkFitsAt (Head above) v nodes = (above < (head_of v).level) × ((head_of v).level < 2 + nodes)
WalkFitsAt (Key head) v nodes = head.level < 2 + nodes
WalkFitsAt (Child level side) v nodes = level + 1 < 2 + nodes
WalkFitsAt (Pair head more slot) v nodes = head.level < 2 + nodes
WalkFitsAt (Value head more slot key) v nodes = head.level < 2 + nodes
WalkFitsAt _ v nodes = Unit {0}

-- what stands for this number of taken nodes in the bounds of a walk: in a tree it is that, in a
-- trie, which has 67 levels at most, 65
abbrev pub room : Way → ℕ → ℕ
room InTree nodes = nodes
room InTrie nodes = 65
room Within nodes = 65

-- how many steps a walk may still ask for, where no more nodes than these are taken
abbrev pub steps_left : WalkRun → ℕ → ℕ
steps_left m nodes = walk_left m.at (room m.way nodes)

-- what a walk gets fits this number of taken nodes
abbrev pub WalkFits : WalkRun → Option ℕ → ℕ → Type 0
WalkFits m got nodes = WalkFitsAt m.at (unwrap_or got 0) (room m.way nodes)
