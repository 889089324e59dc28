-- The plan words of edits, by the side of the field that they change, and where they cover a leaf
-- that is taken out and its sibling.
use Rattle.std.specs.Prelude.{ℕ}
use Rattle.histories.specs.Common.{Side, Left, Right}

-- the plan word of an edit of a leaf, that changes the field on this side
abbrev pub leaf_plan : Side → ℕ
leaf_plan Left = 18
leaf_plan Right = 530

-- the plan word of taking a leaf out, that changes the field on this side
abbrev pub join_plan : Side → ℕ
join_plan Left = 116
join_plan Right = 628

-- at which place the leaf is covered that is taken out, which is on this side of the parent
abbrev pub leaf_place : Side → ℕ
leaf_place Left = 2
leaf_place Right = 3

-- at which place its sibling is covered
abbrev pub sibling_place : Side → ℕ
sibling_place Left = 3
sibling_place Right = 2

-- in a trie: of an edit of the leaf at an end, which covers node 2 besides
abbrev pub end_leaf_plan : Side → ℕ
end_leaf_plan Left = 19
end_leaf_plan Right = 531

-- of taking the leaf at an end out, which covers node 2 in its place
abbrev pub end_join_plan : Side → ℕ
end_join_plan Left = 52
end_join_plan Right = 564

-- of putting a fork above a fork, which finalizes nothing
abbrev pub above_plan : Side → ℕ
above_plan Left = 2
above_plan Right = 514
