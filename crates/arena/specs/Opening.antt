-- Which modes are a map's, and the nodes that are there from the start.
use Rattle.std.specs.Prelude.{◌≡◌, ℕ, ◌+◌, Bool, true, false, if◌then◌else◌}
use Rattle.arena.specs.declared.limits.Mode.{Mode}
use Rattle.arena.specs.declared.limits.Mode.TheVariants.{Tree, Trie, Records}

-- a table of this mode holds a map, as a tree or as a trie
abbrev pub is_map : Mode → Bool
is_map Tree = true
is_map Trie = true
is_map Records = false

-- the mode is a map's
abbrev pub IsMap : Mode → Type 0
IsMap mode = is_map mode ≡ true

-- how many words a node has in a table of this mode. In a trie the words by which a walk passes it
-- are in one line of the cache wherever the nodes begin; in a tree nodes take less memory
abbrev pub node_size : Mode → ℕ
node_size Tree = 18
node_size Trie = 24
node_size Records = 18

-- how many nodes are there from the start: the three of an empty map and those that are planted
-- with its first pairs, or node 0 and the cells 1 to 8
abbrev pub nodes_at_start : Mode → ℕ → ℕ
nodes_at_start mode planted = if is_map mode then 3 + planted else 9
