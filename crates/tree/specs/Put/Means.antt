-- What an insert needs, looks at, reads and fills.
use Rattle.std.specs.Prelude.{ℕ, ◌+◌, ◌-◌, ◌^◌, min, nat_lt, ◌==◌, if◌then◌else◌, Bool, false, not, ◌&&◌, unwrap_or, List, [], ◌∷◌, take, drop, Option, Some, None}
use Rattle.arena.specs.declared.number.NodeNo.{NodeNo}
use Rattle.template.specs.Common.{Pair, Insert as PutEdit, pair, insert, leaf_plan, Key as ToKey}
use Rattle.template.specs.declared.walk.Found.{Found}
use Rattle.template.specs.declared.walk.Way.{Way}
use Rattle.template.specs.declared.walk.Way.TheVariants.{InTree, Within}
use Rattle.ordered_map.specs.Bits.{place_between}
use Rattle.ordered_map.specs.EditPlans.{above_plan}
use Rattle.ordered_map.specs.OrderedMap.{last_pair}
use Rattle.ordered_map.specs.declared.fork_place.ForkPlace.{ForkPlace}
use Rattle.tree.specs.LeafEdit.{leaf_looks, leaf_reads}
use Rattle.tree.specs.declared.put.PutPair.{PutPair}
use Rattle.edits.specs.declared.edit.Nodes.{Nodes}
use Rattle.edits.specs.declared.edit.Nth.{Nth}
use Rattle.edits.specs.declared.edit.Nth.TheVariants.{First, Second, Third}
use Rattle.edits.specs.declared.edit.Work.{Work}
use Rattle.edits.specs.declared.piece.Piece.{Piece}
use Rattle.edits.specs.declared.piece.Piece.TheVariants.{Leaf, Fork}
use Rattle.edits.specs.declared.reading.Reading.{Reading}
use Rattle.edits.specs.Edits.{EditMeaning}
use Rattle.edits.specs.Pairs.{below, pair_at}

-- whether the leaf has room for one pair more: one above all keys has none
abbrev pub has_room : Found → Bool
has_room f = if f.head.class == 0 then nat_lt f.more 3 else false

-- a new key takes a leaf more, where the leaf has no room for it
abbrev pub splits_by : Option ℕ → Bool → Bool
splits_by (Some v) room = false
splits_by None room = not room

abbrev pub splits : Found → Bool
splits f = splits_by f.value (has_room f)

-- two leaves take three nodes; else one leaf is enough
abbrev pub put_need : Bool → ℕ
put_need split = if split then 3 else 1

-- whether a fork of a trie was found, which the key does not share: then it has no value
abbrev pub strays_by : Option ℕ → Bool → Bool
strays_by (Some v) fork = false
strays_by None fork = fork

abbrev pub strays : Bool → Found → Bool
strays trie f = strays_by f.value (trie && not f.head.leaf)

-- what it covers besides the parent: the leaf, or node 2 where it puts a fork above a fork
abbrev pub next_node : Bool → Found → NodeNo
next_node trie f = if strays trie f then record { 0 = 2 } else f.trail.node

-- a leaf and a fork over it go above a fork, and nothing is finalized
abbrev pub put_work_by : Bool → Bool → Found → Work
put_work_by above split f =
    if above then record { need = 2; plan = record { 0 = above_plan f.trail.side } }
    else record { need = put_need split; plan = record { 0 = leaf_plan f.trail.side } }

abbrev pub put_work : Bool → Found → Work
put_work trie f = put_work_by (strays trie f) (splits f) f

-- it reads the pairs of a leaf of class 0
abbrev pub put_reads : Bool → Found → Option (NodeNo × Reading)
put_reads trie f = if strays trie f then None else (if f.head.class == 0 then Some (leaf_reads f) else None)

-- the pairs of the leaf with the new one: five at most
abbrev pub pairs_with : ℕ → ℕ → Found → Reading → List Pair
pairs_with k v f read = if f.head.class == 0 then take 5 (insert k v read.pairs) else pair k v ∷ []

-- those of them that go to the second of two leaves; of a leaf above all keys its own key, 0
abbrev pub second_pairs : Found → List Pair → List Pair
second_pairs f ps = if f.head.class == 0 then drop 2 ps else pair 0 0 ∷ []

-- the level below, if a word can hold it
abbrev pub lower : ℕ → ℕ
lower level = min (level + 1) (2 ^ 64 - 1)

-- the fork over two leaves, with the first key of the second
abbrev pub fork_over : List Pair → Found → Nodes → Piece
fork_over second f ns = Fork f.head.level f.head.class (pair_at second 0).key ns.first ns.second

-- In a trie

-- two nodes: a leaf with the pair alone, and the fork over it and the fork that was found, between
-- whose keys it is
abbrev pub above_pieces : ℕ → ℕ → Found → Nodes → Nth → Piece
above_pieces k v f ns First = Leaf 66 0 (pair k v ∷ [])
above_pieces k v f ns nth = Fork (place_between k f.key).level 0 (place_between k f.key).key (if nat_lt k f.key then ns.first else f.trail.node) (if nat_lt k f.key then f.trail.node else ns.first)

-- the fork between the first and the last of these pairs
abbrev pub place_among : List Pair → ForkPlace
place_among ps = place_between (pair_at ps 0).key (unwrap_or (last_pair ps) (pair 0 0)).key

-- three nodes that hold these pairs: those below its key, the others, and it
abbrev pub low_parts : List Pair → Nodes → Nth → Piece
low_parts ps ns First = Leaf 66 0 (take (below (place_among ps).key ps) ps)
low_parts ps ns Second = Leaf 66 0 (drop (below (place_among ps).key ps) ps)
low_parts ps ns Third = Fork (place_among ps).level 0 (place_among ps).key ns.first ns.second

-- and where the map is empty: they, a copy of the leaf above all keys, and a fork of its class
abbrev pub high_parts : List Pair → ℕ → Nodes → Nth → Piece
high_parts ps class ns First = Leaf 66 0 ps
high_parts ps class ns Second = Leaf 2 class (pair 0 0 ∷ [])
high_parts ps class ns Third = Fork 1 class 0 ns.first ns.second

abbrev pub parts_by : Bool → List Pair → Found → Nodes → Nth → Piece
parts_by low ps f ns nth = if low then low_parts ps ns nth else high_parts ps f.head.class ns nth

abbrev pub parted_pieces : List Pair → Found → Nodes → Nth → Piece
parted_pieces ps f ns nth = parts_by (f.head.class == 0) ps f ns nth

-- In a tree

-- three nodes that hold these pairs: two leaves, and the fork over them
abbrev pub split_pieces : List Pair → Found → Nodes → Nth → Piece
split_pieces ps f ns First = Leaf (lower f.head.level) 0 (take 2 ps)
split_pieces ps f ns Second = Leaf (lower f.head.level) f.head.class (second_pairs f ps)
split_pieces ps f ns Third = fork_over (second_pairs f ps) f ns

-- those three, or one leaf
abbrev pub split_or_leaf : Bool → Bool → List Pair → Found → Nodes → Nth → Piece
split_or_leaf trie split ps f ns nth =
    if split then (if trie then parted_pieces ps f ns nth else split_pieces ps f ns nth)
    else Leaf f.head.level 0 ps

abbrev pub put_pieces : ℕ → ℕ → Bool → Found → Nodes → Reading → Nth → Piece
put_pieces k v trie f ns read nth =
    if strays trie f then above_pieces k v f ns nth
    else split_or_leaf trie (splits f) (pairs_with k v f read) f ns nth

-- in a trie it ends at a fork that the key does not share
abbrev pub put_way : Bool → Way
put_way trie = if trie then Within else InTree

-- the edit that an insert is
abbrev pub put_means : EditMeaning PutPair
put_means = record {
  goal = λ e. ToKey e.key;
  way = λ e. put_way e.trie;
  guard = λ e. false;
  edit = λ e f. PutEdit e.key e.value;
  work = λ e f. put_work e.trie f;
  most_nodes = λ e. 3;
  looks = λ e f snaps. leaf_looks f (next_node e.trie f) snaps;
  most_looks = λ e. 2;
  reads = λ e f snaps. put_reads e.trie f;
  most_reads = λ e. 12;
  pieces = λ e f snaps ns read nth. put_pieces e.key e.value e.trie f ns read nth;
  most_fills = λ e. 23;
}
