-- With which pairs a map may begin: from the start its words show a tree of them.
use Rattle.std.specs.Prelude.{◌≡◌, ℕ, ◌*◌, ◌^◌, ◌<◌, ◌≤◌, suc, length, List, [], ◌∷◌, ◌++◌}
use Rattle.arena.specs.declared.limits.Mode.TheVariants.{Trie as TrieMode}
use Rattle.histories.specs.Common.{Tree as TreeMode, Right, Settled, Head, Word, Layout, nodes_at_start, node, child, History, value, opening_of, taken_nodes}
use Rattle.ordered_map.specs.declared.pair.Pair.{Pair}
use Rattle.ordered_map.specs.OrderedMap.{pair}
use Rattle.ordered_map.specs.TreeWords.{class, level, leaf_items, Tree, Leaf, Fork, Has, IsBlankAboveKeys}
use Rattle.ordered_map.specs.Bits.{IsTrieFork}
use Rattle.ordered_map.specs.Spelled.{IsTree}

-- the items of the leaves from left to right
abbrev pub items : (Word → ℕ) → Tree → List Pair
items f (Leaf n) = leaf_items f n
items f (Fork n a b) = items f a ++ items f b

-- the two last leaves
abbrev pub ends : List Pair
ends = pair (2 ^ 64) 0 ∷ pair (2 * 2 ^ 64) 0 ∷ []

-- the last leaf of a tree
abbrev pub last_leaf : Tree → ℕ
last_leaf (Leaf n) = n
last_leaf (Fork n a b) = last_leaf b

-- below each fork of class 0 the last leaf is of class 0
abbrev pub EndsLow : (Word → ℕ) → Tree → Type 0
EndsLow f (Leaf n) = Unit {0}
EndsLow f (Fork n a b) = (class f n ≡ 0 → class f (last_leaf b) ≡ 0) × EndsLow f a × EndsLow f b

-- pairs by key and value
abbrev pub pairs_of : List (ℕ × ℕ) → List Pair
pairs_of [] = []
pairs_of (p ∷ ps) = pair p.0 p.1 ∷ pairs_of ps

-- the pairs with which the map of the history began
abbrev pub first_pairs : History → List Pair
first_pairs h = pairs_of (opening_of h).pairs

-- The history is an opening whose words show a tree of its pairs: its leaves hold them from left to
-- right, and end with the two that are above all keys. All nodes that are there are in it. Its
-- root, and node 2 below it, are those of an empty map. In a tree no node is more than one level
-- deeper than there are nodes that count as taken; in a trie each fork parts keys at a bit. It is
-- said of the dummy, which is there as the table begins.
pub record IsPlanted (lay : Layout) (h : History) (s : ℕ) : Type 0 where
  pub dummy : s ≡ 0
  pub tree : Tree
  pub is_tree : IsTree (value h) tree
  pub items : items (value h) tree ≡ first_pairs h ++ ends
  pub ends_low : EndsLow (value h) tree
  pub whole : (n : ℕ) → n < nodes_at_start lay.mode (opening_of h).planted → Has tree n
  pub there : (n : ℕ) → Has tree n → n < nodes_at_start lay.mode (opening_of h).planted
  pub root : value h (node 0 (Settled Head)) ≡ 2
  pub last : value h (node 2 (Settled Head)) ≡ 14
  pub right : value h (child 0 Right) ≡ 2
  pub blank : (n : ℕ) → Has tree n → IsBlankAboveKeys (value h) n
  pub deep : lay.mode ≡ TreeMode → (n : ℕ) → Has tree n → level (value h) n ≤ suc (length (taken_nodes h))
  pub forks : lay.mode ≡ TrieMode → (n : ℕ) → Has tree n → IsTrieFork (value h) n
