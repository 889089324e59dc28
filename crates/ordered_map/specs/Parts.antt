-- Parts of the tree that words may show, and what leaves hold: what the reader of words needs.
use Rattle.std.specs.Prelude.{◌≡◌, ℕ, suc, ◌+◌, ◌-◌, ◌*◌, ◌^◌, ◌<◌, ◌≤◌, true, false, List, [], ◌∷◌, ◌++◌, All}
use Rattle.histories.specs.Common.{all_nodes, Contents, word_at, node, first_key}
use Rattle.ordered_map.specs.declared.part.Part.{Part}
use Rattle.ordered_map.specs.declared.part.Seen.{Seen}
use Rattle.ordered_map.specs.declared.part.Seen.TheVariants.{Leaf as LeafSeen, Fork as ForkSeen, Nothing}
use Rattle.ordered_map.specs.declared.pair.Pair.{Pair}
use Rattle.ordered_map.specs.Holding.{held_pairs, IsWellCounted}
use Rattle.ordered_map.specs.OrderedMap.{AllBelow, IsRising}
use Rattle.ordered_map.specs.TreeWords.{class, is_leaf, level, rank, leaf_pairs, Tree, Leaf, Fork, root, Shows, Has, leaf_nodes}
use Rattle.ordered_map.specs.Spelled.{IsTree}

-- the words show this tree, and it is as the part asks for
pub record IsPart (c : Contents) (p : Part) (t : Tree) : Type 0 where
  pub shows : Shows (word_at c) p.low p.high t
  pub is : root t ≡ p.node
  pub deep : p.level ≤ level (word_at c) p.node
  pub inside : (n : ℕ) → Has t n → n < all_nodes c.layout

-- no more than this is to be read of a part
abbrev pub part_size : Part → ℕ
part_size p = suc (2 * (p.high - p.low) - 2)

-- the trees of a part are forks over those of two smaller parts
pub record IsSplitInto (c : Contents) (p left right : Part) : Type 0 where
  pub apart : (t : Tree) → IsPart c p t → (a b : Tree) × (t ≡ Fork p.node a b) × IsPart c left a × IsPart c right b
  pub joined : (a b : Tree) → IsPart c left a → IsPart c right b → IsPart c p (Fork p.node a b)
  pub smaller : part_size left + part_size right < part_size p

-- the part is a leaf, is made of two parts, or there is no tree such as it asks for
abbrev pub IsSeen : Contents → Part → Seen → Type 0
IsSeen c p LeafSeen = IsPart c p (Leaf p.node) × ((t : Tree) → IsPart c p t → t ≡ Leaf p.node)
IsSeen c p (ForkSeen left right) = IsSplitInto c p left right
IsSeen c p Nothing = (t : Tree) → ¬ IsPart c p t

-- a node of this level and of this rank meets what is asked of a part's root
abbrev pub IsFit : Part → ℕ → ℕ → Type 0
IsFit p l r = (p.level ≤ l) × (p.low ≤ r) × (r < p.high)

-- the root of a part is a fork of the table that meets what is asked of it; its rank, and the next
-- level
pub record IsRoot (c : Contents) (p : Part) (least at : ℕ) : Type 0 where
  pub inside : p.node < all_nodes c.layout
  pub fork : is_leaf (word_at c) p.node ≡ false
  pub below : least ≡ suc (level (word_at c) p.node)
  pub rank : at ≡ rank (word_at c) p.node
  pub fits : IsFit p (level (word_at c) p.node) at

-- the root of a part is a leaf of the table that meets what is asked of it
pub record IsLeafRoot (c : Contents) (p : Part) : Type 0 where
  pub inside : p.node < all_nodes c.layout
  pub leaf : is_leaf (word_at c) p.node ≡ true
  pub small : word_at c (node p.node first_key) < 2 ^ 64
  pub fits : IsFit p (level (word_at c) p.node) (rank (word_at c) p.node)

-- the pairs are in the order of rising keys, and their keys are words below `high`
abbrev pub AreInOrder : ℕ → List Pair → Type 0
AreInOrder high ps = IsRising ps × AllBelow high ps × AllBelow (2 ^ 64) ps

-- a leaf of class 0 holds as many pairs as it may hold, in order
abbrev pub HoldsInOrder : Contents → ℕ → ℕ → Type 0
HoldsInOrder c n high = IsWellCounted (word_at c) n × AreInOrder high (held_pairs (word_at c) n)

-- from node 0 the words show a tree of nodes of the table, with these leaves
pub record ShowLeaves (c : Contents) (ns : List ℕ) : Type 0 where
  pub tree : Tree
  pub is_tree : IsTree (word_at c) tree
  pub inside : (n : ℕ) → Has tree n → n < all_nodes c.layout
  pub leaves : leaf_nodes tree ≡ ns

-- nodes of the table
abbrev pub AreInside : Contents → List ℕ → Type 0
AreInside c ns = All (λ n. n < all_nodes c.layout) ns

-- the leaves end with one of class 1 and node 2, of class 2, after these others
pub record HasEnds (c : Contents) (ns others : List ℕ) : Type 0 where
  pub one : ℕ
  pub last : ns ≡ others ++ one ∷ 2 ∷ []
  pub class_one : class (word_at c) one ≡ 1
  pub class_two : class (word_at c) 2 ≡ 2

-- the pairs of leaves, from the first on
abbrev pub all_pairs : Contents → List ℕ → List Pair
all_pairs c [] = []
all_pairs c (n ∷ ns) = leaf_pairs (word_at c) n ++ all_pairs c ns

-- the leaves are of class 0, and hold these pairs
pub record HoldPairs (c : Contents) (ns : List ℕ) (m : List Pair) : Type 0 where
  pub low : All (λ n. class (word_at c) n ≡ 0) ns
  pub pairs : all_pairs c ns ≡ m
