-- What the settled words of a node say, and the tree of nodes that words show.
use Rattle.std.specs.Prelude.{◌≡◌, ◌≢◌, ℕ, ◌+◌, ◌*◌, ◌/◌, ◌%◌, ◌^◌, ◌<◌, ◌≤◌, Bool, true, false, if◌then◌else◌, ◌==◌, nat_lt, ◌⊎◌, List, [], ◌∷◌, ◌++◌, Option}
use Rattle.histories.specs.Common.{Side, Left, Right, Settled, Head, Word, node, child, first_key}
use Rattle.ordered_map.specs.declared.pair.Pair.{Pair}
use Rattle.ordered_map.specs.OrderedMap.{pair, AllBelow, AllFrom, IsRising, end_pair, get}
use Rattle.ordered_map.specs.Holding.{held_pairs, IsWellCounted}

-- The settled words of a node; `f` says what each word holds

-- keys of class 0 are those of the map; above all of them are those of class 1, then of class 2
abbrev pub class : (Word → ℕ) → ℕ → ℕ
class f n = f (node n (Settled Head)) % 4

-- whether it is a leaf; otherwise it is a fork
abbrev pub is_leaf : (Word → ℕ) → ℕ → Bool
is_leaf f n = f (node n (Settled Head)) / 4 % 2 == 1

-- what rises from each fork to its children
abbrev pub level : (Word → ℕ) → ℕ → ℕ
level f n = f (node n (Settled Head)) / 8

-- class and key as one number: the class is compared first, since keys are below 2 ^ 64
abbrev pub rank : (Word → ℕ) → ℕ → ℕ
rank f n = class f n * 2 ^ 64 + f (node n first_key)

-- a node that is above all keys has the key 0; what the value of such a leaf is means nothing
abbrev pub IsBlankAboveKeys : (Word → ℕ) → ℕ → Type 0
IsBlankAboveKeys f n = class f n ≢ 0 → f (node n first_key) ≡ 0

-- on which side of the fork n the key k is
abbrev pub toward : (Word → ℕ) → ℕ → ℕ → Side
toward f n k = if nat_lt k (rank f n) then Left else Right

-- the other side
abbrev pub opposite : Side → Side
opposite Left = Right
opposite Right = Left

-- what the leaf n gives to the map: its pairs, by rising key
abbrev pub leaf_pairs : (Word → ℕ) → ℕ → List Pair
leaf_pairs f n = if class f n == 0 then held_pairs f n else []

-- the leaf n in the order of all leaves: its pairs, or one item, its rank, if it is above all keys
abbrev pub leaf_items : (Word → ℕ) → ℕ → List Pair
leaf_items f n = if class f n == 0 then held_pairs f n else pair (rank f n) 0 ∷ []

-- what the leaf n says of the key k
abbrev pub said : (Word → ℕ) → ℕ → ℕ → Option ℕ
said f k n = get k (leaf_pairs f n)

-- what the leaf n says of the key at an end, where it is the leaf there: the pair at its own end
abbrev pub end_said : Side → (Word → ℕ) → ℕ → Option Pair
end_said side f n = end_pair side (leaf_pairs f n)

-- A tree of nodes, by their numbers

-- a leaf, or a fork over two trees
pub data Tree : Type 0 where
  Leaf : ℕ → Tree
  Fork : ℕ → Tree → Tree → Tree

-- the node on its top
abbrev pub root : Tree → ℕ
root (Leaf n) = n
root (Fork n a b) = n

-- the fork n is over the trees a and b: its fields name their roots, whose levels are above its own
pub record IsForkOver (f : Word → ℕ) (n : ℕ) (a b : Tree) : Type 0 where
  pub fork : is_leaf f n ≡ false
  pub left : f (child n Left) ≡ root a
  pub right : f (child n Right) ≡ root b
  pub low : level f n < level f (root a)
  pub high : level f n < level f (root b)

-- the items of the leaf n rise, from `low` to below `high`; they are as many as a leaf may hold,
-- and keys of the map if it is of class 0
pub record HasItems (f : Word → ℕ) (n low high : ℕ) : Type 0 where
  pub keys : class f n ≡ 0 → IsWellCounted f n × AllBelow (2 ^ 64) (held_pairs f n)
  pub rising : IsRising (leaf_items f n)
  pub from : AllFrom low (leaf_items f n)
  pub below : AllBelow high (leaf_items f n)

-- node n is a leaf with its items from `low` to below `high`
pub record IsLeaf (f : Word → ℕ) (n low high : ℕ) : Type 0 where
  pub leaf : is_leaf f n ≡ true
  pub small : f (node n first_key) < 2 ^ 64
  pub items : HasItems f n low high

-- the words show the tree, and all its leaves have items from `low` to below `high`:
-- below a fork all on the left is below it, and all on the right is at it or above
abbrev pub Shows : (Word → ℕ) → ℕ → ℕ → Tree → Type 0
Shows f low high (Leaf n) = IsLeaf f n low high
Shows f low high (Fork n a b) = IsForkOver f n a b × Shows f low (rank f n) a × Shows f (rank f n) high b

-- the pairs of its leaves, from left to right
abbrev pub pairs : (Word → ℕ) → Tree → List Pair
pairs f (Leaf n) = leaf_pairs f n
pairs f (Fork n a b) = pairs f a ++ pairs f b

-- the leaves from left to right
abbrev pub leaf_nodes : Tree → List ℕ
leaf_nodes (Leaf n) = n ∷ []
leaf_nodes (Fork n a b) = leaf_nodes a ++ leaf_nodes b

-- the node m is in the tree
abbrev pub Has : Tree → ℕ → Type 0
Has (Leaf n) m = n ≡ m
Has (Fork n a b) m = (n ≡ m) ⊎ (Has a m ⊎ Has b m)

-- the search for k from the root of the tree passes the node m
abbrev pub Passes : (Word → ℕ) → ℕ → Tree → ℕ → Type 0
Passes f k (Leaf n) m = n ≡ m
Passes f k (Fork n a b) m = (n ≡ m) ⊎ (((k < rank f n) × Passes f k a m) ⊎ ((rank f n ≤ k) × Passes f k b m))
