-- The edits of the tree, as facts on the words of nodes, by the lists of pairs that leaves hold.
use Rattle.std.specs.Prelude.{◌≡◌, ◌≢◌, ℕ, ◌+◌, ◌^◌, true, false, ◌⊎◌, [], ◌++◌}
use Rattle.histories.specs.Common.{Side, Left, Right, Settled, Head, Word, node, child, first_key}
use Rattle.ordered_map.specs.OrderedMap.{MapEdit, edited, AllBelow, AllFrom}
use Rattle.ordered_map.specs.Holding.{held_pairs, IsWellCounted}
use Rattle.ordered_map.specs.TreeWords.{class, is_leaf, level, rank, leaf_items}

-- n is a leaf of class 0, which holds as many pairs as a leaf may hold
pub record IsLowLeaf (f : Word → ℕ) (n : ℕ) : Type 0 where
  pub leaf : is_leaf f n ≡ true
  pub class : class f n ≡ 0
  pub counted : IsWellCounted f n

-- n is a leaf that may be last in the place of the leaf l: of its class, and, above all keys, of
-- its key
pub record IsLastLeaf (f : Word → ℕ) (n l : ℕ) : Type 0 where
  pub leaf : is_leaf f n ≡ true
  pub same_class : class f n ≡ class f l
  pub counted : class f n ≡ 0 → IsWellCounted f n
  pub key : class f n ≢ 0 → f (node n first_key) ≡ f (node l first_key)

-- the leaf l is replaced by a leaf c, which holds what the edit makes of its pairs
pub record IsSwapBy (f : Word → ℕ) (e : MapEdit) (l c : ℕ) : Type 0 where
  pub leaf : is_leaf f l ≡ true
  pub class : class f l ≡ 0
  pub new : IsLowLeaf f c
  pub pairs : held_pairs f c ≡ edited e (held_pairs f l)
  pub deep : level f c ≡ level f l

-- the leaf l is replaced by a fork c over two leaves, which hold what the edit makes of its
-- items; the fork is between them, of the class of the leaf, and above all keys it has its key
pub record IsSplitBy (f : Word → ℕ) (e : MapEdit) (l c x y : ℕ) : Type 0 where
  pub leaf : is_leaf f l ≡ true
  pub fork : is_leaf f c ≡ false
  pub left : f (child c Left) ≡ x
  pub right : f (child c Right) ≡ y
  pub first : IsLowLeaf f x
  pub small : AllBelow (2 ^ 64) (held_pairs f x)
  pub last : IsLastLeaf f y l
  pub items : leaf_items f x ++ leaf_items f y ≡ edited e (leaf_items f l)
  pub before : AllBelow (rank f c) (leaf_items f x)
  pub behind : AllFrom (rank f c) (leaf_items f y)
  pub same_class : class f c ≡ class f l
  pub key : class f c ≢ 0 → f (node c first_key) ≡ f (node l first_key)

-- in a tree the fork is on the level of the leaf, and its two leaves are a level deeper
pub record HasTreeLevels (f : Word → ℕ) (l c x y : ℕ) : Type 0 where
  pub deep : level f c ≡ level f l
  pub low : level f x ≡ level f c + 1
  pub high : level f y ≡ level f c + 1

-- the node c is a copy of z, as its settled words say: a leaf of class 0 holds the same pairs
pub record IsCopyOf (f : Word → ℕ) (c z : ℕ) : Type 0 where
  pub same_head : f (node c (Settled Head)) ≡ f (node z (Settled Head))
  pub same_key : f (node c first_key) ≡ f (node z first_key)
  pub same_pairs : is_leaf f z ≡ true → class f z ≡ 0 → IsWellCounted f c × (held_pairs f c ≡ held_pairs f z)

-- the fork q over the leaf l, of whose pairs the edit leaves none, and its sibling z is replaced by
-- a copy c of z
pub record IsJoinBy (f : Word → ℕ) (e : MapEdit) (q l z c : ℕ) : Type 0 where
  pub fork : is_leaf f q ≡ false
  pub leaf : is_leaf f l ≡ true
  pub low : class f l ≡ 0
  pub emptied : edited e (held_pairs f l) ≡ []
  pub copy : IsCopyOf f c z

-- a leaf l is replaced by a leaf, or by a fork over two, that hold what the edit makes of its pairs
abbrev pub IsLeafEdit : (Word → ℕ) → MapEdit → ℕ → ℕ → Type 0
IsLeafEdit f e l c = IsSwapBy f e l c ⊎ ((x y : ℕ) × IsSplitBy f e l c x y × HasTreeLevels f l c x y)

-- the fields of q are l and z
abbrev pub AreBelow : (Word → ℕ) → ℕ → ℕ → ℕ → Type 0
AreBelow f q l z = ((f (child q Left) ≡ l) × (f (child q Right) ≡ z)) ⊎ ((f (child q Left) ≡ z) × (f (child q Right) ≡ l))

-- a copy of a fork has its fields
abbrev pub HasFieldsOf : (Word → ℕ) → ℕ → ℕ → Type 0
HasFieldsOf f c z = is_leaf f z ≡ false → (side : Side) → f (child c side) ≡ f (child z side)
