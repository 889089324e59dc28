-- Which SCX-records may begin in a trie besides those that may in a tree, what each of them may put
-- in there, and what stays where it is.
use Rattle.std.specs.Prelude.{◌≡◌, ◌≢◌, ℕ, ◌<◌, false, ◌⊎◌, List, [], Some, None}
use Rattle.histories.specs.Common.{Layout, Tree as TreeMode, Side, Word, info, node, child, first_key, History, value, plan, member, seen, new, old}
use Rattle.ordered_map.specs.declared.pair.Pair.{Pair}
use Rattle.ordered_map.specs.OrderedMap.{MapEdit, edit_key, edited, value_left, first_pair, last_pair}
use Rattle.ordered_map.specs.Holding.{held_pairs}
use Rattle.ordered_map.specs.TreeWords.{class, is_leaf, level, opposite, toward, said}
use Rattle.ordered_map.specs.Edits.{IsLowLeaf, IsSwapBy, IsSplitBy, IsJoinBy, HasFieldsOf}
use Rattle.ordered_map.specs.Bits.{Shares, Keeps, IsTrieFork, PartsKeys}
use Rattle.ordered_map.specs.EditPlans.{leaf_plan, end_leaf_plan, end_join_plan, above_plan}

-- The node n stays on the search path of k until it is finalized: in a tree each node does; in a
-- trie a fork, if k shares it or it is above all keys.
abbrev pub Stays : Layout → (Word → ℕ) → ℕ → ℕ → Type 0
Stays lay f k n = (lay.mode ≡ TreeMode) ⊎ ((is_leaf f n ≡ false) × (class f n ≡ 0 → Shares f n k))

-- What an edit puts in below the fork p on this side keeps to the keys there, and so does what is
-- below it; it is deeper than p, and so are its children than it.
pub record FitsTrie (f : Word → ℕ) (p : ℕ) (side : Side) (n : ℕ) : Type 0 where
  pub keeps : Keeps f p side n
  pub fork : IsTrieFork f n
  pub deeper : level f p < level f n
  pub rises : is_leaf f n ≡ false → (below : Side) → level f n < level f (f (child n below))

-- a fork of this key and level parts the first of these pairs from the last
pub record PartsPairs (m : List Pair) (key level : ℕ) : Type 0 where
  pub first : Pair
  pub last : Pair
  pub is_first : first_pair m ≡ Some first
  pub is_last : last_pair m ≡ Some last
  pub parts : PartsKeys first.key last.key key level

-- Where the leaf l is replaced by the fork c over the leaves x and y, x is on level 66. If l is of
-- class 0, y is there too, and the fork is that between the first and the last of the pairs that
-- the edit leaves; above all keys the fork is on level 1, and y on 2.
pub record HasTrieLevels (f : Word → ℕ) (e : MapEdit) (l c x y : ℕ) : Type 0 where
  pub first : level f x ≡ 66
  pub last : class f l ≡ 0 → level f y ≡ 66
  pub parts : class f l ≡ 0 → PartsPairs (edited e (held_pairs f l)) (f (node c first_key)) (level f c)
  pub high : class f l ≢ 0 → (level f c ≡ 1) × (level f y ≡ 2)

-- A full leaf is replaced by a fork over two: its parent and it are covered, and it is finalized.
pub record SplitsLeaf (h : History) (s : ℕ) (e : MapEdit) : Type 0 where
  pub plan : plan h s ≡ leaf_plan (toward (value h) (member h s 0) (edit_key e))
  pub old : old h s ≡ member h s 1
  pub first : ℕ
  pub last : ℕ
  pub edit : IsSplitBy (value h) e (member h s 1) (new h s) first last

-- What takes a pair at an end out covers node 2 behind all else. Where other pairs are left in its
-- leaf, its parent and it are covered, and it is finalized.
pub record EditsEndLeaf (h : History) (s : ℕ) (e : MapEdit) : Type 0 where
  pub plan : plan h s ≡ end_leaf_plan (toward (value h) (member h s 0) (edit_key e))
  pub old : old h s ≡ member h s 1
  pub guard : member h s 2 ≡ 2
  pub edit : IsSwapBy (value h) e (member h s 1) (new h s)
  pub there : value_left e ≡ None → said (value h) (edit_key e) (member h s 1) ≢ None

-- Where none is left, its grandparent, its parent and its sibling are covered, and the parent and
-- the sibling finalized; the leaf itself, which is on this side of the parent, is neither.
pub record TakesEndLeafOut (h : History) (s : ℕ) (e : MapEdit) (side : Side) : Type 0 where
  pub plan : plan h s ≡ end_join_plan (toward (value h) (member h s 0) (edit_key e))
  pub old : old h s ≡ member h s 1
  pub guard : member h s 3 ≡ 2
  pub leaf : ℕ
  pub edit : IsJoinBy (value h) e (member h s 1) leaf (member h s 2) (new h s)
  pub fields : value h (info (member h s 1)) ≡ seen h s 1 → (value h (child (member h s 1) side) ≡ leaf) × (value h (child (member h s 1) (opposite side)) ≡ member h s 2)
  pub copied : value h (info (member h s 2)) ≡ seen h s 2 → HasFieldsOf (value h) (new h s) (member h s 2)

-- a fork u goes below a fork c, beside a leaf x on this side, which holds the edit's pair alone
pub record IsAboveBy (f : Word → ℕ) (e : MapEdit) (u c x : ℕ) (side : Side) : Type 0 where
  pub old_fork : is_leaf f u ≡ false
  pub old_low : class f u ≡ 0
  pub first : IsLowLeaf f x
  pub pairs : held_pairs f x ≡ edited e []
  pub fork : is_leaf f c ≡ false
  pub low : class f c ≡ 0
  pub turn : toward f c (edit_key e) ≡ side
  pub leaf : f (child c side) ≡ x
  pub other : f (child c (opposite side)) ≡ u

-- An insert of a key that does not share the fork where its walk has come puts a fork above that
-- one. Its parent and node 2 are covered.
pub record PutsAbove (h : History) (s : ℕ) (e : MapEdit) : Type 0 where
  pub plan : plan h s ≡ above_plan (toward (value h) (member h s 0) (edit_key e))
  pub guard : member h s 1 ≡ 2
  pub leaf : ℕ
  pub side : Side
  pub edit : IsAboveBy (value h) e (old h s) (new h s) leaf side

-- an edit that begins in a trie alone
abbrev pub IsTrieEdit : History → ℕ → MapEdit → Type 0
IsTrieEdit h s e = SplitsLeaf h s e ⊎ (EditsEndLeaf h s e ⊎ (TakesEndLeafOut h s e (toward (value h) (member h s 1) (edit_key e)) ⊎ PutsAbove h s e))
