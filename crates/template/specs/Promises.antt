-- What has to be known for an edit's SCX-record to be allowed, whatever rows come until it begins.
use Rattle.std.specs.Prelude.{◌≡◌, ◌≢◌, ◌⊎◌, ℕ, ◌^◌, ◌<◌, false, None}
use Rattle.arena.specs.declared.limits.Mode.TheVariants.{Trie as TrieMode}
use Rattle.histories.specs.Common.{Layout, Side, Word, info, child, History, value, member, seen, IsOwnNode, IsNamed, IsRun, Begins, Descriptor, descriptor}
use Rattle.help.specs.Allowed.{IsLater}
use Rattle.prims.specs.Laws.Linked.{IsLinked}
use Rattle.prims.specs.Snap.{child_of}
use Rattle.prims.specs.declared.snap.Snap.{Snap}
use Rattle.ordered_map.specs.EditPlans.{above_plan, end_join_plan, end_leaf_plan}
use Rattle.ordered_map.specs.Edits.{IsSwapBy, IsSplitBy, HasTreeLevels, IsJoinBy}
use Rattle.ordered_map.specs.OrderedMap.{MapEdit, edit_key, value_left}
use Rattle.ordered_map.specs.Paths.{WasOnPath}
use Rattle.ordered_map.specs.TreeShape.{MayEdit, TreeAllows, leaf_plan, join_plan, leaf_place, sibling_place}
use Rattle.ordered_map.specs.TreeWords.{is_leaf, opposite, toward, said}
use Rattle.ordered_map.specs.TrieShape.{Stays, FitsTrie, IsAboveBy}

-- Whenever the pass c may begin s with these words, it makes the edit: after any run that extends
-- h by such rows as may be added before, in which s still is ready and the first info still is
-- what was found.
abbrev pub IsPromised : Layout → ℕ → History → ℕ → Descriptor → MapEdit → Type 0
IsPromised lay c h s d e =
    (k : History) → IsLater c s h k → IsRun TreeAllows lay k → descriptor k s ≡ d → Begins lay d k c s → value k (info (member k s 0)) ≡ seen k s 0 → MayEdit lay k s e

-- a node of the pass's own that nothing names
pub record IsFresh (lay : Layout) (c : ℕ) (h : History) (n : ℕ) : Type 0 where
  pub own : IsOwnNode lay c n
  pub unnamed : ¬ IsNamed lay h n

-- the leaf l is replaced by a leaf, or by a fork over two, that hold what the edit makes of its
-- pairs; in a tree the three are on the levels that they should be on there
abbrev pub IsReplacedBy : Layout → (Word → ℕ) → MapEdit → ℕ → ℕ → Type 0
IsReplacedBy lay f e l n = IsSwapBy f e l n ⊎ ((x y : ℕ) × IsSplitBy f e l n x y × (HasTreeLevels f l n x y ⊎ (lay.mode ≡ TrieMode)))

-- the fresh node n holds what the edit makes of the pairs of the leaf l: it is a leaf, or a fork
-- over two fresh leaves
pub record HasFreshEdit (lay : Layout) (c : ℕ) (h : History) (e : MapEdit) (l n : ℕ) : Type 0 where
  pub fresh : IsFresh lay c h n
  pub edit : IsReplacedBy lay (value h) e l n
  pub below : is_leaf (value h) n ≡ false → (side : Side) → IsFresh lay c h (value h (child n side))

-- in a trie the new node fits below the first node that is covered, on the key's side of that
abbrev pub WillFit : Layout → History → Descriptor → MapEdit → Type 0
WillFit lay h d e = lay.mode ≡ TrieMode → FitsTrie (value h) (d.member 0) (toward (value h) (d.member 0) (edit_key e)) d.new

-- What an edit of a leaf has in hand: a fork that was on the key's path, and stays there, its leaf
-- on the side of the key, in which a delete finds it, and the fresh node that is to replace that.
pub record WillEditLeaf (lay : Layout) (c : ℕ) (h : History) (d : Descriptor) (e : MapEdit) : Type 0 where
  pub small : edit_key e < 2 ^ 64
  pub path : WasOnPath h (edit_key e) (d.member 0)
  pub stays : Stays lay (value h) (edit_key e) (d.member 0)
  pub named : IsNamed lay h (d.member 0)
  pub fork : is_leaf (value h) (d.member 0) ≡ false
  pub plan : d.plan ≡ leaf_plan (toward (value h) (d.member 0) (edit_key e))
  pub old : d.old ≡ d.member 1
  pub leaf_named : IsNamed lay h (d.member 1)
  pub edit : HasFreshEdit lay c h e (d.member 1) d.new
  pub there : value_left e ≡ None → said (value h) (edit_key e) (d.member 1) ≢ None
  pub fits : WillFit lay h d e

-- the snapshot may be used, and is what the SCX-record has seen of its j-th node
pub record IsSnapOf (lay : Layout) (h : History) (d : Descriptor) (j : ℕ) (snap : Snap) : Type 0 where
  pub linked : IsLinked lay h snap
  pub node : snap.node.0 ≡ d.member j
  pub scx : snap.scx.0 ≡ d.seen j

-- What has in hand what is to take a leaf out, where the leaf of the key is on this side of its
-- parent: two forks that were on the key's path, the children of the lower one as its snapshot
-- found them, one of which is the leaf, and a fresh copy of the other.
pub record WillTakeOut (lay : Layout) (c : ℕ) (h : History) (d : Descriptor) (e : MapEdit) (side : Side) : Type 0 where
  pub small : edit_key e < 2 ^ 64
  pub path : WasOnPath h (edit_key e) (d.member 0)
  pub stays : Stays lay (value h) (edit_key e) (d.member 0)
  pub fork : is_leaf (value h) (d.member 0) ≡ false
  pub plan : d.plan ≡ join_plan (toward (value h) (d.member 0) (edit_key e))
  pub old : d.old ≡ d.member 1
  pub side_is : toward (value h) (d.member 1) (edit_key e) ≡ side
  pub named : (j : ℕ) → j < 4 → IsNamed lay h (d.member j)
  pub fresh : IsFresh lay c h d.new
  pub edit : IsJoinBy (value h) e (d.member 1) (d.member (leaf_place side)) (d.member (sibling_place side)) d.new
  pub parent : Snap
  pub parent_is : IsSnapOf lay h d 1 parent
  pub left : parent.left.0 ≡ d.member 2
  pub right : parent.right.0 ≡ d.member 3
  pub sibling : Snap
  pub sibling_is : IsSnapOf lay h d (sibling_place side) sibling
  -- the copy of a fork has the fields that the snapshot of the sibling found
  pub copied : is_leaf (value h) (d.member (sibling_place side)) ≡ false → (s : Side) → value h (child d.new s) ≡ (child_of sibling s).0
  pub fits : WillFit lay h d e

-- What has in hand what is to take a pair at an end of a trie out of its leaf, which has others: as
-- an edit of a leaf, with node 2 behind all else.
pub record WillEditEndLeaf (lay : Layout) (c : ℕ) (h : History) (d : Descriptor) (e : MapEdit) : Type 0 where
  pub trie : lay.mode ≡ TrieMode
  pub small : edit_key e < 2 ^ 64
  pub path : WasOnPath h (edit_key e) (d.member 0)
  pub stays : Stays lay (value h) (edit_key e) (d.member 0)
  pub named : IsNamed lay h (d.member 0)
  pub fork : is_leaf (value h) (d.member 0) ≡ false
  pub plan : d.plan ≡ end_leaf_plan (toward (value h) (d.member 0) (edit_key e))
  pub old : d.old ≡ d.member 1
  pub guard : d.member 2 ≡ 2
  pub leaf_named : IsNamed lay h (d.member 1)
  pub fresh : IsFresh lay c h d.new
  pub edit : IsSwapBy (value h) e (d.member 1) d.new
  pub there : value_left e ≡ None → said (value h) (edit_key e) (d.member 1) ≢ None
  pub fits : WillFit lay h d e

-- What has in hand what is to take that leaf out, which has no other pair and is on this side of
-- its parent: two forks that were on the key's path, the leaf and its sibling as the snapshot of
-- the lower one found them, a fresh copy of the sibling, and node 2.
pub record WillTakeEndOut (lay : Layout) (c : ℕ) (h : History) (d : Descriptor) (e : MapEdit) (side : Side) (leaf : ℕ) : Type 0 where
  pub trie : lay.mode ≡ TrieMode
  pub small : edit_key e < 2 ^ 64
  pub path : WasOnPath h (edit_key e) (d.member 0)
  pub stays : Stays lay (value h) (edit_key e) (d.member 0)
  pub fork : is_leaf (value h) (d.member 0) ≡ false
  pub plan : d.plan ≡ end_join_plan (toward (value h) (d.member 0) (edit_key e))
  pub old : d.old ≡ d.member 1
  pub side_is : toward (value h) (d.member 1) (edit_key e) ≡ side
  pub guard : d.member 3 ≡ 2
  pub named : (j : ℕ) → j < 3 → IsNamed lay h (d.member j)
  pub leaf_named : IsNamed lay h leaf
  pub fresh : IsFresh lay c h d.new
  pub edit : IsJoinBy (value h) e (d.member 1) leaf (d.member 2) d.new
  pub parent : Snap
  pub parent_is : IsSnapOf lay h d 1 parent
  pub shown : ((child_of parent side).0 ≡ leaf) × ((child_of parent (opposite side)).0 ≡ d.member 2)
  pub sibling : Snap
  pub sibling_is : IsSnapOf lay h d 2 sibling
  -- the copy of a fork has the fields that the snapshot of the sibling found
  pub copied : is_leaf (value h) (d.member 2) ≡ false → (s : Side) → value h (child d.new s) ≡ (child_of sibling s).0
  pub fits : WillFit lay h d e

-- What has in hand what is to put a fork of a trie above the fork u, which the key does not share:
-- the fork over u, which was on the key's path, and stays there, and the fresh fork over u and over
-- a fresh leaf, which is on this side.
pub record WillPutAbove (lay : Layout) (c : ℕ) (h : History) (d : Descriptor) (e : MapEdit) (u leaf : ℕ) (side : Side) : Type 0 where
  pub trie : lay.mode ≡ TrieMode
  pub small : edit_key e < 2 ^ 64
  pub path : WasOnPath h (edit_key e) (d.member 0)
  pub stays : Stays lay (value h) (edit_key e) (d.member 0)
  pub named : IsNamed lay h (d.member 0)
  pub fork : is_leaf (value h) (d.member 0) ≡ false
  pub plan : d.plan ≡ above_plan (toward (value h) (d.member 0) (edit_key e))
  pub guard : d.member 1 ≡ 2
  pub old : d.old ≡ u
  pub old_named : IsNamed lay h u
  pub fresh : IsFresh lay c h d.new
  pub fresh_leaf : IsFresh lay c h leaf
  pub edit : IsAboveBy (value h) e u d.new leaf side
  pub fits : WillFit lay h d e
