-- What the SCX-record of an edit says once the leaf of its key is found, and the copy that is
-- filled where a leaf is taken out.
use Rattle.std.specs.Prelude.{◌≡◌, ℕ, false}
use Rattle.arena.specs.declared.limits.Mode.TheVariants.{Trie as TrieMode}
use Rattle.histories.specs.Common.{Layout, Side, node, child, first_value, History, value, Descriptor}
use Rattle.ordered_map.specs.TrieShape.{FitsTrie}
use Rattle.prims.specs.Snap.{child_of}
use Rattle.prims.specs.declared.snap.Snap.{Snap}
use Rattle.ordered_map.specs.Edits.{IsCopyOf}
use Rattle.ordered_map.specs.EditPlans.{above_plan, end_join_plan, end_leaf_plan}
use Rattle.ordered_map.specs.TreeShape.{leaf_plan, join_plan}
use Rattle.ordered_map.specs.TreeWords.{is_leaf}
use Rattle.template.specs.Promises.{IsFresh}
use Rattle.template.specs.declared.walk.Found.{Found}

-- in a trie the node n fits below the fork p on this side
abbrev pub FitsThere : Layout → History → ℕ → Side → ℕ → Type 0
FitsThere lay h p side n = lay.mode ≡ TrieMode → FitsTrie (value h) p side n

-- the words of an SCX-record that puts the fresh node n into the place of the leaf: it covers the
-- leaf's parent and the leaf, and finalizes the leaf
pub record IsLeafEditAt (f : Found) (d : Descriptor) (n : ℕ) : Type 0 where
  pub plan : d.plan ≡ leaf_plan f.trail.side
  pub parent : d.member 0 ≡ f.trail.parent.0
  pub leaf : d.member 1 ≡ f.trail.node.0
  pub old : d.old ≡ f.trail.node.0
  pub new : d.new ≡ n

-- the words of an SCX-record that puts the fresh fork n above the fork that was found: it covers
-- the parent of that, and node 2, and finalizes none
pub record IsAboveAt (f : Found) (d : Descriptor) (n : ℕ) : Type 0 where
  pub plan : d.plan ≡ above_plan f.trail.side
  pub parent : d.member 0 ≡ f.trail.parent.0
  pub guard : d.member 1 ≡ 2
  pub old : d.old ≡ f.trail.node.0
  pub new : d.new ≡ n

-- the words of an SCX-record that puts the fresh node n into the place of the leaf's parent: it
-- covers the fork above the parent, the parent, and the parent's children as this snapshot found
-- them, and finalizes all but the first
pub record IsJoinAt (f : Found) (d : Descriptor) (snap : Snap) (n : ℕ) : Type 0 where
  pub plan : d.plan ≡ join_plan f.trail.grand_side
  pub grand : d.member 0 ≡ f.trail.grand.0
  pub parent : d.member 1 ≡ f.trail.parent.0
  pub left : d.member 2 ≡ snap.left.0
  pub right : d.member 3 ≡ snap.right.0
  pub old : d.old ≡ f.trail.parent.0
  pub new : d.new ≡ n

-- the same in a trie where that takes a pair at an end out: behind both it covers node 2
pub record IsEndLeafEditAt (f : Found) (d : Descriptor) (n : ℕ) : Type 0 where
  pub plan : d.plan ≡ end_leaf_plan f.trail.side
  pub parent : d.member 0 ≡ f.trail.parent.0
  pub leaf : d.member 1 ≡ f.trail.node.0
  pub guard : d.member 2 ≡ 2
  pub old : d.old ≡ f.trail.node.0
  pub new : d.new ≡ n

-- or where no other pair is left: it covers the fork above the parent, the parent and the leaf's
-- sibling, finalizes the latter two, and covers node 2 behind all
pub record IsEndJoinAt (f : Found) (d : Descriptor) (n : ℕ) : Type 0 where
  pub plan : d.plan ≡ end_join_plan f.trail.grand_side
  pub grand : d.member 0 ≡ f.trail.grand.0
  pub parent : d.member 1 ≡ f.trail.parent.0
  pub guard : d.member 3 ≡ 2
  pub old : d.old ≡ f.trail.parent.0
  pub new : d.new ≡ n

-- a fresh copy n of the snapshot's node: a fork has the fields that the snapshot found; its value
-- is not filled, and what is not filled is 0
pub record HasFreshCopy (lay : Layout) (c : ℕ) (h : History) (snap : Snap) (n : ℕ) : Type 0 where
  pub fresh : IsFresh lay c h n
  pub copy : IsCopyOf (value h) n snap.node.0
  pub fields : is_leaf (value h) snap.node.0 ≡ false → (side : Side) → value h (child n side) ≡ (child_of snap side).0
  pub unfilled : is_leaf (value h) snap.node.0 ≡ false → value h (node n first_value) ≡ 0
