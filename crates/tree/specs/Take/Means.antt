-- What a delete needs, looks at, reads and fills.
use Rattle.std.specs.Prelude.{ℕ, ◌==◌, nat_lt, if◌then◌else◌, Bool, false, List, [], ◌∷◌, Option, Some, None, unwrap_or}
use Rattle.arena.specs.declared.head.Head.{Head}
use Rattle.histories.specs.Common.{NodeNo, Side, head_of}
use Rattle.template.specs.Common.{Snap, child_of, snap_at, Pair, Delete as TakeEdit, delete, pair, join_plan, leaf_plan, sibling_place, Key as ToKey}
use Rattle.template.specs.declared.walk.Found.{Found}
use Rattle.template.specs.declared.walk.Way.{Way}
use Rattle.template.specs.declared.walk.Way.TheVariants.{InTree, InTrie}
use Rattle.tree.specs.LeafEdit.{leaf_looks, leaf_reads}
use Rattle.tree.specs.declared.take.TakePair.{TakePair}
use Rattle.edits.specs.declared.edit.Look.{Look}
use Rattle.edits.specs.declared.edit.Look.TheVariants.{At, Differs, Enough}
use Rattle.edits.specs.declared.edit.Work.{Work}
use Rattle.edits.specs.declared.piece.Piece.{Piece}
use Rattle.edits.specs.declared.piece.Piece.TheVariants.{Leaf, Fork}
use Rattle.edits.specs.declared.reading.Reading.{Reading}
use Rattle.edits.specs.Edits.{EditMeaning}
use Rattle.edits.specs.Pieces.{no_work}
use Rattle.edits.specs.Readings.{nothing_read}

-- it continues with the next node, if the snapshot still shows the child that was found
abbrev pub past : Snap → Side → NodeNo → NodeNo → Look
past s side n next = if (child_of s side).0 == n.0 then At next else Differs s.node s.scx

-- to take the leaf out it looks at the fork above the parent, at the parent if that is still its
-- child, and at both children of the parent if the leaf is still one
abbrev pub join_looks : Found → List Snap → Look
join_looks f [] = At f.trail.grand
join_looks f (g ∷ []) = past g f.trail.grand_side f.trail.parent f.trail.parent
join_looks f (g ∷ p ∷ []) = past p f.trail.side f.trail.node p.left
join_looks f (g ∷ p ∷ l ∷ []) = At p.right
join_looks f (g ∷ p ∷ l ∷ r ∷ snaps) = Enough

-- a leaf of one pair is taken out, and of one with more the pair is
abbrev pub has_more : Found → Bool
has_more f = nat_lt 0 f.more

abbrev pub take_looks : Found → List Snap → Look
take_looks f snaps = if has_more f then leaf_looks f f.trail.node snaps else join_looks f snaps

-- its plan word
abbrev pub take_plan : Found → ℕ
take_plan f = if has_more f then leaf_plan f.trail.side else join_plan f.trail.grand_side

-- a present key takes one node, and of an absent one there is nothing to delete
abbrev pub work_by : Option ℕ → ℕ → Work
work_by None plan = no_work
work_by (Some v) plan = record { need = 1; plan = record { 0 = plan } }

abbrev pub take_work : Found → Work
take_work f = work_by f.value (take_plan f)

-- the snapshot of the leaf's sibling
abbrev pub sibling_of : Found → List Snap → Snap
sibling_of f snaps = snap_at snaps (sibling_place f.trail.side)

-- it reads the leaf, or the sibling from its head on
abbrev pub take_reads : Found → List Snap → NodeNo × Reading
take_reads f snaps = if has_more f then leaf_reads f else ((sibling_of f snaps).node, nothing_read)

-- the pairs of a copy of a leaf of this class; above all keys it has its own key, 0
abbrev pub copied_pairs : ℕ → Reading → List Pair
copied_pairs class read = if class == 0 then read.pairs else pair 0 0 ∷ []

-- a copy of the sibling with this head: a fork has the fields of its snapshot
abbrev pub copy_with : Snap → Head → Reading → Piece
copy_with s head read =
    if head.leaf then Leaf head.level head.class (copied_pairs head.class read)
    else Fork head.level head.class (unwrap_or read.key 0) s.left s.right

-- a copy of the sibling, as it was read
abbrev pub sibling_copy : Snap → Reading → Piece
sibling_copy s read = copy_with s (unwrap_or read.head (head_of 0)) read

-- that is its one piece, or a leaf without the pair
abbrev pub take_piece : ℕ → Found → List Snap → Reading → Piece
take_piece k f snaps read =
    if has_more f then Leaf f.head.level 0 (delete k read.pairs)
    else sibling_copy (sibling_of f snaps) read

-- where it walks
abbrev pub take_way : Bool → Way
take_way trie = if trie then InTrie else InTree

-- the edit that a delete is
abbrev pub take_means : EditMeaning TakePair
take_means = record {
  goal = λ e. ToKey e.key;
  way = λ e. take_way e.trie;
  guard = λ e. false;
  edit = λ e f. TakeEdit e.key;
  work = λ e f. take_work f;
  most_nodes = λ e. 1;
  looks = λ e f snaps. take_looks f snaps;
  most_looks = λ e. 4;
  reads = λ e f snaps. Some (take_reads f snaps);
  most_reads = λ e. 14;
  pieces = λ e f snaps ns read nth. take_piece e.key f snaps read;
  most_fills = λ e. 14;
}
