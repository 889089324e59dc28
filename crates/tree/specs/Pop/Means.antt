-- What takes the pair at an end of a trie out needs, looks at, reads and fills.
use Rattle.std.specs.Prelude.{ℕ, if◌then◌else◌, true, List, [], ◌∷◌, Some}
use Rattle.histories.specs.Common.{NodeNo}
use Rattle.ordered_map.specs.EditPlans.{end_join_plan, end_leaf_plan}
use Rattle.template.specs.Common.{Snap, child_of, snap_at, opposite, Delete as TakeEdit, delete, Key as ToKey}
use Rattle.template.specs.declared.walk.Found.{Found}
use Rattle.template.specs.declared.walk.Way.TheVariants.{InTrie}
use Rattle.tree.specs.LeafEdit.{leaf_looks, leaf_reads}
use Rattle.tree.specs.Take.Means.{has_more, past, sibling_copy, work_by}
use Rattle.tree.specs.declared.pop.PopPair.{PopPair}
use Rattle.edits.specs.declared.edit.Look.{Look}
use Rattle.edits.specs.declared.edit.Look.TheVariants.{At, Enough}
use Rattle.edits.specs.declared.edit.Work.{Work}
use Rattle.edits.specs.declared.piece.Piece.{Piece}
use Rattle.edits.specs.declared.piece.Piece.TheVariants.{Leaf}
use Rattle.edits.specs.declared.reading.Reading.{Reading}
use Rattle.edits.specs.Edits.{EditMeaning}
use Rattle.edits.specs.Readings.{nothing_read}

-- to take the leaf out it looks at the fork above the parent, at the parent if that is still its
-- child, and at the parent's other child if the leaf is still one
abbrev pub end_looks : Found → List Snap → Look
end_looks f [] = At f.trail.grand
end_looks f (g ∷ []) = past g f.trail.grand_side f.trail.parent f.trail.parent
end_looks f (g ∷ p ∷ []) = past p f.trail.side f.trail.node (child_of p (opposite f.trail.side))
end_looks f (g ∷ p ∷ z ∷ snaps) = Enough

-- a leaf of one pair is taken out, and of one with more the pair is
abbrev pub pop_looks : Found → List Snap → Look
pop_looks f snaps = if has_more f then leaf_looks f f.trail.node snaps else end_looks f snaps

-- its plan word
abbrev pub pop_plan : Found → ℕ
pop_plan f = if has_more f then end_leaf_plan f.trail.side else end_join_plan f.trail.grand_side

-- a present key takes one node, and of an absent one there is nothing to take out
abbrev pub pop_work : Found → Work
pop_work f = work_by f.value (pop_plan f)

-- it reads the leaf, or the sibling from its head on
abbrev pub pop_reads : Found → List Snap → NodeNo × Reading
pop_reads f snaps = if has_more f then leaf_reads f else ((snap_at snaps 2).node, nothing_read)

-- its one piece is a leaf without the pair, or a copy of the sibling
abbrev pub pop_piece : ℕ → Found → List Snap → Reading → Piece
pop_piece k f snaps read =
    if has_more f then Leaf f.head.level 0 (delete k read.pairs)
    else sibling_copy (snap_at snaps 2) read

-- the edit that it is
abbrev pub pop_means : EditMeaning PopPair
pop_means = record {
  goal = λ e. ToKey e.key;
  way = λ e. InTrie;
  guard = λ e. true;
  edit = λ e f. TakeEdit e.key;
  work = λ e f. pop_work f;
  most_nodes = λ e. 1;
  looks = λ e f snaps. pop_looks f snaps;
  most_looks = λ e. 3;
  reads = λ e f snaps. Some (pop_reads f snaps);
  most_reads = λ e. 14;
  pieces = λ e f snaps ns read nth. pop_piece e.key f snaps read;
  most_fills = λ e. 14;
}
