-- The bounds of a delete.
use Rattle.std.proofs.Common.{◌≡◌, ℕ, ◌<◌, ◌≤◌, Bool, true, false, if◌then◌else◌, List, [], ◌∷◌, length, Option, Some, None, subst, arith, unwrap_or}
use Rattle.arena.specs.declared.head.Head.{Head}
use Rattle.histories.specs.Common.{head_of, NodeNo}
use Rattle.template.specs.Common.{Snap, delete}
use Rattle.template.specs.declared.walk.Found.{Found}
use Rattle.tree.specs.LeafEdit.{leaf_looks, leaf_reads}
use Rattle.tree.specs.Put.Laws.{few_looks as few_leaf_looks}
use Rattle.tree.specs.Take.Means.{take_means, take_looks, take_reads, take_piece, take_plan, work_by, copied_pairs, copy_with, has_more, join_looks, sibling_of, sibling_copy}
use Rattle.edits.specs.declared.edit.Look.TheVariants.{At, Enough}
use Rattle.edits.specs.declared.edit.Nth.{Nth}
use Rattle.edits.specs.declared.piece.Piece.{Piece}
use Rattle.edits.specs.declared.piece.Piece.TheVariants.{Leaf, Fork}
use Rattle.edits.specs.declared.reading.Reading.{Reading}
use Rattle.edits.specs.Edits.{EditBounds}
use Rattle.edits.specs.Laws.PieceFills.{the_same}
use Rattle.edits.specs.Pieces.{all_fills, many_fills}
use Rattle.edits.specs.Readings.{nothing_read, reads_left}
use Rattle.edits.proofs.Lemmas.{begun_left}

few_join_looks : (f : Found) (snaps : List Snap) (n : NodeNo) → join_looks f snaps ≡ At n → length snaps < 4
few_join_looks f [] n e = omega arith
few_join_looks f (g ∷ []) n e = omega arith
few_join_looks f (g ∷ p ∷ []) n e = omega arith
few_join_looks f (g ∷ p ∷ l ∷ []) n e = omega arith
few_join_looks f (g ∷ p ∷ l ∷ r ∷ snaps) n e = absurd (let d : Enough ≡ At n = e in cc)

few_looks : (f : Found) (snaps : List Snap) (n : NodeNo) → take_looks f snaps ≡ At n → length snaps < 4
few_looks f snaps n e = go (has_more f) e
  where
    go : (b : Bool) → (if b then leaf_looks f f.trail.node snaps else join_looks f snaps) ≡ At n → length snaps < 4
    go true d = let l = few_leaf_looks f f.trail.node snaps n d in omega (arith, l)
    go false d = few_join_looks f snaps n d

pub one_node : (o : Option ℕ) (plan : ℕ) → (work_by o plan).need ≤ 1
one_node None plan = omega arith
one_node (Some v) plan = omega arith

few_reads : (f : Found) (snaps : List Snap) (x : NodeNo × Reading) → Some (take_reads f snaps) ≡ Some x → reads_left x.1 ≤ 14
few_reads f snaps x e = subst (λ (y : NodeNo × Reading). reads_left y.1 ≤ 14) (the_same (take_reads f snaps) x e) (go (has_more f))
  where
    go : (b : Bool) → reads_left (if b then leaf_reads f else ((sibling_of f snaps).node, nothing_read)).1 ≤ 14
    go true = let l = begun_left f.head f.more in omega (arith, l)
    go false = omega arith

pub copy_fills : (s : Snap) (head : Head) (read : Reading) → many_fills (copy_with s head read) ≤ 14
copy_fills s head read = go head.leaf
  where
    go : (leaf : Bool) → many_fills (if leaf then Leaf head.level head.class (copied_pairs head.class read) else Fork head.level head.class (unwrap_or read.key 0) s.left s.right) ≤ 14
    go true = omega arith
    go false = omega arith

piece_fills : (k : ℕ) (f : Found) (snaps : List Snap) (read : Reading) → many_fills (take_piece k f snaps read) ≤ 14
piece_fills k f snaps read = go (has_more f)
  where
    go : (b : Bool) → many_fills (if b then Leaf f.head.level 0 (delete k read.pairs) else sibling_copy (sibling_of f snaps) read) ≤ 14
    go true = omega arith
    go false = copy_fills (sibling_of f snaps) (unwrap_or read.head (head_of 0)) read

pub few_fills : (o : Option ℕ) (plan : ℕ) (p : Piece) → many_fills p ≤ 14 → all_fills (work_by o plan).need (λ (nth : Nth). p) ≤ 14
few_fills None plan p few = omega (arith, few)
few_fills (Some v) plan p few = omega (arith, few)

-- a delete looks at four nodes, takes at most one, reads at most fourteen words and makes at most
-- fourteen fills
pub take_bounds : EditBounds take_means
take_bounds = record {
  few_looks = λ e f snaps n d. few_looks f snaps n d;
  small = omega arith;
  few_nodes = λ e f. one_node f.value (take_plan f);
  some_nodes = omega arith;
  few_reads = λ e f snaps x d. few_reads f snaps x d;
  few_fills = λ e f snaps ns read. few_fills f.value (take_plan f) (take_piece e.key f snaps read) (piece_fills e.key f snaps read);
}
