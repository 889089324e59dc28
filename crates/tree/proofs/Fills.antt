-- In which order the machines of the tree fill words: what all of them have in common.
use Rattle.std.proofs.Common.{◌≡◌, ◌≢◌, ℕ, ◌/◌, ◌%◌, inl, inr, ⊎_elim, true, eqb, sym, ap, subst, arith, eq-eqb}
use Rattle.histories.specs.Common.{Layout, Fill as FillKind, LoadSettled, Step, NodeWord, Settled, Head, ScxWord, Word}
use Rattle.arena.specs.Layout.{IsMap}
use Rattle.histories.specs.Common.{Node, Scx as ScxOf, IsOwnNode, History, Call, row_of, begun_at, node, scx, child, IsUnmentioned}
use Rattle.help.specs.Laws.Help.Lawful.{help_fills_not}
use Rattle.template.specs.Common.{Job, ScxWaitsAt, job_of, ScxAt, IsFillInOrder, TreeAllows}
use Rattle.prims.specs.Scx.Known.{fill_step as scx_fill}
use Rattle.prims.specs.declared.scx.ScxAt.TheVariants as scx_at
use Rattle.prims.proofs.Lemmas.{llx_fills_not}
use Rattle.ordered_map.specs.FillOrder.{HasStoodInField}
use Rattle.template.specs.declared.walk.Found.{Found}
use Rattle.template.proofs.Lemmas.{walk_fills_not}
use Rattle.histories.proofs.Lemmas.{map_nodes}
use Rattle.edits.specs.Edits.{EditMeaning}
use Rattle.edits.specs.declared.edit.Nth.{Nth}
use Rattle.edits.specs.declared.update.UpdateAt.{UpdateAt}
use Rattle.edits.specs.declared.update.UpdateAt.TheVariants.{Start, Walk, Guard, Look, Read, Fill, Scx}
use Rattle.edits.specs.declared.update.UpdateRun.{UpdateRun}
use Rattle.edits.specs.Known.{FillsPiece, UpdateWaits, UpdateWaitsAt, piece_fill_step}
use Rattle.edits.specs.Pieces.{piece_head}

-- the head of a leaf says so
pub leaf_head : (level class : ℕ) → eqb (piece_head level true class / 4 % 2) 1 ≡ true
leaf_head level class = eq-eqb (piece_head level true class / 4 % 2) 1 (omega arith)

-- Words of nodes

word_part : Word → NodeWord
word_part (Node n part) = part
word_part (ScxOf s part) = Settled Head

word_number : Word → ℕ
word_number (Node n part) = n.0
word_number (ScxOf s part) = 0

pub same_part : (n k : ℕ) (a b : NodeWord) → node n a ≡ node k b → a ≡ b
unfolding word_part
same_part n k a b e = ap word_part e

pub same_number : (n k : ℕ) (a b : NodeWord) → node n a ≡ node k b → n ≡ k
unfolding word_number
same_number n k a b e = ap word_number e

-- what nothing mentions has been in no field
pub unstood : (lay : Layout) (h : History) (c n : ℕ) → IsMap lay.mode → IsOwnNode lay c n → IsUnmentioned h n → ¬ HasStoodInField h n
unstood lay h c n map own u (inl i) =
    let a = own.from in
    let b = map_nodes lay map in
    omega (a, b, i, arith)
unstood lay h c n map own u (inr x) = u.in_no_field x.0 x.1 x.2

-- a step that fills no node is
pub no_fill : (c : Call) (h : History) (s : Step) → s.kind ≢ FillKind → IsFillInOrder h (row_of c s h)
no_fill c h s none = record { head = λ n k e. absurd (none k); field = λ n side k e. absurd (none k) }

scx_fill_in_order : (c : Call) (h : History) (j : Job) (part : ScxWord) → IsFillInOrder h (row_of c (scx_fill j part) h)
scx_fill_in_order c h j part = record { head = λ n k e. let y : scx j.scx.0 part ≡ node n (Settled Head) = e in cc; field = λ n side k e. let y : scx j.scx.0 part ≡ child n side = e in cc }

scx_in_order : (c begun : Call) (h : History) (j : Job) (at : ScxAt) (s : Step) → ScxWaitsAt TreeAllows begun h j at s → IsFillInOrder h (row_of c s h)
scx_in_order c begun h j scx_at.Start s w = absurd w
scx_in_order c begun h j (scx_at.Help help) s w = no_fill c h s (help_fills_not TreeAllows help begun h s w.0)
scx_in_order c begun h j scx_at.Plan s w = subst (λ (t : Step). IsFillInOrder h (row_of c t h)) (sym w.asked) (scx_fill_in_order c h j _)
scx_in_order c begun h j scx_at.New s w = subst (λ (t : Step). IsFillInOrder h (row_of c t h)) (sym w.asked) (scx_fill_in_order c h j _)
scx_in_order c begun h j scx_at.Old s w = subst (λ (t : Step). IsFillInOrder h (row_of c t h)) (sym w.asked) (scx_fill_in_order c h j _)
scx_in_order c begun h j (scx_at.Member i) s w = subst (λ (t : Step). IsFillInOrder h (row_of c t h)) (sym w.asked) (scx_fill_in_order c h j _)
scx_in_order c begun h j (scx_at.Seen i) s w = subst (λ (t : Step). IsFillInOrder h (row_of c t h)) (sym w.asked) (scx_fill_in_order c h j _)
scx_in_order c begun h j scx_at.Call s w = subst (λ (t : Step). IsFillInOrder h (row_of c t h)) (sym w.asked) (scx_fill_in_order c h j _)

-- an update whose fills of nodes are in order makes all its steps so
pub update_in_order : {E : Type 0} (means : EditMeaning E) (m : UpdateRun E UpdateAt) (c : Call) (h : History) (s : Step) → ((d : Call) (f : Found) (nth : Nth) (part : NodeWord) → FillsPiece means m d h f nth part → IsFillInOrder h (row_of d (piece_fill_step means m f nth part) h)) → UpdateWaits means m c h s → IsFillInOrder h (row_of c s h)
update_in_order means m c h s fills x = go m.at x.3
  where
    go : (at : UpdateAt) → UpdateWaitsAt means m (begun_at c x.0) h s at → IsFillInOrder h (row_of c s h)
    go Start w = absurd w
    go (Walk walk) w = no_fill c h s (walk_fills_not walk (begun_at c x.0) h s w.1)
    go (Guard walk head llx) w = no_fill c h s (llx_fills_not TreeAllows llx (begun_at (begun_at c x.0) w.0) h s w.2)
    go (Look f llx) w = no_fill c h s (llx_fills_not TreeAllows llx (begun_at (begun_at c x.0) w.0) h s w.2)
    go (Read f n part) w = no_fill c h s (λ k. let e : s.kind ≡ LoadSettled = ap (λ (t : Step). t.kind) w.1 in cc)
    go (Fill f nth part) w = subst (λ (t : Step). IsFillInOrder h (row_of c t h)) (sym w.3) (fills (begun_at c x.0) f nth part w.0)
    go (Scx f run) w = scx_in_order c (begun_at (begun_at c x.0) w.0) h (job_of run) run.at s w.2
