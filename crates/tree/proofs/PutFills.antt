-- An insert fills its nodes in order: the leaves before the fork over them, which nothing mentions.
use Rattle.std.proofs.Common.{◌≡◌, ℕ, ◌/◌, ◌%◌, ◌<◌, ◌≤◌, ◌⊎◌, inl, inr, ⊎_elim, Bool, true, false, ◌==◌, ne_eqb, le-ltb, lt-ltb, eqb, List, refl, sym, ◌∙◌, ap, subst, arith}
use Rattle.histories.specs.Common.{NodeWord, Settled, Child, Head, Side, History, value, Call, row_of, node, child}
use Rattle.template.specs.Common.{Pair, IsFillInOrder, WasInTree, is_leaf}
use Rattle.ordered_map.specs.FillOrder.{HasStoodInField}
use Rattle.ordered_map.proofs.MapLemmas.{walked_stood}
use Rattle.template.specs.declared.walk.Found.{Found}
use Rattle.tree.proofs.Fills.{leaf_head, same_number, same_part, unstood}
use Rattle.tree.specs.declared.put.PutPair.{PutPair}
use Rattle.tree.specs.Put.Means.{above_pieces, put_means, put_need, put_pieces, put_work, lower, pairs_with, parts_by, split_or_leaf, splits}
use Rattle.tree.specs.Laws.Put.Sound.{IsLeafBefore, above_fields, split_fields, stands}
use Rattle.tree.specs.Laws.Put.Stands.{PutStands}
use Rattle.edits.specs.declared.edit.Nodes.{Nodes}
use Rattle.edits.specs.declared.edit.Nth.{Nth}
use Rattle.edits.specs.declared.edit.Nth.TheVariants.{First, Second, Third}
use Rattle.edits.specs.declared.edit.Work.{Work}
use Rattle.edits.specs.declared.piece.Piece.{Piece}
use Rattle.edits.specs.declared.piece.Piece.TheVariants.{Fork, Leaf}
use Rattle.std.proofs.Math.Decide.{dec_lt}
use Rattle.edits.specs.declared.update.UpdateAt.{UpdateAt}
use Rattle.edits.specs.declared.update.UpdateRun.{UpdateRun}
use Rattle.edits.specs.Known.{ComesBefore, IsNeeded, StandInRow, FillsPiece, piece_fill_step, piece, top}
use Rattle.edits.specs.Laws.PieceFills.{HoldsWords}
use Rattle.edits.proofs.Lemmas.{piece_is}
use Rattle.edits.specs.Pieces.{is_filled, nth_node, piece_head, top_of, word_of}

-- What stands where

-- a piece is a leaf by its head
abbrev IsLeafPiece : Piece → Type 0
IsLeafPiece p = eqb (word_of p (Settled Head) / 4 % 2) 1 ≡ true

-- a fresh node is a leaf, or the last of those that are needed
abbrev IsLeafOrTop : (Nth → Piece) → ℕ → Nodes → Nth → Type 0
IsLeafOrTop pieces need ns nth = IsLeafPiece (pieces nth) ⊎ ((nth_node ns nth).0 ≡ top_of need ns)

parted_kind : (low : Bool) (ps : List Pair) (f : Found) (ns : Nodes) (nth : Nth) → IsLeafOrTop (parts_by low ps f ns) 3 ns nth
parted_kind true ps f ns First = inl (leaf_head 66 0)
parted_kind false ps f ns First = inl (leaf_head 66 0)
parted_kind true ps f ns Second = inl (leaf_head 66 0)
parted_kind false ps f ns Second = inl (leaf_head 2 f.head.class)
parted_kind true ps f ns Third = inr refl
parted_kind false ps f ns Third = inr refl

split_kind : (trie split : Bool) (ps : List Pair) (f : Found) (ns : Nodes) (nth : Nth) → IsLeafOrTop (split_or_leaf trie split ps f ns) (put_need split) ns nth
split_kind in_trie false ps f ns nth = inl (leaf_head f.head.level 0)
split_kind true true ps f ns nth = parted_kind (f.head.class == 0) ps f ns nth
split_kind false true ps f ns First = inl (leaf_head (lower f.head.level) 0)
split_kind false true ps f ns Second = inl (leaf_head (lower f.head.level) f.head.class)
split_kind false true ps f ns Third = inr refl

above_kind : (k v : ℕ) (f : Found) (ns : Nodes) (nth : Nth) → IsNeeded 2 nth → IsLeafOrTop (above_pieces k v f ns) 2 ns nth
above_kind k v f ns First n = inl (leaf_head 66 0)
above_kind k v f ns Second n = inr refl
above_kind k v f ns Third n = absurd (omega (arith, n))

-- of nodes in a row an earlier one has a lower number
row_order : (need : ℕ) (ns : Nodes) (i nth : Nth) → StandInRow need ns → IsNeeded need nth → ComesBefore i nth → (ns.first.0 ≤ (nth_node ns i).0) × ((nth_node ns i).0 < (nth_node ns nth).0) × IsNeeded need i
row_order need ns First Second row n b = let e = row Second n in (omega arith, omega (arith, e), omega (arith, n))
row_order need ns First Third row n b = let e = row Third n in (omega arith, omega (arith, e), omega (arith, n))
row_order need ns Second Third row n b = let d = row Second (omega (arith, n)) in let e = row Third n in (omega (arith, d), omega (arith, d, e), omega (arith, n))
row_order need ns First First row n b = absurd (omega (arith, b))
row_order need ns Second First row n b = absurd (omega (arith, b))
row_order need ns Second Second row n b = absurd (omega (arith, b))
row_order need ns Third First row n b = absurd (omega (arith, b))
row_order need ns Third Second row n b = absurd (omega (arith, b))
row_order need ns Third Third row n b = absurd (omega (arith, b))

-- what has fields is no leaf
no_fields : (p : Piece) (side : Side) → IsLeafPiece p → is_filled p (Child side) ≡ true → ⊥
no_fields (Leaf level class ps) side leaf q = let z : false ≡ true = q in cc
no_fields (Fork level class key left right) side leaf q = let z : false ≡ true = sym (ne_eqb (piece_head level false class / 4 % 2) 1 (λ e. omega (arith, e))) ∙ leaf in cc

-- the last that is needed has the greatest number
top_last : (need : ℕ) (ns : Nodes) (nth : Nth) → StandInRow need ns → IsNeeded need nth → (nth_node ns nth).0 ≤ top_of need ns
top_last need ns nth row n = go (dec_lt 2 need) (dec_lt 1 need)
  where
    go : Dec (2 < need) → Dec (1 < need) → (nth_node ns nth).0 ≤ top_of need ns
    go (yes three) two = rw (lt-ltb 2 need three) (third nth)
      where
        third : (i : Nth) → (nth_node ns i).0 ≤ ns.third.0
        third First = let b = row Third three in omega (arith, b)
        third Second = let a = row Second (omega (arith, three)) in let b = row Third three in omega (arith, a, b)
        third Third = omega arith
    go (no few) (yes two) = rw (le-ltb 2 need (omega (arith, few)), lt-ltb 1 need two) (second nth n)
      where
        second : (i : Nth) → IsNeeded need i → (nth_node ns i).0 ≤ ns.second.0
        second First y = let a = row Second two in omega (arith, a)
        second Second y = omega arith
        second Third y = absurd (omega (arith, y, few))
    go (no few) (no one) = rw (le-ltb 2 need (omega (arith, few)), le-ltb 1 need (omega (arith, one))) (first nth n)
      where
        first : (i : Nth) → IsNeeded need i → (nth_node ns i).0 ≤ ns.first.0
        first First y = omega arith
        first Second y = absurd (omega (arith, y, one))
        first Third y = absurd (omega (arith, y, few))

module _ (m : UpdateRun PutPair UpdateAt) (c : Call) (h : History) (f : Found) where
  abbrev said : Nth → Piece
  said nth = put_pieces m.edit.key m.edit.value m.edit.trie f m.nodes m.read nth

  module _ (nth : Nth) (part : NodeWord) (x : FillsPiece put_means m c h f nth part) where
    standing : PutStands m.edit.trie m.edit.key c h f
    standing = stands m.edit c h f m.snaps.items x.works.run x.works.looked

    -- what a node at hand is to hold
    said_is : (i : Nth) → IsNeeded m.work.need i → piece put_means m f (nth_node m.nodes i).0 ≡ said i
    said_is i n = piece_is (λ j. said j) m.nodes m.work.need i n x.works.in_order

    kind_by : PutStands m.edit.trie m.edit.key c h f → (i : Nth) → IsNeeded (put_work m.edit.trie f).need i → IsLeafOrTop said (put_work m.edit.trie f).need m.nodes i
    kind_by (inl a) i n = rw a.stays (split_kind m.edit.trie (splits f) (pairs_with m.edit.key m.edit.value f m.read) f m.nodes i)
    kind_by (inr a) i n = rw a.strays (above_kind m.edit.key m.edit.value f m.nodes i (rw a.strays at n))

    kind : (i : Nth) → IsNeeded m.work.need i → IsLeafOrTop said m.work.need m.nodes i
    kind i n = subst (λ (w : Work). IsLeafOrTop said w.need m.nodes i) (sym x.works.asked) (kind_by standing i (subst (λ (w : Work). IsNeeded w.need i) x.works.asked n))

    -- the leaves before the top are full
    leaf_full : (i : Nth) → (nth_node m.nodes nth).0 ≡ top m → ComesBefore i nth → IsLeafPiece (said i) → is_leaf (value h) (nth_node m.nodes i).0 ≡ true
    leaf_full i is_top before is =
        let o = row_order m.work.need m.nodes i nth x.works.in_order x.works.need before in
        let w : HoldsWords h (nth_node m.nodes i).0 (piece put_means m f (nth_node m.nodes i).0) = x.full.full (nth_node m.nodes i).0 o.0 o.1 (let t = is_top in let l = o.1 in omega (t, l, arith)) in
        ap (λ u. eqb (u / 4 % 2) 1) (w (Settled Head) tt ∙ ap (λ (p : Piece). word_of p (Settled Head)) (said_is i o.2)) ∙ is

    head_ordered : (k : ℕ) → node (nth_node m.nodes nth).0 part ≡ node k (Settled Head) → (eqb (word_of (piece put_means m f (nth_node m.nodes nth).0) part / 4 % 2) 1 ≡ true) ⊎ (¬ HasStoodInField h k)
    head_ordered k e = ⊎_elim
        (λ leaf. inl (rw (same_part (nth_node m.nodes nth).0 k part (Settled Head) e, said_is nth x.works.need) leaf))
        (λ is_top. inr (subst (λ n. ¬ HasStoodInField h n) (sym is_top ∙ same_number (nth_node m.nodes nth).0 k part (Settled Head) e) (unstood c.layout h c.pass (top m) x.works.run.0 (x.full.hand.own (top m) x.full.some (omega arith)) x.full.hand.unmentioned)))
        (kind nth x.works.need)

    fields_by : PutStands m.edit.trie m.edit.key c h f → (side : Side) → is_filled (said nth) (Child side) ≡ true → IsLeafBefore m.nodes nth (word_of (said nth) (Child side)) ⊎ WasInTree h (word_of (said nth) (Child side))
    fields_by (inl a) side p = inl (rw a.stays (split_fields m.edit.trie (splits f) (pairs_with m.edit.key m.edit.value f m.read) f m.nodes nth side (rw a.stays at p)))
    fields_by (inr a) side p =
        let t = a.found.trail.node in
        rw a.strays (⊎_elim inl (λ e. inr (subst (WasInTree h) (sym e) (walked_stood c.layout h t.first m.edit.key f.trail.node.0 t.passed))) (above_fields m.edit.key m.edit.value f m.nodes nth side (rw a.strays at p)))

    -- a leaf has none
    is_top : (side : Side) → is_filled (said nth) (Child side) ≡ true → (nth_node m.nodes nth).0 ≡ top m
    is_top side q = ⊎_elim (λ leaf. absurd (no_fields (said nth) side leaf q)) (λ e. e) (kind nth x.works.need)

    -- each of those before it is one
    before_leaf : (i : Nth) → ComesBefore i nth → IsLeafPiece (said i)
    before_leaf i before =
        let o = row_order m.work.need m.nodes i nth x.works.in_order x.works.need before in
        ⊎_elim (λ leaf. leaf) (λ e. absurd (let l = o.1 in let t = top_last m.work.need m.nodes nth x.works.in_order x.works.need in omega (arith, e, l, t))) (kind i o.2)

    field_ordered : (k : ℕ) (side : Side) → node (nth_node m.nodes nth).0 part ≡ child k side → WasInTree h (word_of (piece put_means m f (nth_node m.nodes nth).0) part) ⊎ (is_leaf (value h) (word_of (piece put_means m f (nth_node m.nodes nth).0) part) ≡ true)
    field_ordered k side e =
        let p : part ≡ Child side = same_part (nth_node m.nodes nth).0 k part (Child side) e in
        let q : is_filled (said nth) (Child side) ≡ true = subst (λ (a : Piece). is_filled a (Child side) ≡ true) (said_is nth x.works.need) (subst (λ (a : NodeWord). is_filled (piece put_means m f (nth_node m.nodes nth).0) a ≡ true) p x.part_is) in
        let w : word_of (piece put_means m f (nth_node m.nodes nth).0) part ≡ word_of (said nth) (Child side) = ap (λ (a : NodeWord). word_of (piece put_means m f (nth_node m.nodes nth).0) a) p ∙ ap (λ (a : Piece). word_of a (Child side)) (said_is nth x.works.need) in
        ⊎_elim
        (λ y. inr (subst (λ n. is_leaf (value h) n ≡ true) (sym (w ∙ y.2)) (leaf_full y.0 (is_top side q) y.1 (before_leaf y.0 y.1))))
        (λ y. inl (subst (WasInTree h) (sym w) y))
        (fields_by standing side q)

    -- a fill of its nodes is in order
    pub fill_in_order : IsFillInOrder h (row_of c (piece_fill_step put_means m f nth part) h)
    fill_in_order = record { head = λ k kind e. head_ordered k e; field = λ k side kind e. field_ordered k side e }
