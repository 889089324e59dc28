-- Several fresh nodes in hand: what a pass knows of them while it fills them one after the other,
-- and which rows leave that.
use Rattle.std.proofs.Common.{◌≡◌, ◌≢◌, ℕ, ◌<◌, ◌≤◌, ◌⊎◌, Bool, true, false, suc, arith, inl, inr, ⊎_elim, refl, sym, ◌∙◌, ap, subst}
use Rattle.histories.specs.Common.{Layout, Row, Fill, NodeWord, Settled, Child, Info, Marked, Word, Node, Scx as ScxOf, Remaining, node, scx, info, child, same_node_word}
use Rattle.histories.specs.Common.{History, ◌⊳◌, value, IsOwnNode, IsNamed, opening_node, by_field, by_scx, IsInField, IsTakenNode, MayFill, Lawful, IsUnmentioned}
use Rattle.arena.specs.Fills.{IsOthersNode, IsOpenNode}
use Rattle.arena.proofs.Lemmas.{value_at, held_back, taken_node_more, taken_scx_more, fill_takes_node}
use Rattle.histories.proofs.Lemmas.{IsMention, IsNodeFill, one_node_owner, stays_unnamed, unmentioned_by_fill, unmentioned_by_others, unmentioned_by_step, unnamed_stays, untaken_by_node}
use Rattle.template.specs.Common.{AreFinished, IsShare}
use Rattle.prims.specs.Laws.Begun.{takes_by_others, takes_by_node, takes_by_step}
use Rattle.prims.proofs.Lemmas.{over_more, share_by_others, share_by_step}
use Rattle.edits.specs.declared.piece.Piece.{Piece}
use Rattle.edits.specs.Pieces.{fill_place, word_of}
use Rattle.edits.specs.Laws.NodeFills.{named_before, others_stay, same_stays}
use Rattle.edits.specs.Laws.PieceFills.{IsUnfilled, HoldsBefore, HoldsUpTo, HoldsWords, other_place, part_same}

-- What is known

-- the nodes from `first` to `top` are the pass's own, and nothing names them; nothing at all
-- mentions the top one
pub record HasHand (lay : Layout) (h : History) (c first top : ℕ) : Type 0 where
  pub own : (n : ℕ) → first ≤ n → n ≤ top → IsOwnNode lay c n
  pub before : (m : ℕ) → IsOwnNode lay c m → m < first → IsTakenNode h m
  pub unnamed : (n : ℕ) → first ≤ n → n ≤ top → ¬ IsNamed lay h n
  pub unmentioned : IsUnmentioned h top

-- those below n are full, and those above it blank; after the top one is what is left of the
-- share; no SCX-record of the pass is unfinished
pub record HasFilledTo (lay : Layout) (h : History) (c : ℕ) (left : Remaining) (first top n : ℕ) (piece : ℕ → Piece) : Type 0 where
  pub some : first ≤ top
  pub hand : HasHand lay h c first top
  pub share : IsShare lay h c left first left.next_scx
  pub next : left.next_node ≡ suc top
  pub over : AreFinished lay c 0 h
  pub taken : (k : ℕ) → first ≤ k → k < n → k ≤ top → IsTakenNode h k
  pub full : (k : ℕ) → first ≤ k → k < n → k ≤ top → HoldsWords h k (piece k)
  pub blank : (k : ℕ) → first ≤ k → n < k → k ≤ top → IsUnfilled h k

-- what a field of a fresh node may get: another one in hand below the top, or a node that a field
-- has named
abbrev pub IsForField : Layout → History → ℕ → ℕ → ℕ → Type 0
IsForField lay h first top v = ((first ≤ v) × (v < top)) ⊎ IsInField lay h v

-- what is asked of a field, where the word is one
abbrev pub FieldMay : NodeWord → Type 0 → Type 0
FieldMay (Child side) P = P
FieldMay _ P = Unit {0}

abbrev node_number : Word → ℕ
node_number (Node n part) = n.0
node_number (ScxOf s part) = 0

-- A node that no field has named is in none

in_no_field : (lay : Layout) (h : History) (c n : ℕ) → IsOwnNode lay c n → IsUnmentioned h n → ¬ IsInField lay h n
in_no_field lay h c n own u (inl i) = let a = own.from in omega arith
in_no_field lay h c n own u (inr x) = u.in_no_field x.0 x.1 x.3

-- A fill of one of them

module _ (lay : Layout) (h : History) (r : Row) (c : ℕ) (left : Remaining) (first top n : ℕ) (piece : ℕ → Piece) (part : NodeWord)
    (l : Lawful lay (r ⊳ h)) (kind : r.kind ≡ Fill) (word : r.word ≡ node n part) (fill : IsNodeFill part)
    (from : first ≤ n) (to : n ≤ top) (may : FieldMay part (IsForField lay h first top r.after))
    (x : HasFilledTo lay h c left first top n piece) where
  -- its field gets neither the top one nor one of what is left
  not_got : (k : ℕ) → IsOwnNode lay c k → top ≤ k → IsUnmentioned h k → FieldMay part (r.after ≢ k)
  not_got k own i u = go part may
    where
      apart : IsForField lay h first top r.after → r.after ≢ k
      apart (inl y) e = let a = y.1 in omega (arith, e)
      apart (inr y) e = in_no_field lay h c k own u (subst (IsInField lay h) e y)

      go : (q : NodeWord) → FieldMay q (IsForField lay h first top r.after) → FieldMay q (r.after ≢ k)
      go (Child side) y = apart y
      go (Settled p) y = tt
      go Info y = tt
      go Marked y = tt

  unmentioned_still : (k : ℕ) → IsOwnNode lay c k → top ≤ k → IsUnmentioned h k → IsUnmentioned (r ⊳ h) k
  unmentioned_still k own i u = unmentioned_by_fill h r k (λ m. mention part (not_got k own i u) (rw word at m)) u
    where
      mention : (q : NodeWord) → FieldMay q (r.after ≢ k) → IsMention (node n q) → r.after ≢ k
      mention (Child side) y m = y
      mention (Settled p) y m = absurd m
      mention Info y m = absurd m
      mention Marked y m = absurd m

  unnamed_here : ¬ IsNamed lay h n
  unnamed_here = x.hand.unnamed n from to

  hand_filled : HasHand lay (r ⊳ h) c first top
  hand_filled = record {
    own = x.hand.own;
    before = λ m o i. taken_node_more r h m (x.hand.before m o i);
    unnamed = λ k i j p. x.hand.unnamed k i j (named_before lay h r n part word fill unnamed_here p);
    unmentioned = unmentioned_still top (x.hand.own top x.some (omega arith)) (omega arith) x.hand.unmentioned;
  }

  untaken_still : (k : ℕ) → n ≢ k → ¬ IsTakenNode h k → ¬ IsTakenNode (r ⊳ h) k
  unfolding IsTakenNode
  untaken_still k d free (inr t) = free t
  untaken_still k d free (inl f) = d (ap node_number (sym word ∙ f.2))

  share_filled : IsShare lay (r ⊳ h) c left first left.next_scx
  share_filled = record {
    from_node = x.share.from_node;
    to_node = x.share.to_node;
    from_scx = x.share.from_scx;
    to_scx = x.share.to_scx;
    taken_nodes = λ m o i. taken_node_more r h m (x.share.taken_nodes m o i);
    taken_scx = λ s o i. taken_scx_more r h s (x.share.taken_scx s o i);
    unmentioned = λ k own i. unmentioned_still k own (let b = x.next in omega (arith, b, i)) (x.share.unmentioned k own i);
    untaken_nodes = λ k own i. untaken_still k (λ e. let b = x.next in omega (arith, i, b, e)) (x.share.untaken_nodes k own i);
    untaken = λ s own i. untaken_by_node h r n s part word (x.share.untaken s own i);
  }

  over_filled : AreFinished lay c 0 (r ⊳ h)
  over_filled = over_more lay c 0 h r l (takes_by_node lay c 0 h r n part word) x.over

  -- what was filled before this node stays
  pub filled_to_more : HasFilledTo lay (r ⊳ h) c left first top n piece
  filled_to_more = record {
    some = x.some;
    hand = hand_filled;
    share = share_filled;
    next = x.next;
    over = over_filled;
    taken = λ k i j t. taken_node_more r h k (x.taken k i j t);
    full = λ k i j t q p. others_stay lay h r n part word fill unnamed_here k q (λ e. omega (arith, j, e)) ∙ x.full k i j t q p;
    blank = λ k i j t q p. others_stay lay h r n part word fill unnamed_here k q (λ e. omega (arith, j, e)) ∙ x.blank k i j t q p;
  }

  -- and so do the words of this node but the one that is stored
  pub words_more : (p : Piece) → r.after ≡ word_of p part → HoldsBefore h n p part → HoldsUpTo (r ⊳ h) n p part
  words_more p stored y = record { done = λ q i a. done q i a (same_node_word part q) refl; blank = λ q i a. blank q i a (same_node_word part q) refl }
    where
      here : (q : NodeWord) → same_node_word part q ≡ true → value (r ⊳ h) (node n q) ≡ word_of p q
      here q t = subst (λ w. value (r ⊳ h) (node n w) ≡ word_of p w) (part_same part q t) (value_at r h (node n part) word ∙ stored)

      done : (q : NodeWord) → IsNodeFill q → fill_place q ≤ fill_place part → (t : Bool) → same_node_word part q ≡ t → value (r ⊳ h) (node n q) ≡ word_of p q
      done q i a true t = here q t
      done q i a false t = same_stays lay h r n part word fill unnamed_here q t ∙ y.done q i (let d = other_place part q t in omega (arith, a, d))

      blank : (q : NodeWord) → IsNodeFill q → fill_place part < fill_place q → (t : Bool) → same_node_word part q ≡ t → value (r ⊳ h) (node n q) ≡ 0
      blank q i a true t = absurd (let e : fill_place part ≡ fill_place q = ap fill_place (part_same part q t) in omega (arith, a, e))
      blank q i a false t = same_stays lay h r n part word fill unnamed_here q t ∙ y.blank q i (omega (arith, a))

  -- this node is taken
  pub taken_now : IsTakenNode (r ⊳ h) n
  taken_now = fill_takes_node r h n part kind word
  -- and it was open, so that the fill is lawful

pub may_fill : (lay : Layout) (h : History) (c : ℕ) (left : Remaining) (first top n : ℕ) (piece : ℕ → Piece) (part : NodeWord) (v : ℕ) → IsNodeFill part → first ≤ n → n ≤ top → FieldMay part (IsForField lay h first top v) → HasFilledTo lay h c left first top n piece → MayFill lay h c (node n part) v
may_fill lay h c left first top n piece part v fill from to may x = go part fill may
  where
    split : (m : ℕ) → m < n → (m < first) ⊎ (first ≤ m)
    split m i = grind arith

    is_open : IsOpenNode lay h c n
    is_open = record {
      own = x.hand.own n from to;
      in_order = λ m o i. ⊎_elim (x.hand.before m o) (λ j. x.taken m j i (omega (arith, i, to))) (split m i);
      unnamed = x.hand.unnamed n from to;
    }

    field : IsForField lay h first top v → IsOthersNode lay c v → IsInField lay h v
    field (inr y) o = y
    field (inl y) o = absurd (o.is_other (one_node_owner lay o.pass c v o.owns (x.hand.own v y.0 (let a = y.1 in omega arith))))

    go : (q : NodeWord) → IsNodeFill q → FieldMay q (IsForField lay h first top v) → MayFill lay h c (node n q) v
    go (Child side) i m = (is_open, field m)
    go (Settled p) i m = is_open
    go Info i m = absurd i
    go Marked i m = absurd i

-- A row of another pass

module _ (lay : Layout) (h : History) (r : Row) (c : ℕ) (left : Remaining) (first top : ℕ) (piece : ℕ → Piece)
    (is_pass : c < lay.passes) (l : Lawful lay (r ⊳ h)) (other : r.pass.0 ≢ c) where
  word_by_others : (n : ℕ) → HasHand lay h c first top → first ≤ n → n ≤ top → (q : NodeWord) → value (r ⊳ h) (node n q) ≡ value h (node n q)
  word_by_others n x i j q = unnamed_stays lay h r c l is_pass other n q (x.own n i j) (x.unnamed n i j)

  pub words_by_others : (n : ℕ) (p : Piece) → HasHand lay h c first top → first ≤ n → n ≤ top → HoldsWords h n p → HoldsWords (r ⊳ h) n p
  words_by_others n p x i j y q a = word_by_others n x i j q ∙ y q a

  pub before_by_others : (n : ℕ) (p : Piece) (part : NodeWord) → HasHand lay h c first top → first ≤ n → n ≤ top → HoldsBefore h n p part → HoldsBefore (r ⊳ h) n p part
  before_by_others n p part x i j y = record { done = λ q a b. word_by_others n x i j q ∙ y.done q a b; blank = λ q a b. word_by_others n x i j q ∙ y.blank q a b }

  pub blank_by_others : (n : ℕ) → HasHand lay h c first top → first ≤ n → n ≤ top → IsUnfilled h n → IsUnfilled (r ⊳ h) n
  blank_by_others n x i j y q a = word_by_others n x i j q ∙ y q a

  pub by_others : (n : ℕ) → HasFilledTo lay h c left first top n piece → HasFilledTo lay (r ⊳ h) c left first top n piece
  by_others n x = record {
    some = x.some;
    hand = record {
      own = x.hand.own;
      before = λ m o i. taken_node_more r h m (x.hand.before m o i);
      unnamed = λ k i j. stays_unnamed lay h r c l is_pass other k (x.hand.own k i j) (x.hand.unnamed k i j);
      unmentioned = unmentioned_by_others lay h r c top l is_pass other (x.hand.own top x.some (omega arith)) x.hand.unmentioned;
    };
    share = share_by_others lay h r c left first left.next_scx l is_pass other x.share;
    next = x.next;
    over = over_more lay c 0 h r l (takes_by_others lay c 0 h r l other) x.over;
    taken = λ k i j t. taken_node_more r h k (x.taken k i j t);
    full = λ k i j t. words_by_others k (piece k) x.hand i t (x.full k i j t);
    blank = λ k i j t. blank_by_others k x.hand i t (x.blank k i j t);
  }

-- A row that changes nothing and is no fill: a load

quiet_named : (lay : Layout) (h : History) (r : Row) → ((w : Word) → value (r ⊳ h) w ≡ value h w) → {n : ℕ} → IsNamed lay (r ⊳ h) n → IsNamed lay h n
quiet_named lay h r same (opening_node i) = opening_node i
quiet_named lay h r same (by_field m side p q) = by_field m side (quiet_named lay h r same p) (held_back r h _ _ (same (child m side)) q)
quiet_named lay h r same (by_scx s part p i q) = by_scx s part (p.0, held_back r h _ _ (same (info p.0)) p.1) i (held_back r h _ _ (same (scx s part)) q)

pub by_load : (lay : Layout) (h : History) (r : Row) (c : ℕ) (left : Remaining) (first top n : ℕ) (piece : ℕ → Piece) → Lawful lay (r ⊳ h) → r.kind ≢ Fill → ((w : Word) → value (r ⊳ h) w ≡ value h w) → HasFilledTo lay h c left first top n piece → HasFilledTo lay (r ⊳ h) c left first top n piece
by_load lay h r c left first top n piece l no_fill same x = record {
  some = x.some;
  hand = record {
    own = x.hand.own;
    before = λ m o i. taken_node_more r h m (x.hand.before m o i);
    unnamed = λ k i j p. x.hand.unnamed k i j (quiet_named lay h r same p);
    unmentioned = unmentioned_by_step lay h r top l no_fill x.hand.unmentioned;
  };
  share = share_by_step lay h r c left first left.next_scx l no_fill x.share;
  next = x.next;
  over = over_more lay c 0 h r l (takes_by_step lay c 0 h r no_fill) x.over;
  taken = λ k i j t. taken_node_more r h k (x.taken k i j t);
  full = λ k i j t q p. same (node k q) ∙ x.full k i j t q p;
  blank = λ k i j t q p. same (node k q) ∙ x.blank k i j t q p;
}

-- After the last word of a node

pub filled_next : (lay : Layout) (h : History) (c : ℕ) (left : Remaining) (first top n : ℕ) (piece : ℕ → Piece) → IsTakenNode h n → HoldsWords h n (piece n) → HasFilledTo lay h c left first top n piece → HasFilledTo lay h c left first top (suc n) piece
filled_next lay h c left first top n piece t w x = record {
  some = x.some;
  hand = x.hand;
  share = x.share;
  next = x.next;
  over = x.over;
  taken = λ k i j b. ⊎_elim (λ e. x.taken k i e b) (λ e. rw e t) (less k j);
  full = λ k i j b. ⊎_elim (λ e. x.full k i e b) (λ e. subst (λ m. HoldsWords h m (piece m)) (sym e) w) (less k j);
  blank = λ k i j t. x.blank k i (omega (arith, j)) t;
}
  where
    less : (k : ℕ) → k < suc n → (k < n) ⊎ (k ≡ n)
    less k i = grind arith
