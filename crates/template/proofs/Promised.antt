-- What a pass has in hand for an edit allows its SCX-record, whatever rows come until that begins.
use Rattle.std.proofs.Common.{◌≡◌, ◌≢◌, ℕ, ◌<◌, ◌/◌, ◌%◌, true, false, eqb, ◌⊎◌, inl, inr, ⊎_elim, refl, sym, ◌∙◌, ap, arith, subst}
use Rattle.histories.specs.Common.{Layout, Side, Left, Right, NodeWord, Child, Info, ScxWord, Word, Row, node, scx, info, child, History, Opened}
use Rattle.histories.specs.Common.{◌⊳◌, value, Extends, plan, count, count_of, member, seen, new, old, IsOwnNode, IsNamed, by_field, IsNamedScx, Lawful, Descriptor, descriptor}
use Rattle.arena.proofs.Lemmas.{value_quiet, value_apart, held_more, scx_apart, ends_trans, named_before}
use Rattle.histories.proofs.Lemmas.{lawful_row, lawful_tail, node_since, stays_unnamed, unnamed_stays}
use Rattle.help.specs.Allowed.{MayComeBetween, IsLater, IsAllowed}
use Rattle.help.specs.Laws.Help.Allowing.{later_self, later_trans}
use Rattle.template.specs.Common.{Snap, child_of, MapEdit, edit_key, WasOnPath, leaf_plan, join_plan, sibling_place, TreeAllows, is_leaf, level, toward, said, opposite, IsPromised, IsFresh}
use Rattle.prims.specs.Laws.Linked.{IsLinked, linked_since, in_field_named}
use Rattle.ordered_map.specs.Bits.{Keeps}
use Rattle.ordered_map.specs.EditPlans.{above_plan}
use Rattle.ordered_map.specs.TreeShape.{leaf_place, IsEdit, TakesLeafOut}
use Rattle.ordered_map.specs.TrieShape.{Stays, FitsTrie, IsAboveBy}
use Rattle.ordered_map.specs.Edits.{IsLeafEdit, IsJoinBy, HasFieldsOf}
use Rattle.ordered_map.proofs.Lemmas.{join_plan_says, SameSettled, settled_said, settled_toward, settled_leaf, settled_level, same_stays, same_keeps, same_fork, move_swap_by, move_split_by, move_levels, move_join_by, move_above}
use Rattle.template.specs.Promises.{IsReplacedBy, WillEditLeaf, IsSnapOf, WillTakeOut, WillPutAbove}

-- what is promised is allowed
pub promised_allowed : (lay : Layout) (c : ℕ) (h : History) (s : ℕ) (d : Descriptor) (e : MapEdit) → IsPromised lay c h s d e → IsAllowed TreeAllows lay c h s d
promised_allowed lay c h s d e x k later run same begins now = inl (e, x k later run same begins now)

-- what is promised of s stays promised after a row that may come before it begins
pub promised_more : (lay : Layout) (c : ℕ) (h : History) (r : Row) (s : ℕ) (d : Descriptor) (e : MapEdit) → MayComeBetween c s r → IsPromised lay c h s d e → IsPromised lay c (r ⊳ h) s d e
promised_more lay c h r s d e b x k later = x k (later_trans c s h (r ⊳ h) k later (inr (b, later_self c s h)))

-- Later histories

pub later_extends : (c s : ℕ) (h k : History) → IsLater c s h k → Extends k h
later_extends c s h (Opened o) x = x
later_extends c s h (r ⊳ k) (inl e) = inl e
later_extends c s h (r ⊳ k) (inr x) = inr (later_extends c s h k x.1)

-- no info word names s until then
free_before : (h : History) (r : Row) (s : ℕ) → ¬ IsNamedScx (r ⊳ h) s → ¬ IsNamedScx h s
free_before h r s free p = free (p.0, held_more r h _ s p.1)

-- the words of a fresh node stay, and nothing names it
pub record StaysFresh (lay : Layout) (h k : History) (n : ℕ) : Type 0 where
  pub unnamed : ¬ IsNamed lay k n
  pub words : (part : NodeWord) → value k (node n part) ≡ value h (node n part)

stays_step : (lay : Layout) (c s : ℕ) (h k : History) (r : Row) (n : ℕ) → c < lay.passes → Lawful lay (r ⊳ k) → MayComeBetween c s r → ¬ IsNamedScx k s → IsOwnNode lay c n → StaysFresh lay h k n → StaysFresh lay h (r ⊳ k) n
stays_step lay c s h k r n i l (inl other) free own x = record {
  unnamed = stays_unnamed lay k r c l i other n own x.unnamed;
  words = λ part. unnamed_stays lay k r c l i other n part own x.unnamed ∙ x.words part;
}
stays_step lay c s h k r n i l (inr (inl fill)) free own x = record {
  unnamed = λ p. x.unnamed (named_before lay r k (λ m. nodes m Info) (λ m side. nodes m (Child side)) (λ u part q. others u part (λ e. free (subst (IsNamedScx k) e q))) p);
  words = λ part. nodes n part ∙ x.words part;
}
  where
    nodes : (m : ℕ) (part : NodeWord) → value (r ⊳ k) (node m part) ≡ value k (node m part)
    nodes m part = value_apart r k (scx s fill.0) (node m part) fill.2 refl

    others : (u : ℕ) (part : ScxWord) → u ≢ s → value (r ⊳ k) (scx u part) ≡ value k (scx u part)
    others u part d = value_apart r k (scx s fill.0) (scx u part) fill.2 (scx_apart s u fill.0 part (λ e. d (sym e)))
stays_step lay c s h k r n i l (inr (inr q)) free own x = record {
  unnamed = λ p. x.unnamed (named_before lay r k (λ m. same (info m)) (λ m side. same (child m side)) (λ u part _. same (scx u part)) p);
  words = λ part. same (node n part) ∙ x.words part;
}
  where
    same : (w : Word) → value (r ⊳ k) w ≡ value k w
    same w = value_quiet r k (lawful_row lay k r l).before q.same w

pub stays_later : (lay : Layout) (c s : ℕ) (h k : History) (n : ℕ) → c < lay.passes → Lawful lay k → IsLater c s h k → ¬ IsNamedScx k s → IsOwnNode lay c n → ¬ IsNamed lay h n → StaysFresh lay h k n
stays_later lay c s h (Opened o) n i l x free own d = subst (λ m. StaysFresh lay m (Opened o) n) (sym x) record { unnamed = rw x at d; words = λ part. refl }
stays_later lay c s h (r ⊳ k) n i l (inl e) free own d = subst (λ m. StaysFresh lay m (r ⊳ k) n) (sym e) record { unnamed = rw e at d; words = λ part. refl }
stays_later lay c s h (r ⊳ k) n i l (inr x) free own d =
    let f : ¬ IsNamedScx k s = free_before k r s free in
    stays_step lay c s h k r n i l x.0 f own (stays_later lay c s h k n i (lawful_tail lay k r l) x.1 f own d)

-- the settled words of a named node stay
pub named_words : (lay : Layout) (h k : History) (n : ℕ) → Lawful lay k → Extends k h → IsNamed lay h n → SameSettled (value h) (value k) n
named_words lay h k n l e p a i = node_since lay k h n a l e i p

pub fresh_words : {lay : Layout} {h k : History} {n : ℕ} → StaysFresh lay h k n → SameSettled (value h) (value k) n
fresh_words x a i = x.words a

was_on_path_since : (h k : History) (key n : ℕ) → Extends k h → WasOnPath h key n → WasOnPath k key n
was_on_path_since h k key n e p = (p.0, ends_trans k h p.0 e p.1, p.2)

-- The words of an SCX-record whose descriptor is d

module _ (k : History) (s : ℕ) (d : Descriptor) (e : descriptor k s ≡ d) where
  abbrev pub is_plan : plan k s ≡ d.plan
  is_plan = ap (λ (x : Descriptor). x.plan) e

  abbrev pub is_member : (j : ℕ) → member k s j ≡ d.member j
  is_member j = ap (λ (x : Descriptor). x.member j) e

  abbrev pub is_seen : (j : ℕ) → seen k s j ≡ d.seen j
  is_seen j = ap (λ (x : Descriptor). x.seen j) e

  abbrev pub is_new : new k s ≡ d.new
  is_new = ap (λ (x : Descriptor). x.new) e

  abbrev pub is_old : old k s ≡ d.old
  is_old = ap (λ (x : Descriptor). x.old) e

-- The words of a new node at a later moment

-- what is to replace a leaf still is
move_replaced : (lay : Layout) (b f : Word → ℕ) (e : MapEdit) (l c : ℕ) → SameSettled b f l → SameSettled b f c → (is_leaf b c ≡ false → (side : Side) → SameSettled b f (b (child c side))) → ((side : Side) → f (child c side) ≡ b (child c side)) → IsReplacedBy lay b e l c → IsReplacedBy lay f e l c
move_replaced lay b f e l c el ec below fields (inl s) = inl (move_swap_by b f e l c el ec s)
move_replaced lay b f e l c el ec below fields (inr s) =
    let ex : SameSettled b f s.0 = subst (SameSettled b f) s.2.left (below s.2.fork Left) in
    let ey : SameSettled b f s.1 = subst (SameSettled b f) s.2.right (below s.2.fork Right) in
    inr (s.0, s.1, move_split_by b f e l c s.0 s.1 el ec ex ey fields s.2, ⊎_elim (λ x. inl (move_levels b f l c s.0 s.1 el ec ex ey x)) inr s.3)

-- what fits still does
pub move_fits : (b f : Word → ℕ) (p : ℕ) (side : Side) (n : ℕ) → SameSettled b f p → SameSettled b f n → (is_leaf b n ≡ false → (at : Side) → SameSettled b f (b (child n at))) → ((at : Side) → f (child n at) ≡ b (child n at)) → FitsTrie b p side n → FitsTrie f p side n
move_fits b f p side n ep en below fields s = record {
  keeps = same_keeps b f p side n ep en s.keeps;
  fork = same_fork b f n en (λ fork at x. subst (Keeps f n at) (sym (fields at)) (same_keeps b f n at (b (child n at)) en (below fork at) x)) s.fork;
  deeper = let x = settled_level b f p ep in let y = settled_level b f n en in let d = s.deeper in omega (arith, x, y, d);
  rises = λ fork at.
      let was : is_leaf b n ≡ false = sym (settled_leaf b f n en) ∙ fork in
      let x = settled_level b f n en in
      let y : level f (f (child n at)) ≡ level b (b (child n at)) = ap (level f) (fields at) ∙ settled_level b f (b (child n at)) (below was at) in
      let r = s.rises was at in
      omega (arith, x, y, r);
}

-- The promises

-- What each of them says of the first node that is covered, and of the new one, whose children are
-- fresh or named.
module _ (lay : Layout) (c s : ℕ) (h : History) (d : Descriptor) (e : MapEdit) (is_pass : c < lay.passes) (k : History) (later : IsLater c s h k) (l : Lawful lay k) (same : descriptor k s ≡ d) (free : ¬ IsNamedScx k s)
    (named : IsNamed lay h (d.member 0)) (fresh : IsFresh lay c h d.new) where
  abbrev ends : Extends k h
  ends = later_extends c s h k later

  abbrev at : (j : ℕ) → member k s j ≡ d.member j
  at j = is_member k s d same j

  abbrev words : (n : ℕ) → IsNamed lay h n → SameSettled (value h) (value k) n
  words n x = named_words lay h k n l ends x

  abbrev stays : (n : ℕ) → IsFresh lay c h n → StaysFresh lay h k n
  stays n x = stays_later lay c s h k n is_pass l later free x.own x.unnamed

  abbrev made : StaysFresh lay h k d.new
  made = stays d.new fresh

  pub path_then : WasOnPath h (edit_key e) (d.member 0) → WasOnPath k (edit_key e) (member k s 0)
  path_then p = subst (WasOnPath k (edit_key e)) (sym (at 0)) (was_on_path_since h k (edit_key e) (d.member 0) ends p)

  pub stays_then : Stays lay (value h) (edit_key e) (d.member 0) → Stays lay (value k) (edit_key e) (member k s 0)
  stays_then x = subst (Stays lay (value k) (edit_key e)) (sym (at 0)) (same_stays (value h) (value k) lay (edit_key e) (d.member 0) (words (d.member 0) named) x)

  pub fork_then : is_leaf (value h) (d.member 0) ≡ false → is_leaf (value k) (member k s 0) ≡ false
  fork_then x = subst (λ n. is_leaf (value k) n ≡ false) (sym (at 0)) (settled_leaf (value h) (value k) (d.member 0) (words (d.member 0) named) ∙ x)

  pub side_then : toward (value h) (d.member 0) (edit_key e) ≡ toward (value k) (member k s 0) (edit_key e)
  side_then = sym (settled_toward (value h) (value k) (d.member 0) (edit_key e) (words (d.member 0) named)) ∙ ap (λ n. toward (value k) n (edit_key e)) (sym (at 0))

  pub fits_then : (is_leaf (value h) d.new ≡ false → (side : Side) → SameSettled (value h) (value k) (value h (child d.new side))) → FitsTrie (value h) (d.member 0) (toward (value h) (d.member 0) (edit_key e)) d.new → FitsTrie (value k) (member k s 0) (toward (value k) (member k s 0) (edit_key e)) (new k s)
  fits_then below x =
      subst (FitsTrie (value k) (member k s 0) (toward (value k) (member k s 0) (edit_key e))) (sym (is_new k s d same))
      (subst (λ side. FitsTrie (value k) (member k s 0) side d.new) side_then
      (subst (λ n. FitsTrie (value k) n (toward (value h) (d.member 0) (edit_key e)) d.new) (sym (at 0))
      (move_fits (value h) (value k) (d.member 0) (toward (value h) (d.member 0) (edit_key e)) d.new (words (d.member 0) named) (fresh_words made) below (λ side. made.words (Child side)) x)))

-- with this in hand an SCX-record edits a leaf
pub leaf_edit_promised : (lay : Layout) (c s : ℕ) (h : History) (d : Descriptor) (e : MapEdit) → c < lay.passes → WillEditLeaf lay c h d e → IsPromised lay c h s d e
leaf_edit_promised lay c s h d e is_pass w k later run same begins now = record {
  small = w.small;
  path = path_then lay c s h d e is_pass k later run.lawful same begins.free w.named w.edit.fresh w.path;
  stays = stays_then lay c s h d e is_pass k later run.lawful same begins.free w.named w.edit.fresh w.stays;
  fits = λ trie. fits_then lay c s h d e is_pass k later run.lawful same begins.free w.named w.edit.fresh (λ fork side. fresh_words (below fork side)) (w.fits trie);
  fork = fork_then lay c s h d e is_pass k later run.lawful same begins.free w.named w.edit.fresh w.fork;
  edit = edits moved;
  fresh = λ two. subst (λ n. is_leaf (value k) n ≡ false → (side : Side) → is_leaf (value k) (value k (child n side)) ≡ true → ¬ IsNamed lay k (value k (child n side))) (sym (is_new k s d same)) (λ fork side leaf. unnamed fork side);
}
  where
    leaf : SameSettled (value h) (value k) (d.member 1)
    leaf = named_words lay h k (d.member 1) run.lawful (later_extends c s h k later) w.leaf_named

    stays_here : (n : ℕ) → IsFresh lay c h n → StaysFresh lay h k n
    stays_here n x = stays_later lay c s h k n is_pass run.lawful later begins.free x.own x.unnamed

    made_here : StaysFresh lay h k d.new
    made_here = stays_here d.new w.edit.fresh

    below : is_leaf (value h) d.new ≡ false → (side : Side) → StaysFresh lay h k (value h (child d.new side))
    below fork side = stays_here (value h (child d.new side)) (w.edit.below fork side)

    unnamed : is_leaf (value k) d.new ≡ false → (side : Side) → ¬ IsNamed lay k (value k (child d.new side))
    unnamed fork side = subst (λ n. ¬ IsNamed lay k n) (sym (made_here.words (Child side))) (below (sym (settled_leaf (value h) (value k) d.new (fresh_words made_here)) ∙ fork) side).unnamed

    says_now : said (value k) (edit_key e) (member k s 1) ≡ said (value h) (edit_key e) (d.member 1)
    says_now = ap (said (value k) (edit_key e)) (is_member k s d same 1) ∙ settled_said (value h) (value k) (edit_key e) (d.member 1) leaf

    moved : IsReplacedBy lay (value k) e (member k s 1) (new k s)
    moved = subst (IsReplacedBy lay (value k) e (member k s 1)) (sym (is_new k s d same))
        (subst (λ n. IsReplacedBy lay (value k) e n d.new) (sym (is_member k s d same 1))
        (move_replaced lay (value h) (value k) e (d.member 1) d.new leaf (fresh_words made_here) (λ fork side. fresh_words (below fork side)) (λ side. made_here.words (Child side)) w.edit.edit))

    is_leaf_plan : plan k s ≡ leaf_plan (toward (value k) (member k s 0) (edit_key e))
    is_leaf_plan = is_plan k s d same ∙ w.plan ∙ ap leaf_plan (side_then lay c s h d e is_pass k later run.lawful same begins.free w.named w.edit.fresh)

    is_old_leaf : old k s ≡ member k s 1
    is_old_leaf = is_old k s d same ∙ w.old ∙ sym (is_member k s d same 1)

    -- in a tree and in a trie alike, but for a split, whose levels differ
    alike : IsLeafEdit (value k) e (member k s 1) (new k s) → IsEdit lay k s e
    alike x = inl record { plan = is_leaf_plan; old = is_old_leaf; edit = x; there = λ none absent. w.there none (sym says_now ∙ absent) }

    edits : IsReplacedBy lay (value k) e (member k s 1) (new k s) → IsEdit lay k s e
    edits (inl x) = alike (inl x)
    edits (inr x) = ⊎_elim (λ levels. alike (inr (x.0, x.1, x.2, levels))) (λ trie. inr (inr (trie, inl record { plan = is_leaf_plan; old = is_old_leaf; first = x.0; last = x.1; edit = x.2 }))) x.3

places_small : (side : Side) → (leaf_place side < 4) × (sibling_place side < 4)
places_small Left = (omega arith, omega arith)
places_small Right = (omega arith, omega arith)

-- with this in hand an SCX-record takes a leaf out
pub taken_out_promised : (lay : Layout) (c s : ℕ) (h : History) (d : Descriptor) (e : MapEdit) (side : Side) → c < lay.passes → WillTakeOut lay c h d e side → IsPromised lay c h s d e
taken_out_promised lay c s h d e side is_pass w k later run same begins now = record {
  small = w.small;
  path = path_then lay c s h d e is_pass k later run.lawful same begins.free first w.fresh w.path;
  stays = stays_then lay c s h d e is_pass k later run.lawful same begins.free first w.fresh w.stays;
  fits = λ trie. fits_then lay c s h d e is_pass k later run.lawful same begins.free first w.fresh below (w.fits trie);
  fork = fork_then lay c s h d e is_pass k later run.lawful same begins.free first w.fresh w.fork;
  edit = inr (inl (subst (TakesLeafOut k s e) (sym side_now) record {
    plan = is_plan k s d same ∙ w.plan ∙ ap join_plan (side_then lay c s h d e is_pass k later run.lawful same begins.free first w.fresh);
    old = is_old k s d same ∙ w.old ∙ sym (at_place 1);
    edit = join_here;
    fields = λ q. (left_here q, right_here q);
    copied = copied_here;
  }));
  fresh = λ two f z leaf. absurd (let a : count k s ≡ 2 = two in let b : count k s ≡ 4 = four in omega (arith, a, b));
}
  where
    four : count k s ≡ 4
    four = ap count_of (is_plan k s d same ∙ w.plan) ∙ (join_plan_says (join_plan (toward (value h) (d.member 0) (edit_key e))) (toward (value h) (d.member 0) (edit_key e)) refl).3

    since : Extends k h
    since = later_extends c s h k later

    at_place : (j : ℕ) → member k s j ≡ d.member j
    at_place j = is_member k s d same j

    first : IsNamed lay h (d.member 0)
    first = w.named 0 (omega arith)

    words_at : (j : ℕ) → j < 4 → SameSettled (value h) (value k) (d.member j)
    words_at j i = named_words lay h k (d.member j) run.lawful since (w.named j i)

    copy_stays : StaysFresh lay h k d.new
    copy_stays = stays_later lay c s h k d.new is_pass run.lawful later begins.free w.fresh.own w.fresh.unnamed

    side_now : toward (value k) (member k s 1) (edit_key e) ≡ side
    side_now = ap (λ n. toward (value k) n (edit_key e)) (at_place 1) ∙ settled_toward (value h) (value k) (d.member 1) (edit_key e) (words_at 1 (omega arith)) ∙ w.side_is

    small : (leaf_place side < 4) × (sibling_place side < 4)
    small = places_small side

    moved : IsJoinBy (value k) e (d.member 1) (d.member (leaf_place side)) (d.member (sibling_place side)) d.new
    moved = move_join_by (value h) (value k) e (d.member 1) (d.member (leaf_place side)) (d.member (sibling_place side)) d.new (words_at 1 (omega arith)) (words_at (leaf_place side) small.0) (words_at (sibling_place side) small.1) (fresh_words copy_stays) w.edit

    join_here : IsJoinBy (value k) e (member k s 1) (member k s (leaf_place side)) (member k s (sibling_place side)) (new k s)
    join_here =
        subst (λ n. IsJoinBy (value k) e n (member k s (leaf_place side)) (member k s (sibling_place side)) (new k s)) (sym (at_place 1))
        (subst (λ n. IsJoinBy (value k) e (d.member 1) n (member k s (sibling_place side)) (new k s)) (sym (at_place (leaf_place side)))
        (subst (λ n. IsJoinBy (value k) e (d.member 1) (d.member (leaf_place side)) n (new k s)) (sym (at_place (sibling_place side)))
        (subst (IsJoinBy (value k) e (d.member 1) (d.member (leaf_place side)) (d.member (sibling_place side))) (sym (is_new k s d same)) moved)))

    -- what a snapshot found its node shows while its info is what was seen
    shows : (j : ℕ) (snap : Snap) → IsSnapOf lay h d j snap → value k (info (member k s j)) ≡ seen k s j → (z : Side) → value k (child (member k s j) z) ≡ (child_of snap z).0
    shows j snap x e z =
        let l : IsLinked lay k snap = linked_since lay k h snap run.lawful since x.linked in
        let n : member k s j ≡ snap.node.0 = at_place j ∙ sym x.node in
        let q : value k (info snap.node.0) ≡ snap.scx.0 = ap (λ m. value k (info m)) (sym n) ∙ e ∙ is_seen k s d same j ∙ sym x.scx in
        ap (λ m. value k (child m z)) n ∙ l.fields z q

    left_here : value k (info (member k s 1)) ≡ seen k s 1 → value k (child (member k s 1) Left) ≡ member k s 2
    left_here e = shows 1 w.parent w.parent_is e Left ∙ w.left ∙ sym (at_place 2)

    right_here : value k (info (member k s 1)) ≡ seen k s 1 → value k (child (member k s 1) Right) ≡ member k s 3
    right_here e = shows 1 w.parent w.parent_is e Right ∙ w.right ∙ sym (at_place 3)

    copied_here : value k (info (member k s (sibling_place side))) ≡ seen k s (sibling_place side) → HasFieldsOf (value k) (new k s) (member k s (sibling_place side))
    copied_here e leaf z =
        let q : is_leaf (value h) (d.member (sibling_place side)) ≡ false = sym (settled_leaf (value h) (value k) (d.member (sibling_place side)) (words_at (sibling_place side) small.1)) ∙ ap (is_leaf (value k)) (sym (at_place (sibling_place side))) ∙ leaf in
        ap (λ n. value k (child n z)) (is_new k s d same) ∙ copy_stays.words (Child z) ∙ w.copied q z ∙ sym (shows (sibling_place side) w.sibling w.sibling_is e z)

    -- the children of a copy are named, as those of its fork
    below : is_leaf (value h) d.new ≡ false → (z : Side) → SameSettled (value h) (value k) (value h (child d.new z))
    below fork z =
        let q : is_leaf (value h) (d.member (sibling_place side)) ≡ false = sym (ap (λ v. eqb (v / 4 % 2) 1) w.edit.copy.same_head) ∙ fork in
        let n : IsNamed lay h (child_of w.sibling z).0 = by_field w.sibling.node.0 z (in_field_named w.sibling.node.0 w.sibling_is.linked.in_field) (w.sibling_is.linked.had z) in
        subst (SameSettled (value h) (value k)) (sym (w.copied q z)) (named_words lay h k (child_of w.sibling z).0 run.lawful since n)

-- A fork above a fork

-- each side is the one or the other
either : (at side : Side) → (at ≡ side) ⊎ (at ≡ opposite side)
either Left Left = inl refl
either Left Right = inr refl
either Right Left = inr refl
either Right Right = inl refl

-- with this in hand an SCX-record puts a fork above a fork
pub above_promised : (lay : Layout) (c s : ℕ) (h : History) (d : Descriptor) (e : MapEdit) (u leaf : ℕ) (side : Side) → c < lay.passes → WillPutAbove lay c h d e u leaf side → IsPromised lay c h s d e
above_promised lay c s h d e u leaf side is_pass w k later run same begins now = record {
  small = w.small;
  path = path_then lay c s h d e is_pass k later run.lawful same begins.free w.named w.fresh w.path;
  stays = stays_then lay c s h d e is_pass k later run.lawful same begins.free w.named w.fresh w.stays;
  fits = λ trie. fits_then lay c s h d e is_pass k later run.lawful same begins.free w.named w.fresh below (w.fits trie);
  fork = fork_then lay c s h d e is_pass k later run.lawful same begins.free w.named w.fresh w.fork;
  edit = inr (inr (
    w.trie,
    inr (inr (inr record {
      plan = is_plan k s d same ∙ w.plan ∙ ap above_plan (side_then lay c s h d e is_pass k later run.lawful same begins.free w.named w.fresh);
      guard = is_member k s d same 1 ∙ w.guard;
      leaf = leaf;
      side = side;
      edit = subst (λ n. IsAboveBy (value k) e (old k s) n leaf side) (sym (is_new k s d same)) (subst (λ n. IsAboveBy (value k) e n d.new leaf side) (sym (is_old k s d same ∙ w.old)) moved);
    })),
  ));
  fresh = λ two. subst (λ n. is_leaf (value k) n ≡ false → (at : Side) → is_leaf (value k) (value k (child n at)) ≡ true → ¬ IsNamed lay k (value k (child n at))) (sym (is_new k s d same)) (λ fork at lies. unnamed at lies (either at side));
}
  where
    old_words : SameSettled (value h) (value k) u
    old_words = named_words lay h k u run.lawful (later_extends c s h k later) w.old_named

    fork_stays : StaysFresh lay h k d.new
    fork_stays = stays_later lay c s h k d.new is_pass run.lawful later begins.free w.fresh.own w.fresh.unnamed

    leaf_stays : StaysFresh lay h k leaf
    leaf_stays = stays_later lay c s h k leaf is_pass run.lawful later begins.free w.fresh_leaf.own w.fresh_leaf.unnamed

    below : is_leaf (value h) d.new ≡ false → (at : Side) → SameSettled (value h) (value k) (value h (child d.new at))
    below fork at = ⊎_elim (λ q. subst (SameSettled (value h) (value k)) (sym (ap (λ z. value h (child d.new z)) q ∙ w.edit.leaf)) (fresh_words leaf_stays)) (λ q. subst (SameSettled (value h) (value k)) (sym (ap (λ z. value h (child d.new z)) q ∙ w.edit.other)) old_words) (either at side)

    moved : IsAboveBy (value k) e u d.new leaf side
    moved = move_above (value h) (value k) e u d.new leaf side old_words (fresh_words fork_stays) (fresh_words leaf_stays) (λ at. fork_stays.words (Child at)) w.edit

    unnamed : (at : Side) → is_leaf (value k) (value k (child d.new at)) ≡ true → (at ≡ side) ⊎ (at ≡ opposite side) → ¬ IsNamed lay k (value k (child d.new at))
    unnamed at lies (inl q) = subst (λ n. ¬ IsNamed lay k n) (sym (ap (λ z. value k (child d.new z)) q ∙ moved.leaf)) leaf_stays.unnamed
    unnamed at lies (inr q) = absurd (let x : true ≡ false = sym (sym (ap (is_leaf (value k)) (ap (λ z. value k (child d.new z)) q ∙ moved.other)) ∙ lies) ∙ moved.old_fork in cc)
