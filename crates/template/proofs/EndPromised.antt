-- What takes a pair at an end of a trie out makes its edit, whatever rows come until its SCX-record
-- begins.
use Rattle.std.proofs.Common.{◌≡◌, ◌≢◌, ℕ, zero, suc, ◌<◌, ◌^◌, ◌/◌, ◌%◌, true, false, eqb, Some, None, inl, inr, refl, sym, ◌∙◌, ap, arith, subst}
use Rattle.arena.specs.declared.limits.Mode.TheVariants.{Trie as TrieMode}
use Rattle.histories.specs.Common.{Layout, First, Side, Child, info, child, History, value, Extends, by_field, count, count_of, member, seen, new, old, IsNamed, Call, Descriptor}
use Rattle.template.specs.Common.{child_of, Snap, Delete, get, MapEdit, edit_key, WasOnPath, IsMapRun, class, is_leaf, opposite}
use Rattle.template.specs.Common.{toward, said, pair_in, held_pairs, HasFoundLeaf, IsPromised, IsFresh, HasTurned, Key as ToKey}
use Rattle.prims.specs.Laws.Linked.{IsLinked, in_field_named, linked_since}
use Rattle.ordered_map.specs.Edits.{IsJoinBy, IsSwapBy, HasFieldsOf}
use Rattle.ordered_map.specs.EditPlans.{end_join_plan, end_leaf_plan}
use Rattle.ordered_map.specs.TrieShape.{Stays, FitsTrie, EditsEndLeaf, TakesEndLeafOut}
use Rattle.ordered_map.proofs.Lemmas.{end_join_plan_says, end_leaf_plan_says, held_alone, low_pairs, SameSettled, settled_leaf, settled_said, settled_toward, move_swap_by, move_join_by}
use Rattle.template.specs.FreshNodes.{IsEndJoinAt, IsEndLeafEditAt, HasFreshCopy, FitsThere}
use Rattle.template.specs.Trails.{IsSurelyOn}
use Rattle.template.specs.Promises.{IsSnapOf, WillEditEndLeaf, WillTakeEndOut}
use Rattle.template.specs.declared.walk.Found.{Found}
use Rattle.template.proofs.Promised.{StaysFresh, fits_then, fork_then, fresh_words, is_member, is_new, is_old, is_plan, is_seen, later_extends, named_words, path_then, side_then, stays_later, stays_then}
use Rattle.template.proofs.Deleting.{only_taken}
use Rattle.template.proofs.Inserting.{grand_surely, on_path}
use Rattle.template.proofs.WalkBounds.{said_low, found_below, passed_named}

-- with this in hand an SCX-record edits the leaf
pub end_leaf_promised : (lay : Layout) (c s : ℕ) (h : History) (d : Descriptor) (e : MapEdit) → c < lay.passes → WillEditEndLeaf lay c h d e → IsPromised lay c h s d e
end_leaf_promised lay c s h d e is_pass w k later run same begins now = record {
  small = w.small;
  path = path_then lay c s h d e is_pass k later run.lawful same begins.free w.named w.fresh w.path;
  stays = stays_then lay c s h d e is_pass k later run.lawful same begins.free w.named w.fresh w.stays;
  fits = λ trie. fits_then lay c s h d e is_pass k later run.lawful same begins.free w.named w.fresh (λ fork side. absurd (let x : true ≡ false = sym w.edit.new.leaf ∙ fork in cc)) (w.fits trie);
  fork = fork_then lay c s h d e is_pass k later run.lawful same begins.free w.named w.fresh w.fork;
  edit = inr (inr (w.trie, inr (inl here)));
  fresh = λ two f z leaf. absurd (let a : count k s ≡ 2 = two in let b : count k s ≡ 3 = three in omega (arith, a, b));
}
  where
    three : count k s ≡ 3
    three = ap count_of (is_plan k s d same ∙ w.plan) ∙ (end_leaf_plan_says (end_leaf_plan (toward (value h) (d.member 0) (edit_key e))) (toward (value h) (d.member 0) (edit_key e)) refl).3

    leaf : SameSettled (value h) (value k) (d.member 1)
    leaf = named_words lay h k (d.member 1) run.lawful (later_extends c s h k later) w.leaf_named

    made : StaysFresh lay h k d.new
    made = stays_later lay c s h k d.new is_pass run.lawful later begins.free w.fresh.own w.fresh.unnamed

    says_now : said (value k) (edit_key e) (member k s 1) ≡ said (value h) (edit_key e) (d.member 1)
    says_now = ap (said (value k) (edit_key e)) (is_member k s d same 1) ∙ settled_said (value h) (value k) (edit_key e) (d.member 1) leaf

    moved : IsSwapBy (value k) e (d.member 1) d.new
    moved = move_swap_by (value h) (value k) e (d.member 1) d.new leaf (fresh_words made) w.edit

    here : EditsEndLeaf k s e
    here = record {
      plan = is_plan k s d same ∙ w.plan ∙ ap end_leaf_plan (side_then lay c s h d e is_pass k later run.lawful same begins.free w.named w.fresh);
      old = is_old k s d same ∙ w.old ∙ sym (is_member k s d same 1);
      guard = is_member k s d same 2 ∙ w.guard;
      edit = subst (IsSwapBy (value k) e (member k s 1)) (sym (is_new k s d same)) (subst (λ n. IsSwapBy (value k) e n d.new) (sym (is_member k s d same 1)) moved);
      there = λ none absent. w.there none (sym says_now ∙ absent);
    }

-- and with this it takes the leaf out
pub end_out_promised : (lay : Layout) (c s : ℕ) (h : History) (d : Descriptor) (e : MapEdit) (side : Side) (leaf : ℕ) → c < lay.passes → WillTakeEndOut lay c h d e side leaf → IsPromised lay c h s d e
end_out_promised lay c s h d e side leaf is_pass w k later run same begins now = record {
  small = w.small;
  path = path_then lay c s h d e is_pass k later run.lawful same begins.free first w.fresh w.path;
  stays = stays_then lay c s h d e is_pass k later run.lawful same begins.free first w.fresh w.stays;
  fits = λ trie. fits_then lay c s h d e is_pass k later run.lawful same begins.free first w.fresh below (w.fits trie);
  fork = fork_then lay c s h d e is_pass k later run.lawful same begins.free first w.fresh w.fork;
  edit = inr (inr (w.trie, inr (inr (inl (subst (TakesEndLeafOut k s e) (sym side_now) here)))));
  fresh = λ two f z lies. absurd (let a : count k s ≡ 2 = two in let b : count k s ≡ 4 = four in omega (arith, a, b));
}
  where
    four : count k s ≡ 4
    four = ap count_of (is_plan k s d same ∙ w.plan) ∙ (end_join_plan_says (end_join_plan (toward (value h) (d.member 0) (edit_key e))) (toward (value h) (d.member 0) (edit_key e)) refl).3

    since : Extends k h
    since = later_extends c s h k later

    at_place : (j : ℕ) → member k s j ≡ d.member j
    at_place j = is_member k s d same j

    first : IsNamed lay h (d.member 0)
    first = w.named 0 (omega arith)

    words_at : (j : ℕ) → j < 3 → SameSettled (value h) (value k) (d.member j)
    words_at j i = named_words lay h k (d.member j) run.lawful since (w.named j i)

    copy_stays : StaysFresh lay h k d.new
    copy_stays = stays_later lay c s h k d.new is_pass run.lawful later begins.free w.fresh.own w.fresh.unnamed

    side_now : toward (value k) (member k s 1) (edit_key e) ≡ side
    side_now = ap (λ n. toward (value k) n (edit_key e)) (at_place 1) ∙ settled_toward (value h) (value k) (d.member 1) (edit_key e) (words_at 1 (omega arith)) ∙ w.side_is

    moved : IsJoinBy (value k) e (d.member 1) leaf (d.member 2) d.new
    moved = move_join_by (value h) (value k) e (d.member 1) leaf (d.member 2) d.new (words_at 1 (omega arith)) (named_words lay h k leaf run.lawful since w.leaf_named) (words_at 2 (omega arith)) (fresh_words copy_stays) w.edit

    -- what a snapshot found its node shows while its info is what was seen
    shows : (j : ℕ) (snap : Snap) → IsSnapOf lay h d j snap → value k (info (member k s j)) ≡ seen k s j → (z : Side) → value k (child (member k s j) z) ≡ (child_of snap z).0
    shows j snap x q z =
        let l : IsLinked lay k snap = linked_since lay k h snap run.lawful since x.linked in
        let n : member k s j ≡ snap.node.0 = at_place j ∙ sym x.node in
        let i : value k (info snap.node.0) ≡ snap.scx.0 = ap (λ m. value k (info m)) (sym n) ∙ q ∙ is_seen k s d same j ∙ sym x.scx in
        ap (λ m. value k (child m z)) n ∙ l.fields z i

    copied_here : value k (info (member k s 2)) ≡ seen k s 2 → HasFieldsOf (value k) (new k s) (member k s 2)
    copied_here q fork z =
        let was : is_leaf (value h) (d.member 2) ≡ false = sym (settled_leaf (value h) (value k) (d.member 2) (words_at 2 (omega arith))) ∙ ap (is_leaf (value k)) (sym (at_place 2)) ∙ fork in
        ap (λ n. value k (child n z)) (is_new k s d same) ∙ copy_stays.words (Child z) ∙ w.copied was z ∙ sym (shows 2 w.sibling w.sibling_is q z)

    here : TakesEndLeafOut k s e side
    here = record {
      plan = is_plan k s d same ∙ w.plan ∙ ap end_join_plan (side_then lay c s h d e is_pass k later run.lawful same begins.free first w.fresh);
      old = is_old k s d same ∙ w.old ∙ sym (at_place 1);
      guard = at_place 3 ∙ w.guard;
      leaf = leaf;
      edit = subst (λ n. IsJoinBy (value k) e n leaf (member k s 2) (new k s)) (sym (at_place 1))
          (subst (λ n. IsJoinBy (value k) e (d.member 1) leaf n (new k s)) (sym (at_place 2))
          (subst (IsJoinBy (value k) e (d.member 1) leaf (d.member 2)) (sym (is_new k s d same)) moved));
      fields = λ q. (shows 1 w.parent w.parent_is q side ∙ w.shown.0, shows 1 w.parent w.parent_is q (opposite side) ∙ w.shown.1 ∙ sym (at_place 2));
      copied = copied_here;
    }

    -- the children of a copy are named, as those of its fork
    below : is_leaf (value h) d.new ≡ false → (z : Side) → SameSettled (value h) (value k) (value h (child d.new z))
    below fork z =
        let q : is_leaf (value h) (d.member 2) ≡ false = sym (ap (λ v. eqb (v / 4 % 2) 1) w.edit.copy.same_head) ∙ fork in
        let n : IsNamed lay h (child_of w.sibling z).0 = by_field w.sibling.node.0 z (in_field_named w.sibling.node.0 w.sibling_is.linked.in_field) (w.sibling_is.linked.had z) in
        subst (SameSettled (value h) (value k)) (sym (w.copied q z)) (named_words lay h k (child_of w.sibling z).0 run.lawful since n)

-- Of the leaf that was found

-- An SCX-record that puts such a fresh leaf in its place makes the edit.
pub end_edit_promised : (c : Call) (h : History) (s : ℕ) (e : MapEdit) (f : Found) (d : Descriptor) (n : ℕ) → c.layout.mode ≡ TrieMode → IsMapRun c.layout h → edit_key e < 2 ^ 64 → HasFoundLeaf c h (edit_key e) f → IsSurelyOn c h (edit_key e) f.trail.parent.0 → IsEndLeafEditAt f d n → IsFresh c.layout c.pass h n → IsSwapBy (value h) e f.trail.node.0 n → FitsThere c.layout h f.trail.parent.0 f.trail.side n → f.value ≢ None → IsPromised c.layout c.pass h s d e
end_edit_promised c h s e f d n trie run small a surely i fresh swap fits there = end_leaf_promised c.layout c.pass s h d e c.is_pass record {
  trie = trie;
  small = small;
  path = subst (WasOnPath h (edit_key e)) (sym i.parent) (on_path c h (edit_key e) f.trail.parent.0 surely);
  stays = subst (Stays c.layout (value h) (edit_key e)) (sym i.parent) surely.stays;
  named = subst (IsNamed c.layout h) (sym i.parent) (passed_named c h (edit_key e) f.trail.parent.0 run parent.passed);
  fork = subst (λ m. is_leaf (value h) m ≡ false) (sym i.parent) parent.fork;
  plan = i.plan ∙ ap end_leaf_plan (sym turn);
  old = i.old ∙ sym i.leaf;
  guard = i.guard;
  leaf_named = subst (IsNamed c.layout h) (sym i.leaf) (passed_named c h (edit_key e) f.trail.node.0 run a.trail.node);
  fresh = subst (IsFresh c.layout c.pass h) (sym i.new) fresh;
  edit = subst (IsSwapBy (value h) e (d.member 1)) (sym i.new) (subst (λ l. IsSwapBy (value h) e l n) (sym i.leaf) swap);
  there = λ none absent. there (a.says ∙ ap (said (value h) (edit_key e)) (sym i.leaf) ∙ absent);
  fits = λ t. subst (λ z. FitsTrie (value h) (d.member 0) z d.new) (sym turn) (subst (λ z. FitsTrie (value h) z f.trail.side d.new) (sym i.parent) (subst (FitsTrie (value h) f.trail.parent.0 f.trail.side) (sym i.new) (fits t)));
}
  where
    parent : HasTurned c h (edit_key e) f.trail.parent.0 f.trail.side f.trail.node.0
    parent = a.trail.parent (found_below (ToKey (edit_key e)) c h f run a)

    turn : toward (value h) (d.member 0) (edit_key e) ≡ f.trail.side
    turn = subst (λ m. toward (value h) m (edit_key e) ≡ f.trail.side) (sym i.parent) parent.side_is

-- One that puts a fresh copy of the sibling into the place of the parent, where the leaf has no
-- other pair, takes the key out.
pub end_join_promised : (c : Call) (h : History) (s k old : ℕ) (f : Found) (d : Descriptor) (above sibling : Snap) (n : ℕ) → c.layout.mode ≡ TrieMode → IsMapRun c.layout h → k < 2 ^ 64 → HasFoundLeaf c h k f → f.value ≡ Some old → f.more ≡ 0 → IsEndJoinAt f d n → IsSnapOf c.layout h d 1 above → (child_of above f.trail.side).0 ≡ f.trail.node.0 → IsSnapOf c.layout h d 2 sibling
    → (child_of above (opposite f.trail.side)).0 ≡ sibling.node.0 → HasFreshCopy c.layout c.pass h sibling n → FitsThere c.layout h f.trail.grand.0 f.trail.grand_side n → IsPromised c.layout c.pass h s d (Delete k)
end_join_promised c h s k old f d above sibling n trie run small a found alone i above_is same sibling_is other w fits = end_out_promised c.layout c.pass s h d (Delete k) f.trail.side f.trail.node.0 c.is_pass record {
  trie = trie;
  small = small;
  path = subst (WasOnPath h k) (sym i.grand) (on_path c h k f.trail.grand.0 surely);
  stays = subst (Stays c.layout (value h) k) (sym i.grand) surely.stays;
  fork = subst (λ m. is_leaf (value h) m ≡ false) (sym i.grand) grand.fork;
  plan = i.plan ∙ ap end_join_plan (sym turn);
  old = i.old ∙ sym i.parent;
  side_is = subst (λ m. toward (value h) m k ≡ f.trail.side) (sym i.parent) parent.side_is;
  guard = i.guard;
  named = named;
  leaf_named = passed_named c h k f.trail.node.0 run a.trail.node;
  fresh = subst (IsFresh c.layout c.pass h) (sym i.new) w.fresh;
  edit = subst (λ q. IsJoinBy (value h) (Delete k) q f.trail.node.0 (d.member 2) d.new) (sym i.parent)
      (subst (λ z. IsJoinBy (value h) (Delete k) f.trail.parent.0 f.trail.node.0 z d.new) sibling_is.node
      (subst (IsJoinBy (value h) (Delete k) f.trail.parent.0 f.trail.node.0 sibling.node.0) (sym i.new) is_join));
  parent = above;
  parent_is = above_is;
  shown = (same, other ∙ sibling_is.node);
  sibling = sibling;
  sibling_is = sibling_is;
  copied = λ fork side. subst (λ m. value h (child m side) ≡ (child_of sibling side).0) (sym i.new) (w.fields (subst (λ m. is_leaf (value h) m ≡ false) (sym sibling_is.node) fork) side);
  fits = λ t. subst (λ z. FitsTrie (value h) (d.member 0) z d.new) (sym turn) (subst (λ z. FitsTrie (value h) z f.trail.grand_side d.new) (sym i.grand) (subst (FitsTrie (value h) f.trail.grand.0 f.trail.grand_side) (sym i.new) (fits t)));
}
  where
    low : class (value h) f.trail.node.0 ≡ 0
    low = said_low (value h) k f.trail.node.0 old (sym found ∙ a.says)

    below : f.trail.node.0 ≢ 0
    below = found_below (ToKey k) c h f run a

    parent : HasTurned c h k f.trail.parent.0 f.trail.side f.trail.node.0
    parent = a.trail.parent below

    grand : HasTurned c h k f.trail.grand.0 f.trail.grand_side f.trail.parent.0
    grand = a.trail.grand below (λ z. a.trail.high below z a.leaf low)

    surely : IsSurelyOn c h k f.trail.grand.0
    surely = grand_surely c h k f small run a (λ none. let x : None ≡ Some old = sym none ∙ found in cc) (λ z. a.trail.high below z a.leaf low)

    turn : toward (value h) (d.member 0) k ≡ f.trail.grand_side
    turn = subst (λ m. toward (value h) m k ≡ f.trail.grand_side) (sym i.grand) grand.side_is

    named : (j : ℕ) → j < 3 → IsNamed c.layout h (d.member j)
    named zero few = subst (IsNamed c.layout h) (sym i.grand) (passed_named c h k f.trail.grand.0 run grand.passed)
    named (suc zero) few = subst (IsNamed c.layout h) (sym i.parent) (passed_named c h k f.trail.parent.0 run parent.passed)
    named (suc (suc zero)) few = subst (IsNamed c.layout h) sibling_is.node (in_field_named sibling.node.0 sibling_is.linked.in_field)
    named (suc (suc (suc j))) few = absurd (omega (arith, few))

    is_join : IsJoinBy (value h) (Delete k) f.trail.parent.0 f.trail.node.0 sibling.node.0 n
    is_join = record {
      fork = parent.fork;
      leaf = a.leaf;
      low = low;
      emptied = only_taken k old (pair_in (value h) f.trail.node.0 First) (held_pairs (value h) f.trail.node.0)
          (held_alone (value h) f.trail.node.0 (a.more (sym (ap (λ w. w.class) a.head) ∙ low) ∙ alone))
          (sym (ap (get k) (low_pairs (value h) f.trail.node.0 low)) ∙ sym a.says ∙ found);
      copy = w.copy;
    }
