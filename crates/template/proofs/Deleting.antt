-- What a delete has filled makes its edit, whatever rows come until its SCX-record begins.
use Rattle.std.proofs.Common.{◌≡◌, ◌≢◌, ℕ, zero, suc, ◌<◌, ◌^◌, false, Some, None, List, [], ◌∷◌, refl, sym, ◌∙◌, ap, arith, subst, eq-eqb, ne_eqb}
use native.Mathlib.Decide.{ℕ_discrete}
use Rattle.histories.specs.Common.{First, Side, Left, Right, child, History, value, IsNamed, Call, Descriptor}
use Rattle.template.specs.Common.{child_of, Snap, Delete, delete, get, WasOnPath, IsMapRun, join_plan, sibling_place, class, is_leaf}
use Rattle.template.specs.Common.{toward, pair_in, held_pairs, HasFoundLeaf, IsPromised, IsFresh, HasTurned, Pair, Key as ToKey}
use Rattle.prims.specs.Laws.Linked.{in_field_named}
use Rattle.ordered_map.specs.Edits.{IsJoinBy}
use Rattle.ordered_map.specs.TreeShape.{leaf_place}
use Rattle.ordered_map.proofs.Lemmas.{held_alone, low_pairs}
use Rattle.template.specs.FreshNodes.{IsJoinAt, HasFreshCopy, FitsThere}
use Rattle.template.specs.Trails.{IsSurelyOn}
use Rattle.ordered_map.specs.TrieShape.{Stays, FitsTrie}
use Rattle.template.specs.Promises.{IsSnapOf, WillTakeOut}
use Rattle.template.specs.declared.walk.Found.{Found}
use Rattle.template.proofs.Promised.{taken_out_promised}
use Rattle.template.proofs.Inserting.{grand_surely, on_path}
use Rattle.template.proofs.WalkBounds.{said_low, found_below, passed_named}

-- without its only key nothing is left of a list
pub only_taken : (k old : ℕ) (p : Pair) (ps : List Pair) → ps ≡ p ∷ [] → get k ps ≡ Some old → delete k ps ≡ []
only_taken k old p ps one there = ap (delete k) one ∙ go (ℕ_discrete k p.key)
  where
    go : Dec (k ≡ p.key) → delete k (p ∷ []) ≡ []
    go (yes e) = rw (eq-eqb k p.key e) refl
    go (no d) = absurd (let z : None ≡ Some old = sym (ap (get k) one ∙ rw (ne_eqb k p.key d) refl) ∙ there in cc)

module _ (c : Call) (h : History) (k old : ℕ) (f : Found) (d : Descriptor) (above sibling : Snap) (n : ℕ)
    (run : IsMapRun c.layout h) (small : k < 2 ^ 64) (a : HasFoundLeaf c h k f) (found : f.value ≡ Some old) (alone : f.more ≡ 0)
    (i : IsJoinAt f d above n) (above_is : IsSnapOf c.layout h d 1 above) (same : (child_of above f.trail.side).0 ≡ f.trail.node.0)
    (sibling_is : IsSnapOf c.layout h d (sibling_place f.trail.side) sibling) (w : HasFreshCopy c.layout c.pass h sibling n) (fits : FitsThere c.layout h f.trail.grand.0 f.trail.grand_side n) where
  low : class (value h) f.trail.node.0 ≡ 0
  low = said_low (value h) k f.trail.node.0 old (sym found ∙ a.says)

  below : f.trail.node.0 ≢ 0
  below = found_below (ToKey k) c h f run a

  parent : HasTurned c h k f.trail.parent.0 f.trail.side f.trail.node.0
  parent = a.trail.parent below

  -- a leaf of a key is not a child of the root
  grand : HasTurned c h k f.trail.grand.0 f.trail.grand_side f.trail.parent.0
  grand = a.trail.grand below (λ z. a.trail.high below z a.leaf low)

  surely : IsSurelyOn c h k f.trail.grand.0
  surely = grand_surely c h k f small run a (λ none. let x : None ≡ Some old = sym none ∙ found in cc) (λ z. a.trail.high below z a.leaf low)

  turn : toward (value h) (d.member 0) k ≡ f.trail.grand_side
  turn = subst (λ m. toward (value h) m k ≡ f.trail.grand_side) (sym i.grand) grand.side_is

  leaf_at : d.member (leaf_place f.trail.side) ≡ f.trail.node.0
  leaf_at = go f.trail.side same
    where
      go : (side : Side) → (child_of above side).0 ≡ f.trail.node.0 → d.member (leaf_place side) ≡ f.trail.node.0
      go Left e = i.left ∙ e
      go Right e = i.right ∙ e

  named : (j : ℕ) → j < 4 → IsNamed c.layout h (d.member j)
  named = go f.trail.side
      (subst (IsNamed c.layout h) (sym leaf_at) (passed_named c h k f.trail.node.0 run a.trail.node))
      (subst (IsNamed c.layout h) sibling_is.node (in_field_named sibling.node.0 sibling_is.linked.in_field))
    where
      top : IsNamed c.layout h (d.member 0)
      top = subst (IsNamed c.layout h) (sym i.grand) (passed_named c h k f.trail.grand.0 run grand.passed)

      next : IsNamed c.layout h (d.member 1)
      next = subst (IsNamed c.layout h) (sym i.parent) (passed_named c h k f.trail.parent.0 run parent.passed)

      go : (side : Side) → IsNamed c.layout h (d.member (leaf_place side)) → IsNamed c.layout h (d.member (sibling_place side)) → (j : ℕ) → j < 4 → IsNamed c.layout h (d.member j)
      go side x y zero few = top
      go side x y (suc zero) few = next
      go Left x y (suc (suc zero)) few = x
      go Right x y (suc (suc zero)) few = y
      go Left x y (suc (suc (suc zero))) few = y
      go Right x y (suc (suc (suc zero))) few = x
      go side x y (suc (suc (suc (suc j)))) few = absurd (omega (arith, few))

  is_join : IsJoinBy (value h) (Delete k) f.trail.parent.0 f.trail.node.0 sibling.node.0 n
  is_join = record {
    fork = parent.fork;
    leaf = a.leaf;
    low = low;
    emptied = only_taken k old (pair_in (value h) f.trail.node.0 First) (held_pairs (value h) f.trail.node.0)
        (held_alone (value h) f.trail.node.0 (a.more (sym (ap (λ w. w.class) a.head) ∙ low) ∙ alone))
        (sym (ap (get k) (low_pairs (value h) f.trail.node.0 low)) ∙ sym a.says ∙ found);
    copy = w.copy;
  }

  will_take_out : WillTakeOut c.layout c.pass h d (Delete k) f.trail.side
  will_take_out = record {
    stays = subst (Stays c.layout (value h) k) (sym i.grand) surely.stays;
    fits = λ trie. subst (λ z. FitsTrie (value h) (d.member 0) z d.new) (sym turn) (subst (λ z. FitsTrie (value h) z f.trail.grand_side d.new) (sym i.grand) (subst (FitsTrie (value h) f.trail.grand.0 f.trail.grand_side) (sym i.new) (fits trie)));
    small = small;
    path = subst (WasOnPath h k) (sym i.grand) (on_path c h k f.trail.grand.0 surely);
    fork = subst (λ m. is_leaf (value h) m ≡ false) (sym i.grand) grand.fork;
    plan = i.plan ∙ ap join_plan (sym turn);
    old = i.old ∙ sym i.parent;
    side_is = subst (λ m. toward (value h) m k ≡ f.trail.side) (sym i.parent) parent.side_is;
    named = named;
    fresh = subst (IsFresh c.layout c.pass h) (sym i.new) w.fresh;
    edit = subst (λ q. IsJoinBy (value h) (Delete k) q (d.member (leaf_place f.trail.side)) (d.member (sibling_place f.trail.side)) d.new) (sym i.parent)
        (subst (λ l. IsJoinBy (value h) (Delete k) f.trail.parent.0 l (d.member (sibling_place f.trail.side)) d.new) (sym leaf_at)
        (subst (λ z. IsJoinBy (value h) (Delete k) f.trail.parent.0 f.trail.node.0 z d.new) sibling_is.node
        (subst (IsJoinBy (value h) (Delete k) f.trail.parent.0 f.trail.node.0 sibling.node.0) (sym i.new) is_join)));
    parent = above;
    parent_is = above_is;
    left = sym i.left;
    right = sym i.right;
    sibling = sibling;
    sibling_is = sibling_is;
    copied = λ fork side. subst (λ m. value h (child m side) ≡ (child_of sibling side).0) (sym i.new) (w.fields (subst (λ m. is_leaf (value h) m ≡ false) (sym sibling_is.node) fork) side);
  }

-- An SCX-record that puts a fresh copy of the sibling of the key's leaf, which has no other pair,
-- into the place of their parent deletes the key.
pub join_promised : (c : Call) (h : History) (s k old : ℕ) (f : Found) (d : Descriptor) (above sibling : Snap) (n : ℕ) → IsMapRun c.layout h → k < 2 ^ 64 → HasFoundLeaf c h k f → f.value ≡ Some old → f.more ≡ 0 → IsJoinAt f d above n → IsSnapOf c.layout h d 1 above → (child_of above f.trail.side).0 ≡ f.trail.node.0 → IsSnapOf c.layout h d (sibling_place f.trail.side) sibling → HasFreshCopy c.layout c.pass h sibling n → FitsThere c.layout h f.trail.grand.0 f.trail.grand_side n → IsPromised c.layout c.pass h s d (Delete k)
join_promised c h s k old f d above sibling n run small a found alone i above_is same sibling_is w fits = taken_out_promised c.layout c.pass s h d (Delete k) f.trail.side c.is_pass (will_take_out c h k old f d above sibling n run small a found alone i above_is same sibling_is w fits)
