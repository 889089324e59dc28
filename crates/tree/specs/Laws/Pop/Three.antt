-- What a pop of a trie covers: node 2 behind what it has looked at, each of which is another node.
-- Where it takes a leaf out, that is the fork above the parent, the parent and the leaf's sibling.
use Rattle.std.proofs.Common.{◌≡◌, ◌≢◌, ℕ, zero, suc, ◌<◌, ◌⊎◌, inl, inr, ⊎_elim, true, false, List, [], ◌∷◌, ◌++◌, length, refl, sym, ◌∙◌, ap, subst, arith}
use Rattle.histories.specs.Common.{Row, History, ◌⊳◌, value, Extends, Call, Side, Left, Right, IsWin, IsPlan, count, count_of, member, seen, child}
use Rattle.arena.proofs.Lemmas.{ends_trans}
use Rattle.prims.specs.Laws.Kept.{won_shows}
use Rattle.prims.specs.Laws.Linked.{IsLinked, in_field_named, linked_since}
use Rattle.template.specs.Common.{IsOpened, child_of, snap_at, AreDistinct, Snap, WasInTree, IsMapRun, class, is_leaf, level, opposite, Key as ToKey}
use Rattle.ordered_map.specs.EditPlans.{end_join_plan, end_leaf_plan}
use Rattle.ordered_map.proofs.MapLemmas.{root_head, two_level, two_stood}
use Rattle.template.specs.declared.walk.Found.{Found}
use Rattle.template.specs.declared.walk.Way.TheVariants.{InTree}
use Rattle.template.proofs.Lemmas.{opened_if_stood}
use Rattle.tree.specs.declared.take.TakePair.{TakePair}
use Rattle.tree.specs.Take.Means.{take_work}
use Rattle.tree.specs.Pop.Means.{end_looks}
use Rattle.tree.specs.Laws.LeafLooks.{HasBoth, IsCovering, field_shown, leaf_distinct}
use Rattle.tree.specs.Laws.Pop.Looks.{HasThree}
use Rattle.tree.specs.Laws.Take.Shown.{shown_rises}
use Rattle.tree.specs.Laws.Take.Sound.{LooksToTake, below_parent, grand_snap, grand_turned, parent_snap, parent_turned}
use Rattle.edits.specs.declared.edit.Nodes.{Nodes}
use Rattle.edits.specs.declared.edit.Work.{Work}
use Rattle.edits.specs.Known.{HasSnappedAfterWalk, MayRead}
use Rattle.edits.specs.Laws.SnapLists.{at_end, last_is, one_longer, others_there}
use Rattle.edits.specs.Pieces.{update_for}
use Rattle.edits.specs.Readings.{nothing_read}
use Rattle.edits.specs.Tries.{CoversSnaps}
use Rattle.edits.proofs.Lemmas.{unread}

node_of : (a b : Snap) → a ≡ b → a.node.0 ≡ b.node.0
node_of a b e = ap (λ (t : Snap). t.node.0) e

-- One more snapshot behind some

module _ (snaps : List Snap) (guard : Snap) where
  abbrev pub with_guard : List Snap
  with_guard = snaps ++ guard ∷ []

  -- all are of different nodes, if none of the others is of the last one's
  pub one_apart : AreDistinct snaps → ((i : ℕ) → i < length snaps → (snap_at snaps i).node.0 ≢ guard.node.0) → AreDistinct with_guard
  one_apart old other i j p q d e = go (at_end snaps guard i p) (at_end snaps guard j q)
    where
      go : ((i < length snaps) × (snap_at with_guard i ≡ snap_at snaps i)) ⊎ ((i ≡ length snaps) × (snap_at with_guard i ≡ guard)) → ((j < length snaps) × (snap_at with_guard j ≡ snap_at snaps j)) ⊎ ((j ≡ length snaps) × (snap_at with_guard j ≡ guard)) → ⊥
      go (inl a) (inl b) = old i j a.0 b.0 d (sym (node_of (snap_at with_guard i) (snap_at snaps i) a.1) ∙ e ∙ node_of (snap_at with_guard j) (snap_at snaps j) b.1)
      go (inl a) (inr b) = other i a.0 (sym (node_of (snap_at with_guard i) (snap_at snaps i) a.1) ∙ e ∙ node_of (snap_at with_guard j) guard b.1)
      go (inr a) (inl b) = other j b.0 (sym (node_of (snap_at with_guard j) (snap_at snaps j) b.1) ∙ sym e ∙ node_of (snap_at with_guard i) guard a.1)
      go (inr a) (inr b) = d (a.0 ∙ sym b.0)

  module _ (many : ℕ) (long : length snaps ≡ many) where
    pub guard_long : length with_guard ≡ suc many
    guard_long = one_longer snaps guard ∙ ap suc long

    pub still_there : (i : ℕ) → i < many → snap_at with_guard i ≡ snap_at snaps i
    still_there i p = others_there snaps guard i (subst (λ n. i < n) (sym long) p)

    pub guard_there : snap_at with_guard many ≡ guard
    guard_there = subst (λ n. snap_at with_guard n ≡ guard) long (last_is snaps guard)

    -- an SCX-record over them
    module _ (w : Work) (ns : Nodes) (k : History) (s : ℕ) (covers : CoversSnaps k s (update_for w with_guard ns)) where
      few : (i : ℕ) → i < many → i < length with_guard
      few i p = let l = guard_long in omega (arith, l, p)

      pub covers_many : count k s ≡ suc many
      covers_many = covers.count ∙ guard_long

      pub covers_member : (i : ℕ) → i < many → member k s i ≡ (snap_at snaps i).node.0
      covers_member i p = covers.members i (few i p) ∙ ap (λ (t : Snap). t.node.0) (still_there i p)

      covers_seen : (i : ℕ) → i < many → seen k s i ≡ (snap_at snaps i).scx.0
      covers_seen i p = covers.saw i (few i p) ∙ ap (λ (t : Snap). t.scx.0) (still_there i p)

      -- just before it wins the fields of its nodes are as the snapshots show them
      pub covers_shown : (c : Call) (h : History) (row : Row) (key i : ℕ) (f : Found) (side : Side) → IsMapRun c.layout (row ⊳ k) → IsWin k row s → Extends k h → i < many → HasSnappedAfterWalk c h InTree (ToKey key) f (snap_at snaps i) → value k (child (snap_at snaps i).node.0 side) ≡ (child_of (snap_at snaps i) side).0
      covers_shown c h row key i f side later win since p u =
          won_shows c.layout k row s i u.moment (snap_at snaps i) side later.1.lawful win (let l = covers_many in omega (arith, l, p)) (covers_member i p) (covers_seen i p) (ends_trans k h u.moment since u.within) u.is.linked u.is.info

-- Plans that cover node 2 last

pub end_leaf_planned : (side : Side) → IsPlan (end_leaf_plan side) × (count_of (end_leaf_plan side) ≡ 3)
end_leaf_planned Left = (record { some = omega arith; removed = omega arith; field = omega arith }, refl)
end_leaf_planned Right = (record { some = omega arith; removed = omega arith; field = omega arith }, refl)

pub end_join_planned : (side : Side) → IsPlan (end_join_plan side) × (count_of (end_join_plan side) ≡ 4)
end_join_planned Left = (record { some = omega arith; removed = omega arith; field = omega arith }, refl)
end_join_planned Right = (record { some = omega arith; removed = omega arith; field = omega arith }, refl)

-- they change a field of the first node
pub end_leaf_first : (side : Side) (snaps : List Snap) → field_shown (end_leaf_plan side) snaps ≡ (child_of (snap_at snaps 0) side).0
end_leaf_first Left snaps = refl
end_leaf_first Right snaps = refl

pub end_join_first : (side : Side) (snaps : List Snap) → field_shown (end_join_plan side) snaps ≡ (child_of (snap_at snaps 0) side).0
end_join_first Left snaps = refl
end_join_first Right snaps = refl

-- a fork is not node 2
pub fork_apart : (c : Call) (h : History) (n : ℕ) → IsMapRun c.layout h → is_leaf (value h) n ≡ false → n ≢ 2
fork_apart c h n run fork e =
    let two = two_stood c.layout h run in
    let y : true ≡ false = sym two.1 ∙ ap (is_leaf (value h)) (sym e) ∙ fork in
    cc

-- the parent and a leaf of class 0 are not node 2, which the guard is of
pub both_apart : (k : ℕ) (c : Call) (h : History) (f : Found) (snaps : List Snap) (guard : Snap) → IsMapRun c.layout h → IsCovering k c h f f.trail.node → class (value h) f.trail.node.0 ≡ 0 → HasBoth f f.trail.node snaps → guard.node.0 ≡ 2 → AreDistinct (snaps ++ guard ∷ [])
both_apart k c h f snaps guard run x low both is_two = one_apart snaps guard (leaf_distinct k c h f f.trail.node snaps x both) other
  where
    leaf : f.trail.node.0 ≢ 2
    leaf e =
        let two = (two_stood c.layout h run).2 in
        let same : class (value h) f.trail.node.0 ≡ class (value h) 2 = ap (class (value h)) e in
        omega (arith, two, same, low)

    at : (i : ℕ) → i < 2 → (snap_at snaps i).node.0 ≢ 2
    at zero p e = fork_apart c h f.trail.parent.0 run (x.trail.parent x.below).fork (sym both.parent ∙ e)
    at (suc zero) p e = leaf (sym both.leaf ∙ e)
    at (suc (suc i)) p e = absurd (omega (arith, p))

    other : (i : ℕ) → i < length snaps → (snap_at snaps i).node.0 ≢ guard.node.0
    other i p e = at i (subst (λ n. i < n) both.two p) (e ∙ is_two)

-- Where the leaf is taken out

module _ (ed : TakePair) (c : Call) (h : History) (f : Found) (snaps : List Snap) (run : IsMapRun c.layout h) (needed : 0 < (take_work f).need) (three : HasThree f snaps) (x : LooksToTake end_looks c h ed.key f snaps) where
  -- a snapshot that is there may be used
  pub used_at : (i : ℕ) → i < 3 → HasSnappedAfterWalk c h InTree (ToKey ed.key) f (snap_at snaps i)
  used_at i p = x.usable i (subst (λ n. i < n) (sym three.three) p)

  pub linked_at : (i : ℕ) → i < 3 → IsLinked c.layout h (snap_at snaps i)
  linked_at i p = let u = used_at i p in linked_since c.layout h u.moment (snap_at snaps i) run.1.lawful u.within u.is.linked

  abbrev pub at_place : ℕ → ℕ
  at_place i = (snap_at snaps i).node.0

  abbrev deep : ℕ → ℕ
  deep i = level (value h) (at_place i)

  pub grand_used : HasSnappedAfterWalk c h InTree (ToKey ed.key) f (snap_at snaps 0)
  grand_used = used_at 0 (omega arith)

  pub parent_used : HasSnappedAfterWalk c h InTree (ToKey ed.key) f (snap_at snaps 1)
  parent_used = used_at 1 (omega arith)

  -- the leaf's sibling was in the trie
  pub sibling_there : WasInTree h (at_place 2)
  sibling_there = subst (WasInTree h) (sym three.sibling) (below_parent ed c h f run needed (snap_at snaps 1) parent_used three.parent (opposite f.trail.side))

  -- the levels rise from the fork above to the parent, and from there to the sibling
  to_parent : deep 0 < deep 1
  to_parent = subst (λ n. deep 0 < level (value h) n) (three.held ∙ sym three.parent) (shown_rises c h ed.key f (snap_at snaps 0) f.trail.grand_side f.trail.parent.0 run grand_used (grand_snap ed c h f run needed (snap_at snaps 0) grand_used three.grand) f.trail.grand_side)

  to_sibling : deep 1 < deep 2
  to_sibling = subst (λ n. deep 1 < level (value h) n) (sym three.sibling) (shown_rises c h ed.key f (snap_at snaps 1) f.trail.side f.trail.node.0 run parent_used (parent_snap ed c h f run needed (snap_at snaps 1) parent_used three.parent) (opposite f.trail.side))

  -- so it is neither the root
  sibling_below : at_place 2 ≢ 0
  sibling_below z =
      let low : deep 1 < level (value h) 0 = subst (λ n. deep 1 < level (value h) n) z to_sibling in
      let root = root_head c.layout h run in
      omega (arith, low, root)

  -- nor node 2
  sibling_apart : at_place 2 ≢ 2
  sibling_apart z =
      let low : deep 1 < level (value h) 2 = subst (λ n. deep 1 < level (value h) n) z to_sibling in
      let two = two_level c.layout h run in
      omega (arith, low, two, to_parent)

  -- and may be read from its head on
  pub end_begins : MayRead c.layout h (at_place 2) nothing_read
  end_begins =
      let o : IsOpened c.layout h (at_place 2) = opened_if_stood c.layout h (at_place 2) run sibling_there in
      record { named = in_field_named (at_place 2) o.in_field; inside = (sibling_below, o.inside); is = unread (value h) (at_place 2) }

  deeper : (i j : ℕ) → deep i < deep j → at_place i ≢ at_place j
  deeper i j less e = let same : deep i ≡ deep j = ap (level (value h)) e in absurd (omega (arith, less, same))

  differ : (i j : ℕ) → i < j → j < 3 → at_place i ≢ at_place j
  differ i zero less few = absurd (omega (arith, less))
  differ zero (suc zero) less few = deeper 0 1 to_parent
  differ (suc i) (suc zero) less few = absurd (omega (arith, less))
  differ zero (suc (suc zero)) less few = deeper 0 2 (omega (arith, to_parent, to_sibling))
  differ (suc zero) (suc (suc zero)) less few = deeper 1 2 to_sibling
  differ (suc (suc i)) (suc (suc zero)) less few = absurd (omega (arith, less))
  differ i (suc (suc (suc j))) less few = absurd (omega (arith, few))

  either : (i j : ℕ) → i ≢ j → (i < j) ⊎ (j < i)
  either i j d = grind arith

  three_apart : AreDistinct snaps
  three_apart i j p q d e = ⊎_elim (λ less. differ i j less (subst (λ n. j < n) three.three q) e) (λ less. differ j i less (subst (λ n. i < n) three.three p) (sym e)) (either i j d)

  -- none of the three is node 2
  not_two : (i : ℕ) → i < 3 → at_place i ≢ 2
  not_two zero p e = fork_apart c h f.trail.grand.0 run (grand_turned ed c h f run needed h run x.found).fork (sym three.grand ∙ e)
  not_two (suc zero) p e = fork_apart c h f.trail.parent.0 run (parent_turned ed c h f run needed h run x.found).fork (sym three.parent ∙ e)
  not_two (suc (suc zero)) p e = sibling_apart e
  not_two (suc (suc (suc i))) p e = absurd (omega (arith, p))

  pub all_apart : (guard : Snap) → guard.node.0 ≡ 2 → AreDistinct (snaps ++ guard ∷ [])
  all_apart guard is_two = one_apart snaps guard three_apart (λ i p e. not_two i (subst (λ n. i < n) three.three p) (e ∙ is_two))
