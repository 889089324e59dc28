-- An edit of one leaf: what it looks at, what it reads, and its SCX-record.
use Rattle.std.proofs.Common.{◌≡◌, ◌≢◌, ℕ, ◌+◌, ◌^◌, ◌<◌, ◌⊎◌, inl, inr, true, false, ◌==◌, eqb-true, eq-eqb, ne_eqb, List, [], ◌∷◌, length, take, refl, sym, ◌∙◌, ap, subst, arith, IsTrue, None}
use native.Mathlib.Decide.{ℕ_discrete}
use Rattle.arena.specs.declared.limits.Mode.TheVariants.{Trie as TrieMode}
use Rattle.histories.specs.Common.{Mode, Tree as TreeMode, NodeNo, ScxNo, Side, Left, Right, History, value, Extends, Call, IsPlan, count, count_of, field_index_of, side_of, Descriptor}
use Rattle.arena.proofs.Lemmas.{ends_self, ends_trans}
use Rattle.prims.specs.Laws.Idle.{IsQuietSince}
use Rattle.template.specs.Common.{IsUpdateOver, Job, Says, child_of, snap_at, AreDistinct, Snap, Update, held_pairs, IsWellCounted, AllBelow}
use Rattle.template.specs.Common.{IsRising, MapEdit, WasInTree, IsMapRun, leaf_plan, edit_leaf, class, is_leaf, HasTurned, HasFoundLeaf, HasFoundFork, Key as ToKey, IsContended, WasNotFinal}
use Rattle.ordered_map.specs.EditPlans.{above_plan}
use Rattle.ordered_map.proofs.Lemmas.{held_count}
use Rattle.ordered_map.proofs.MapLemmas.{run_since, two_not_final, two_stood, walked_stood}
use Rattle.template.specs.FreshNodes.{IsLeafEditAt, IsAboveAt}
use Rattle.template.specs.Trails.{OnTrail, IsSurelyOn}
use Rattle.template.specs.declared.walk.Found.{Found}
use Rattle.template.specs.declared.walk.Way.{Way}
use Rattle.template.proofs.Lemmas.{child_on, found_below, found_holds, found_stood, found_trail, found_under, leaf_edit_words, own_since, surely_on}
use Rattle.tree.specs.LeafEdit.{leaf_looks, leaf_reads}
use Rattle.tree.specs.Laws.Looks.{same_node, goes_on, not_enough, is_other}
use Rattle.edits.specs.declared.edit.Look.TheVariants.{At, Differs, Enough}
use Rattle.edits.specs.declared.edit.Nodes.{Nodes}
use Rattle.edits.specs.declared.edit.Work.{Work}
use Rattle.edits.specs.declared.reading.Reading.{Reading}
use Rattle.edits.specs.Known.{HasLookedBy, HasSnappedAfterWalk, MayRead}
use Rattle.edits.specs.Laws.Contended.{passed_not_final, turned_contended}
use Rattle.edits.specs.Laws.Opened.{found_named, found_opened}
use Rattle.edits.specs.Pieces.{top_of, update_for}
use Rattle.edits.specs.Readings.{next_read}
use Rattle.edits.specs.Tries.{CoversSnaps}
use Rattle.edits.proofs.Lemmas.{begun_read, leaf_read}

-- in a tree nothing has to fit as in a trie
pub no_trie : {A : Type 0} {mode : Mode} → mode ≡ TreeMode → mode ≡ TrieMode → A
no_trie tree trie = absurd (let x : TreeMode ≡ TrieMode = sym tree ∙ trie in cc)

-- What it looks at

-- What is known of what was found at a key, and of this leaf, which is covered besides the fork
-- above that: that fork is surely on the path of the key, and the leaf was in the tree, and not
-- final.
pub record IsCovering (k : ℕ) (c : Call) (h : History) (f : Found) (next : NodeNo) : Type 0 where
  pub trail : OnTrail c h k f.trail
  pub below : f.trail.node.0 ≢ 0
  pub parent : IsSurelyOn c h k f.trail.parent.0
  pub there : WasInTree h next.0
  pub not_final : WasNotFinal c h next.0
  pub leaf : is_leaf (value h) next.0 ≡ true

-- so it is with the leaf that was found
pub covering_leaf : (k : ℕ) (c : Call) (h : History) (f : Found) → IsMapRun c.layout h → HasFoundLeaf c h k f → IsSurelyOn c h k f.trail.parent.0 → IsCovering k c h f f.trail.node
covering_leaf k c h f run a parent = record {
  trail = a.trail;
  below = found_below (ToKey k) c h f run a;
  parent = parent;
  there = found_stood (ToKey k) c h f run a;
  not_final = passed_not_final c h k f.trail.node.0 run (child_on c h k f.trail.parent.0 f.trail.side f.trail.node.0 run (a.trail.parent (found_below (ToKey k) c h f run a)) parent.stays);
  leaf = a.leaf;
}

-- and with node 2, where a fork was found
pub covering_two : (k : ℕ) (c : Call) (h : History) (f : Found) → IsMapRun c.layout h → HasFoundFork (ToKey k) c h f → IsCovering k c h f (record { 0 = 2 })
covering_two k c h f run a = record {
  trail = a.trail;
  below = a.below;
  parent = parent;
  there = two.0;
  not_final = record { moment = h; within = ends_self h; since = since; was = two_not_final c.layout h run };
  leaf = two.1;
}
  where
    parent : IsSurelyOn c h k f.trail.parent.0
    parent = let t = a.trail.parent a.below in surely_on c h k f.trail.parent.0 t.passed t.fork a.stays

    two : WasInTree h 2 × (is_leaf (value h) 2 ≡ true) × (class (value h) 2 ≡ 2)
    two = two_stood c.layout h run

    since : Extends h c.start
    since = let x = parent.on in ends_trans h x.passed.0 c.start x.passed.1 (ends_trans x.passed.0 x.first c.start x.passed.2 (own_since c x.first x.own))

-- it looks at the parent or at that leaf
looks_at : (f : Found) (next : NodeNo) (snaps : List Snap) (n : NodeNo) → leaf_looks f next snaps ≡ At n → (f.trail.parent ≡ n) ⊎ (next ≡ n)
looks_at f next [] n e = inl (same_node f.trail.parent n e)
looks_at f next (p ∷ []) n e = inr (goes_on ((child_of p f.trail.side).0 == f.trail.node.0) next p n e).1
looks_at f next (p ∷ l ∷ snaps) n e = absurd (let d : Enough ≡ At n = e in cc)

module _ (k : ℕ) (c : Call) (h : History) (f : Found) (next : NodeNo) (snaps : List Snap) (run : IsMapRun c.layout h) (x : IsCovering k c h f next) where
  pub leaf_there : (n : NodeNo) → leaf_looks f next snaps ≡ At n → WasInTree h n.0
  leaf_there n e = go (looks_at f next snaps n e)
    where
      parent : WasInTree h f.trail.parent.0
      parent = let t = (x.trail.parent x.below).passed in walked_stood c.layout h t.first k f.trail.parent.0 t.passed

      go : (f.trail.parent ≡ n) ⊎ (next ≡ n) → WasInTree h n.0
      go (inl q) = subst (λ (m : NodeNo). WasInTree h m.0) q parent
      go (inr q) = subst (λ (m : NodeNo). WasInTree h m.0) q x.there

  -- neither was final
  pub leaf_stood : (n : NodeNo) → leaf_looks f next snaps ≡ At n → WasNotFinal c h n.0
  leaf_stood n e = go (looks_at f next snaps n e)
    where
      go : (f.trail.parent ≡ n) ⊎ (next ≡ n) → WasNotFinal c h n.0
      go (inl q) = subst (λ (m : NodeNo). WasNotFinal c h m.0) q (passed_not_final c h k f.trail.parent.0 run x.parent.on)
      go (inr q) = subst (λ (m : NodeNo). WasNotFinal c h m.0) q x.not_final

-- the walk has found the node there, and the snapshot came later
pub leaf_differs : (k : ℕ) (c : Call) (h : History) (way : Way) (f : Found) (next : NodeNo) (snaps : List Snap) (n : NodeNo) (s : ScxNo) → IsMapRun c.layout h → HasLookedBy (λ g. leaf_looks g next) c h way (ToKey k) f snaps → leaf_looks f next snaps ≡ Differs n s → IsQuietSince c.layout c.pass c.start h → IsContended c h n.0 s.0
leaf_differs k c h way f next [] n s run x e quiet = absurd (let d : At f.trail.parent ≡ Differs n s = e in cc)
leaf_differs k c h way f next (p ∷ l ∷ snaps) n s run x e quiet = absurd (let d : Enough ≡ Differs n s = e in cc)
leaf_differs k c h way f next (p ∷ []) n s run x e quiet = rw (sym other.1, sym other.2) (turned_contended c h k f p f.trail.side f.trail.node.0 run quiet snapped turned apart)
  where
    other : (((child_of p f.trail.side).0 == f.trail.node.0) ≡ false) × (p.node ≡ n) × (p.scx ≡ s)
    other = is_other ((child_of p f.trail.side).0 == f.trail.node.0) next p n s e

    parent : f.trail.parent ≡ p.node
    parent = same_node f.trail.parent p.node (x.seen 0 (omega arith))

    snapped : HasSnappedAfterWalk c h way (ToKey k) f p
    snapped = x.usable 0 (omega arith)

    turned : HasTurned c snapped.moment k p.node.0 f.trail.side f.trail.node.0
    turned = subst (λ (m : NodeNo). HasTurned c snapped.moment k m.0 f.trail.side f.trail.node.0) parent
        ((found_trail way (ToKey k) c snapped.moment f snapped.found).parent (found_under way (ToKey k) c snapped.moment f (run_since c.layout h snapped.moment run snapped.within) snapped.found))

    apart : (child_of p f.trail.side).0 ≢ f.trail.node.0
    apart q = let d : false ≡ true = sym other.0 ∙ eq-eqb (child_of p f.trail.side).0 f.trail.node.0 q in cc

-- once it has looked at enough, it has a snapshot of the parent and one of the leaf, and what was
-- found is still the parent's child
pub record HasBoth (f : Found) (next : NodeNo) (snaps : List Snap) : Type 0 where
  pub two : length snaps ≡ 2
  pub parent : (snap_at snaps 0).node.0 ≡ f.trail.parent.0
  pub leaf : (snap_at snaps 1).node.0 ≡ next.0
  pub child : (child_of (snap_at snaps 0) f.trail.side).0 ≡ f.trail.node.0

pub has_both : (f : Found) (next : NodeNo) (snaps : List Snap) → leaf_looks f next snaps ≡ Enough → ((i : ℕ) → i < length snaps → leaf_looks f next (take i snaps) ≡ At (snap_at snaps i).node) → HasBoth f next snaps
has_both f next [] e x = absurd (let d : At f.trail.parent ≡ Enough = e in cc)
has_both f next (p ∷ []) e x = absurd (not_enough ((child_of p f.trail.side).0 == f.trail.node.0) next p e)
has_both f next (p ∷ l ∷ []) e x =
    let parent : f.trail.parent ≡ p.node = same_node f.trail.parent p.node (x 0 (omega arith)) in
    let leaf : IsTrue ((child_of p f.trail.side).0 == f.trail.node.0) × (next ≡ l.node) = goes_on ((child_of p f.trail.side).0 == f.trail.node.0) next p l.node (x 1 (omega arith)) in
    record {
      two = refl;
      parent = ap (λ (n : NodeNo). n.0) (sym parent);
      leaf = ap (λ (n : NodeNo). n.0) (sym leaf.1);
      child = eqb-true (child_of p f.trail.side).0 f.trail.node.0 leaf.0;
    }
has_both f next (p ∷ l ∷ s ∷ snaps) e x = absurd (let d : Enough ≡ At s.node = x 2 (omega arith) in cc)

-- the SCX-record of both covers that leaf at its second place
pub leaf_covered : (e : MapEdit) (f : Found) (next : NodeNo) (snaps : List Snap) (ns : Nodes) (w : Work) (k : History) (s : ℕ) → HasBoth f next snaps → CoversSnaps k s (update_for w snaps ns) → edit_leaf k s e ≡ next.0
leaf_covered e f next snaps ns w k s both covers =
    let two : count k s ≡ 2 = covers.count ∙ both.two in
    rw (ne_eqb (count k s) 4 (λ four. omega (arith, two, four))) (covers.members 1 (let few = both.two in omega (arith, few)) ∙ both.leaf)

-- the parent is a fork, and so is not the leaf
pub leaf_distinct : (k : ℕ) (c : Call) (h : History) (f : Found) (next : NodeNo) (snaps : List Snap) → IsCovering k c h f next → HasBoth f next snaps → AreDistinct snaps
leaf_distinct k c h f next snaps x both i j p q d e = go (two_places i j (rw both.two at p) (rw both.two at q) d)
  where
    apart : f.trail.parent.0 ≢ next.0
    apart z =
        let fork : is_leaf (value h) f.trail.parent.0 ≡ false = (x.trail.parent x.below).fork in
        let leaf : is_leaf (value h) f.trail.parent.0 ≡ true = subst (λ n. is_leaf (value h) n ≡ true) (sym z) x.leaf in
        let w : true ≡ false = sym leaf ∙ fork in
        cc

    two_places : (i j : ℕ) → i < 2 → j < 2 → i ≢ j → ((i ≡ 0) × (j ≡ 1)) ⊎ ((i ≡ 1) × (j ≡ 0))
    two_places i j a b n = split (ℕ_discrete i 0)
      where
        split : Dec (i ≡ 0) → ((i ≡ 0) × (j ≡ 1)) ⊎ ((i ≡ 1) × (j ≡ 0))
        split (yes z) = inl (z, omega (arith, z, b, n))
        split (no z) = inr (omega (arith, z, a), omega (arith, z, a, b, n))

    go : ((i ≡ 0) × (j ≡ 1)) ⊎ ((i ≡ 1) × (j ≡ 0)) → ⊥
    go (inl z) = apart (sym both.parent ∙ (rw (z.0, z.1) at e) ∙ both.leaf)
    go (inr z) = apart (sym both.parent ∙ sym (rw (z.0, z.1) at e) ∙ both.leaf)

-- the plan of both is one, of two nodes, which changes a field of the first
planned : (side : Side) → IsPlan (leaf_plan side)
planned Left = record { some = omega arith; removed = omega arith; field = omega arith }
planned Right = record { some = omega arith; removed = omega arith; field = omega arith }

two_planned : (side : Side) → count_of (leaf_plan side) ≡ 2
two_planned Left = refl
two_planned Right = refl

-- the field that a plan changes, as the snapshots show it
abbrev pub field_shown : ℕ → List Snap → ℕ
field_shown p snaps = (child_of (snap_at snaps (field_index_of p)) (side_of p)).0

shown_first : (side : Side) (snaps : List Snap) → field_shown (leaf_plan side) snaps ≡ (child_of (snap_at snaps 0) side).0
shown_first Left snaps = refl
shown_first Right snaps = refl

-- what has that plan covers both
leaf_covers : (k : ℕ) (c : Call) (h : History) (f : Found) (next : NodeNo) (snaps : List Snap) (ns : Nodes) (w : Work) → IsCovering k c h f next → HasBoth f next snaps → IsPlan w.plan.0 → count_of w.plan.0 ≡ 2 → IsUpdateOver (update_for w snaps ns)
leaf_covers k c h f next snaps ns w x both plan two = record {
  planned = plan;
  count = two ∙ sym both.two;
  distinct = leaf_distinct k c h f next snaps x both;
  old = refl;
}

pub leaf_over : (k : ℕ) (c : Call) (h : History) (f : Found) (next : NodeNo) (snaps : List Snap) (ns : Nodes) (w : Work) → IsCovering k c h f next → HasBoth f next snaps → w.plan.0 ≡ leaf_plan f.trail.side → IsUpdateOver (update_for w snaps ns)
leaf_over k c h f next snaps ns w x both is = leaf_covers k c h f next snaps ns w x both (subst IsPlan (sym is) (planned f.trail.side)) (ap count_of is ∙ two_planned f.trail.side)

-- so does the plan that puts a fork above a fork
planned_above : (side : Side) → IsPlan (above_plan side) × (count_of (above_plan side) ≡ 2)
planned_above Left = (record { some = omega arith; removed = omega arith; field = omega arith }, refl)
planned_above Right = (record { some = omega arith; removed = omega arith; field = omega arith }, refl)

pub above_over : (k : ℕ) (c : Call) (h : History) (f : Found) (next : NodeNo) (snaps : List Snap) (ns : Nodes) (w : Work) → IsCovering k c h f next → HasBoth f next snaps → w.plan.0 ≡ above_plan f.trail.side → IsUpdateOver (update_for w snaps ns)
above_over k c h f next snaps ns w x both is = leaf_covers k c h f next snaps ns w x both (subst IsPlan (sym is) (planned_above f.trail.side).0) (ap count_of is ∙ (planned_above f.trail.side).1)

-- its SCX-record puts the last fresh node into the place of the leaf
pub is_leaf_edit : (f : Found) (snaps : List Snap) (ns : Nodes) (w : Work) (j : Job) (d : Descriptor) (n : ℕ) → HasBoth f f.trail.node snaps → w.plan.0 ≡ leaf_plan f.trail.side → j.update ≡ update_for w snaps ns → top_of w.need ns ≡ n → Says d j → IsLeafEditAt f d n
is_leaf_edit f snaps ns w j d n both plan is top says = leaf_edit_words j d f n says
    (ap (λ (u : Update). u.plan.0) is ∙ plan)
    (ap (λ (u : Update). length u.snaps) is ∙ both.two)
    (ap (λ (u : Update). (snap_at u.snaps 0).node.0) is ∙ both.parent)
    (ap (λ (u : Update). (snap_at u.snaps 1).node.0) is ∙ both.leaf)
    (ap (λ (u : Update). u.old.0) is ∙ ap (λ p. field_shown p snaps) plan ∙ shown_first f.trail.side snaps ∙ both.child)
    (ap (λ (u : Update). u.fresh.0) is ∙ top)

above_first : (side : Side) (snaps : List Snap) → field_shown (above_plan side) snaps ≡ (child_of (snap_at snaps 0) side).0
above_first Left snaps = refl
above_first Right snaps = refl

-- or above the fork
pub is_above_edit : (f : Found) (snaps : List Snap) (ns : Nodes) (w : Work) (j : Job) (d : Descriptor) (n : ℕ) → HasBoth f (record { 0 = 2 }) snaps → w.plan.0 ≡ above_plan f.trail.side → j.update ≡ update_for w snaps ns → top_of w.need ns ≡ n → Says d j → IsAboveAt f d n
is_above_edit f snaps ns w j d n both plan is top says = record {
  plan = says.plan ∙ ap (λ (u : Update). u.plan.0) is ∙ plan;
  parent = says.member 0 (few 0 (omega arith)) ∙ ap (λ (u : Update). (snap_at u.snaps 0).node.0) is ∙ both.parent;
  guard = says.member 1 (few 1 (omega arith)) ∙ ap (λ (u : Update). (snap_at u.snaps 1).node.0) is ∙ both.leaf;
  old = says.old ∙ ap (λ (u : Update). u.old.0) is ∙ ap (λ p. field_shown p snaps) plan ∙ above_first f.trail.side snaps ∙ both.child;
  new = says.new ∙ ap (λ (u : Update). u.fresh.0) is ∙ top;
}
  where
    few : (i : ℕ) → i < 2 → i < length j.update.snaps
    few i l = let e = ap (λ (u : Update). length u.snaps) is ∙ both.two in omega (arith, e, l)

-- What it reads

module _ (k : ℕ) (c : Call) (h : History) (f : Found) (run : IsMapRun c.layout h) (a : HasFoundLeaf c h k f) (low : f.head.class ≡ 0) where
  pub class_is : class (value h) f.trail.node.0 ≡ 0
  class_is = ap (λ w. w.class) a.head ∙ low

  -- of the leaf head and count are right
  pub leaf_begins : MayRead c.layout h f.trail.node.0 (leaf_reads f).1
  leaf_begins = record {
    named = found_named (ToKey k) c h run f a;
    inside = (found_below (ToKey k) c h f run a, (found_opened (ToKey k) c h run f a).inside);
    is = begun_read (value h) f.trail.node.0 f.head f.more a.head (a.more low);
  }

  -- at the end its pairs are read
  pub pairs_are : (read : Reading) → MayRead c.layout h f.trail.node.0 read → next_read read ≡ None → read.pairs ≡ held_pairs (value h) f.trail.node.0
  pairs_are read r whole = leaf_read (value h) f.trail.node.0 read r.is whole class_is a.leaf

  -- which are as many as a leaf may hold
  pub held_is : IsWellCounted (value h) f.trail.node.0 × AllBelow (2 ^ 64) (held_pairs (value h) f.trail.node.0) × IsRising (held_pairs (value h) f.trail.node.0)
  held_is = found_holds (ToKey k) c h f run a low

  pub many : length (held_pairs (value h) f.trail.node.0) ≡ 1 + f.more
  many = held_count (value h) f.trail.node.0 held_is.0 ∙ ap (λ n. 1 + n) (a.more low)
