-- What a delete looks at, reads and fills, and that it makes the edit.
use Rattle.std.proofs.Common.{◌≡◌, ◌≢◌, ℕ, zero, suc, ◌^◌, ◌<◌, ◌⊎◌, inl, inr, ⊎_elim, Bool, true, false, ◌==◌, eqb-true, eq-eqb, lt-ltb, cond, if◌then◌else◌, List, [], ◌∷◌, length, take, Option, Some, None, refl, sym, ◌∙◌, ap, subst, arith}
use Rattle.std.proofs.Common.{IsTrue, unwrap_or, ltb-true}
use Rattle.std.proofs.Math.Decide.{dec_lt}
use Rattle.arena.specs.declared.head.Head.{Head as HeadParts}
use Rattle.histories.specs.Common.{NodeNo, ScxNo, Child, Side, Left, Right, IsInField, head_of, History, ◌⊳◌}
use Rattle.histories.specs.Common.{value, Extends, Call, IsPlan, count, count_of, member, node, child, Descriptor}
use Rattle.arena.proofs.Lemmas.{ends_self}
use Rattle.prims.specs.Laws.Idle.{IsQuietSince}
use Rattle.prims.specs.Laws.Linked.{IsLinked, in_field_named, linked_since}
use Rattle.template.specs.Common.{IsOpened, IsUpdateOver, Job, Says, child_of, snap_at, AreDistinct, Snap, Update, Delete as TakeEdit}
use Rattle.template.specs.Common.{delete, WasInTree, IsMapRun, join_plan, leaf_plan, edit_leaf}
use Rattle.template.specs.Common.{sibling_place, class, is_leaf, level, opposite, toward, FoundBy, HasFoundLeaf, IsPromised, HasTurned, Key as ToKey, End, IsContended, WasNotFinal}
use Rattle.ordered_map.specs.TreeShape.{leaf_place}
use Rattle.ordered_map.specs.Edits.{IsSwapBy}
use Rattle.ordered_map.specs.Paths.{HasHadChild}
use Rattle.ordered_map.proofs.Lemmas.{leaf_taken_out, settled_toward}
use Rattle.ordered_map.proofs.MapLemmas.{root_head, run_since, stood_settled, walked_stood}
use Rattle.template.specs.FreshNodes.{IsJoinAt, FitsThere, HasFreshCopy}
use Rattle.template.specs.Promises.{IsSnapOf, HasFreshEdit}
use Rattle.template.specs.declared.walk.Found.{Found}
use Rattle.template.specs.declared.walk.Way.TheVariants.{InTree}
use Rattle.template.specs.Trails.{IsSurelyOn}
use Rattle.template.proofs.Lemmas.{edit_promised, found_below, grand_surely, join_fits_there, join_promised, opened_if_stood, parent_surely, said_low, swap_fits_there}
use Rattle.tree.specs.LeafEdit.{leaf_looks, leaf_reads}
use Rattle.tree.specs.declared.take.TakePair.{TakePair}
use Rattle.tree.specs.Take.Laws.{take_bounds}
use Rattle.tree.specs.Take.Means.{copied_pairs, copy_with, take_means, take_plan, take_way, take_work, work_by, take_reads, has_more, join_looks, sibling_of, sibling_copy}
use Rattle.tree.specs.Laws.Take.Shown.{shown_stood, shown_rises, shown_apart}
use Rattle.tree.specs.Laws.LeafLooks.{HasBoth, IsCovering, covering_leaf, has_both, is_leaf_edit, leaf_begins, field_shown, leaf_covered, leaf_differs, leaf_over, leaf_stood, leaf_there}
use Rattle.tree.specs.Laws.Put.Stands.{found_leaf}
use Rattle.tree.specs.Laws.Looks.{same_node, goes_on, not_enough, is_other}
use Rattle.tree.specs.Laws.Take.Made.{fresh_copy, fresh_swap}
use Rattle.edits.specs.declared.edit.Look.{Look as LookOf}
use Rattle.edits.specs.declared.edit.Look.TheVariants.{At, Differs, Enough}
use Rattle.edits.specs.declared.edit.Nodes.{Nodes}
use Rattle.edits.specs.declared.edit.Nth.TheVariants.{First}
use Rattle.edits.specs.declared.piece.Piece.TheVariants.{Leaf, Fork}
use Rattle.edits.specs.declared.reading.Reading.{Reading}
use Rattle.edits.specs.Known.{AreSeen, AreUsable, HasSnappedAfterWalk, HasLooked, HasFilledAll, HoldsPiece, MayRead, covered}
use Rattle.edits.specs.Laws.Contended.{passed_not_final, shown_not_final, turned_contended}
use Rattle.edits.specs.Laws.PieceFills.{the_same}
use Rattle.edits.specs.Pieces.{is_filled, top_of, update_for, word_of}
use Rattle.edits.specs.Readings.{nothing_read}
use Rattle.edits.specs.Tries.{CoversSnaps}
use Rattle.edits.specs.Sound.{LooksWell, FillsWell, MakesWell, EditLaws}
use Rattle.edits.proofs.Lemmas.{unread}

-- the snapshots are of the nodes that the looks name which are to take a leaf out
abbrev JoinSeen : Found → List Snap → Type 0
JoinSeen f snaps = (i : ℕ) → i < length snaps → join_looks f (take i snaps) ≡ At (snap_at snaps i).node

-- What it looks at

-- what is known of the leaf, by whatever way it was found, and of the snapshots
pub record LooksToTake (looks : Found → List Snap → LookOf) (c : Call) (h : History) (k : ℕ) (f : Found) (snaps : List Snap) : Type 0 where
  pub small : k < 2 ^ 64
  pub found : HasFoundLeaf c h k f
  pub usable : AreUsable c h InTree (ToKey k) f snaps
  pub seen : AreSeen looks f snaps

-- by both ways it finds a leaf
pub take_found : (trie : Bool) (k : ℕ) (c : Call) (h : History) (f : Found) → FoundBy (take_way trie) (ToKey k) c h f → HasFoundLeaf c h k f
take_found true k c h f a = a
take_found false k c h f a = a

pub take_usable : (trie : Bool) (k : ℕ) (c : Call) (h : History) (f : Found) (snaps : List Snap) → AreUsable c h (take_way trie) (ToKey k) f snaps → AreUsable c h InTree (ToKey k) f snaps
take_usable trie k c h f snaps x i p = let u = x i p in record { moment = u.moment; within = u.within; since = u.since; found = take_found trie k c u.moment f u.found; stood = u.stood; is = u.is; met = u.met }

-- where a delete has something to do, the key has a value
pub key_there : (o : Option ℕ) (plan : ℕ) → 0 < (work_by o plan).need → (old : ℕ) × (o ≡ Some old)
key_there None plan d = absurd (omega (arith, d))
key_there (Some v) plan d = (v, refl)

-- the snapshots are those of the fork above the parent, which still is its child, and of the
-- parent, whose child the leaf still is
seen_grand : (ed : TakePair) (f : Found) (g : Snap) (snaps : List Snap) → JoinSeen f (g ∷ snaps) → f.trail.grand ≡ g.node
seen_grand ed f g snaps x = same_node f.trail.grand g.node (x 0 (omega arith))

seen_parent : (ed : TakePair) (f : Found) (g p : Snap) (snaps : List Snap) → JoinSeen f (g ∷ p ∷ snaps) → IsTrue ((child_of g f.trail.grand_side).0 == f.trail.parent.0) × (f.trail.parent ≡ p.node)
seen_parent ed f g p snaps x = goes_on ((child_of g f.trail.grand_side).0 == f.trail.parent.0) f.trail.parent g p.node (x 1 (omega arith))

seen_left : (ed : TakePair) (f : Found) (g p l : Snap) (snaps : List Snap) → JoinSeen f (g ∷ p ∷ l ∷ snaps) → IsTrue ((child_of p f.trail.side).0 == f.trail.node.0) × (p.left ≡ l.node)
seen_left ed f g p l snaps x = goes_on ((child_of p f.trail.side).0 == f.trail.node.0) p.left p l.node (x 2 (omega arith))

module _ (ed : TakePair) (c : Call) (h : History) (f : Found) (run : IsMapRun c.layout h) (needed : 0 < (take_work f).need) where
  there : (old : ℕ) × (f.value ≡ Some old)
  there = key_there f.value (take_plan f) needed

  pub not_none : f.value ≢ None
  not_none none = let x : None ≡ Some there.0 = sym none ∙ there.1 in cc

  -- the leaf's parent is not the root
  deep_enough : (m : History) → IsMapRun c.layout m → HasFoundLeaf c m ed.key f → f.trail.parent.0 ≢ 0
  deep_enough m r a z = a.trail.high (found_below (ToKey ed.key) c m f r a) z a.leaf (said_low (value m) ed.key f.trail.node.0 there.0 (sym there.1 ∙ a.says))

  pub grand_turned : (m : History) → IsMapRun c.layout m → HasFoundLeaf c m ed.key f → HasTurned c m ed.key f.trail.grand.0 f.trail.grand_side f.trail.parent.0
  grand_turned m r a = a.trail.grand (found_below (ToKey ed.key) c m f r a) (deep_enough m r a)

  pub parent_turned : (m : History) → IsMapRun c.layout m → HasFoundLeaf c m ed.key f → HasTurned c m ed.key f.trail.parent.0 f.trail.side f.trail.node.0
  parent_turned m r a = a.trail.parent (found_below (ToKey ed.key) c m f r a)

  -- both are surely on the path of the key
  pub grand_on : ed.key < 2 ^ 64 → HasFoundLeaf c h ed.key f → IsSurelyOn c h ed.key f.trail.grand.0
  grand_on small a = grand_surely c h ed.key f small run a not_none (deep_enough h run a)

  pub parent_on : ed.key < 2 ^ 64 → HasFoundLeaf c h ed.key f → IsSurelyOn c h ed.key f.trail.parent.0
  parent_on small a = parent_surely c h ed.key f small run a not_none

  -- the call had turned at both as it took their snapshots
  pub grand_snap : (s : Snap) (u : HasSnappedAfterWalk c h InTree (ToKey ed.key) f s) → s.node.0 ≡ f.trail.grand.0 → HasTurned c u.moment ed.key s.node.0 f.trail.grand_side f.trail.parent.0
  grand_snap s u e = subst (λ n. HasTurned c u.moment ed.key n f.trail.grand_side f.trail.parent.0) (sym e) (grand_turned u.moment (run_since c.layout h u.moment run u.within) u.found)

  pub parent_snap : (s : Snap) (u : HasSnappedAfterWalk c h InTree (ToKey ed.key) f s) → s.node.0 ≡ f.trail.parent.0 → HasTurned c u.moment ed.key s.node.0 f.trail.side f.trail.node.0
  parent_snap s u e = subst (λ n. HasTurned c u.moment ed.key n f.trail.side f.trail.node.0) (sym e) (parent_turned u.moment (run_since c.layout h u.moment run u.within) u.found)

  -- the children of the parent were in the tree
  pub below_parent : (s : Snap) → HasSnappedAfterWalk c h InTree (ToKey ed.key) f s → s.node.0 ≡ f.trail.parent.0 → (side : Side) → WasInTree h (child_of s side).0
  below_parent s u e side = shown_stood c h ed.key f s f.trail.side f.trail.node.0 run u (parent_snap s u e) side

  -- and were not final
  pub not_final_below : (s : Snap) → HasSnappedAfterWalk c h InTree (ToKey ed.key) f s → s.node.0 ≡ f.trail.parent.0 → (side : Side) → WasNotFinal c h (child_of s side).0
  not_final_below s u e side = shown_not_final c h ed.key f s f.trail.side side f.trail.node.0 run u (parent_snap s u e)

  same_no : (a b : NodeNo) → a ≡ b → b.0 ≡ a.0
  same_no a b e = ap (λ (n : NodeNo). n.0) (sym e)

  -- each node at which it looks was in the tree
  looks_stood : (snaps : List Snap) (n : NodeNo) → LooksToTake join_looks c h ed.key f snaps → join_looks f snaps ≡ At n → WasInTree h n.0
  looks_stood [] n x e = let t = grand_turned h run x.found in subst (λ (k : NodeNo). WasInTree h k.0) (same_node f.trail.grand n e) (walked_stood c.layout h t.passed.first ed.key f.trail.grand.0 t.passed.passed)
  looks_stood (g ∷ []) n x e =
      let t = parent_turned h run x.found in
      subst (λ (k : NodeNo). WasInTree h k.0) (goes_on ((child_of g f.trail.grand_side).0 == f.trail.parent.0) f.trail.parent g n e).1 (walked_stood c.layout h t.passed.first ed.key f.trail.parent.0 t.passed.passed)
  looks_stood (g ∷ p ∷ []) n x e =
      subst (λ (k : NodeNo). WasInTree h k.0) (goes_on ((child_of p f.trail.side).0 == f.trail.node.0) p.left p n e).1
      (below_parent p (x.usable 1 (omega arith)) (same_no f.trail.parent p.node (seen_parent ed f g p [] x.seen).1) Left)
  looks_stood (g ∷ p ∷ l ∷ []) n x e =
      subst (λ (k : NodeNo). WasInTree h k.0) (same_node p.right n e)
      (below_parent p (x.usable 1 (omega arith)) (same_no f.trail.parent p.node (seen_parent ed f g p (l ∷ []) x.seen).1) Right)
  looks_stood (g ∷ p ∷ l ∷ r ∷ snaps) n x e = absurd (let d : Enough ≡ At n = e in cc)

  -- and was not final
  looks_not_final : (snaps : List Snap) (n : NodeNo) → LooksToTake join_looks c h ed.key f snaps → join_looks f snaps ≡ At n → WasNotFinal c h n.0
  looks_not_final [] n x e = subst (λ (k : NodeNo). WasNotFinal c h k.0) (same_node f.trail.grand n e) (passed_not_final c h ed.key f.trail.grand.0 run (grand_on x.small x.found).on)
  looks_not_final (g ∷ []) n x e =
      subst (λ (k : NodeNo). WasNotFinal c h k.0) (goes_on ((child_of g f.trail.grand_side).0 == f.trail.parent.0) f.trail.parent g n e).1
      (passed_not_final c h ed.key f.trail.parent.0 run (parent_on x.small x.found).on)
  looks_not_final (g ∷ p ∷ []) n x e =
      subst (λ (k : NodeNo). WasNotFinal c h k.0) (goes_on ((child_of p f.trail.side).0 == f.trail.node.0) p.left p n e).1
      (not_final_below p (x.usable 1 (omega arith)) (same_no f.trail.parent p.node (seen_parent ed f g p [] x.seen).1) Left)
  looks_not_final (g ∷ p ∷ l ∷ []) n x e =
      subst (λ (k : NodeNo). WasNotFinal c h k.0) (same_node p.right n e)
      (not_final_below p (x.usable 1 (omega arith)) (same_no f.trail.parent p.node (seen_parent ed f g p (l ∷ []) x.seen).1) Right)
  looks_not_final (g ∷ p ∷ l ∷ r ∷ snaps) n x e = absurd (let d : Enough ≡ At n = e in cc)

  other_child : (a b : ℕ) → (a == b) ≡ false → a ≢ b
  other_child a b e q = let d : false ≡ true = sym e ∙ eq-eqb a b q in cc

  -- where one of the two forks has another child, its last SCX-record was in the way
  looks_differ : (snaps : List Snap) (n : NodeNo) (s : ScxNo) → LooksToTake join_looks c h ed.key f snaps → join_looks f snaps ≡ Differs n s → IsQuietSince c.layout c.pass c.start h → IsContended c h n.0 s.0
  looks_differ [] n s x e quiet = absurd (let d : At f.trail.grand ≡ Differs n s = e in cc)
  looks_differ (g ∷ []) n s x e quiet =
      let o = is_other ((child_of g f.trail.grand_side).0 == f.trail.parent.0) f.trail.parent g n s e in
      let u : HasSnappedAfterWalk c h InTree (ToKey ed.key) f g = x.usable 0 (omega arith) in
      rw (sym o.1, sym o.2) (turned_contended c h ed.key f g f.trail.grand_side f.trail.parent.0 run quiet u (grand_snap g u (same_no f.trail.grand g.node (seen_grand ed f g [] x.seen))) (other_child (child_of g f.trail.grand_side).0 f.trail.parent.0 o.0))
  looks_differ (g ∷ p ∷ []) n s x e quiet =
      let o = is_other ((child_of p f.trail.side).0 == f.trail.node.0) p.left p n s e in
      let u : HasSnappedAfterWalk c h InTree (ToKey ed.key) f p = x.usable 1 (omega arith) in
      rw (sym o.1, sym o.2) (turned_contended c h ed.key f p f.trail.side f.trail.node.0 run quiet u (parent_snap p u (same_no f.trail.parent p.node (seen_parent ed f g p [] x.seen).1)) (other_child (child_of p f.trail.side).0 f.trail.node.0 o.0))
  looks_differ (g ∷ p ∷ l ∷ []) n s x e quiet = absurd (let d : At p.right ≡ Differs n s = e in cc)
  looks_differ (g ∷ p ∷ l ∷ r ∷ snaps) n s x e quiet = absurd (let d : Enough ≡ Differs n s = e in cc)

-- once it has looked at enough, it has snapshots of the two forks, in whose fields are the parent
-- and the leaf, and of the children that the parent's shows
pub record HasFour (f : Found) (snaps : List Snap) : Type 0 where
  four : length snaps ≡ 4
  grand : (snap_at snaps 0).node.0 ≡ f.trail.grand.0
  held : (child_of (snap_at snaps 0) f.trail.grand_side).0 ≡ f.trail.parent.0
  parent : (snap_at snaps 1).node.0 ≡ f.trail.parent.0
  child : (child_of (snap_at snaps 1) f.trail.side).0 ≡ f.trail.node.0
  left : (snap_at snaps 2).node.0 ≡ (snap_at snaps 1).left.0
  right : (snap_at snaps 3).node.0 ≡ (snap_at snaps 1).right.0

pub has_four : (ed : TakePair) (f : Found) (snaps : List Snap) → join_looks f snaps ≡ Enough → JoinSeen f snaps → HasFour f snaps
has_four ed f [] e x = absurd (let d : At f.trail.grand ≡ Enough = e in cc)
has_four ed f (g ∷ []) e x = absurd (not_enough ((child_of g f.trail.grand_side).0 == f.trail.parent.0) f.trail.parent g e)
has_four ed f (g ∷ p ∷ []) e x = absurd (not_enough ((child_of p f.trail.side).0 == f.trail.node.0) p.left p e)
has_four ed f (g ∷ p ∷ l ∷ []) e x = absurd (let d : At p.right ≡ Enough = e in cc)
has_four ed f (g ∷ p ∷ l ∷ r ∷ []) e x = record {
  four = refl;
  grand = same_no_of f.trail.grand g.node (seen_grand ed f g (p ∷ l ∷ r ∷ []) x);
  held = eqb-true (child_of g f.trail.grand_side).0 f.trail.parent.0 (seen_parent ed f g p (l ∷ r ∷ []) x).0;
  parent = same_no_of f.trail.parent p.node (seen_parent ed f g p (l ∷ r ∷ []) x).1;
  child = eqb-true (child_of p f.trail.side).0 f.trail.node.0 (seen_left ed f g p l (r ∷ []) x).0;
  left = same_no_of p.left l.node (seen_left ed f g p l (r ∷ []) x).1;
  right = same_no_of p.right r.node (same_node p.right r.node (x 3 (omega arith)));
}
  where
    same_no_of : (a b : NodeNo) → a ≡ b → b.0 ≡ a.0
    same_no_of a b e = ap (λ (n : NodeNo). n.0) (sym e)
has_four ed f (g ∷ p ∷ l ∷ r ∷ s ∷ snaps) e x = absurd (let d : Enough ≡ At s.node = x 4 (omega arith) in cc)

pub few_places : (side : Side) → sibling_place side < 4
few_places Left = omega arith
few_places Right = omega arith

-- a snapshot that is there may be used
pub usable_at : (ed : TakePair) (c : Call) (h : History) (f : Found) (snaps : List Snap) (i : ℕ) → i < 4 → HasFour f snaps → LooksToTake join_looks c h ed.key f snaps → HasSnappedAfterWalk c h InTree (ToKey ed.key) f (snap_at snaps i)
usable_at ed c h f snaps i p four x = x.usable i (rw four.four p)

linked_at : (ed : TakePair) (c : Call) (h : History) (f : Found) (snaps : List Snap) (i : ℕ) → IsMapRun c.layout h → i < 4 → HasFour f snaps → LooksToTake join_looks c h ed.key f snaps → IsLinked c.layout h (snap_at snaps i)
linked_at ed c h f snaps i run p four x = let u = usable_at ed c h f snaps i p four x in linked_since c.layout h u.moment (snap_at snaps i) run.1.lawful u.within u.is.linked

-- the leaf's sibling was in the tree
sibling_stood : (ed : TakePair) (c : Call) (h : History) (f : Found) (snaps : List Snap) → IsMapRun c.layout h → 0 < (take_work f).need → HasFour f snaps → LooksToTake join_looks c h ed.key f snaps → WasInTree h (sibling_of f snaps).node.0
sibling_stood ed c h f snaps run d four x = go f.trail.side
  where
    shown : (side : Side) → WasInTree h (child_of (snap_at snaps 1) side).0
    shown side = below_parent ed c h f run d (snap_at snaps 1) (usable_at ed c h f snaps 1 (omega arith) four x) four.parent side

    go : (side : Side) → WasInTree h (snap_at snaps (sibling_place side)).node.0
    go Left = subst (WasInTree h) (sym four.right) (shown Right)
    go Right = subst (WasInTree h) (sym four.left) (shown Left)

-- and is not the root: it is below another node
sibling_below : (ed : TakePair) (c : Call) (h : History) (f : Found) (snaps : List Snap) → IsMapRun c.layout h → 0 < (take_work f).need → HasFour f snaps → LooksToTake join_looks c h ed.key f snaps → (sibling_of f snaps).node.0 ≢ 0
sibling_below ed c h f snaps run d four x = go f.trail.side
  where
    shown : (side : Side) → (child_of (snap_at snaps 1) side).0 ≢ 0
    shown side z =
        let u = usable_at ed c h f snaps 1 (omega arith) four x in
        let rises = shown_rises c h ed.key f (snap_at snaps 1) f.trail.side f.trail.node.0 run u (parent_snap ed c h f run d (snap_at snaps 1) u four.parent) side in
        let low : level (value h) (snap_at snaps 1).node.0 < level (value h) 0 = subst (λ n. level (value h) (snap_at snaps 1).node.0 < level (value h) n) z rises in
        let root = root_head c.layout h run in
        omega (arith, low, root)

    go : (side : Side) → (snap_at snaps (sibling_place side)).node.0 ≢ 0
    go Left z = shown Right (sym four.right ∙ z)
    go Right z = shown Left (sym four.left ∙ z)

-- so it may be read from its head on
sibling_begins : (ed : TakePair) (c : Call) (h : History) (f : Found) (snaps : List Snap) → IsMapRun c.layout h → 0 < (take_work f).need → LooksToTake join_looks c h ed.key f snaps → join_looks f snaps ≡ Enough → MayRead c.layout h (sibling_of f snaps).node.0 nothing_read
sibling_begins ed c h f snaps run d x enough =
    let four : HasFour f snaps = has_four ed f snaps enough x.seen in
    let o : IsOpened c.layout h (sibling_of f snaps).node.0 = opened_if_stood c.layout h (sibling_of f snaps).node.0 run (sibling_stood ed c h f snaps run d four x) in
    record { named = in_field_named (sibling_of f snaps).node.0 o.in_field; inside = (sibling_below ed c h f snaps run d four x, o.inside); is = unread (value h) (sibling_of f snaps).node.0 }

-- the levels rise from the fork above to the parent, and from there to its children, which are
-- different
module _ (ed : TakePair) (c : Call) (h : History) (f : Found) (snaps : List Snap) (run : IsMapRun c.layout h) (needed : 0 < (take_work f).need) (four : HasFour f snaps) (x : LooksToTake join_looks c h ed.key f snaps) where
  abbrev at_place : ℕ → ℕ
  at_place i = (snap_at snaps i).node.0

  abbrev deep : ℕ → ℕ
  deep i = level (value h) (at_place i)

  grand_used : HasSnappedAfterWalk c h InTree (ToKey ed.key) f (snap_at snaps 0)
  grand_used = usable_at ed c h f snaps 0 (omega arith) four x

  parent_used : HasSnappedAfterWalk c h InTree (ToKey ed.key) f (snap_at snaps 1)
  parent_used = usable_at ed c h f snaps 1 (omega arith) four x

  at_grand : HasTurned c grand_used.moment ed.key (at_place 0) f.trail.grand_side f.trail.parent.0
  at_grand = grand_snap ed c h f run needed (snap_at snaps 0) grand_used four.grand

  at_parent : HasTurned c parent_used.moment ed.key (at_place 1) f.trail.side f.trail.node.0
  at_parent = parent_snap ed c h f run needed (snap_at snaps 1) parent_used four.parent

  to_parent : deep 0 < deep 1
  to_parent = subst (λ n. deep 0 < level (value h) n) (four.held ∙ sym four.parent) (shown_rises c h ed.key f (snap_at snaps 0) f.trail.grand_side f.trail.parent.0 run grand_used at_grand f.trail.grand_side)

  to_left : deep 1 < deep 2
  to_left = subst (λ n. deep 1 < level (value h) n) (sym four.left) (shown_rises c h ed.key f (snap_at snaps 1) f.trail.side f.trail.node.0 run parent_used at_parent Left)

  to_right : deep 1 < deep 3
  to_right = subst (λ n. deep 1 < level (value h) n) (sym four.right) (shown_rises c h ed.key f (snap_at snaps 1) f.trail.side f.trail.node.0 run parent_used at_parent Right)

  deeper : (i j : ℕ) → deep i < deep j → at_place i ≢ at_place j
  deeper i j less e = let same : deep i ≡ deep j = ap (level (value h)) e in absurd (omega (arith, less, same))

  differ : (i j : ℕ) → i < j → j < 4 → at_place i ≢ at_place j
  differ i zero less few = absurd (omega (arith, less))
  differ zero (suc zero) less few = deeper 0 1 to_parent
  differ (suc i) (suc zero) less few = absurd (omega (arith, less))
  differ zero (suc (suc zero)) less few = deeper 0 2 (omega (arith, to_parent, to_left))
  differ (suc zero) (suc (suc zero)) less few = deeper 1 2 to_left
  differ (suc (suc i)) (suc (suc zero)) less few = absurd (omega (arith, less))
  differ zero (suc (suc (suc zero))) less few = deeper 0 3 (omega (arith, to_parent, to_right))
  differ (suc zero) (suc (suc (suc zero))) less few = deeper 1 3 to_right
  differ (suc (suc zero)) (suc (suc (suc zero))) less few = λ e. shown_apart c h ed.key f (snap_at snaps 1) f.trail.side f.trail.node.0 run parent_used at_parent (sym four.left ∙ e ∙ four.right)
  differ (suc (suc (suc i))) (suc (suc (suc zero))) less few = absurd (omega (arith, less))
  differ i (suc (suc (suc (suc j)))) less few = absurd (omega (arith, few))

  either : (i j : ℕ) → i ≢ j → (i < j) ⊎ (j < i)
  either i j d = grind arith

  four_apart : AreDistinct snaps
  four_apart i j p q d e = ⊎_elim (λ less. differ i j less (rw four.four at q) e) (λ less. differ j i less (rw four.four at p) (sym e)) (either i j d)

-- it covers the leaf at its third or fourth place, on the side of the key
join_covered : (ed : TakePair) (c : Call) (h : History) (f : Found) (snaps : List Snap) (ns : Nodes) (k : History) (s : ℕ) → IsMapRun c.layout h → (take_work f).plan.0 ≡ join_plan f.trail.grand_side → HasFour f snaps → HasFoundLeaf c h ed.key f → IsMapRun c.layout k → Extends k h → CoversSnaps k s (update_for (take_work f) snaps ns) → edit_leaf k s (TakeEdit ed.key) ≡ covered f
join_covered ed c h f snaps ns k s run plan four found later since covers =
    leaf_taken_out k s (TakeEdit ed.key) f.trail.grand_side (covers.planned ∙ plan)
    ∙ (ap (λ side. member k s (leaf_place side)) side_is ∙ covers.members (leaf_place f.trail.side) (rw four.four (few f.trail.side)) ∙ place f.trail.side four.child)
    ∙ sym (rw (found_leaf ed.key c h f found) refl)
  where
    parent : HasTurned c h ed.key f.trail.parent.0 f.trail.side f.trail.node.0
    parent = found.trail.parent (found_below (ToKey ed.key) c h f run found)

    stood : WasInTree h f.trail.parent.0
    stood = walked_stood c.layout h parent.passed.first ed.key f.trail.parent.0 parent.passed.passed

    is_parent : member k s 1 ≡ f.trail.parent.0
    is_parent = covers.members 1 (rw four.four (omega arith)) ∙ four.parent

    side_is : toward (value k) (member k s 1) ed.key ≡ f.trail.side
    side_is = ap (λ n. toward (value k) n ed.key) is_parent ∙ settled_toward (value h) (value k) f.trail.parent.0 ed.key (stood_settled c.layout k h f.trail.parent.0 later since stood) ∙ parent.side_is

    few : (side : Side) → leaf_place side < 4
    few Left = omega arith
    few Right = omega arith

    place : (side : Side) → (child_of (snap_at snaps 1) side).0 ≡ f.trail.node.0 → (snap_at snaps (leaf_place side)).node.0 ≡ f.trail.node.0
    place Left e = four.left ∙ e
    place Right e = four.right ∙ e

-- In one of two ways

-- where the leaf has more than the pair, it looks as an edit of that leaf does
pub looked_leaf : (ed : TakePair) (c : Call) (h : History) (f : Found) (snaps : List Snap) → has_more f ≡ true → HasLooked take_means c h ed f snaps → LooksToTake (λ g. leaf_looks g f.trail.node) c h ed.key f snaps
looked_leaf ed c h f snaps t x = record { small = x.small; found = take_found ed.trie ed.key c h f x.found; usable = take_usable ed.trie ed.key c h f snaps x.usable; seen = λ i p. rw t at (x.seen i p) }

-- and else to take it out
pub looked_join : (ed : TakePair) (c : Call) (h : History) (f : Found) (snaps : List Snap) → has_more f ≡ false → HasLooked take_means c h ed f snaps → LooksToTake join_looks c h ed.key f snaps
looked_join ed c h f snaps t x = record { small = x.small; found = take_found ed.trie ed.key c h f x.found; usable = take_usable ed.trie ed.key c h f snaps x.usable; seen = λ i p. rw t at (x.seen i p) }

-- the leaf of a key that is there is of class 0
pub low_there : (k : ℕ) (c : Call) (h : History) (f : Found) → 0 < (take_work f).need → HasFoundLeaf c h k f → f.head.class ≡ 0
low_there k c h f d a =
    let there : (old : ℕ) × (f.value ≡ Some old) = key_there f.value (take_plan f) d in
    sym (ap (λ w. w.class) a.head) ∙ said_low (value h) k f.trail.node.0 there.0 (sym there.1 ∙ a.says)

-- its plan is that of one of these
plan_is : (f : Found) → 0 < (take_work f).need → (b : Bool) → has_more f ≡ b → (take_work f).plan.0 ≡ cond b (leaf_plan f.trail.side) (join_plan f.trail.grand_side)
plan_is f d b t = ap (λ o. (work_by o (take_plan f)).plan.0) (key_there f.value (take_plan f) d).1 ∙ ap (λ q. cond q (leaf_plan f.trail.side) (join_plan f.trail.grand_side)) t

-- that of taking the leaf out is a plan, of four nodes, which changes a field of the first
join_planned : (side : Side) → IsPlan (join_plan side)
join_planned Left = record { some = omega arith; removed = omega arith; field = omega arith }
join_planned Right = record { some = omega arith; removed = omega arith; field = omega arith }

four_planned : (side : Side) → count_of (join_plan side) ≡ 4
four_planned Left = refl
four_planned Right = refl

shown_grand : (side : Side) (snaps : List Snap) → field_shown (join_plan side) snaps ≡ (child_of (snap_at snaps 0) side).0
shown_grand Left snaps = refl
shown_grand Right snaps = refl

module _ (ed : TakePair) (c : Call) (h : History) (f : Found) (snaps : List Snap) (run : IsMapRun c.layout h) (d : 0 < (take_work f).need) (x : HasLooked take_means c h ed f snaps) where
  has_found : HasFoundLeaf c h ed.key f
  has_found = take_found ed.trie ed.key c h f x.found

  take_covering : IsCovering ed.key c h f f.trail.node
  take_covering = covering_leaf ed.key c h f run has_found (parent_on ed c h f run d x.small has_found)

  take_there : (n : NodeNo) → (b : Bool) → has_more f ≡ b → (if b then leaf_looks f f.trail.node snaps else join_looks f snaps) ≡ At n → WasInTree h n.0
  take_there n true t at = leaf_there ed.key c h f f.trail.node snaps run take_covering n at
  take_there n false t at = looks_stood ed c h f run d snaps n (looked_join ed c h f snaps t x) at

  take_stood : (n : NodeNo) → (b : Bool) → has_more f ≡ b → (if b then leaf_looks f f.trail.node snaps else join_looks f snaps) ≡ At n → WasNotFinal c h n.0
  take_stood n true t at = leaf_stood ed.key c h f f.trail.node snaps run take_covering n at
  take_stood n false t at = looks_not_final ed c h f run d snaps n (looked_join ed c h f snaps t x) at

  take_differs : (n : NodeNo) (s : ScxNo) → IsQuietSince c.layout c.pass c.start h → (b : Bool) → has_more f ≡ b → (if b then leaf_looks f f.trail.node snaps else join_looks f snaps) ≡ Differs n s → IsContended c h n.0 s.0
  take_differs n s quiet true t at = leaf_differs ed.key c h (take_way ed.trie) f f.trail.node snaps n s run (record { small = x.small; may = x.may; found = x.found; usable = x.usable; seen = λ i p. rw t at (x.seen i p) }) at quiet
  take_differs n s quiet false t at = looks_differ ed c h f run d snaps n s (looked_join ed c h f snaps t x) at quiet

  take_reads_well : (b : Bool) → has_more f ≡ b → (if b then leaf_looks f f.trail.node snaps else join_looks f snaps) ≡ Enough → let y : NodeNo × Reading = (if b then leaf_reads f else ((sibling_of f snaps).node, nothing_read)) in MayRead c.layout h y.0.0 y.1
  take_reads_well true t enough = leaf_begins ed.key c h f run has_found (low_there ed.key c h f d has_found)
  take_reads_well false t enough = sibling_begins ed c h f snaps run d (looked_join ed c h f snaps t x) enough

  take_over : (ns : Nodes) (b : Bool) → has_more f ≡ b → (if b then leaf_looks f f.trail.node snaps else join_looks f snaps) ≡ Enough → IsUpdateOver (update_for (take_work f) snaps ns)
  take_over ns true t enough = leaf_over ed.key c h f f.trail.node snaps ns (take_work f) take_covering (has_both f f.trail.node snaps enough (looked_leaf ed c h f snaps t x).seen) (plan_is f d true t)
  take_over ns false t enough = record {
    planned = subst IsPlan (sym plan) (join_planned f.trail.grand_side);
    count = ap count_of plan ∙ four_planned f.trail.grand_side ∙ sym four.four;
    distinct = four_apart ed c h f snaps run d four y;
    old = refl;
  }
    where
      y : LooksToTake join_looks c h ed.key f snaps
      y = looked_join ed c h f snaps t x

      four : HasFour f snaps
      four = has_four ed f snaps enough y.seen

      plan : (take_work f).plan.0 ≡ join_plan f.trail.grand_side
      plan = plan_is f d false t

  take_covered : (ns : Nodes) (k : History) (s : ℕ) → IsMapRun c.layout k → Extends k h → CoversSnaps k s (update_for (take_work f) snaps ns) → (b : Bool) → has_more f ≡ b → (if b then leaf_looks f f.trail.node snaps else join_looks f snaps) ≡ Enough → edit_leaf k s (TakeEdit ed.key) ≡ covered f
  take_covered ns k s later since covers true t enough = leaf_covered (TakeEdit ed.key) f f.trail.node snaps ns (take_work f) k s (has_both f f.trail.node snaps enough (looked_leaf ed c h f snaps t x).seen) covers ∙ sym (rw (found_leaf ed.key c h f has_found) refl)
  take_covered ns k s later since covers false t enough = join_covered ed c h f snaps ns k s run (plan_is f d false t) (has_four ed f snaps enough (looked_join ed c h f snaps t x).seen) has_found later since covers

-- its nodes were in the tree, and not final, what it reads may be read, and where a fork
-- has another child its last SCX-record was in the way
pub take_look : LooksWell take_means
take_look = record {
  there = λ e c h f snaps n run d x at. take_there e c h f snaps run d x n (has_more f) refl at;
  stood = λ e c h f snaps n run d x at. take_stood e c h f snaps run d x n (has_more f) refl at;
  differs = λ e c h f snaps n s run d x at quiet. take_differs e c h f snaps run d x n s quiet (has_more f) refl at;
  reads = λ e c h f snaps y run d x enough is. subst (λ (z : NodeNo × Reading). MayRead c.layout h z.0.0 z.1) (the_same (take_reads f snaps) y is) (take_reads_well e c h f snaps run d x (has_more f) refl enough);
}

-- What it fills

-- the fields of a copied fork are those of the snapshot
pub copy_fields : (s : Snap) (head : HeadParts) (read : Reading) (side : Side) → is_filled (copy_with s head read) (Child side) ≡ true → (child_of s side).0 ≡ word_of (copy_with s head read) (Child side)
copy_fields s head read side p = go head.leaf side p
  where
    go : (leaf : Bool) (side : Side) → is_filled (if leaf then Leaf head.level head.class (copied_pairs head.class read) else Fork head.level head.class (unwrap_or read.key 0) s.left s.right) (Child side) ≡ true
        → (child_of s side).0 ≡ word_of (if leaf then Leaf head.level head.class (copied_pairs head.class read) else Fork head.level head.class (unwrap_or read.key 0) s.left s.right) (Child side)
    go true side p = absurd (let z : false ≡ true = p in cc)
    go false Left p = refl
    go false Right p = refl

join_fields : (ed : TakePair) (c : Call) (h : History) (f : Found) (snaps : List Snap) (read : Reading) (side : Side) → IsMapRun c.layout h → LooksToTake join_looks c h ed.key f snaps → join_looks f snaps ≡ Enough → is_filled (sibling_copy (sibling_of f snaps) read) (Child side) ≡ true → IsInField c.layout h (word_of (sibling_copy (sibling_of f snaps) read) (Child side))
join_fields ed c h f snaps read side run x enough p =
    let s : Snap = sibling_of f snaps in
    let l : IsLinked c.layout h s = linked_at ed c h f snaps (sibling_place f.trail.side) run (few_places f.trail.side) (has_four ed f snaps enough x.seen) x in
    subst (IsInField c.layout h) (copy_fields s (unwrap_or read.head (head_of 0)) read side p) (inr (s.node.0, side, in_field_named s.node.0 l.in_field, l.had side))

take_fields : (ed : TakePair) (c : Call) (h : History) (f : Found) (snaps : List Snap) (read : Reading) (side : Side) → IsMapRun c.layout h → HasLooked take_means c h ed f snaps → (b : Bool) → has_more f ≡ b → (if b then leaf_looks f f.trail.node snaps else join_looks f snaps) ≡ Enough
    → is_filled (if b then Leaf f.head.level 0 (delete ed.key read.pairs) else sibling_copy (sibling_of f snaps) read) (Child side) ≡ true → IsInField c.layout h (word_of (if b then Leaf f.head.level 0 (delete ed.key read.pairs) else sibling_copy (sibling_of f snaps) read) (Child side))
take_fields ed c h f snaps read side run x true t enough p = absurd (let z : false ≡ true = p in cc)
take_fields ed c h f snaps read side run x false t enough p = join_fields ed c h f snaps read side run (looked_join ed c h f snaps t x) enough p

-- the fields of its copy hold what the sibling's have held
pub take_fills : FillsWell take_means
take_fills = record { fields = λ e c h f snaps ns read nth side run x enough n p. inr (take_fields e c h f snaps read side run x (has_more f) refl enough p) }

-- What it makes

module _ (ed : TakePair) (c : Call) (h : History) (f : Found) (snaps : List Snap) (ns : Nodes) (read : Reading) (run : IsMapRun c.layout h) (needed : 0 < (take_work f).need) (x : HasFilledAll take_means c h ed f snaps ns read) where
  present : (old : ℕ) × (f.value ≡ Some old)
  present = key_there f.value (take_plan f) needed

  found : HasFoundLeaf c h ed.key f
  found = take_found ed.trie ed.key c h f x.looked.found

  low : f.head.class ≡ 0
  low = low_there ed.key c h f needed found

  top : top_of (take_work f).need ns ≡ ns.first.0
  top = ap (λ o. top_of (work_by o (take_plan f)).need ns) present.1

  -- the pair goes out of its leaf
  module _ (t : has_more f ≡ true) where
    looked : LooksToTake (λ g. leaf_looks g f.trail.node) c h ed.key f snaps
    looked = looked_leaf ed c h f snaps t x.looked

    abbrev old_leaf : ℕ
    old_leaf = f.trail.node.0

    both : HasBoth f f.trail.node snaps
    both = has_both f f.trail.node snaps (rw t at x.enough) looked.seen

    p : HoldsPiece c h ns.first.0 (Leaf f.head.level 0 (delete ed.key read.pairs))
    p = rw t at (x.holds First needed)

    swap : IsSwapBy (value h) (TakeEdit ed.key) old_leaf ns.first.0
    swap = fresh_swap ed.key c h f read ns.first.0 run found low (ltb-true 0 f.more t) (rw t at x.right) x.whole p

    made : HasFreshEdit c.layout c.pass h (TakeEdit ed.key) old_leaf ns.first.0
    made = record {
      fresh = p.fresh;
      edit = inl swap;
      below = λ fork. absurd (let z : true ≡ false = sym swap.new.leaf ∙ fork in cc);
    }

    surely : IsSurelyOn c h ed.key f.trail.parent.0
    surely = parent_on ed c h f run needed x.looked.small found

    leaf_promised : (j : Job) (d : Descriptor) → j.update ≡ update_for (take_work f) snaps ns → Says d j → IsPromised c.layout c.pass h j.scx.0 d (TakeEdit ed.key)
    leaf_promised j d is says = edit_promised c h j.scx.0 (TakeEdit ed.key) f d ns.first.0 run x.looked.small found surely (is_leaf_edit f snaps ns (take_work f) j d ns.first.0 both (plan_is f needed true t) is top says) made
        (swap_fits_there c h (TakeEdit ed.key) f ns.first.0 run x.looked.small (parent_turned ed c h f run needed h run found) surely.stays swap)
        (λ e z. let y : Some present.0 ≡ None = sym present.1 ∙ z in cc)

  -- or the leaf out of the tree
  module _ (t : has_more f ≡ false) where
    looked_so : LooksToTake join_looks c h ed.key f snaps
    looked_so = looked_join ed c h f snaps t x.looked

    four : HasFour f snaps
    four = has_four ed f snaps (rw t at x.enough) looked_so.seen

    abbrev sibling : Snap
    sibling = sibling_of f snaps

    abbrev z_node : ℕ
    z_node = sibling.node.0

    abbrev n_node : ℕ
    n_node = ns.first.0

    in_tree : WasInTree h z_node
    in_tree = sibling_stood ed c h f snaps run needed four looked_so

    alone : f.more ≡ 0
    alone = go (dec_lt 0 f.more)
      where
        go : Dec (0 < f.more) → f.more ≡ 0
        go (yes l) = absurd (let y : true ≡ false = sym (lt-ltb 0 f.more l) ∙ t in cc)
        go (no n) = omega (arith, n)

    -- the copy
    copy : HasFreshCopy c.layout c.pass h sibling n_node
    copy = fresh_copy c h sibling read n_node run in_tree (rw t at x.right) x.whole (rw t at (x.holds First needed))

    -- it fits where the parent is
    parent_used_then : HasSnappedAfterWalk c h InTree (ToKey ed.key) f (snap_at snaps 1)
    parent_used_then = usable_at ed c h f snaps 1 (omega arith) four looked_so

    sibling_used_then : HasSnappedAfterWalk c h InTree (ToKey ed.key) f sibling
    sibling_used_then = usable_at ed c h f snaps (sibling_place f.trail.side) (few_places f.trail.side) four looked_so

    turned : HasTurned c h ed.key f.trail.parent.0 f.trail.side f.trail.node.0
    turned = parent_turned ed c h f run needed h run found

    other_shown : (side : Side) → (child_of (snap_at snaps 1) (opposite side)).0 ≡ (snap_at snaps (sibling_place side)).node.0
    other_shown Left = sym four.right
    other_shown Right = sym four.left

    beside : HasHadChild h f.trail.parent.0 (opposite (toward (value h) f.trail.parent.0 ed.key)) z_node
    beside =
        let u = parent_used_then in
        let at : Side = opposite (toward (value h) f.trail.parent.0 ed.key) in
        record {
          moment = u.moment;
          within = u.within;
          stood = subst (WasInTree u.moment) four.parent u.stood;
          held = ap (λ n. value u.moment (child n at)) (sym four.parent) ∙ u.is.linked.fields at u.is.info ∙ ap (λ s. (child_of (snap_at snaps 1) (opposite s)).0) turned.side_is ∙ other_shown f.trail.side;
        }

    below_copy : is_leaf (value h) z_node ≡ false → (to : Side) → HasHadChild h z_node to (value h (child n_node to))
    below_copy fork to = let u = sibling_used_then in record { moment = u.moment; within = u.within; stood = u.stood; held = u.is.linked.fields to u.is.info ∙ sym (copy.fields fork to) }

    fits_there : FitsThere c.layout h f.trail.grand.0 f.trail.grand_side n_node
    fits_there = join_fits_there c h (TakeEdit ed.key) f z_node n_node run x.looked.small (grand_turned ed c h f run needed h run found) (grand_on ed c h f run needed x.looked.small found).stays turned.fork beside copy.copy below_copy

    -- the SCX-record
    module _ (j : Job) (d : Descriptor) (is : j.update ≡ update_for (take_work f) snaps ns) (says : Says d j) where
      covers : j.update.snaps ≡ snaps
      covers = ap (λ (u : Update). u.snaps) is

      plan : (take_work f).plan.0 ≡ join_plan f.trail.grand_side
      plan = plan_is f needed false t

      is_member : (i : ℕ) → i < 4 → d.member i ≡ (snap_at snaps i).node.0
      is_member i p = says.member i (rw (covers, four.four) p) ∙ ap (λ (xs : List Snap). (snap_at xs i).node.0) covers

      is_seen : (i : ℕ) → i < 4 → d.seen i ≡ (snap_at snaps i).scx.0
      is_seen i p = says.seen i (rw (covers, four.four) p) ∙ ap (λ (xs : List Snap). (snap_at xs i).scx.0) covers

      -- is one that takes the leaf out, which puts the copy into the place of the parent
      is_join : IsJoinAt f d (snap_at snaps 1) n_node
      is_join = record {
        plan = says.plan ∙ ap (λ (u : Update). u.plan.0) is ∙ plan;
        grand = is_member 0 (omega arith) ∙ four.grand;
        parent = is_member 1 (omega arith) ∙ four.parent;
        left = is_member 2 (omega arith) ∙ four.left;
        right = is_member 3 (omega arith) ∙ four.right;
        old = says.old ∙ ap (λ (u : Update). u.old.0) is ∙ ap (λ p. field_shown p snaps) plan ∙ shown_grand f.trail.grand_side snaps ∙ four.held;
        new = says.new ∙ ap (λ (u : Update). u.fresh.0) is ∙ top;
      }

      snap_is : (i : ℕ) → i < 4 → IsSnapOf c.layout h d i (snap_at snaps i)
      snap_is i p = record { linked = linked_at ed c h f snaps i run p four looked_so; node = sym (is_member i p); scx = sym (is_seen i p) }

      join_is_promised : IsPromised c.layout c.pass h j.scx.0 d (TakeEdit ed.key)
      join_is_promised = join_promised c h j.scx.0 ed.key present.0 f d (snap_at snaps 1) sibling n_node run x.looked.small found present.1 alone is_join (snap_is 1 (omega arith)) four.child (snap_is (sibling_place f.trail.side) (few_places f.trail.side)) copy fits_there

  take_is_promised : (j : Job) (d : Descriptor) → j.update ≡ update_for (take_work f) snaps ns → Says d j → IsPromised c.layout c.pass h j.scx.0 d (TakeEdit ed.key)
  take_is_promised j d is says = go (has_more f) refl
    where
      go : (b : Bool) → has_more f ≡ b → IsPromised c.layout c.pass h j.scx.0 d (TakeEdit ed.key)
      go true t = leaf_promised t j d is says
      go false t = join_is_promised t j d is says

-- its plan covers its nodes, and what it has filled is promised to delete the key
pub take_makes : MakesWell take_means
take_makes = record {
  over = λ e c h f snaps guard ns run n x enough two. take_over e c h f snaps run n x ns (has_more f) refl enough;
  leaf = λ e c h f snaps guard ns s run n x enough k row later won since covers makes. take_covered e c h f snaps run n x ns k s (run_since c.layout (row ⊳ k) k later (inr (ends_self k))) since covers (has_more f) refl enough;
  ends = λ e c h f snaps guard ns s run n x enough is. absurd (let z : false ≡ true = is in cc);
  promised = λ e c h f snaps guard ns read j d run n x two is says. take_is_promised e c h f snaps ns read run n x j d is says;
}

-- a delete is an edit that an update can make
pub take_laws : EditLaws take_means
take_laws = record { at_found = λ e f. refl; at_end = λ e side is. absurd (let z : ToKey e.key ≡ End side = is in cc); bounds = take_bounds; looks = take_look; fills = take_fills; makes = take_makes }
