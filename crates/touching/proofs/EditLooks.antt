-- Each node at which an edit of a map looks, or which it reads, was in the tree, or in the trie, at
-- a moment of its call.
use Rattle.std.proofs.Common.{◌≡◌, ◌≢◌, ◌<◌, ℕ, zero, suc, Bool, true, false, ◌==◌, if◌then◌else◌, List, [], ◌∷◌, length, take, Option, Some, None, refl, sym, subst, ap, arith}
use Rattle.histories.specs.Common.{NodeNo, Side, Left, Right, History, value, Call}
use Rattle.ordered_map.specs.Runs.{IsMapRun}
use Rattle.prims.specs.Snap.{child_of, snap_at}
use Rattle.prims.specs.declared.snap.Snap.{Snap}
use Rattle.template.specs.Common.{opposite, leaves, Goal, Rule, HasTurned, HasFoundLeaf, Key as ToKey}
use Rattle.template.specs.Trails.{OnTrail}
use Rattle.template.specs.declared.walk.Found.{Found}
use Rattle.template.specs.declared.walk.Way.{Way}
use Rattle.template.specs.declared.walk.Way.TheVariants.{InTree}
use Rattle.template.proofs.Lemmas.{found_below, found_trail, found_under}
use Rattle.edits.specs.Edits.{EditMeaning}
use Rattle.edits.specs.Known.{HasLooked, HasLookedBy, HasSnappedAfterWalk}
use Rattle.edits.specs.declared.edit.Look.{Look}
use Rattle.edits.specs.declared.edit.Look.TheVariants.{At, Enough}
use Rattle.edits.specs.declared.edit.Work.{Work}
use Rattle.tree.specs.LeafEdit.{leaf_looks}
use Rattle.tree.specs.Laws.Looks.{goes_on, same_node}
use Rattle.tree.specs.Laws.KeyEdit.{own_looked, same_work}
use Rattle.tree.specs.Laws.Pop.Looks.{end_parent, number_is, still_needed}
use Rattle.tree.specs.Laws.Pop.Sound.{looked_end}
use Rattle.tree.specs.Laws.Take.Sound.{grand_turned, parent_snap, parent_turned, take_found, take_usable, LooksToTake}
use Rattle.tree.specs.KeyEdit.Means.{is_trie_end, key_at, key_means, leaving, putting, popping, taking}
use Rattle.tree.specs.Pop.Means.{end_looks, pop_means, pop_plan}
use Rattle.tree.specs.Put.Means.{next_node, put_means, put_way, strays}
use Rattle.tree.specs.Take.Means.{has_more, join_looks, take_means, take_plan, take_work}
use Rattle.touching.specs.Kinds.{IsInTree}
use Rattle.touching.proofs.Standing.{WasThere, child_now, passed_since, passed_there, two_there}
use Rattle.ordered_map.proofs.MapLemmas.{run_since}

-- what the edit looks at was there
abbrev pub LooksThere : {E : Type 0} → EditMeaning E → Type 0
LooksThere {E} m = (e : E) (c : Call) (h : History) (f : Found) (snaps : List Snap) (n : NodeNo) → IsMapRun c.layout h → 0 < (m.work e f).need → HasLooked m c h e f snaps → m.looks e f snaps ≡ At n → WasThere c h n.0

-- An edit of a leaf looks at the parent of what was found, and then at this node

module _ (k : ℕ) (c : Call) (h : History) (f : Found) (next : NodeNo) (run : IsMapRun c.layout h) (trail : OnTrail c h k f.trail) (below : f.trail.node.0 ≢ 0) (there : WasThere c h next.0) where
  leaf_there : (snaps : List Snap) (n : NodeNo) → leaf_looks f next snaps ≡ At n → WasThere c h n.0
  leaf_there [] n e = subst (λ (m : NodeNo). WasThere c h m.0) (same_node f.trail.parent n e) (passed_there c h k f.trail.parent.0 run (trail.parent below).passed)
  leaf_there (p ∷ []) n e = subst (λ (m : NodeNo). WasThere c h m.0) (goes_on ((child_of p f.trail.side).0 == f.trail.node.0) next p n e).1 there
  leaf_there (p ∷ l ∷ snaps) n e = absurd (let d : Enough ≡ At n = e in cc)

pub put_there : LooksThere put_means
put_there ed c h f snaps n run d x e = leaf_there ed.key c h f (next_node ed.trie f) run trail below (go (strays ed.trie f)) snaps n e
  where
    trail : OnTrail c h ed.key f.trail
    trail = found_trail (put_way ed.trie) (ToKey ed.key) c h f x.found

    below : f.trail.node.0 ≢ 0
    below = found_under (put_way ed.trie) (ToKey ed.key) c h f run x.found

    go : (b : Bool) → WasThere c h (if b then record { 0 = 2 } else f.trail.node).0
    go true = two_there c h run (passed_since c h ed.key f.trail.node.0 trail.node)
    go false = passed_there c h ed.key f.trail.node.0 run trail.node

-- The children of a fork at which the call has turned, as a snapshot shows them

shown_there : {way : Way} {goal : Goal} (c : Call) (h : History) (k : ℕ) (f : Found) (s : Snap) (turn : Side) (next : ℕ) → IsMapRun c.layout h → (u : HasSnappedAfterWalk c h way goal f s) → HasTurned c u.moment k s.node.0 turn next → (side : Side) → WasThere c h (child_of s side).0
shown_there c h k f s turn next run u turned side = record {
  moment = u.moment;
  within = u.within;
  since = u.since;
  was = subst (IsInTree u.moment) (u.is.linked.fields side u.is.info) (child_now c.layout u.moment s.node.0 (run_since c.layout h u.moment run u.within) u.stood u.is.not_final turned.fork side);
}

-- What takes a key out

module _ (trie : Bool) (k : ℕ) (c : Call) (h : History) (f : Found) (run : IsMapRun c.layout h) (needed : 0 < (take_work f).need) where
  found_there : HasFoundLeaf c h k f → WasThere c h f.trail.node.0
  found_there a = passed_there c h k f.trail.node.0 run a.trail.node

  parent_there : HasFoundLeaf c h k f → WasThere c h f.trail.parent.0
  parent_there a = passed_there c h k f.trail.parent.0 run (parent_turned (taking trie k) c h f run needed h run a).passed

  grand_there : HasFoundLeaf c h k f → WasThere c h f.trail.grand.0
  grand_there a = passed_there c h k f.trail.grand.0 run (grand_turned (taking trie k) c h f run needed h run a).passed

  below_there : (p : Snap) → HasSnappedAfterWalk c h InTree (ToKey k) f p → f.trail.parent ≡ p.node → (side : Side) → WasThere c h (child_of p side).0
  below_there p u e side = shown_there c h k f p f.trail.side f.trail.node.0 run u (parent_snap (taking trie k) c h f run needed p u (number_is f.trail.parent p.node e)) side

  join_there : (snaps : List Snap) (n : NodeNo) → LooksToTake join_looks c h k f snaps → join_looks f snaps ≡ At n → WasThere c h n.0
  join_there [] n x e = subst (λ (m : NodeNo). WasThere c h m.0) (same_node f.trail.grand n e) (grand_there x.found)
  join_there (g ∷ []) n x e = subst (λ (m : NodeNo). WasThere c h m.0) (goes_on ((child_of g f.trail.grand_side).0 == f.trail.parent.0) f.trail.parent g n e).1 (parent_there x.found)
  join_there (g ∷ p ∷ []) n x e =
      let parent : f.trail.parent ≡ p.node = (goes_on ((child_of g f.trail.grand_side).0 == f.trail.parent.0) f.trail.parent g p.node (x.seen 1 (omega arith))).1 in
      subst (λ (m : NodeNo). WasThere c h m.0) (goes_on ((child_of p f.trail.side).0 == f.trail.node.0) p.left p n e).1 (below_there p (x.usable 1 (omega arith)) parent Left)
  join_there (g ∷ p ∷ l ∷ []) n x e =
      let parent : f.trail.parent ≡ p.node = (goes_on ((child_of g f.trail.grand_side).0 == f.trail.parent.0) f.trail.parent g p.node (x.seen 1 (omega arith))).1 in
      subst (λ (m : NodeNo). WasThere c h m.0) (same_node p.right n e) (below_there p (x.usable 1 (omega arith)) parent Right)
  join_there (g ∷ p ∷ l ∷ r ∷ snaps) n x e = absurd (let d : Enough ≡ At n = e in cc)

  end_there : (snaps : List Snap) (n : NodeNo) → LooksToTake end_looks c h k f snaps → end_looks f snaps ≡ At n → WasThere c h n.0
  end_there [] n x e = subst (λ (m : NodeNo). WasThere c h m.0) (same_node f.trail.grand n e) (grand_there x.found)
  end_there (g ∷ []) n x e = subst (λ (m : NodeNo). WasThere c h m.0) (goes_on ((child_of g f.trail.grand_side).0 == f.trail.parent.0) f.trail.parent g n e).1 (parent_there x.found)
  end_there (g ∷ p ∷ []) n x e =
      subst (λ (m : NodeNo). WasThere c h m.0) (goes_on ((child_of p f.trail.side).0 == f.trail.node.0) (child_of p (opposite f.trail.side)) p n e).1
      (below_there p (x.usable 1 (omega arith)) (end_parent f g p [] x.seen).1 (opposite f.trail.side))
  end_there (g ∷ p ∷ z ∷ snaps) n x e = absurd (let d : Enough ≡ At n = e in cc)

  one_leaf : HasFoundLeaf c h k f → (snaps : List Snap) (n : NodeNo) → leaf_looks f f.trail.node snaps ≡ At n → WasThere c h n.0
  one_leaf a = leaf_there k c h f f.trail.node run a.trail (found_below (ToKey k) c h f run a) (found_there a)

pub take_there : LooksThere take_means
take_there ed c h f snaps n run d x e = go (has_more f) refl e
  where
    go : (b : Bool) → has_more f ≡ b → (if b then leaf_looks f f.trail.node snaps else join_looks f snaps) ≡ At n → WasThere c h n.0
    go true t q = one_leaf ed.trie ed.key c h f run d (take_found ed.trie ed.key c h f x.found) snaps n q
    go false t q = join_there ed.trie ed.key c h f run d snaps n record { small = x.small; found = take_found ed.trie ed.key c h f x.found; usable = take_usable ed.trie ed.key c h f snaps x.usable; seen = λ i p. rw t at (x.seen i p) } q

pub pop_there : LooksThere pop_means
pop_there ed c h f snaps n run d x e = go (has_more f) refl e
  where
    needed : 0 < (take_work f).need
    needed = still_needed f.value (pop_plan f) (take_plan f) d

    go : (b : Bool) → has_more f ≡ b → (if b then leaf_looks f f.trail.node snaps else end_looks f snaps) ≡ At n → WasThere c h n.0
    go true t q = one_leaf true ed.key c h f run needed x.found snaps n q
    go false t q = end_there true ed.key c h f run needed snaps n (looked_end ed c h f snaps t x) q

leaving_there : (end trie : Bool) (left : Option ℕ) → LooksThere (leaving end trie left)
leaving_there end in_trie (Some value) key = put_there (putting in_trie key value)
leaving_there false in_trie None key = take_there (taking in_trie key)
leaving_there true in_trie None key = pop_there (popping key)

pub key_there : {G R : Type 0} (goal : G → Goal) (trie : G → Bool) (rule : R → Rule) → LooksThere (key_means goal trie rule)
key_there goal trie rule e c h f snaps n run d x is =
    leaving_there (is_trie_end (goal e.goal) (trie e.goal)) (trie e.goal) (leaves (rule e.rule)) (key_at goal trie rule e f) c h f snaps n run
    (subst (λ (w : Work). 0 < w.need) (same_work goal trie rule e f d) d)
    (own_looked goal trie rule e f d c h snaps run x)
    is

-- Of which it has a snapshot

-- the first snapshots of a list
prefix : (snaps : List Snap) (i j : ℕ) → j < length (take i snaps) → (j < length snaps) × (snap_at (take i snaps) j ≡ snap_at snaps j) × (take j (take i snaps) ≡ take j snaps)
prefix [] zero j p = absurd (omega (arith, p))
prefix [] (suc i) j p = absurd (omega (arith, p))
prefix (s ∷ snaps) zero j p = absurd (omega (arith, p))
prefix (s ∷ snaps) (suc i) zero p = (omega arith, refl, refl)
prefix (s ∷ snaps) (suc i) (suc j) p =
    let x = prefix snaps i j (omega (arith, p)) in
    let few = x.0 in
    (omega (arith, few), x.1, ap (λ l. s ∷ l) x.2)

looked_before : (looks : Found → List Snap → Look) (c : Call) (h : History) (way : Way) (goal : Goal) (f : Found) (snaps : List Snap) (i : ℕ) → HasLookedBy looks c h way goal f snaps → HasLookedBy looks c h way goal f (take i snaps)
looked_before looks c h way goal f snaps i x = record {
  small = x.small;
  may = x.may;
  found = x.found;
  usable = λ j p. let q = prefix snaps i j p in subst (HasSnappedAfterWalk c h way goal f) (sym q.1) (x.usable j q.0);
  seen = λ j p. let q = prefix snaps i j p in rw (q.1, q.2) (x.seen j q.0);
}

-- each such node was there
pub snapped_there : {E : Type 0} (m : EditMeaning E) → LooksThere m → (e : E) (c : Call) (h : History) (f : Found) (snaps : List Snap) → IsMapRun c.layout h → 0 < (m.work e f).need → HasLooked m c h e f snaps → (i : ℕ) → i < length snaps → WasThere c h (snap_at snaps i).node.0
snapped_there m there e c h f snaps run d x i p = there e c h f (take i snaps) (snap_at snaps i).node run d (looked_before (m.looks e) c h (m.way e) (m.goal e) f snaps i x) (x.seen i p)
