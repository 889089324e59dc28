-- One snapshot more: what it says of the children of its node, and what holds as long as the infos
-- are what was found.
use Rattle.std.proofs.Common.{◌≡◌, ℕ, zero, suc, ◌<◌, ◌⊎◌, ◌∙◌, true, false, List, [], ◌∷◌, ◌++◌, length, inl, inr, ⊎_elim, refl, sym, subst, arith}
use Rattle.histories.specs.Common.{Side, Left, Right, Word, child, info, marked, History, value, Extends, Call}
use Rattle.arena.proofs.Lemmas.{ends_self}
use Rattle.prims.specs.Laws.InTheWay.{been_now}
use Rattle.prims.specs.Laws.Linked.{IsLinked, linked_since}
use Rattle.template.specs.Common.{IsSnapshot, child_of, snap_at, Snap, IsMapRun, IsTree, Spells, Tree, root, Shows, is_leaf, level}
use Rattle.ordered_map.specs.TreeWords.{Fork, Has, Leaf, rank}
use Rattle.ordered_map.proofs.MapLemmas.{child_not_final, levels_rise, run_spells, tree_remains}
use Rattle.order.specs.Reads.{AreSnapped, HasSnapped, Reads, AllHold, HasStood}

-- the children of a fork of a tree are in it
pub has_root : (t : Tree) → Has t (root t)
has_root (Leaf n) = refl
has_root (Fork n a b) = inl refl

pub has_below : (f : Word → ℕ) (t : Tree) (lo hi n : ℕ) (side : Side) → Shows f lo hi t → Has t n → is_leaf f n ≡ false → Has t (f (child n side))
has_below f (Leaf m) lo hi n side s e d = absurd (let x : true ≡ false = sym s.leaf ∙ rw (← e) at d in cc)
has_below f (Fork m a b) lo hi n Left s (inl e) d = let q : f (child n Left) ≡ root a = rw (← e) s.0.left in inr (inl (subst (Has a) (sym q) (has_root a)))
has_below f (Fork m a b) lo hi n Right s (inl e) d = let q : f (child n Right) ≡ root b = rw (← e) s.0.right in inr (inr (subst (Has b) (sym q) (has_root b)))
has_below f (Fork m a b) lo hi n side s (inr (inl h)) d = inr (inl (has_below f a lo (rank f m) n side s.1 h d))
has_below f (Fork m a b) lo hi n side s (inr (inr h)) d = inr (inr (has_below f b (rank f m) hi n side s.2 h d))

-- the node is in the tree
record WasNow (h : History) (n : ℕ) : Type 0 where
  tree : Tree
  is_tree : IsTree (value h) tree
  has : Has tree n

-- a place in the longer list is one of the shorter, or the last
at_end : (snaps : List Snap) (s : Snap) (i : ℕ) → i < length (snaps ++ s ∷ []) → ((i < length snaps) × (snap_at (snaps ++ s ∷ []) i ≡ snap_at snaps i)) ⊎ ((i ≡ length snaps) × (snap_at (snaps ++ s ∷ []) i ≡ s))
at_end [] s zero p = inr (refl, refl)
at_end [] s (suc i) p = absurd (omega (arith, p))
at_end (t ∷ snaps) s zero p = inl (omega arith, refl)
at_end (t ∷ snaps) s (suc i) p = ⊎_elim (λ x. inl ((let y = x.0 in omega (arith, y)), x.1)) (λ x. inr ((let y = x.0 in omega (arith, y)), x.1)) (at_end snaps s i (omega (arith, p)))

at_first : (snaps : List Snap) (s : Snap) (i : ℕ) → i < length snaps → (i < length (snaps ++ s ∷ [])) × (snap_at (snaps ++ s ∷ []) i ≡ snap_at snaps i)
at_first [] s i p = absurd (omega (arith, p))
at_first (t ∷ snaps) s zero p = (omega arith, refl)
at_first (t ∷ snaps) s (suc i) p =
    let x : (i < length (snaps ++ s ∷ [])) × (snap_at (snaps ++ s ∷ []) i ≡ snap_at snaps i) = at_first snaps s i (omega (arith, p)) in
    ((let y = x.0 in omega (arith, y)), x.1)

at_last : (snaps : List Snap) (s : Snap) → (length snaps < length (snaps ++ s ∷ [])) × (snap_at (snaps ++ s ∷ []) (length snaps) ≡ s)
at_last [] s = (omega arith, refl)
at_last (t ∷ snaps) s =
    let x : (length snaps < length (snaps ++ s ∷ [])) × (snap_at (snaps ++ s ∷ []) (length snaps) ≡ s) = at_last snaps s in
    ((let y = x.0 in omega (arith, y)), x.1)

pub some_more : (snaps : List Snap) (s : Snap) → 0 < length (snaps ++ s ∷ [])
some_more [] s = omega arith
some_more (t ∷ snaps) s = omega arith

-- where the infos of the longer list hold, those of the shorter do
pub hold_before : (b : History) (snaps : List Snap) (s : Snap) → AllHold b (snaps ++ s ∷ []) → AllHold b snaps
hold_before b snaps s x i p =
    let y : (i < length (snaps ++ s ∷ [])) × (snap_at (snaps ++ s ∷ []) i ≡ snap_at snaps i) = at_first snaps s i p in
    subst (λ (t : Snap). value b (info t.node.0) ≡ t.scx.0) y.1 (x i y.0)

-- and the last one
hold_last : (b : History) (snaps : List Snap) (s : Snap) → AllHold b (snaps ++ s ∷ []) → value b (info s.node.0) ≡ s.scx.0
hold_last b snaps s x =
    let y : (length snaps < length (snaps ++ s ∷ [])) × (snap_at (snaps ++ s ∷ []) (length snaps) ≡ s) = at_last snaps s in
    subst (λ (t : Snap). value b (info t.node.0) ≡ t.scx.0) y.1 (x (length snaps) y.0)

module _ (c : Call) (h : History) (snaps : List Snap) (snap : Snap) (reads : Reads c h snaps) (is : IsSnapshot c.layout h snap.node.0 snap) where
  snapped_one_more : HasStood c h snap.node.0 → AreSnapped c h (snaps ++ snap ∷ [])
  snapped_one_more stood i p = ⊎_elim (λ q. subst (HasSnapped c h) (sym q.1) (reads.snapped i q.0)) (λ q. subst (HasSnapped c h) (sym q.1) now) (at_end snaps snap i p)
    where
      now : HasSnapped c h snap
      now = record { moment = h; within = ends_self h; since = reads.since; stood = stood.stood; in_call = stood.in_call; is = is }

  -- the read continues with the longer list
  pub reads_one_more : HasStood c h snap.node.0 → Reads c h (snaps ++ snap ∷ [])
  reads_one_more stood = record { run = reads.run; since = reads.since; over = reads.over; quiet = reads.quiet; snapped = snapped_one_more stood }

  module _ (stood : HasStood c h snap.node.0) (fork : is_leaf (value h) snap.node.0 ≡ false) where
    -- a child of the node is in the tree, as that is
    child_now : (s : Side) → WasNow h (value h (child snap.node.0 s))
    child_now s =
        let spelled : Spells c.layout (value h) (run_spells c.layout h reads.run).0 = (run_spells c.layout h reads.run).1 in
        record { tree = spelled.tree; is_tree = spelled.is_tree; has = has_below (value h) spelled.tree _ _ snap.node.0 s spelled.is_tree.shows (tree_remains c.layout h spelled.tree snap.node.0 reads.run stood.stood (inr fork) is.not_final spelled.is_tree) fork }

    pub child_there : (s : Side) → HasStood c h (child_of snap s).0
    child_there s = let x = child_now s in subst (HasStood c h) (is.linked.fields s is.info) record {
      stood = record { moment = h; within = ends_self h; tree = x.tree; is_tree = x.is_tree; has = x.has };
      in_call = reads.since;
      not_final = been_now h c.start _ reads.since (child_not_final c.layout h snap.node.0 s reads.run stood.stood is.not_final fork);
    }

    -- on a level above its own
    pub child_rises : (s : Side) → level (value h) snap.node.0 < level (value h) (child_of snap s).0
    child_rises s = subst (λ n. level (value h) snap.node.0 < level (value h) n) (is.linked.fields s is.info) (levels_rise c.layout h snap.node.0 s reads.run stood.stood fork)

    -- at a moment at which all infos still hold
    module _ (b : History) (run : IsMapRun c.layout b) (e : Extends b h) (hold : AllHold b (snaps ++ snap ∷ [])) where
      linked : IsLinked c.layout b snap
      linked = linked_since c.layout b h snap run.1.lawful e is.linked

      pub unmarked_then : value b (marked snap.node.0) ≡ 0
      unmarked_then = linked.unmarked (hold_last b snaps snap hold)

      pub field_then : (s : Side) → value b (child snap.node.0 s) ≡ (child_of snap s).0
      field_then s = linked.fields s (hold_last b snaps snap hold)
