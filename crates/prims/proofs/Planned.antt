-- What the plan word of an update says of its snapshots.
use Rattle.std.proofs.Common.{◌≡◌, ℕ, zero, suc, ◌+◌, ◌*◌, ◌/◌, ◌%◌, ◌^◌, ◌<◌, ◌≤◌, ◌↔◌, ⊎_elim, subst, Bool, true, false, cond, ltb, lt-ltb, ltb-true, eqb, eqb-true, eq-eqb, List, [], ◌∷◌, length, get_or, refl, sym, ◌∙◌, ap, arith}
use Rattle.std.proofs.lemmas.Bool.{or_left}
use Rattle.std.specs.List.{Contains}
use Rattle.histories.specs.Common.{NodeNo, Side, has, IsPlan, count_of, plan_finalizes, field_index_of, side_of}
use Rattle.arena.specs.ScxRecords.{side_no, removed_bits}
use Rattle.arena.proofs.Lemmas.{or_right, or_split, packed_count, packed_field, packed_side, packed_within, packed_removes}
use Rattle.prims.specs.Snap.{child_of, snap_at}
use Rattle.prims.specs.Snaps.{AreDistinct, IsAmong, ListsNode, has_node, finalizes}
use Rattle.prims.specs.Scx.Known.{IsUpdateOver, removed_nodes}
use Rattle.prims.proofs.Snapshots.{has_from, has_to}
use Rattle.prims.specs.declared.snap.Snap.{Snap}
use Rattle.prims.specs.declared.update.Update.{Update}

-- after the last snapshot none is finalized
not_behind : (snaps : List Snap) (nodes : List NodeNo) (j : ℕ) → length snaps ≤ j → finalizes snaps nodes j ≡ false
not_behind snaps nodes j i = go (ltb j (length snaps)) refl
  where
    go : (t : Bool) → ltb j (length snaps) ≡ t → finalizes snaps nodes j ≡ false
    go true e = let k = ltb-true j (length snaps) e in absurd (omega arith)
    go false e = rw e refl

-- a place within the snapshots
finalizes_at : (snaps : List Snap) (nodes : List NodeNo) (j : ℕ) → j < length snaps → finalizes snaps nodes j ≡ has_node nodes (snap_at snaps j).node.0
finalizes_at snaps nodes j i = rw (lt-ltb j (length snaps) i) refl

-- what the field held in its snapshot
old_is : (items snaps : List Snap) (i at : ℕ) (s side : Side) (o : NodeNo) → items ≡ snaps → i ≡ at → s ≡ side → o ≡ child_of (snap_at snaps at) side → o.0 ≡ (child_of (snap_at items i) s).0
old_is items snaps i at s side o e f g h = rw (e, f, g) (ap (λ (n : NodeNo). n.0) h)

module _ (snaps : List Snap) (nodes : List NodeNo) (at : ℕ) (side : Side) (bs : List Bool) (p : ℕ) (is : p ≡ length snaps + 8 * removed_bits bs + 128 * at + 512 * side_no side) (four : length bs ≡ 4) (few : length snaps ≤ 4) (inside : at < length snaps) (bits : (j : ℕ) → j < 4 → get_or bs j false ≡ finalizes snaps nodes j) where
  -- it counts the snapshots
  counts : count_of p ≡ length snaps
  counts = packed_count (length snaps) bs at side p is four few (omega arith)

  -- the place of the field's node
  pub field_is : field_index_of p ≡ at
  field_is = packed_field (length snaps) bs at side p is four few (omega arith)

  -- the side of the field
  pub side_is : side_of p ≡ side
  side_is = packed_side (length snaps) bs at side p is four few (omega arith)

  -- it is a plan
  plan_is : IsPlan p
  plan_is = record {
    some = let e = counts in omega arith;
    removed = let P : ℕ → Type 0 = λ n. p / 8 % 16 < 2 ^ n in subst P (sym counts) (packed_within (length snaps) bs at side p is four few (omega arith) (omega arith) (λ j i k. bits j k ∙ not_behind snaps nodes j i));
    field = let e = counts in let f = field_is in omega arith;
  }

  -- which of the nodes it finalizes
  pub removes_is : (j : ℕ) → j < length snaps → (plan_finalizes p j ≡ true) ↔ ListsNode nodes (snap_at snaps j).node.0
  removes_is j i =
      let e : plan_finalizes p j ≡ has_node nodes (snap_at snaps j).node.0 = packed_removes (length snaps) bs at side p is four few j (omega arith) ∙ bits j (omega arith) ∙ finalizes_at snaps nodes j i in
      (λ q. has_from nodes (snap_at snaps j).node.0 (sym e ∙ q), λ x. e ∙ has_to nodes (snap_at snaps j).node.0 x)

  -- an update with that plan is over the snapshots
  pub update_over : (u : Update) → u.plan.0 ≡ p → u.snaps ≡ snaps → AreDistinct snaps → u.old ≡ child_of (snap_at snaps at) side → IsUpdateOver u
  update_over u e f d o = record {
    planned = rw e plan_is;
    count = rw (e, f) counts;
    distinct = rw f d;
    old = old_is u.snaps snaps (field_index_of u.plan.0) at (side_of u.plan.0) side u.old f (ap field_index_of e ∙ field_is) (ap side_of e ∙ side_is) o;
  }

-- The nodes that it finalizes

-- a snapshot whose node the plan finalizes, where the first of the snapshots has this place in the
-- plan
record IsRemovedAt (p : ℕ) (snaps : List Snap) (from n : ℕ) : Type 0 where
  at : ℕ
  within : at < length snaps
  is : (snap_at snaps at).node.0 ≡ n
  place : ℕ
  is_place : place ≡ from + at
  removed : plan_finalizes p place ≡ true

-- the nodes that a plan finalizes are those of such snapshots
removed_there : (p : ℕ) (snaps : List Snap) (from n : ℕ) → has (removed_nodes p snaps from) n ≡ true → IsRemovedAt p snaps from n
removed_there p [] from n e = cc
removed_there p (snap ∷ snaps) from n e = go (plan_finalizes p from) refl e (removed_there p snaps (suc from) n)
  where
    later : IsRemovedAt p snaps (suc from) n → IsRemovedAt p (snap ∷ snaps) from n
    later x = record { at = suc x.at; within = let i = x.within in omega arith; is = x.is; place = x.place; is_place = let i = x.is_place in omega arith; removed = x.removed }

    go : (b : Bool) → plan_finalizes p from ≡ b → has (cond b (snap.node.0 ∷ removed_nodes p snaps (suc from)) (removed_nodes p snaps (suc from))) n ≡ true → (has (removed_nodes p snaps (suc from)) n ≡ true → IsRemovedAt p snaps (suc from) n) → IsRemovedAt p (snap ∷ snaps) from n
    go false r q f = later (f q)
    go true r q f = ⊎_elim (λ z. record { at = 0; within = omega arith; is = eqb-true snap.node.0 n z; place = from; is_place = omega arith; removed = r }) (λ z. later (f z)) (or_split (eqb snap.node.0 n) (has (removed_nodes p snaps (suc from)) n) q)

removed_found : (p : ℕ) (snaps : List Snap) (from n at place : ℕ) → at < length snaps → (snap_at snaps at).node.0 ≡ n → place ≡ from + at → plan_finalizes p place ≡ true → has (removed_nodes p snaps from) n ≡ true
removed_found p [] from n at place i e d r = absurd (omega arith)
removed_found p (snap ∷ snaps) from n zero place i e d r =
    let here : plan_finalizes p from ≡ true = subst (λ (k : ℕ). plan_finalizes p k ≡ true) (omega (arith, d)) r in
    rw here (or_left (eqb snap.node.0 n) (has (removed_nodes p snaps (suc from)) n) (eq-eqb snap.node.0 n e))
removed_found p (snap ∷ snaps) from n (suc at) place i e d r = go (plan_finalizes p from) (removed_found p snaps (suc from) n at place (omega arith) e (omega (arith, d)) r)
  where
    go : (b : Bool) → has (removed_nodes p snaps (suc from)) n ≡ true → has (cond b (snap.node.0 ∷ removed_nodes p snaps (suc from)) (removed_nodes p snaps (suc from))) n ≡ true
    go false x = x
    go true x = or_right (eqb snap.node.0 n) (has (removed_nodes p snaps (suc from)) n) x

-- those of the snapshots that are to be finalized
pub removed_those : (p : ℕ) (snaps : List Snap) (removed : List ℕ) → ((j : ℕ) → j < length snaps → (plan_finalizes p j ≡ true) ↔ Contains removed (snap_at snaps j).node.0) → (n : ℕ) → (has (removed_nodes p snaps 0) n ≡ true) ↔ (IsAmong snaps n × Contains removed n)
removed_those p snaps removed f n = (
  (λ e.
      let y = removed_there p snaps 0 n e in (
        record { at = y.at; within = y.within; is = y.is },
        subst (λ (k : ℕ). Contains removed k) y.is ((f y.at y.within).0 (subst (λ (k : ℕ). plan_finalizes p k ≡ true) (let d = y.is_place in omega arith) y.removed)),
      )),
  (λ y. removed_found p snaps 0 n y.0.at y.0.at y.0.within y.0.is (omega arith) ((f y.0.at y.0.within).1 (rw y.0.is y.1))),
)
