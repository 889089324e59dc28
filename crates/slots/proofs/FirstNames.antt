-- The first names of all slots.
use Rattle.std.proofs.Common.{◌≡◌, ◌<◌, ◌≤◌, ◌+◌, ◌-◌, ◌*◌, ◌/◌, ◌%◌, ℕ, zero, suc, Bool, true, false, cond, ltb, le-ltb, lt-ltb, inl, inr, refl, sym, ◌∙◌, ap, subst, arith}
use Rattle.std.proofs.Math.Nat.{mod-lt}
use Rattle.std.proofs.lemmas.Bool.{ltb-true, ltb-false}
use Rattle.std.proofs.lemmas.Nat.{div-add-mod', div-mul-add, div_below, mod-mul-add}
use Rattle.std.specs.Prelude.{Some, None}
use Rattle.histories.specs.Common.{all_nodes, all_scx, opening_nodes, first_node, first_scx}
use Rattle.histories.proofs.Lemmas.{own_node_inside, own_scx_inside}
use Rattle.resting.specs.Records.{Record, the_node, the_scx}
use Rattle.slots.specs.Held.{AreNames, IsHeld, first_held, first_name, in_shares}
use Rattle.slots.specs.Lasting.{Lasting, IsLasting, IsFirstRecord, IsNameOf, IsOwnName, IsRecord, slot_of}
use Rattle.slots.proofs.Slots.{first_slot, node_lap, one_found, same_start, scx_lap}

-- where a place is among the shares
record SharePlace (first share passes k : ℕ) : Type 0 where
  pass : ℕ
  index : ℕ
  is_pass : pass < passes
  within : index < share
  is : first + pass * share + index ≡ k
  pass_is : pass ≡ (k - first) / share
  index_is : index ≡ (k - first) % share

place_in : (first share passes k : ℕ) → first ≤ k → k < first + passes * share → SharePlace first share passes k
place_in first zero passes k from below = absurd (let none : passes * 0 ≡ 0 = omega arith in omega (arith, from, below, none))
place_in first (suc n) passes k from below = record {
  pass = (k - first) / suc n;
  index = (k - first) % suc n;
  is_pass = div_below (k - first) (suc n) passes (omega arith) (omega (arith, from, below));
  within = mod-lt (k - first) (omega arith);
  is = let split = div-add-mod' (k - first) (suc n) in omega (arith, split, from);
  pass_is = refl;
  index_is = refl;
}

-- and which number is there
shared : (first share all o i : ℕ) → i < share → in_shares first share all (first + o * share + i) ≡ first + o * all + i
shared first share all o i small =
    let gap : first + o * share + i - first ≡ o * share + i = omega arith in
    rw (gap, div-mul-add o share i small, mod-mul-add o share i small) refl

module _ (t : Lasting) (fit : IsLasting t) where
  first_node_is : (k : ℕ) → opening_nodes t.table ≤ k → k < all_nodes t.table → IsNameOf t (the_node k) (the_node (in_shares (opening_nodes t.table) t.table.nodes t.lay.nodes k))
  first_node_is k from below = record { slot_is = slot; name = inr (place.pass, is_pass, own) }
    where
      place : SharePlace (opening_nodes t.table) t.table.nodes t.table.passes k
      place = place_in (opening_nodes t.table) t.table.nodes t.table.passes k from below

      is_pass : place.pass < t.lay.passes
      is_pass = rw fit.passes place.is_pass

      same : first_node t.lay place.pass + (0 * t.node_turn + place.index) ≡ in_shares (opening_nodes t.table) t.table.nodes t.lay.nodes k
      same = let start = same_start t fit in rw (← place.pass_is, ← place.index_is) (omega (arith, start))

      lap : IsOwnName t place.pass (the_node (first_node t.lay place.pass + (0 * t.node_turn + place.index))) × (slot_of t (the_node (first_node t.lay place.pass + (0 * t.node_turn + place.index))) ≡ the_node (first_node t.table place.pass + place.index))
      lap = node_lap t fit place.pass 0 place.index is_pass (omega arith) place.within

      own : IsOwnName t place.pass (the_node (in_shares (opening_nodes t.table) t.table.nodes t.lay.nodes k))
      own = subst (λ n. IsOwnName t place.pass (the_node n)) same lap.0

      slot : slot_of t (the_node (in_shares (opening_nodes t.table) t.table.nodes t.lay.nodes k)) ≡ the_node k
      slot = ap (λ n. slot_of t (the_node n)) (sym same) ∙ lap.1 ∙ ap the_node place.is

  first_scx_is : (k : ℕ) → 1 ≤ k → k < all_scx t.table → IsNameOf t (the_scx k) (the_scx (in_shares 1 t.table.scx t.lay.scx k))
  first_scx_is k from below = record { slot_is = slot; name = inr (place.pass, is_pass, own) }
    where
      place : SharePlace 1 t.table.scx t.table.passes k
      place = place_in 1 t.table.scx t.table.passes k from below

      is_pass : place.pass < t.lay.passes
      is_pass = rw fit.passes place.is_pass

      same : first_scx t.lay place.pass + (0 * t.scx_turn + place.index) ≡ in_shares 1 t.table.scx t.lay.scx k
      same = rw (← place.pass_is, ← place.index_is) (omega arith)

      lap : IsOwnName t place.pass (the_scx (first_scx t.lay place.pass + (0 * t.scx_turn + place.index))) × (slot_of t (the_scx (first_scx t.lay place.pass + (0 * t.scx_turn + place.index))) ≡ the_scx (first_scx t.table place.pass + place.index))
      lap = scx_lap t fit place.pass 0 place.index is_pass (omega arith) place.within

      own : IsOwnName t place.pass (the_scx (in_shares 1 t.table.scx t.lay.scx k))
      own = subst (λ n. IsOwnName t place.pass (the_scx n)) same lap.0

      slot : slot_of t (the_scx (in_shares 1 t.table.scx t.lay.scx k)) ≡ the_scx k
      slot = ap (λ n. slot_of t (the_scx n)) (sym same) ∙ lap.1 ∙ ap the_scx place.is

  first_is : (slot : Record) → IsRecord t.table slot → IsNameOf t slot (first_name t slot)
  first_is (the_node k) i = go (ltb k (opening_nodes t.table)) refl
    where
      go : (b : Bool) → ltb k (opening_nodes t.table) ≡ b → IsNameOf t (the_node k) (cond b (the_node k) (the_node (in_shares (opening_nodes t.table) t.table.nodes t.lay.nodes k)))
      go true e = let first : k < opening_nodes t.lay = (let same = same_start t fit in let low = ltb-true k (opening_nodes t.table) e in omega (arith, same, low)) in record { slot_is = first_slot t fit (the_node k) first; name = inl first }
      go false e = first_node_is k (ltb-false k (opening_nodes t.table) e) i
  first_is (the_scx k) i = go (ltb k 1) refl
    where
      go : (b : Bool) → ltb k 1 ≡ b → IsNameOf t (the_scx k) (cond b (the_scx k) (the_scx (in_shares 1 t.table.scx t.lay.scx k)))
      go true e = let first : k ≡ 0 = (let low = ltb-true k 1 e in omega (arith, low)) in record { slot_is = first_slot t fit (the_scx k) first; name = inl first }
      go false e = first_scx_is k (ltb-false k 1 e) i

  first_own : (slot x : Record) → first_held t slot ≡ Some x → IsNameOf t slot x
  first_own (the_node k) x is = go (ltb k (all_nodes t.table)) refl is
    where
      go : (b : Bool) → ltb k (all_nodes t.table) ≡ b → cond b (Some (first_name t (the_node k))) None ≡ Some x → IsNameOf t (the_node k) x
      go true e q = subst (IsNameOf t (the_node k)) (one_found (first_name t (the_node k)) x q) (first_is (the_node k) (ltb-true k (all_nodes t.table) e))
      go false e q = absurd (let d : None ≡ Some x = q in cc)
  first_own (the_scx k) x is = go (ltb k (all_scx t.table)) refl is
    where
      go : (b : Bool) → ltb k (all_scx t.table) ≡ b → cond b (Some (first_name t (the_scx k))) None ≡ Some x → IsNameOf t (the_scx k) x
      go true e q = subst (IsNameOf t (the_scx k)) (one_found (first_name t (the_scx k)) x q) (first_is (the_scx k) (ltb-true k (all_scx t.table) e))
      go false e q = absurd (let d : None ≡ Some x = q in cc)

  first_there : (x : Record) → IsFirstRecord t.lay x → first_held t x ≡ Some x
  first_there (the_node k) first =
      let low : k < opening_nodes t.table = (let same = same_start t fit in omega (arith, same, first)) in
      rw (lt-ltb k (all_nodes t.table) (omega (arith, low)), lt-ltb k (opening_nodes t.table) low) refl
  first_there (the_scx k) first = rw (lt-ltb k (all_scx t.table) (omega (arith, first)), lt-ltb k 1 (omega (arith, first))) refl

  pub first_names : AreNames t (first_held t)
  first_names = record { own = first_own; first = λ x first. ap (first_held t) (first_slot t fit x first) ∙ first_there x first }

  -- each name of a pass's first lap is held
  module _ (o i : ℕ) (is_pass : o < t.lay.passes) where
    pub first_nodes_held : i < t.table.nodes → IsHeld t (first_held t) (the_node (first_node t.lay o + i))
    first_nodes_held small = ap (first_held t) slot ∙ rw (lt-ltb k (all_nodes t.table) inside, le-ltb k (opening_nodes t.table) (omega arith)) (ap (λ n. Some (the_node n)) there)
      where
        k : ℕ
        k = first_node t.table o + i

        inside : k < all_nodes t.table
        inside = own_node_inside t.table o k (rw fit.passes at is_pass) record { from = omega arith; below = omega (arith, small) }

        slot : slot_of t (the_node (first_node t.lay o + i)) ≡ the_node k
        slot = ap (λ n. slot_of t (the_node n)) (omega arith) ∙ (node_lap t fit o 0 i is_pass (omega arith) small).1

        there : in_shares (opening_nodes t.table) t.table.nodes t.lay.nodes k ≡ first_node t.lay o + i
        there = shared (opening_nodes t.table) t.table.nodes t.lay.nodes o i small ∙ (let start = same_start t fit in omega (arith, start))

    pub first_scx_held : i < t.table.scx → IsHeld t (first_held t) (the_scx (first_scx t.lay o + i))
    first_scx_held small = ap (first_held t) slot ∙ rw (lt-ltb k (all_scx t.table) inside, le-ltb k 1 (omega arith)) (ap (λ n. Some (the_scx n)) there)
      where
        k : ℕ
        k = first_scx t.table o + i

        inside : k < all_scx t.table
        inside = own_scx_inside t.table o k (rw fit.passes at is_pass) record { from = omega arith; below = omega (arith, small) }

        slot : slot_of t (the_scx (first_scx t.lay o + i)) ≡ the_scx k
        slot = ap (λ n. slot_of t (the_scx n)) (omega arith) ∙ (scx_lap t fit o 0 i is_pass (omega arith) small).1

        there : in_shares 1 t.table.scx t.lay.scx k ≡ first_scx t.lay o + i
        there = shared 1 t.table.scx t.lay.scx o i small
