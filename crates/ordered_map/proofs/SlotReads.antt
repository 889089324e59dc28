-- What a leaf says of a key that is read slot by slot. Each slot has its pair, or leaves it to
-- those behind it.
use Rattle.std.proofs.Common.{◌≡◌, ◌≢◌, ℕ, ◌<◌, List, ◌∷◌, refl, ◌∙◌, ap, arith, subst, eq-eqb, ne_eqb, Some, None}
use Rattle.histories.specs.Common.{Settled, More, Key, Slot, Word, node}
use Rattle.ordered_map.specs.declared.pair.Pair.{Pair}
use Rattle.ordered_map.specs.OrderedMap.{IsRising, get}
use Rattle.ordered_map.specs.Holding.{slot_behind, pair_in, held_from, held_behind}
use Rattle.ordered_map.proofs.Holding.{held_next}
use Rattle.ordered_map.proofs.Lists.{above_less}
use Rattle.ordered_map.proofs.Maps.{get_above}

-- Slot by slot

module _ (f : Word → ℕ) (n : ℕ) (slot : Slot) where
  abbrev key_here : ℕ
  key_here = f (node n (Settled (Key slot)))

  abbrev pairs_behind : List Pair
  pairs_behind = held_behind f n (slot_behind (f (node n (Settled More))) slot)

  rises_here : IsRising (held_from f n slot) → IsRising (pair_in f n slot ∷ pairs_behind)
  rises_here = subst IsRising (held_next f n slot)

  -- a key is in this slot, or later if it is another one, and not if it is below that of the slot
  pub get_here : (k : ℕ) → k ≡ f (node n (Settled (Key slot))) → get k (held_from f n slot) ≡ Some (pair_in f n slot).value
  get_here k e = ap (get k) (held_next f n slot) ∙ rw (eq-eqb k key_here e) refl

  pub get_behind : (k : ℕ) → k ≢ f (node n (Settled (Key slot))) → get k (held_from f n slot) ≡ get k (held_behind f n (slot_behind (f (node n (Settled More))) slot))
  get_behind k d = ap (get k) (held_next f n slot) ∙ rw (ne_eqb k key_here d) refl

  pub get_nowhere : (k : ℕ) → IsRising (held_from f n slot) → k < f (node n (Settled (Key slot))) → get k (held_from f n slot) ≡ None
  get_nowhere k rises low = get_behind k (λ e. omega (arith, e, low)) ∙ get_above k pairs_behind (above_less k key_here pairs_behind (omega (arith, low)) (rises_here rises).0)
