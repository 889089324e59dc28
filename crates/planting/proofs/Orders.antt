-- Pairs rise where each key is above the one before.
use Rattle.std.proofs.Common.{◌≡◌, ℕ, suc, ◌+◌, ◌-◌, ◌<◌, ◌≤◌, List, [], ◌∷◌, length, ap, arith}
use native.Mathlib.Decide.{dec_lt}
use Rattle.ordered_map.specs.declared.pair.Pair.{Pair}
use Rattle.ordered_map.specs.OrderedMap.{pair, AllAbove, IsRising}
use Rattle.planting.specs.Orders.{nth_key, AreStepsUp}
use Rattle.planting.proofs.Parts.{rising_at}

-- one more
pub steps_more : (ps : List Pair) (at : ℕ) → AreStepsUp ps at → 1 ≤ at → nth_key ps (at - 1) < nth_key ps at → AreStepsUp ps (at + 1)
steps_more ps at up some l i less inside = go (dec_lt (suc i) at)
  where
    go : Dec (suc i < at) → nth_key ps i < nth_key ps (suc i)
    go (yes k) = up i k inside
    go (no d) =
        let here : nth_key ps (at - 1) ≡ nth_key ps i = ap (nth_key ps) (omega (arith, d, less, some)) in
        let next : nth_key ps at ≡ nth_key ps (suc i) = ap (nth_key ps) (omega (arith, d, less)) in
        omega (arith, l, here, next)

lower : (j m : ℕ) (qs : List Pair) → j < m → AllAbove m qs → AllAbove j qs
lower j m [] l a = tt
lower j m (q ∷ qs) l a = ((let b = a.0 in omega (arith, l, b)), lower j m qs l a.1)

pub rises : (ps : List Pair) → ((i : ℕ) → suc i < length ps → nth_key ps i < nth_key ps (suc i)) → IsRising ps
rises [] up = tt
rises (p ∷ []) up = (tt, tt)
rises (p ∷ q ∷ qs) up =
    let rest : IsRising (q ∷ qs) = rises (q ∷ qs) (λ i l. up (suc i) (omega (arith, l))) in
    let first : p.key < q.key = up 0 (omega arith) in
    ((first, lower p.key q.key qs first rest.0), rest)

-- where one key is not above the one before, they do not
pub not_rising : (ps : List Pair) (at : ℕ) → 1 ≤ at → at < length ps → nth_key ps at ≤ nth_key ps (at - 1) → ¬ IsRising ps
not_rising ps at some inside down up = let l = rising_at ps (at - 1) at (pair 0 0) up (omega (arith, some)) inside in omega (arith, l, down)
