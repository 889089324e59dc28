-- The pairs of a leaf, parted at a key between the first and the last: each part has some of them.
use Rattle.std.proofs.Common.{◌≡◌, ℕ, suc, ◌+◌, ◌<◌, ◌≤◌, List, [], ◌∷◌, ◌++◌, length, length-append, sym, ◌∙◌, ap, subst, arith, rules, Some, unwrap_or}
use Rattle.ordered_map.specs.declared.pair.Pair.{Pair}
use Rattle.arena.specs.declared.word.Side.TheVariants.{Right}
use Rattle.ordered_map.specs.OrderedMap.{AllAbove, AllBelow, AllFrom, IsRising, first_pair, last_pair}
use Rattle.ordered_map.proofs.Lists.{below_join, rising_from}
use Rattle.ordered_map.proofs.Maps.{below_end, last_from}

-- The first and the last of some pairs

pub first_from : (low : ℕ) (m : List Pair) (p : Pair) → AllFrom low m → first_pair m ≡ Some p → low ≤ p.key
first_from low [] p a e = absurd (cc)
first_from low (q ∷ qs) p a e = subst (λ (r : Pair). low ≤ r.key) (ap (λ o. unwrap_or o q) e) a.0

pub all_from_first : (m : List Pair) (p : Pair) → IsRising m → first_pair m ≡ Some p → AllFrom p.key m
all_from_first [] p r e = tt
all_from_first (q ∷ qs) p r e = subst (λ (first : Pair). AllFrom first.key (q ∷ qs)) (ap (λ o. unwrap_or o q) e) (rising_from q.key q qs (omega arith) r)

last_up : (q : Pair) (qs : List Pair) (p : Pair) → AllAbove q.key qs → last_pair (q ∷ qs) ≡ Some p → q.key < suc p.key
last_up q qs p a e =
    let is : unwrap_or (last_pair qs) q ≡ p = ap (λ o. unwrap_or o q) e in
    let l = subst (λ (last : Pair). q.key ≤ last.key) is (last_from q qs a) in
    omega (arith, l)

pub all_to_last : (m : List Pair) (p : Pair) → IsRising m → last_pair m ≡ Some p → AllBelow (suc p.key) m
all_to_last [] p r e = tt
all_to_last (q ∷ []) p r e = (last_up q [] p r.0 e, tt)
all_to_last (q ∷ s ∷ ss) p r e = (last_up q (s ∷ ss) p r.0 e, all_to_last (s ∷ ss) p r.1 e)

-- Both parts

pub some_first : (k : ℕ) (xs ys : List Pair) (p : Pair) → first_pair (xs ++ ys) ≡ Some p → p.key < k → AllFrom k ys → 0 < length xs
some_first k [] ys p e l a = let m = first_from k ys p a e in absurd (omega (arith, l, m))
some_first k (x ∷ xs) ys p e l a = search rules

pub some_last : (k : ℕ) (xs ys : List Pair) (p : Pair) → last_pair (xs ++ ys) ≡ Some p → k ≤ p.key → AllBelow k xs → 0 < length ys
some_last k xs [] p e l a = let m = below_end Right k (xs ++ []) p (below_join k xs [] a tt) e in absurd (omega (arith, l, m))
some_last k xs (y ∷ ys) p e l a = search rules

-- of five pairs each part has one to four
pub parts_of_five : (k : ℕ) (xs ys : List Pair) (first last : Pair) → length (xs ++ ys) ≡ 5 → first_pair (xs ++ ys) ≡ Some first → last_pair (xs ++ ys) ≡ Some last → first.key < k → k ≤ last.key → AllBelow k xs → AllFrom k ys → (0 < length xs) × (length xs ≤ 4) × (0 < length ys) × (length ys ≤ 4)
parts_of_five k xs ys first last five f l below from all_below all_from =
    let x = some_first k xs ys first f below all_from in
    let y = some_last k xs ys last l from all_below in
    let n : length xs + length ys ≡ 5 = sym (length-append xs ys) ∙ five in
    (x, omega (arith, n, y), y, omega (arith, n, x))
