-- Pairs that rise, before a place and from it on.
use Rattle.std.proofs.Common.{◌≡◌, ℕ, suc, zero, ◌-◌, ◌<◌, ◌≤◌, true, false, nat_lt, slice_index_or, List, [], ◌∷◌, ◌++◌, length, take, drop, sym, ◌∙◌, ap, subst, arith}
use native.Mathlib.Decide.{dec_lt}
use Rattle.ordered_map.specs.declared.pair.Pair.{Pair}
use Rattle.ordered_map.specs.OrderedMap.{AllAbove, AllBelow, AllFrom, IsRising}
use Rattle.std.specs.List.Sorted.{IsPartitionedBy, IsPartitionPoint}
use Rattle.std.proofs.lemmas.Bool.Decides.{nat_tests}
use Rattle.std.proofs.lemmas.List.{take-append-drop}
use Rattle.ordered_map.specs.Bits.{PartsKeys}
use Rattle.planting.specs.Groves.{IsPartedAt}
use Rattle.planting.proofs.Groves.{from_front, below_back}

pub below_at : (k : ℕ) (ps : List Pair) (i : ℕ) (d : Pair) → AllBelow k ps → i < length ps → (slice_index_or ps i d).key < k
below_at k [] i d a l = absurd (omega (arith, l))
below_at k (p ∷ ps) zero d a l = a.0
below_at k (p ∷ ps) (suc i) d a l = below_at k ps i d a.1 (omega (arith, l))

pub from_at : (k : ℕ) (ps : List Pair) (i : ℕ) (d : Pair) → AllFrom k ps → i < length ps → k ≤ (slice_index_or ps i d).key
from_at k [] i d a l = absurd (omega (arith, l))
from_at k (p ∷ ps) zero d a l = a.0
from_at k (p ∷ ps) (suc i) d a l = from_at k ps i d a.1 (omega (arith, l))

above_at : (k : ℕ) (ps : List Pair) (i : ℕ) (d : Pair) → AllAbove k ps → i < length ps → k < (slice_index_or ps i d).key
above_at k [] i d a l = absurd (omega (arith, l))
above_at k (p ∷ ps) zero d a l = a.0
above_at k (p ∷ ps) (suc i) d a l = above_at k ps i d a.1 (omega (arith, l))

from_above : (k : ℕ) (ps : List Pair) → AllAbove k ps → AllFrom k ps
from_above k [] a = tt
from_above k (p ∷ ps) a = ((let l = a.0 in omega (arith, l)), from_above k ps a.1)

pub rising_at : (ps : List Pair) (i j : ℕ) (d : Pair) → IsRising ps → i < j → j < length ps → (slice_index_or ps i d).key < (slice_index_or ps j d).key
rising_at [] i j d r l m = absurd (omega (arith, m))
rising_at (p ∷ ps) i zero d r l m = absurd (omega (arith, l))
rising_at (p ∷ ps) zero (suc j) d r l m = above_at p.key ps j d r.0 (omega (arith, m))
rising_at (p ∷ ps) (suc i) (suc j) d r l m = rising_at ps i j d r.1 (omega (arith, l)) (omega (arith, m))

pub take_below : (ps : List Pair) (m : ℕ) (d : Pair) → IsRising ps → m < length ps → AllBelow (slice_index_or ps m d).key (take m ps)
take_below [] m d r l = absurd (omega (arith, l))
take_below (p ∷ ps) zero d r l = tt
take_below (p ∷ ps) (suc m) d r l = (above_at p.key ps m d r.0 (omega (arith, l)), take_below ps m d r.1 (omega (arith, l)))

pub drop_from : (ps : List Pair) (m : ℕ) (d : Pair) → IsRising ps → m < length ps → AllFrom (slice_index_or ps m d).key (drop m ps)
drop_from [] m d r l = absurd (omega (arith, l))
drop_from (p ∷ ps) zero d r l = (omega arith, from_above p.key ps r.0)
drop_from (p ∷ ps) (suc m) d r l = drop_from ps m d r.1 (omega (arith, l))

pub last_most : (ps : List Pair) (n : ℕ) (d : Pair) → length ps ≡ suc n → IsRising ps → AllBelow (suc (slice_index_or ps n d).key) ps
last_most [] n d e r = tt
last_most (p ∷ []) zero d e r = (omega arith, tt)
last_most (p ∷ q ∷ ps) zero d e r = absurd (omega (arith, e))
last_most (p ∷ []) (suc n) d e r = absurd (omega (arith, e))
last_most (p ∷ q ∷ ps) (suc n) d e r =
    let rest : AllBelow (suc (slice_index_or (q ∷ ps) n d).key) (q ∷ ps) = last_most (q ∷ ps) n d (omega (arith, e)) r.1 in
    let first = r.0.0 in
    let next = rest.0 in
    (omega (arith, first, next), rest)

above_take : (k m : ℕ) (ps : List Pair) → AllAbove k ps → AllAbove k (take m ps)
above_take k zero ps a = tt
above_take k (suc m) [] a = tt
above_take k (suc m) (p ∷ ps) a = (a.0, above_take k m ps a.1)

pub below_take : (k m : ℕ) (ps : List Pair) → AllBelow k ps → AllBelow k (take m ps)
below_take k zero ps a = tt
below_take k (suc m) [] a = tt
below_take k (suc m) (p ∷ ps) a = (a.0, below_take k m ps a.1)

pub below_drop : (k m : ℕ) (ps : List Pair) → AllBelow k ps → AllBelow k (drop m ps)
below_drop k zero ps a = a
below_drop k (suc m) [] a = tt
below_drop k (suc m) (p ∷ ps) a = below_drop k m ps a.1

pub rising_take : (m : ℕ) (ps : List Pair) → IsRising ps → IsRising (take m ps)
rising_take zero ps r = tt
rising_take (suc m) [] r = tt
rising_take (suc m) (p ∷ ps) r = (above_take p.key m ps r.0, rising_take m ps r.1)

pub rising_drop : (m : ℕ) (ps : List Pair) → IsRising ps → IsRising (drop m ps)
rising_drop zero ps r = r
rising_drop (suc m) [] r = tt
rising_drop (suc m) (p ∷ ps) r = rising_drop m ps r.1

-- where a test parts them
pub point_below : (k : ℕ) (ps : List Pair) (i : ℕ) → i ≤ length ps → ((j : ℕ) (d : Pair) → j < i → (slice_index_or ps j d).key < k) → AllBelow k (take i ps)
point_below k ps zero l a = tt
point_below k [] (suc i) l a = tt
point_below k (p ∷ ps) (suc i) l a = (a 0 p (omega arith), point_below k ps i (omega (arith, l)) (λ j d m. a (suc j) d (omega (arith, m))))

pub point_from : (k : ℕ) (ps : List Pair) (i : ℕ) → ((j : ℕ) (d : Pair) → i ≤ j → j < length ps → k ≤ (slice_index_or ps j d).key) → AllFrom k (drop i ps)
point_from k [] zero a = tt
point_from k [] (suc i) a = tt
point_from k (p ∷ ps) zero a = (a 0 p (omega arith) (omega arith), point_from k ps 0 (λ j d _ m. a (suc j) d (omega arith) (omega (arith, m))))
point_from k (p ∷ ps) (suc i) a = point_from k ps i (λ j d l m. a (suc j) d (omega (arith, l)) (omega (arith, m)))

module _ (ps : List Pair) (i key here : ℕ) (d : Pair) (many : 4 < length ps) (rises : IsRising ps) (bound : i ≤ length ps)
    (parts : (slice_index_or ps 0 d).key < (slice_index_or ps (length ps - 1) d).key → PartsKeys (slice_index_or ps 0 d).key (slice_index_or ps (length ps - 1) d).key key here)
    (point : IsPartitionedBy (λ (p : Pair). nat_lt p.key key) ps → IsPartitionPoint (λ (p : Pair). nat_lt p.key key ≡ true) (λ (p : Pair). nat_lt p.key key ≡ false) ps i) where
  abbrev first : ℕ
  first = (slice_index_or ps 0 d).key

  abbrev last : ℕ
  last = (slice_index_or ps (length ps - 1) d).key

  in_order : IsPartitionedBy (λ (p : Pair). nat_lt p.key key) ps
  in_order a b e l m is = go (dec_lt a b)
    where
      go : Dec (a < b) → nat_lt (slice_index_or ps a e).key key ≡ true
      go (yes less) = let up = rising_at ps a b e rises less m in grind (arith, nat_tests)
      go (no not_less) = ap (λ t. nat_lt (slice_index_or ps t e).key key) (let same : a ≡ b = omega (arith, l, not_less) in same) ∙ is

  at_point : IsPartitionPoint (λ (p : Pair). nat_lt p.key key ≡ true) (λ (p : Pair). nat_lt p.key key ≡ false) ps i
  at_point = point in_order

  before : AllBelow key (take i ps)
  before = point_below key ps i bound (λ j e l. let t = at_point.0 j e (omega arith) l in grind (arith, nat_tests))

  behind : AllFrom key (drop i ps)
  behind = point_from key ps i (λ j e l m. let t = at_point.1 j e l m in grind (arith, nat_tests))

  are_parted : PartsKeys first last key here
  are_parted = parts (rising_at ps 0 (length ps - 1) d rises (omega (arith, many)) (omega (arith, many)))

  whole : take i ps ++ drop i ps ≡ ps
  whole = take-append-drop i ps

  last_below : AllBelow (suc last) ps
  last_below = last_most ps (length ps - 1) d (omega (arith, many)) rises

  pub point_parts : (deep : ℕ) → IsPartedAt true ps deep i key here
  point_parts deep = record {
    some = some_before (dec_lt 0 i);
    less = less_before (dec_lt i (length ps));
    below = before;
    from = behind;
    fits = (let most = are_parted.fork.deep in omega (arith, most));
    full = λ is. absurd (let z : true ≡ false = is in cc);
    in_tree = λ is. absurd (let z : true ≡ false = is in cc);
    in_trie = λ _. record {
      first = first;
      last = last;
      parts = are_parted;
      from = from_front first (take i ps) (drop i ps) (subst (AllFrom first) (sym whole) (drop_from ps 0 d rises (omega (arith, many))));
      below = below_back (suc last) (take i ps) (drop i ps) (subst (AllBelow (suc last)) (sym whole) last_below);
      between = λ lo hi low high.
          let low_all : AllFrom lo ps = subst (AllFrom lo) whole low in
          let high_all : AllBelow hi ps = subst (AllBelow hi) whole high in
          (from_at lo ps 0 d low_all (omega (arith, many)), below_at hi ps 0 d high_all (omega (arith, many)), from_at lo ps (length ps - 1) d low_all (omega (arith, many)), below_at hi ps (length ps - 1) d high_all (omega (arith, many)));
    };
  }
    where
      some_before : Dec (0 < i) → 0 < i
      some_before (yes l) = l
      some_before (no n) = absurd (
          let none : i ≡ 0 = omega (arith, n) in
          let all : AllFrom key ps = subst (λ m. AllFrom key (drop m ps)) none behind in
          let at = from_at key ps 0 d all (omega (arith, many)) in
          let under = are_parted.below in
          omega (arith, at, under))

      less_before : Dec (i < length ps) → i < length ps
      less_before (yes l) = l
      less_before (no n) = absurd (
          let at = at_point.0 (length ps - 1) d (omega arith) (omega (arith, n, many)) in
          let under : last < key = grind (arith, nat_tests) in
          let above = are_parted.above in
          omega (arith, under, above))
