-- What the search for the next key on a side of k finds is what the pairs of the tree say: a leaf
-- above all keys has no pair.
use Rattle.std.proofs.Common.{◌≡◌, ℕ, ◌^◌, ◌<◌, ◌≤◌, Bool, true, false, cond, ltb, ◌⊎◌, inl, inr, List, [], ◌∷◌, refl, sym, ◌∙◌, ap, arith, lt-ltb, le-ltb, Option, Some, None, unwrap_or}
use Rattle.histories.specs.Common.{Layout, Side, Left, Right, Word}
use Rattle.ordered_map.specs.declared.pair.Pair.{Pair}
use Rattle.ordered_map.specs.OrderedMap.{AllAbove, IsRising, successor, predecessor, neighbour}
use Rattle.ordered_map.specs.Spelled.{Spells}
use Rattle.ordered_map.proofs.Trees.{items, split_at}
use Rattle.ordered_map.proofs.Growing.{low, pairs_low, items_rise}

-- a pair of a key of the map, and none above all keys
abbrev pub low_pair : Option Pair → Option Pair
low_pair None = None
low_pair (Some p) = cond (ltb p.key (2 ^ 64)) (Some p) None

pub pair_stays : (p : Pair) → p.key < 2 ^ 64 → low_pair (Some p) ≡ Some p
pair_stays p l = rw (lt-ltb p.key (2 ^ 64) l) refl

pub pair_goes : (p : Pair) → 2 ^ 64 ≤ p.key → low_pair (Some p) ≡ None
pair_goes p l = rw (le-ltb p.key (2 ^ 64) l) refl

-- the pairs are the items below 2 ^ 64

next_low : (k : ℕ) (xs : List Pair) → IsRising xs → successor k (low xs) ≡ low_pair (successor k xs)
unfolding low
next_low k [] r = refl
next_low k (x ∷ xs) r = go (split_at x.key (2 ^ 64)) (next_low k xs r.1)
  where
    none_low : (ys : List Pair) → 2 ^ 64 ≤ x.key → AllAbove x.key ys → low ys ≡ []
    none_low [] l a = refl
    none_low (y ∷ ys) l a = rw (le-ltb y.key (2 ^ 64) (let m = a.0 in omega (arith, l, m))) (none_low ys l a.1)

    stays : (b : Bool) → x.key < 2 ^ 64 → successor k (low xs) ≡ low_pair (successor k xs) → cond b (Some x) (successor k (low xs)) ≡ low_pair (cond b (Some x) (successor k xs))
    stays true l e = sym (pair_stays x l)
    stays false l e = e

    goes : (b : Bool) → 2 ^ 64 ≤ x.key → successor k (low xs) ≡ low_pair (successor k xs) → successor k (low xs) ≡ low_pair (cond b (Some x) (successor k xs))
    goes true l e = ap (successor k) (none_low xs l r.0) ∙ sym (pair_goes x l)
    goes false l e = e

    go : (x.key < 2 ^ 64) ⊎ (2 ^ 64 ≤ x.key) → successor k (low xs) ≡ low_pair (successor k xs) → successor k (cond (ltb x.key (2 ^ 64)) (x ∷ low xs) (low xs)) ≡ low_pair (cond (ltb k x.key) (Some x) (successor k xs))
    go (inl l) e = ap (λ (b : Bool). successor k (cond b (x ∷ low xs) (low xs))) (lt-ltb x.key (2 ^ 64) l) ∙ stays (ltb k x.key) l e
    go (inr l) e = ap (λ (b : Bool). successor k (cond b (x ∷ low xs) (low xs))) (le-ltb x.key (2 ^ 64) l) ∙ goes (ltb k x.key) l e

before_low : (k : ℕ) (xs : List Pair) → k < 2 ^ 64 → predecessor k (low xs) ≡ predecessor k xs
unfolding low
before_low k [] small = refl
before_low k (x ∷ xs) small = go (split_at x.key (2 ^ 64)) (before_low k xs small)
  where
    go : (x.key < 2 ^ 64) ⊎ (2 ^ 64 ≤ x.key) → predecessor k (low xs) ≡ predecessor k xs → predecessor k (cond (ltb x.key (2 ^ 64)) (x ∷ low xs) (low xs)) ≡ cond (ltb x.key k) (Some (unwrap_or (predecessor k xs) x)) (predecessor k xs)
    go (inl l) e = ap (λ (b : Bool). predecessor k (cond b (x ∷ low xs) (low xs))) (lt-ltb x.key (2 ^ 64) l) ∙ ap (λ o. cond (ltb x.key k) (Some (unwrap_or o x)) o) e
    go (inr l) e = ap (λ (b : Bool). predecessor k (cond b (x ∷ low xs) (low xs))) (le-ltb x.key (2 ^ 64) l) ∙ e ∙ sym (ap (λ (b : Bool). cond b (Some (unwrap_or (predecessor k xs) x)) (predecessor k xs)) (le-ltb x.key k (omega (arith, l, small))))

-- what is found below k is below it
abbrev IsBelow : ℕ → Option Pair → Type 0
IsBelow k None = Unit {0}
IsBelow k (Some p) = p.key < k

before_less : (k : ℕ) (xs : List Pair) → IsBelow k (predecessor k xs)
before_less k [] = tt
before_less k (x ∷ xs) = go (split_at x.key k) (predecessor k xs) (before_less k xs)
  where
    go : (x.key < k) ⊎ (k ≤ x.key) → (o : Option Pair) → IsBelow k o → IsBelow k (cond (ltb x.key k) (Some (unwrap_or o x)) o)
    go (inl l) None i = rw (lt-ltb x.key k l) l
    go (inl l) (Some p) i = rw (lt-ltb x.key k l) i
    go (inr l) o i = rw (le-ltb x.key k l) i

below_stays : (k : ℕ) (o : Option Pair) → k < 2 ^ 64 → IsBelow k o → o ≡ low_pair o
below_stays k None small i = refl
below_stays k (Some p) small i = sym (pair_stays p (omega (arith, i, small)))

found_low : (side : Side) (k : ℕ) (xs : List Pair) → k < 2 ^ 64 → IsRising xs → neighbour side k (low xs) ≡ low_pair (neighbour side k xs)
found_low Left k xs small rises = before_low k xs small ∙ below_stays k (predecessor k xs) small (before_less k xs)
found_low Right k xs small rises = next_low k xs rises

-- where words spell a map, the search in their tree finds its next key on this side of k
pub search_tells : (side : Side) (lay : Layout) (f : Word → ℕ) (m : List Pair) (k : ℕ) (x : Spells lay f m) → k < 2 ^ 64 → neighbour side k m ≡ low_pair (neighbour side k (items f x.tree))
search_tells side lay f m k x small =
    ap (neighbour side k) (sym x.pairs ∙ pairs_low f x.tree _ _ x.is_tree.shows)
    ∙ found_low side k (items f x.tree) small (items_rise f x.tree _ _ x.is_tree.shows)
