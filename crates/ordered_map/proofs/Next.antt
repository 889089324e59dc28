-- The search for the next key on a side of k: the leaf of k, or else the end of what is beside the
-- last fork at which the path of k turns away from that side.
use Rattle.std.proofs.Common.{◌≡◌, ℕ, ◌<◌, ◌≤◌, Bool, true, false, ltb, ◌⊎◌, inl, inr, List, [], ◌∷◌, ◌++◌, refl, sym, ◌∙◌, ap, arith, lt-ltb, le-ltb, cond, Option, Some, None, unwrap_or}
use Rattle.histories.specs.Common.{Side, Left, Right, Word}
use Rattle.ordered_map.specs.declared.pair.Pair.{Pair}
use Rattle.ordered_map.specs.OrderedMap.{pair, first_pair, last_pair, end_pair, successor, predecessor, neighbour, AllBelow, AllAbove}
use Rattle.ordered_map.proofs.Holding.{first_item}
use Rattle.ordered_map.proofs.Maps.{last_join}
use Rattle.ordered_map.proofs.Trees.{items, items_above, items_below, split_at}
use Rattle.ordered_map.specs.TreeWords.{Tree, Leaf, Fork, Shows, rank, toward}

abbrev pub or_else : Option Pair → Option Pair → Option Pair
or_else None d = d
or_else (Some x) d = Some x

pub or_none : (x : Option Pair) → or_else x None ≡ x
or_none None = refl
or_none (Some x) = refl

or_or : (x y d : Option Pair) → or_else (or_else x y) d ≡ or_else x (or_else y d)
or_or None y d = refl
or_or (Some x) y d = refl

-- In two lists

next_join : (k : ℕ) (xs ys : List Pair) → successor k (xs ++ ys) ≡ or_else (successor k xs) (successor k ys)
next_join k [] ys = refl
next_join k (x ∷ xs) ys = go (ltb k x.key) (next_join k xs ys)
  where
    go : (b : Bool) → successor k (xs ++ ys) ≡ or_else (successor k xs) (successor k ys) → cond b (Some x) (successor k (xs ++ ys)) ≡ or_else (cond b (Some x) (successor k xs)) (successor k ys)
    go true e = refl
    go false e = e

-- one pair more in front is found where none is on the right of it
pub found_before : (o rest : Option Pair) (x : Pair) → or_else (Some (unwrap_or o x)) rest ≡ or_else o (Some x)
found_before None rest x = refl
found_before (Some y) rest x = refl

before_join : (k : ℕ) (xs ys : List Pair) → predecessor k (xs ++ ys) ≡ or_else (predecessor k ys) (predecessor k xs)
before_join k [] ys = sym (or_none (predecessor k ys))
before_join k (x ∷ xs) ys = go (ltb x.key k) (before_join k xs ys)
  where
    both : (there here : Option Pair) → Some (unwrap_or (or_else there here) x) ≡ or_else there (Some (unwrap_or here x))
    both None here = refl
    both (Some y) here = refl

    go : (b : Bool) → predecessor k (xs ++ ys) ≡ or_else (predecessor k ys) (predecessor k xs) → cond b (Some (unwrap_or (predecessor k (xs ++ ys)) x)) (predecessor k (xs ++ ys)) ≡ or_else (predecessor k ys) (cond b (Some (unwrap_or (predecessor k xs) x)) (predecessor k xs))
    go true e = ap (λ o. Some (unwrap_or o x)) e ∙ both (predecessor k ys) (predecessor k xs)
    go false e = e

-- where all keys are on one side of k

next_below : (k : ℕ) (xs : List Pair) → AllBelow k xs → successor k xs ≡ None
next_below k [] b = refl
next_below k (x ∷ xs) b = rw (le-ltb k x.key (omega (arith, b.0))) (next_below k xs b.1)

next_above : (k : ℕ) (xs : List Pair) → AllAbove k xs → successor k xs ≡ first_pair xs
next_above k [] a = refl
next_above k (x ∷ xs) a = rw (lt-ltb k x.key a.0) refl

pub before_above : (k : ℕ) (xs : List Pair) → AllAbove k xs → predecessor k xs ≡ None
before_above k [] a = refl
before_above k (x ∷ xs) a = rw (le-ltb x.key k (omega (arith, a.0))) (before_above k xs a.1)

before_below : (k : ℕ) (xs : List Pair) → AllBelow k xs → predecessor k xs ≡ last_pair xs
before_below k [] b = refl
before_below k (x ∷ xs) b = rw (lt-ltb x.key k b.0) (ap (λ o. Some (unwrap_or o x)) (before_below k xs b.1))

-- In a tree

-- the part of a fork on this side
abbrev pub part_on : Side → Tree → Tree → Tree
part_on Left a b = a
part_on Right a b = b

first_join : (xs ys : List Pair) (p : Pair) → first_pair xs ≡ Some p → first_pair (xs ++ ys) ≡ Some p
first_join [] ys p e = absurd (let z : None ≡ Some p = e in cc)
first_join (x ∷ xs) ys p e = e

-- no tree is without an item
tree_end : (side : Side) (f : Word → ℕ) (t : Tree) → (p : Pair) × (end_pair side (items f t) ≡ Some p)
tree_end Left f (Leaf n) = let x = first_item f n in (pair (rank f n) x.value, ap first_pair x.is)
tree_end Right f (Leaf n) = let x = first_item f n in (unwrap_or (last_pair x.rest) (pair (rank f n) x.value), ap last_pair x.is)
tree_end Left f (Fork n a b) = let x = tree_end Left f a in (x.0, first_join (items f a) (items f b) x.0 x.1)
tree_end Right f (Fork n a b) = let x = tree_end Right f b in (x.0, last_join (items f a) (items f b) x.0 x.1)

-- at an end of a fork is what is at the end of its part there
pub end_below : (side : Side) (f : Word → ℕ) (n : ℕ) (a b : Tree) → end_pair side (items f (Fork n a b)) ≡ end_pair side (items f (part_on side a b))
end_below Left f n a b = let x = tree_end Left f a in first_join (items f a) (items f b) x.0 x.1 ∙ sym x.1
end_below Right f n a b = let x = tree_end Right f b in last_join (items f a) (items f b) x.0 x.1 ∙ sym x.1

-- what is left for the search on this side below a fork at which the path turns so: with a turn
-- away from the side the near end of the other part
abbrev pub rest_below : Side → Side → (Word → ℕ) → Tree → Tree → Option Pair → Option Pair
rest_below Right Left f a b rest = end_pair Left (items f b)
rest_below Left Right f a b rest = end_pair Right (items f a)
rest_below _ _ f a b rest = rest

pub search_below : (side : Side) (f : Word → ℕ) (k n : ℕ) (a b : Tree) (lo hi : ℕ) (rest : Option Pair) → Shows f lo hi (Fork n a b) → or_else (neighbour side k (items f (Fork n a b))) rest ≡ or_else (neighbour side k (items f (part_on (toward f n k) a b))) (rest_below side (toward f n k) f a b rest)
search_below side f k n a b lo hi rest s = go side (split_at k (rank f n))
  where
    kept : (end : Side) (t : Tree) → or_else (end_pair end (items f t)) rest ≡ end_pair end (items f t)
    kept end t = let x = tree_end end f t in ap (λ o. or_else o rest) x.1 ∙ sym x.1

    go : (on : Side) → (k < rank f n) ⊎ (rank f n ≤ k) → or_else (neighbour on k (items f a ++ items f b)) rest ≡ or_else (neighbour on k (items f (part_on (toward f n k) a b))) (rest_below on (toward f n k) f a b rest)
    go Right (inl l) =
        let there : successor k (items f b) ≡ first_pair (items f b) = next_above k (items f b) (items_above f b (rank f n) hi k s.2 l) in
        rw (lt-ltb k (rank f n) l) (ap (λ o. or_else o rest) (next_join k (items f a) (items f b) ∙ ap (or_else (successor k (items f a))) there) ∙ or_or (successor k (items f a)) (first_pair (items f b)) rest ∙ ap (or_else (successor k (items f a))) (kept Left b))
    go Right (inr l) =
        let none : successor k (items f a) ≡ None = next_below k (items f a) (items_below f a lo (rank f n) k s.1 l) in
        rw (le-ltb k (rank f n) l) (ap (λ o. or_else o rest) (next_join k (items f a) (items f b) ∙ ap (λ o. or_else o (successor k (items f b))) none))
    go Left (inl l) =
        let none : predecessor k (items f b) ≡ None = before_above k (items f b) (items_above f b (rank f n) hi k s.2 l) in
        rw (lt-ltb k (rank f n) l) (ap (λ o. or_else o rest) (before_join k (items f a) (items f b) ∙ ap (λ o. or_else o (predecessor k (items f a))) none))
    go Left (inr l) =
        let there : predecessor k (items f a) ≡ last_pair (items f a) = before_below k (items f a) (items_below f a lo (rank f n) k s.1 l) in
        rw (le-ltb k (rank f n) l) (ap (λ o. or_else o rest) (before_join k (items f a) (items f b) ∙ ap (or_else (predecessor k (items f b))) there) ∙ or_or (predecessor k (items f b)) (last_pair (items f a)) rest ∙ ap (or_else (predecessor k (items f b))) (kept Right a))
