-- How long lists of pairs are after an edit, and in which order their parts are.
use Rattle.std.proofs.Common.{◌≡◌, ◌≢◌, ℕ, zero, suc, ◌+◌, ◌<◌, ◌≤◌, Bool, true, false, ◌==◌, if◌then◌else◌, List, [], ◌∷◌, ◌++◌, length, take, drop, Some, None, refl, sym, ◌∙◌, ap, arith, eq-eqb, ne_eqb, lt-ltb, le-ltb, unwrap_or}
use Rattle.std.specs.Prelude.{nat_lt}
use Rattle.std.proofs.Math.Decide.{dec_lt}
use native.Mathlib.Decide.{ℕ_discrete}
use Rattle.ordered_map.specs.declared.pair.Pair.{Pair}
use Rattle.ordered_map.specs.OrderedMap.{pair, insert, delete, first_pair, get, last_pair, AllAbove, AllBelow, AllFrom, IsRising}
use Rattle.ordered_map.proofs.Lemmas.{get_above}
use Rattle.edits.specs.Pairs.{below, pair_at}

-- Inserts

pub insert_some : (k v : ℕ) (ps : List Pair) → 0 < length (insert k v ps)
insert_some k v [] = omega arith
insert_some k v (p ∷ ps) = go (nat_lt k p.key) (k == p.key)
  where
    go : (t u : Bool) → 0 < length (if t then pair k v ∷ p ∷ ps else (if u then pair k v ∷ ps else p ∷ insert k v ps))
    go true u = omega arith
    go false true = omega arith
    go false false = omega arith

pub insert_most : (k v : ℕ) (ps : List Pair) → length (insert k v ps) ≤ 1 + length ps
insert_most k v [] = omega arith
insert_most k v (p ∷ ps) = go (nat_lt k p.key) (k == p.key) (insert_most k v ps)
  where
    go : (t u : Bool) → length (insert k v ps) ≤ 1 + length ps → length (if t then pair k v ∷ p ∷ ps else (if u then pair k v ∷ ps else p ∷ insert k v ps)) ≤ 1 + suc (length ps)
    go true u i = omega arith
    go false true i = omega arith
    go false false i = omega (arith, i)

pub insert_least : (k v : ℕ) (ps : List Pair) → length ps ≤ length (insert k v ps)
insert_least k v [] = omega arith
insert_least k v (p ∷ ps) = go (nat_lt k p.key) (k == p.key) (insert_least k v ps)
  where
    go : (t u : Bool) → length ps ≤ length (insert k v ps) → suc (length ps) ≤ length (if t then pair k v ∷ p ∷ ps else (if u then pair k v ∷ ps else p ∷ insert k v ps))
    go true u i = omega arith
    go false true i = omega arith
    go false false i = omega (arith, i)

-- a present key adds none
pub insert_present : (k v old : ℕ) (ps : List Pair) → IsRising ps → get k ps ≡ Some old → length (insert k v ps) ≡ length ps
insert_present k v old [] r e = absurd (let z : None ≡ Some old = e in cc)
insert_present k v old (p ∷ ps) r e = go (λ there. insert_present k v old ps r.1 there) (ℕ_discrete k p.key)
  where
    above : k < p.key → AllAbove k ps
    above l = further ps r.0
      where
        further : (qs : List Pair) → AllAbove p.key qs → AllAbove k qs
        further [] a = tt
        further (q ∷ qs) a = (let b = a.0 in omega (arith, b, l), further qs a.1)

    other : (get k ps ≡ Some old → length (insert k v ps) ≡ length ps) → k ≢ p.key → Dec (k < p.key) → length (insert k v (p ∷ ps)) ≡ length (p ∷ ps)
    other rest d (yes l) = absurd (let z : None ≡ Some old = sym (get_above k ps (above l)) ∙ (rw (ne_eqb k p.key d) at e) in cc)
    other rest d (no n) = rw (le-ltb k p.key (omega (arith, n)), ne_eqb k p.key d) (ap suc (rest (rw (ne_eqb k p.key d) at e)))

    go : (get k ps ≡ Some old → length (insert k v ps) ≡ length ps) → Dec (k ≡ p.key) → length (insert k v (p ∷ ps)) ≡ length (p ∷ ps)
    go rest (yes is) = rw (le-ltb k p.key (omega (arith, is)), eq-eqb k p.key is) refl
    go rest (no d) = other rest d (dec_lt k p.key)

-- and an absent one adds one
pub insert_absent : (k v : ℕ) (ps : List Pair) → get k ps ≡ None → length (insert k v ps) ≡ 1 + length ps
insert_absent k v [] e = omega arith
insert_absent k v (p ∷ ps) e = go (λ none. insert_absent k v ps none) (ℕ_discrete k p.key)
  where
    other : (get k ps ≡ None → length (insert k v ps) ≡ 1 + length ps) → k ≢ p.key → Dec (k < p.key) → length (insert k v (p ∷ ps)) ≡ 1 + length (p ∷ ps)
    other rest d (yes l) = rw (lt-ltb k p.key l) (omega arith)
    other rest d (no n) = let one : length (insert k v ps) ≡ 1 + length ps = rest (rw (ne_eqb k p.key d) at e) in rw (le-ltb k p.key (omega (arith, n)), ne_eqb k p.key d) (omega (arith, one))

    go : (get k ps ≡ None → length (insert k v ps) ≡ 1 + length ps) → Dec (k ≡ p.key) → length (insert k v (p ∷ ps)) ≡ 1 + length (p ∷ ps)
    go rest (yes is) = absurd (let z : Some p.value ≡ None = rw (eq-eqb k p.key is) at e in cc)
    go rest (no d) = other rest d (dec_lt k p.key)

-- Deletes

pub delete_most : (k : ℕ) (ps : List Pair) → length (delete k ps) ≤ length ps
delete_most k [] = omega arith
delete_most k (p ∷ ps) = go (k == p.key) (delete_most k ps)
  where
    go : (t : Bool) → length (delete k ps) ≤ length ps → length (if t then ps else p ∷ delete k ps) ≤ suc (length ps)
    go true i = omega arith
    go false i = omega (arith, i)

pub delete_least : (k : ℕ) (ps : List Pair) → length ps ≤ 1 + length (delete k ps)
delete_least k [] = omega arith
delete_least k (p ∷ ps) = go (k == p.key) (delete_least k ps)
  where
    go : (t : Bool) → length ps ≤ 1 + length (delete k ps) → suc (length ps) ≤ 1 + length (if t then ps else p ∷ delete k ps)
    go true i = omega arith
    go false i = omega (arith, i)

-- Two parts of a list

pub both_parts : (n : ℕ) (ps : List Pair) → take n ps ++ drop n ps ≡ ps
both_parts zero ps = refl
both_parts (suc n) [] = refl
both_parts (suc n) (p ∷ ps) = ap (λ qs. p ∷ qs) (both_parts n ps)

pub first_long : (ps : List Pair) → 2 ≤ length ps → length (take 2 ps) ≡ 2
first_long [] l = absurd (omega (arith, l))
first_long (a ∷ []) l = absurd (omega (arith, l))
first_long (a ∷ b ∷ ps) l = refl

pub parts_long : (n : ℕ) (ps : List Pair) → length (take n ps) + length (drop n ps) ≡ length ps
parts_long zero ps = omega arith
parts_long (suc n) [] = omega arith
parts_long (suc n) (p ∷ ps) = let e = parts_long n ps in omega (arith, e)

pub first_below : (n hi : ℕ) (ps : List Pair) → AllBelow hi ps → AllBelow hi (take n ps)
first_below zero hi ps x = tt
first_below (suc n) hi [] x = tt
first_below (suc n) hi (p ∷ ps) x = (x.0, first_below n hi ps x.1)

all_from : (k : ℕ) (ps : List Pair) → AllAbove k ps → AllFrom k ps
all_from k [] a = tt
all_from k (p ∷ ps) a = (let b = a.0 in omega (arith, b), all_from k ps a.1)

-- where keys rise, the third is between the parts
pub parts_apart : (ps : List Pair) → 3 ≤ length ps → IsRising ps → AllBelow (pair_at (drop 2 ps) 0).key (take 2 ps) × AllFrom (pair_at (drop 2 ps) 0).key (drop 2 ps)
parts_apart [] l r = absurd (omega (arith, l))
parts_apart (a ∷ []) l r = absurd (omega (arith, l))
parts_apart (a ∷ b ∷ []) l r = absurd (omega (arith, l))
parts_apart (a ∷ b ∷ c ∷ ps) l r = ((r.0.1.0, (r.1.0.0, tt)), (omega arith, all_from c.key ps r.1.1.0))

-- a key is between those in front that are below it and the others
pub below_apart : (k : ℕ) (ps : List Pair) → IsRising ps → AllBelow k (take (below k ps) ps) × AllFrom k (drop (below k ps) ps)
below_apart k [] r = (tt, tt)
below_apart k (p ∷ ps) r = go (below_apart k ps r.1) (dec_lt p.key k)
  where
    above : k ≤ p.key → (qs : List Pair) → AllAbove p.key qs → AllFrom k qs
    above l [] a = tt
    above l (q ∷ qs) a = (let b = a.0 in omega (arith, b, l), above l qs a.1)

    go : AllBelow k (take (below k ps) ps) × AllFrom k (drop (below k ps) ps) → Dec (p.key < k) → AllBelow k (take (below k (p ∷ ps)) (p ∷ ps)) × AllFrom k (drop (below k (p ∷ ps)) (p ∷ ps))
    go rest (yes l) = rw (lt-ltb p.key k l) ((l, rest.0), rest.1)
    go rest (no n) = rw (le-ltb p.key k (omega (arith, n))) (tt, (omega (arith, n), above (omega (arith, n)) ps r.0))

-- where keys rise, the first of two or more is below the last
pub ends_of : (ps : List Pair) → 2 ≤ length ps → IsRising ps → (first_pair ps ≡ Some (pair_at ps 0)) × (last_pair ps ≡ Some (unwrap_or (last_pair ps) (pair 0 0))) × ((pair_at ps 0).key < (unwrap_or (last_pair ps) (pair 0 0)).key)
ends_of [] l r = absurd (omega (arith, l))
ends_of (p ∷ []) l r = absurd (omega (arith, l))
ends_of (p ∷ q ∷ ps) l r = (refl, refl, last_above p.key q ps r.0)
  where
    last_above : (k : ℕ) (q : Pair) (ps : List Pair) → AllAbove k (q ∷ ps) → k < (unwrap_or (last_pair ps) q).key
    last_above k q [] a = a.0
    last_above k q (s ∷ ss) a = last_above k s ss a.1

-- and the last is one of them
pub last_of : (hi : ℕ) (ps : List Pair) → 1 ≤ length ps → AllBelow hi ps → (unwrap_or (last_pair ps) (pair 0 0)).key < hi
last_of hi [] l a = absurd (omega (arith, l))
last_of hi (p ∷ []) l a = a.0
last_of hi (p ∷ q ∷ ps) l a = last_of hi (q ∷ ps) (omega arith) a.1
