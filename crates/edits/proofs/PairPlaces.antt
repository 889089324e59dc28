-- What becomes of up to five pairs in their places.
use Rattle.std.proofs.Common.{◌≡◌, ◌≢◌, ℕ, zero, suc, ◌+◌, ◌-◌, ◌<◌, ◌≤◌, Bool, true, false, not, ◌==◌, List, [], ◌∷◌, ◌++◌, length, take, drop, refl, sym, ◌∙◌, ap, subst, arith, eq-eqb, ne_eqb, lt-ltb, le-ltb}
use Rattle.std.specs.Prelude.{min, nat_lt, unwrap_or, slice_set, if◌then◌else◌}
use Rattle.std.specs.List.{remove}
use native.Mathlib.Decide.{ℕ_discrete}
use Rattle.std.proofs.Math.Decide.{dec_lt}
use Rattle.template.specs.Common.{Pair, pair, insert, delete}
use Rattle.ordered_map.specs.OrderedMap.{last_pair}
use Rattle.edits.specs.declared.pairs.Pairs.TheInside.{Inside}
use Rattle.edits.specs.Laws.PairPlaces.{listed, placed_pairs}
use Rattle.edits.specs.Pairs.{pair_at, below, before, has_at, run, moved_on, moved_back}

-- where places are those of the list that they hold, that has at most five
pub at_most_five : (s : Inside) → s ≡ placed_pairs (listed s) → length (listed s) ≤ 5
at_most_five s i = few s.count
  where
    few : (n : ℕ) → length (take n (s.first ∷ s.second ∷ s.third ∷ s.fourth ∷ s.fifth ∷ [])) ≤ 5
    few zero = omega arith
    few (suc zero) = omega arith
    few (suc (suc zero)) = omega arith
    few (suc (suc (suc zero))) = omega arith
    few (suc (suc (suc (suc zero)))) = omega arith
    few (suc (suc (suc (suc (suc zero))))) = omega arith
    few (suc (suc (suc (suc (suc (suc n)))))) = omega arith

-- What is shown of each number up to n is so of any
abbrev UpTo : ℕ → (ℕ → Type 0) → Type 0
UpTo zero Q = Q 0
UpTo (suc n) Q = Q 0 × UpTo n (λ i. Q (suc i))

any_up_to : (n : ℕ) (Q : ℕ → Type 0) → UpTo n Q → (at : ℕ) → at ≤ n → Q at
any_up_to zero Q x zero i = x
any_up_to zero Q x (suc at) i = absurd (omega (arith, i))
any_up_to (suc n) Q x zero i = x.0
any_up_to (suc n) Q x (suc at) i = any_up_to n (λ j. Q (suc j)) x.1 at (omega (arith, i))

-- and what is shown of a list of each length up to n, of any that is no longer
abbrev OfEach : ℕ → (List Pair → Type 0) → Type 0
OfEach zero R = R []
OfEach (suc n) R = R [] × ((a : Pair) → OfEach n (λ ps. R (a ∷ ps)))

of_any : (n : ℕ) (R : List Pair → Type 0) → OfEach n R → (ps : List Pair) → length ps ≤ n → R ps
of_any zero R x [] few = x
of_any zero R x (a ∷ ps) few = absurd (omega (arith, few))
of_any (suc n) R x [] few = x.0
of_any (suc n) R x (a ∷ ps) few = of_any n (λ qs. R (a ∷ qs)) (x.1 a) ps (omega (arith, few))

-- so what is shown of each place of such lists, and of that after the last
abbrev AtEach : (List Pair → ℕ → Type 0) → Type 0
AtEach P = OfEach 5 (λ ps. UpTo (length ps) (P ps))

at_any : (P : List Pair → ℕ → Type 0) → AtEach P → (ps : List Pair) → length ps ≤ 5 → (at : ℕ) → at ≤ length ps → P ps at
at_any P x ps few at i = any_up_to (length ps) (P ps) (of_any 5 (λ qs. UpTo (length qs) (P qs)) x ps few) at i

-- the places of a list of at most five are those of the list
pub listed_again : (ps : List Pair) → length ps ≤ 5 → listed (placed_pairs ps) ≡ ps
listed_again ps few = of_any 5 (λ ps. listed (placed_pairs ps) ≡ ps) (refl, λ a. (refl, λ b. (refl, λ c. (refl, λ d. (refl, λ e. refl))))) ps few

-- a pair is put at a place
abbrev PutAt : Pair → List Pair → ℕ → Type 0
PutAt p ps at = record { first = moved_on at 0 (pair_at ps 0) p (pair 0 0); second = moved_on at 1 (pair_at ps 1) p (pair_at ps 0); third = moved_on at 2 (pair_at ps 2) p (pair_at ps 1); fourth = moved_on at 3 (pair_at ps 3) p (pair_at ps 2); fifth = moved_on at 4 (pair_at ps 4) p (pair_at ps 3); count = min (length ps + 1) 5 } ≡ placed_pairs (take 5 (take at ps ++ p ∷ drop at ps))

pub put_at : (ps : List Pair) → length ps ≤ 5 → (at : ℕ) → at ≤ length ps → (p : Pair) → PutAt p ps at
put_at ps few at i p = at_any (PutAt p) (refl, λ a. ((refl, refl), λ b. ((refl, (refl, refl)), λ c. ((refl, (refl, (refl, refl))), λ d. ((refl, (refl, (refl, (refl, refl)))), λ e. (refl, (refl, (refl, (refl, (refl, refl)))))))))) ps few at i

-- or taken out
abbrev OutAt : List Pair → ℕ → Type 0
OutAt ps at = record { first = moved_back at 0 (pair_at ps 0) (pair_at ps 1); second = moved_back at 1 (pair_at ps 1) (pair_at ps 2); third = moved_back at 2 (pair_at ps 2) (pair_at ps 3); fourth = moved_back at 3 (pair_at ps 3) (pair_at ps 4); fifth = moved_back at 4 (pair_at ps 4) (pair 0 0); count = (if nat_lt at (length ps) then length ps - 1 else length ps) } ≡ placed_pairs (remove ps at)

pub out_at : (ps : List Pair) → length ps ≤ 5 → (at : ℕ) → at ≤ length ps → OutAt ps at
out_at = at_any OutAt (refl, λ a. ((refl, refl), λ b. ((refl, (refl, refl)), λ c. ((refl, (refl, (refl, refl))), λ d. ((refl, (refl, (refl, (refl, refl)))), λ e. (refl, (refl, (refl, (refl, (refl, refl))))))))))

-- those before a place are kept
abbrev KeptAt : List Pair → ℕ → Type 0
KeptAt ps at = record { first = moved_back at 0 (pair_at ps 0) (pair 0 0); second = moved_back at 1 (pair_at ps 1) (pair 0 0); third = moved_back at 2 (pair_at ps 2) (pair 0 0); fourth = moved_back at 3 (pair_at ps 3) (pair 0 0); fifth = moved_back at 4 (pair_at ps 4) (pair 0 0); count = at } ≡ placed_pairs (take at ps)

pub kept_at : (ps : List Pair) → length ps ≤ 5 → (at : ℕ) → at ≤ length ps → KeptAt ps at
kept_at = at_any KeptAt (refl, λ a. ((refl, refl), λ b. ((refl, (refl, refl)), λ c. ((refl, (refl, (refl, refl))), λ d. ((refl, (refl, (refl, (refl, refl)))), λ e. (refl, (refl, (refl, (refl, (refl, refl))))))))))

-- or those from there on
abbrev LeftAt : List Pair → ℕ → Type 0
LeftAt ps at = record { first = pair_at ps at; second = pair_at ps (at + 1); third = pair_at ps (at + 2); fourth = pair_at ps (at + 3); fifth = pair_at ps (at + 4); count = length ps - at } ≡ placed_pairs (drop at ps)

pub left_at : (ps : List Pair) → length ps ≤ 5 → (at : ℕ) → at ≤ length ps → LeftAt ps at
left_at = at_any LeftAt (refl, λ a. ((refl, refl), λ b. ((refl, (refl, refl)), λ c. ((refl, (refl, (refl, refl))), λ d. ((refl, (refl, (refl, (refl, refl)))), λ e. (refl, (refl, (refl, (refl, (refl, refl))))))))))

-- the last is in the place before their number
pub last_at : (ps : List Pair) → pair_at ps (length ps - 1) ≡ unwrap_or (last_pair ps) (pair 0 0)
last_at [] = refl
last_at (p ∷ []) = refl
last_at (p ∷ q ∷ ps) = ap (pair_at (p ∷ q ∷ ps)) here ∙ ap (pair_at (q ∷ ps)) there ∙ last_at (q ∷ ps)
  where
    here : length (p ∷ q ∷ ps) - 1 ≡ suc (length ps)
    here = omega arith

    there : length ps ≡ length (q ∷ ps) - 1
    there = omega arith

-- The place of a key

-- how many pairs pass a test before the first that does not
abbrev leading : (Pair → Bool) → List Pair → ℕ
leading test [] = 0
leading test (p ∷ ps) = if test p then suc (leading test ps) else 0

-- how many booleans are true before the first that is not
abbrev leads : List Bool → ℕ
leads [] = 0
leads (b ∷ bs) = if b then suc (leads bs) else 0

leads_of : (t0 t1 t2 t3 t4 : Bool) → UpTo 5 (λ n. min (run t0 t1 t2 t3 t4) n ≡ leads (take n (t0 ∷ t1 ∷ t2 ∷ t3 ∷ t4 ∷ [])))
leads_of false t1 t2 t3 t4 = (refl, (refl, (refl, (refl, (refl, refl)))))
leads_of true false t2 t3 t4 = (refl, (refl, (refl, (refl, (refl, refl)))))
leads_of true true false t3 t4 = (refl, (refl, (refl, (refl, (refl, refl)))))
leads_of true true true false t4 = (refl, (refl, (refl, (refl, (refl, refl)))))
leads_of true true true true false = (refl, (refl, (refl, (refl, (refl, refl)))))
leads_of true true true true true = (refl, (refl, (refl, (refl, (refl, refl)))))

leading_is : (test : Pair → Bool) (ps : List Pair) → length ps ≤ 5 → min (run (test (pair_at ps 0)) (test (pair_at ps 1)) (test (pair_at ps 2)) (test (pair_at ps 3)) (test (pair_at ps 4))) (length ps) ≡ leading test ps
leading_is test ps few =
    any_up_to 5 (λ n. min (run (test (pair_at ps 0)) (test (pair_at ps 1)) (test (pair_at ps 2)) (test (pair_at ps 3)) (test (pair_at ps 4))) n ≡ leads (take n (tests ps)))
    (leads_of (test (pair_at ps 0)) (test (pair_at ps 1)) (test (pair_at ps 2)) (test (pair_at ps 3)) (test (pair_at ps 4))) (length ps) few
    ∙ of_any 5 (λ ps. leads (take (length ps) (tests ps)) ≡ leading test ps) (refl, λ a. (refl, λ b. (refl, λ c. (refl, λ d. (refl, λ e. refl))))) ps few
  where
    tests : List Pair → List Bool
    tests ps = test (pair_at ps 0) ∷ test (pair_at ps 1) ∷ test (pair_at ps 2) ∷ test (pair_at ps 3) ∷ test (pair_at ps 4) ∷ []

pub below_is : (k : ℕ) (ps : List Pair) → length ps ≤ 5 → min (run (nat_lt (pair_at ps 0).key k) (nat_lt (pair_at ps 1).key k) (nat_lt (pair_at ps 2).key k) (nat_lt (pair_at ps 3).key k) (nat_lt (pair_at ps 4).key k)) (length ps) ≡ below k ps
below_is k ps few = leading_is (λ (p : Pair). nat_lt p.key k) ps few ∙ same ps
  where
    same : (ps : List Pair) → leading (λ (p : Pair). nat_lt p.key k) ps ≡ below k ps
    same [] = refl
    same (p ∷ ps) = ap (λ n. if nat_lt p.key k then suc n else 0) (same ps)

pub below_few : (k : ℕ) (ps : List Pair) → below k ps ≤ length ps
below_few k [] = omega arith
below_few k (p ∷ ps) = go (nat_lt p.key k) (below_few k ps)
  where
    go : (t : Bool) → below k ps ≤ length ps → (if t then suc (below k ps) else 0) ≤ suc (length ps)
    go true i = omega (arith, i)
    go false i = omega arith

pub before_is : (k : ℕ) (ps : List Pair) → length ps ≤ 5 → min (run (not ((pair_at ps 0).key == k)) (not ((pair_at ps 1).key == k)) (not ((pair_at ps 2).key == k)) (not ((pair_at ps 3).key == k)) (not ((pair_at ps 4).key == k))) (length ps) ≡ before k ps
before_is k ps few = leading_is (λ (p : Pair). not (p.key == k)) ps few ∙ same ps
  where
    same : (ps : List Pair) → leading (λ (p : Pair). not (p.key == k)) ps ≡ before k ps
    same [] = refl
    same (p ∷ ps) = ap (λ n. if not (p.key == k) then suc n else 0) (same ps)

-- an insert puts the pair there, in place of one with its key
abbrev Inserted : ℕ → ℕ → List Pair → Type 0
Inserted k v ps = insert k v ps ≡ (if has_at k (below k ps) ps then slice_set ps (below k ps) (pair k v) else take (below k ps) ps ++ pair k v ∷ drop (below k ps) ps)

pub inserted_at : (k v : ℕ) (ps : List Pair) → Inserted k v ps
inserted_at k v [] = refl
inserted_at k v (p ∷ ps) = go (inserted_at k v ps) (ℕ_discrete k p.key)
  where
    further : Inserted k v ps → (t : Bool) → has_at k (below k ps) ps ≡ t → p ∷ insert k v ps ≡ (if t then slice_set (p ∷ ps) (suc (below k ps)) (pair k v) else p ∷ take (below k ps) ps ++ pair k v ∷ drop (below k ps) ps)
    further rest true t = ap (λ qs. p ∷ qs) (rest ∙ rw t refl)
    further rest false t = ap (λ qs. p ∷ qs) (rest ∙ rw t refl)

    other : Inserted k v ps → k ≢ p.key → Dec (k < p.key) → Inserted k v (p ∷ ps)
    other rest d (yes l) = rw (lt-ltb k p.key l, le-ltb p.key k (omega (arith, l)), ne_eqb p.key k (λ e. omega (arith, l, e))) refl
    other rest d (no n) = rw (le-ltb k p.key (omega (arith, n)), ne_eqb k p.key d, lt-ltb p.key k (omega (arith, n, d))) (further rest (has_at k (below k ps) ps) refl)

    go : Inserted k v ps → Dec (k ≡ p.key) → Inserted k v (p ∷ ps)
    go rest (yes e) = rw (le-ltb k p.key (omega (arith, e)), eq-eqb k p.key e, le-ltb p.key k (omega (arith, e)), eq-eqb p.key k (sym e)) refl
    go rest (no d) = other rest d (dec_lt k p.key)

-- a delete takes out what is there
pub deleted_at : (k : ℕ) (ps : List Pair) → delete k ps ≡ remove ps (before k ps)
deleted_at k [] = refl
deleted_at k (p ∷ ps) = go (deleted_at k ps) (ℕ_discrete k p.key)
  where
    go : delete k ps ≡ remove ps (before k ps) → Dec (k ≡ p.key) → delete k (p ∷ ps) ≡ remove (p ∷ ps) (before k (p ∷ ps))
    go rest (yes e) = rw (eq-eqb k p.key e, eq-eqb p.key k (sym e)) refl
    go rest (no d) = rw (ne_eqb k p.key d, ne_eqb p.key k (λ e. d (sym e))) (ap (λ qs. p ∷ qs) rest)

-- no place in front of this one has the key
abbrev pub Misses : ℕ → ℕ → List Pair → Type 0
Misses k i ps = (j : ℕ) → j < i → has_at k j ps ≡ false

pub misses_none : (k : ℕ) (ps : List Pair) → Misses k 0 ps
misses_none k ps j l = absurd (omega (arith, l))

pub misses_more : (k i : ℕ) (ps : List Pair) → Misses k i ps → has_at k i ps ≡ false → Misses k (suc i) ps
misses_more k i ps x f j l = go (ℕ_discrete j i)
  where
    go : Dec (j ≡ i) → has_at k j ps ≡ false
    go (yes e) = subst (λ n. has_at k n ps ≡ false) (sym e) f
    go (no d) = x j (omega (arith, l, d))

-- so that it takes out the first that has the key
pub deleted_here : (k i : ℕ) (ps : List Pair) → Misses k i ps → has_at k i ps ≡ true → remove ps i ≡ delete k ps
deleted_here k i [] x t = cc
deleted_here k zero (p ∷ ps) x t = ap (λ is. remove (p ∷ ps) (if not is then suc (before k ps) else 0)) (sym t) ∙ sym (deleted_at k (p ∷ ps))
deleted_here k (suc i) (p ∷ ps) x t =
    ap (λ qs. p ∷ qs) (deleted_here k i ps (λ j l. x (suc j) (omega (arith, l))) t ∙ deleted_at k ps)
    ∙ ap (λ is. remove (p ∷ ps) (if not is then suc (before k ps) else 0)) (sym (x 0 (omega arith)))
    ∙ sym (deleted_at k (p ∷ ps))

-- a list that is short enough is taken whole
pub take_whole : (n : ℕ) (ps : List Pair) → length ps ≤ n → take n ps ≡ ps
take_whole zero [] i = refl
take_whole (suc n) [] i = refl
take_whole zero (p ∷ ps) i = absurd (omega (arith, i))
take_whole (suc n) (p ∷ ps) i = ap (λ qs. p ∷ qs) (take_whole n ps (omega (arith, i)))

as_long : (ps : List Pair) (i : ℕ) (p : Pair) → length (slice_set ps i p) ≡ length ps
as_long [] zero p = refl
as_long [] (suc i) p = refl
as_long (q ∷ ps) zero p = refl
as_long (q ∷ ps) (suc i) p = ap suc (as_long ps i p)

pub has_there : (k i : ℕ) (ps : List Pair) → i < length ps → ((pair_at ps i).key == k) ≡ has_at k i ps
has_there k i [] l = absurd (omega (arith, l))
has_there k zero (p ∷ ps) l = refl
has_there k (suc i) (p ∷ ps) l = has_there k i ps (omega (arith, l))

pub has_beyond : (k i : ℕ) (ps : List Pair) → length ps ≤ i → false ≡ has_at k i ps
has_beyond k i [] l = refl
has_beyond k zero (p ∷ ps) l = absurd (omega (arith, l))
has_beyond k (suc i) (p ∷ ps) l = has_beyond k i ps (omega (arith, l))

pub set_there : (k v : ℕ) (ps : List Pair) → length ps ≤ 5 → has_at k (below k ps) ps ≡ true → slice_set ps (below k ps) (pair k v) ≡ take 5 (insert k v ps)
set_there k v ps few t = sym (take_whole 5 (slice_set ps (below k ps) (pair k v)) (rw (as_long ps (below k ps) (pair k v)) few)) ∙ ap (λ qs. take 5 qs) (sym (inserted_at k v ps ∙ rw t refl))

pub put_there : (k v : ℕ) (ps : List Pair) → has_at k (below k ps) ps ≡ false → take 5 (take (below k ps) ps ++ pair k v ∷ drop (below k ps) ps) ≡ take 5 (insert k v ps)
put_there k v ps t = ap (λ qs. take 5 qs) (sym (inserted_at k v ps ∙ rw t refl))

-- Of places that hold a list

take_few : (n : ℕ) (ps : List Pair) → length (take n ps) ≤ n
take_few zero ps = omega arith
take_few (suc n) [] = omega arith
take_few (suc n) (p ∷ ps) = let i = take_few n ps in omega (arith, i)

drop_few : (n : ℕ) (ps : List Pair) → length (drop n ps) ≤ length ps
drop_few zero ps = omega arith
drop_few (suc n) [] = omega arith
drop_few (suc n) (p ∷ ps) = let i = drop_few n ps in omega (arith, i)

out_few : (ps : List Pair) (at : ℕ) → length (remove ps at) ≤ length ps
out_few [] zero = omega arith
out_few [] (suc at) = omega arith
out_few (p ∷ ps) zero = omega arith
out_few (p ∷ ps) (suc at) = let i = out_few ps at in omega (arith, i)

module _ (s : Inside) (ps : List Pair) (is : listed s ≡ ps) (placed : s ≡ placed_pairs (listed s)) where
  pub few_listed : length ps ≤ 5
  few_listed = subst (λ qs. length qs ≤ 5) is (at_most_five s placed)

  places : placed_pairs ps ≡ s
  places = sym (placed ∙ ap placed_pairs is)

  pub put_is : (at : ℕ) → at ≤ length ps → (p : Pair) → listed (record { first = moved_on at 0 s.first p (pair 0 0); second = moved_on at 1 s.second p s.first; third = moved_on at 2 s.third p s.second; fourth = moved_on at 3 s.fourth p s.third; fifth = moved_on at 4 s.fifth p s.fourth; count = min (s.count + 1) 5 }) ≡ take 5 (take at ps ++ p ∷ drop at ps)
  put_is at i p =
      subst (λ (t : Inside). listed (record { first = moved_on at 0 t.first p (pair 0 0); second = moved_on at 1 t.second p t.first; third = moved_on at 2 t.third p t.second; fourth = moved_on at 3 t.fourth p t.third; fifth = moved_on at 4 t.fifth p t.fourth; count = min (t.count + 1) 5 }) ≡ take 5 (take at ps ++ p ∷ drop at ps)) places
      (ap listed (put_at ps few_listed at i p) ∙ listed_again (take 5 (take at ps ++ p ∷ drop at ps)) (take_few 5 (take at ps ++ p ∷ drop at ps)))

  pub out_is : (at : ℕ) → at ≤ length ps → (n : ℕ) → n ≡ (if nat_lt at s.count then s.count - 1 else s.count) → listed (record { first = moved_back at 0 s.first s.second; second = moved_back at 1 s.second s.third; third = moved_back at 2 s.third s.fourth; fourth = moved_back at 3 s.fourth s.fifth; fifth = moved_back at 4 s.fifth (pair 0 0); count = n }) ≡ remove ps at
  out_is at i n e = rw e
      (subst (λ (t : Inside). listed (record { first = moved_back at 0 t.first t.second; second = moved_back at 1 t.second t.third; third = moved_back at 2 t.third t.fourth; fourth = moved_back at 3 t.fourth t.fifth; fifth = moved_back at 4 t.fifth (pair 0 0); count = (if nat_lt at t.count then t.count - 1 else t.count) }) ≡ remove ps at) places
      (ap listed (out_at ps few_listed at i) ∙ listed_again (remove ps at) (let a = out_few ps at in let b = few_listed in omega (arith, a, b))))

  pub kept_is : (at : ℕ) → at ≤ length ps → listed (record { first = moved_back at 0 s.first (pair 0 0); second = moved_back at 1 s.second (pair 0 0); third = moved_back at 2 s.third (pair 0 0); fourth = moved_back at 3 s.fourth (pair 0 0); fifth = moved_back at 4 s.fifth (pair 0 0); count = at }) ≡ take at ps
  kept_is at i =
      subst (λ (t : Inside). listed (record { first = moved_back at 0 t.first (pair 0 0); second = moved_back at 1 t.second (pair 0 0); third = moved_back at 2 t.third (pair 0 0); fourth = moved_back at 3 t.fourth (pair 0 0); fifth = moved_back at 4 t.fifth (pair 0 0); count = at }) ≡ take at ps) places
      (ap listed (kept_at ps few_listed at i) ∙ listed_again (take at ps) (let a = take_few at ps in let b = few_listed in omega (arith, a, b, i)))

  pub left_is : (at : ℕ) → at ≤ length ps → listed (record { first = pair_at ps at; second = pair_at ps (at + 1); third = pair_at ps (at + 2); fourth = pair_at ps (at + 3); fifth = pair_at ps (at + 4); count = s.count - at }) ≡ drop at ps
  left_is at i =
      subst (λ (t : Inside). listed (record { first = pair_at ps at; second = pair_at ps (at + 1); third = pair_at ps (at + 2); fourth = pair_at ps (at + 3); fifth = pair_at ps (at + 4); count = t.count - at }) ≡ drop at ps) places
      (ap listed (left_at ps few_listed at i) ∙ listed_again (drop at ps) (let a = drop_few at ps in let b = few_listed in omega (arith, a, b)))

  pub below_here : (k : ℕ) → min (run (nat_lt s.first.key k) (nat_lt s.second.key k) (nat_lt s.third.key k) (nat_lt s.fourth.key k) (nat_lt s.fifth.key k)) s.count ≡ below k ps
  below_here k = subst (λ (t : Inside). min (run (nat_lt t.first.key k) (nat_lt t.second.key k) (nat_lt t.third.key k) (nat_lt t.fourth.key k) (nat_lt t.fifth.key k)) t.count ≡ below k ps) places (below_is k ps few_listed)

  pub before_here : (k : ℕ) → min (run (not (s.first.key == k)) (not (s.second.key == k)) (not (s.third.key == k)) (not (s.fourth.key == k)) (not (s.fifth.key == k))) s.count ≡ before k ps
  before_here k = subst (λ (t : Inside). min (run (not (t.first.key == k)) (not (t.second.key == k)) (not (t.third.key == k)) (not (t.fourth.key == k)) (not (t.fifth.key == k))) t.count ≡ before k ps) places (before_is k ps few_listed)
