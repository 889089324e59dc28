-- The calls of a map, by the map's values.
use Rattle.std.proofs.Common.{◌≡◌, ◌≢◌, ℕ, ◌<◌, ◌≤◌, Bool, true, false, cond, ◌&&◌, eqb, leb, ltb, ◌⊎◌, inl, inr, List, [], ◌∷◌, ◌++◌, refl, sym, ◌∙◌, ap, arith, lt-ltb, le-ltb, eq-eqb, ne_eqb, subst}
use Rattle.std.specs.Prelude.{Option, Some, None, unwrap_or}
use Rattle.histories.specs.Common.{Side, Left, Right}
use Rattle.std.proofs.lemmas.Bool.{eqb-true, eqb-false}
use native.Mathlib.Decide.{ℕ_discrete}
use Rattle.ordered_map.specs.declared.pair.Pair.{Pair}
use Rattle.ordered_map.proofs.Lists.{above_less}
use Rattle.ordered_map.specs.declared.rule.Goal.TheVariants.{Key}
use Rattle.ordered_map.specs.declared.rule.Rule.{Rule}
use Rattle.ordered_map.specs.OrderedMap.{pair, AllAbove, IsRising, applies, get, insert, delete, leaves, successor, predecessor, neighbour, between, MapEdit, Insert, Delete, edit_key, edit_to, edited, value_left, after_edit, MapCall, OneValue, call_delete, call_insert, call_pop_first, call_pop_last, reply, after, edit_of, AllBelow, last_pair, end_pair, Edit}
use Rattle.ordered_map.specs.MapLaws.{IsNeighbour, by_rule, within, without_first, IsEndmost, without_last}
use Rattle.ordered_map.proofs.Trees.{split_at}

-- a key is below another one, is it, or is above
data Order (j k : ℕ) : Type 0 where
  below : j < k → Order j k
  same : j ≡ k → Order j k
  above : k < j → Order j k

order : (j k : ℕ) → Order j k
order j k = go (split_at j k) (ℕ_discrete j k)
  where
    go : (j < k) ⊎ (k ≤ j) → Dec (j ≡ k) → Order j k
    go (inl l) d = below l
    go (inr l) (yes e) = same e
    go (inr l) (no d) = above (omega (arith, l, d))

at_key : (k : ℕ) → eqb k k ≡ true
at_key k = eq-eqb k k refl

not_below : (j k : ℕ) → k ≤ j → ltb j k ≡ false
not_below j k l = le-ltb j k l

-- keys above k
pub get_above : (k : ℕ) (m : List Pair) → AllAbove k m → get k m ≡ None
get_above k [] a = refl
get_above k (p ∷ ps) a = rw (ne_eqb k p.key (λ e. let x = a.0 in omega (arith, e, x))) (get_above k ps a.1)

-- Insert

pub inserted : (k v : ℕ) (m : List Pair) → get k (insert k v m) ≡ Some v
inserted k v [] = rw (at_key k) refl
inserted k v (p ∷ ps) = go (order k p.key) (inserted k v ps)
  where
    go : Order k p.key → (get k (insert k v ps) ≡ Some v) → get k (cond (ltb k p.key) (pair k v ∷ p ∷ ps) (cond (eqb k p.key) (pair k v ∷ ps) (p ∷ insert k v ps))) ≡ Some v
    go (below l) more = rw (lt-ltb k p.key l, at_key k) refl
    go (same e) more = rw (not_below k p.key (omega (arith, e)), eq-eqb k p.key e, at_key k) refl
    go (above l) more = rw (not_below k p.key (omega (arith, l)), ne_eqb k p.key (λ e. omega (arith, e, l)), ne_eqb k p.key (λ e. omega (arith, e, l))) more

pub insert_keeps : (j k v : ℕ) (m : List Pair) → j ≢ k → get j (insert k v m) ≡ get j m
insert_keeps j k v [] d = rw (ne_eqb j k d) refl
insert_keeps j k v (p ∷ ps) d = go (order k p.key) (insert_keeps j k v ps d)
  where
    go : Order k p.key → (get j (insert k v ps) ≡ get j ps) → get j (cond (ltb k p.key) (pair k v ∷ p ∷ ps) (cond (eqb k p.key) (pair k v ∷ ps) (p ∷ insert k v ps))) ≡ cond (eqb j p.key) (Some p.value) (get j ps)
    go (below l) more = rw (lt-ltb k p.key l, ne_eqb j k d) refl
    go (same e) more = rw (not_below k p.key (omega (arith, e)), eq-eqb k p.key e, ne_eqb j k d, ne_eqb j p.key (λ q. d (q ∙ sym e))) refl
    go (above l) more = rw (not_below k p.key (omega (arith, l)), ne_eqb k p.key (λ e. omega (arith, e, l))) (ap (λ z. cond (eqb j p.key) (Some p.value) z) more)

insert_above : (j k v : ℕ) (m : List Pair) → j < k → AllAbove j m → AllAbove j (insert k v m)
insert_above j k v [] l a = (l, tt)
insert_above j k v (p ∷ ps) l a = go (order k p.key) (insert_above j k v ps l a.1)
  where
    go : Order k p.key → (AllAbove j (insert k v ps)) → AllAbove j (cond (ltb k p.key) (pair k v ∷ p ∷ ps) (cond (eqb k p.key) (pair k v ∷ ps) (p ∷ insert k v ps)))
    go (below i) more = rw (lt-ltb k p.key i) (l, (a.0, a.1))
    go (same e) more = rw (not_below k p.key (omega (arith, e)), eq-eqb k p.key e) (l, a.1)
    go (above i) more = rw (not_below k p.key (omega (arith, i)), ne_eqb k p.key (λ e. omega (arith, e, i))) (a.0, more)

insert_rises : (k v : ℕ) (m : List Pair) → IsRising m → IsRising (insert k v m)
insert_rises k v [] r = (tt, tt)
insert_rises k v (p ∷ ps) r = go (order k p.key) (insert_rises k v ps r.1)
  where
    go : Order k p.key → (IsRising (insert k v ps)) → IsRising (cond (ltb k p.key) (pair k v ∷ p ∷ ps) (cond (eqb k p.key) (pair k v ∷ ps) (p ∷ insert k v ps)))
    go (below l) more = rw (lt-ltb k p.key l) ((l, above_less k p.key ps (omega (arith, l)) r.0), (r.0, r.1))
    go (same e) more = rw (not_below k p.key (omega (arith, e)), eq-eqb k p.key e) (above_less k p.key ps (omega (arith, e)) r.0, r.1)
    go (above l) more = rw (not_below k p.key (omega (arith, l)), ne_eqb k p.key (λ e. omega (arith, e, l))) (insert_above p.key k v ps l r.0, more)

-- of one pair

pub put_before : (k v r w : ℕ) → k < r → insert k v (pair r w ∷ []) ≡ pair k v ∷ pair r w ∷ []
put_before k v r w l = rw (lt-ltb k r l) refl

-- Delete

pub deleted : (k : ℕ) (m : List Pair) → IsRising m → get k (delete k m) ≡ None
deleted k [] r = refl
deleted k (p ∷ ps) r = go (ℕ_discrete k p.key) (deleted k ps r.1)
  where
    go : Dec (k ≡ p.key) → (get k (delete k ps) ≡ None) → get k (cond (eqb k p.key) ps (p ∷ delete k ps)) ≡ None
    go (yes e) more = rw (eq-eqb k p.key e) (get_above k ps (above_less k p.key ps (omega (arith, e)) r.0))
    go (no d) more = rw (ne_eqb k p.key d, ne_eqb k p.key d) more

pub delete_keeps : (j k : ℕ) (m : List Pair) → j ≢ k → get j (delete k m) ≡ get j m
delete_keeps j k [] d = refl
delete_keeps j k (p ∷ ps) d = go (ℕ_discrete k p.key) (delete_keeps j k ps d)
  where
    go : Dec (k ≡ p.key) → (get j (delete k ps) ≡ get j ps) → get j (cond (eqb k p.key) ps (p ∷ delete k ps)) ≡ cond (eqb j p.key) (Some p.value) (get j ps)
    go (yes e) more = rw (eq-eqb k p.key e, ne_eqb j p.key (λ q. d (q ∙ sym e))) refl
    go (no q) more = rw (ne_eqb k p.key q) (ap (λ z. cond (eqb j p.key) (Some p.value) z) more)

delete_above : (j k : ℕ) (m : List Pair) → AllAbove j m → AllAbove j (delete k m)
delete_above j k [] a = tt
delete_above j k (p ∷ ps) a = go (eqb k p.key) (delete_above j k ps a.1)
  where
    go : (b : Bool) → (AllAbove j (delete k ps)) → AllAbove j (cond b ps (p ∷ delete k ps))
    go true more = a.1
    go false more = (a.0, more)

delete_rises : (k : ℕ) (m : List Pair) → IsRising m → IsRising (delete k m)
delete_rises k [] r = tt
delete_rises k (p ∷ ps) r = go (eqb k p.key) (delete_rises k ps r.1)
  where
    go : (b : Bool) → (IsRising (delete k ps)) → IsRising (cond b ps (p ∷ delete k ps))
    go true more = r.1
    go false more = (delete_above p.key k ps r.0, more)

pub edited_rises : (e : MapEdit) (m : List Pair) → IsRising m → IsRising (edited e m)
edited_rises (Insert k v) m r = insert_rises k v m r
edited_rises (Delete k) m r = delete_rises k m r

-- Maps of the same values

some_same : (a b : ℕ) → Some a ≡ Some b → a ≡ b
some_same a b e = cc

no_value : (a : ℕ) → Some a ≡ None → ⊥
no_value a e = cc

-- what the rest gives, where the whole gives the same
rest_gives : (p q : Pair) (ps qs : List Pair) → p.key ≡ q.key → IsRising (p ∷ ps) → IsRising (q ∷ qs) → ((k : ℕ) → get k (p ∷ ps) ≡ get k (q ∷ qs)) → (k : ℕ) → get k ps ≡ get k qs
rest_gives p q ps qs e r s f k = go (ℕ_discrete k p.key)
  where
    go : Dec (k ≡ p.key) → get k ps ≡ get k qs
    go (yes d) = get_above k ps (above_less k p.key ps (omega (arith, d)) r.0) ∙ sym (get_above k qs (above_less k q.key qs (omega (arith, d, e)) s.0))
    go (no d) = rw (ne_eqb k p.key d, ne_eqb k q.key (λ z. d (z ∙ sym e))) at (f k)

-- the first keys are the same: a lesser one would have a value in one map alone
first_not_less : (p q : Pair) (ps qs : List Pair) → IsRising (q ∷ qs) → ((k : ℕ) → get k (p ∷ ps) ≡ get k (q ∷ qs)) → p.key < q.key → ⊥
first_not_less p q ps qs s f l =
    let a : get p.key (q ∷ qs) ≡ None = get_above p.key (q ∷ qs) (l, above_less p.key q.key qs (omega (arith, l)) s.0) in
    let b : get p.key (p ∷ ps) ≡ Some p.value = rw (at_key p.key) refl in
    no_value p.value (sym b ∙ f p.key ∙ a)

pub same_values : (m n : List Pair) → IsRising m → IsRising n → ((k : ℕ) → get k m ≡ get k n) → m ≡ n
same_values [] [] r s f = refl
same_values [] (q ∷ qs) r s f = absurd (no_value q.value (sym (let b : get q.key (q ∷ qs) ≡ Some q.value = rw (at_key q.key) refl in b) ∙ sym (f q.key)))
same_values (p ∷ ps) [] r s f = absurd (no_value p.value (sym (let b : get p.key (p ∷ ps) ≡ Some p.value = rw (at_key p.key) refl in b) ∙ f p.key))
same_values (p ∷ ps) (q ∷ qs) r s f = go (order p.key q.key) (λ g. same_values ps qs r.1 s.1 g)
  where
    go : Order p.key q.key → (((k : ℕ) → get k ps ≡ get k qs) → ps ≡ qs) → p ∷ ps ≡ q ∷ qs
    go (below l) more = absurd (first_not_less p q ps qs s f l)
    go (above l) more = absurd (first_not_less q p qs ps r (λ k. sym (f k)) l)
    go (same e) more =
        let v : p.value ≡ q.value = some_same p.value q.value (sym (let b : get p.key (p ∷ ps) ≡ Some p.value = rw (at_key p.key) refl in b) ∙ f p.key ∙ (rw (eq-eqb p.key q.key e) refl)) in
        let rest : ps ≡ qs = more (rest_gives p q ps qs e r s f) in
        λ i. pair (e i) (v i) ∷ rest i

-- The next key on a side

below_first : (j : ℕ) (p : Pair) (ps : List Pair) → IsRising (p ∷ ps) → j < p.key → get j (p ∷ ps) ≡ None
below_first j p ps r l = get_above j (p ∷ ps) (l, above_less j p.key ps (omega (arith, l)) r.0)

successor_is : (k : ℕ) (m : List Pair) → IsRising m → IsNeighbour Right k m (successor k m)
successor_is k [] r = λ j l. refl
successor_is k (p ∷ ps) r = go (split_at k p.key) (successor_is k ps r.1)
  where
    found : (o : Option Pair) → p.key ≤ k → successor k ps ≡ o → IsNeighbour Right k ps o → IsNeighbour Right k (p ∷ ps) o
    found None l e x = λ j i. rw (ne_eqb j p.key (λ z. omega (arith, z, l, i))) (x j i)
    found (Some q) l e x = (
      x.0,
      rw (ne_eqb q.key p.key (λ z. let y = x.0 in omega (arith, z, l, y))) x.1,
      λ j i u. rw (ne_eqb j p.key (λ z. omega (arith, z, l, i))) (x.2 j i u),
    )

    go : (k < p.key) ⊎ (p.key ≤ k) → IsNeighbour Right k ps (successor k ps) → IsNeighbour Right k (p ∷ ps) (cond (ltb k p.key) (Some p) (successor k ps))
    go (inl l) x = rw (lt-ltb k p.key l) (l, rw (at_key p.key) refl, λ j i u. below_first j p ps r u)
    go (inr l) x = rw (le-ltb k p.key l) (found (successor k ps) l refl x)

-- a key with a value is above those below which there is none
has_above : (j k v : ℕ) (m : List Pair) → AllAbove k m → get j m ≡ Some v → k < j
has_above j k v m a e = go (split_at k j)
  where
    go : (k < j) ⊎ (j ≤ k) → k < j
    go (inl l) = l
    go (inr l) = absurd (no_value v (sym e ∙ get_above j m (above_less j k m l a)))

predecessor_is : (k : ℕ) (m : List Pair) → IsRising m → IsNeighbour Left k m (predecessor k m)
predecessor_is k [] r = λ j l. refl
predecessor_is k (p ∷ ps) r = go (split_at p.key k) (predecessor k ps) (predecessor_is k ps r.1)
  where
    go : (p.key < k) ⊎ (k ≤ p.key) → (o : Option Pair) → IsNeighbour Left k ps o → IsNeighbour Left k (p ∷ ps) (cond (ltb p.key k) (Some (unwrap_or o p)) o)
    go (inl l) None x = rw (lt-ltb p.key k l) (l, rw (at_key p.key) refl, λ j i u. rw (ne_eqb j p.key (λ e. omega (arith, e, u))) (x j i))
    go (inl l) (Some q) x =
        let above : p.key < q.key = has_above q.key p.key q.value ps r.0 x.1 in
        rw (lt-ltb p.key k l) (
          x.0,
          rw (ne_eqb q.key p.key (λ e. omega (arith, e, above))) x.1,
          λ j i u. rw (ne_eqb j p.key (λ e. omega (arith, e, above, u))) (x.2 j i u),
        )
    go (inr l) None x = rw (le-ltb p.key k l) (λ j i. below_first j p ps r (omega (arith, i, l)))
    go (inr l) (Some q) x = absurd (let a = has_above q.key p.key q.value ps r.0 x.1 in let b = x.0 in omega (arith, a, b, l))

pub neighbour_is : (side : Side) (k : ℕ) (m : List Pair) → IsRising m → IsNeighbour side k m (neighbour side k m)
neighbour_is Left = predecessor_is
neighbour_is Right = successor_is

-- Keys between two

abbrev no_number : Option ℕ
no_number = None

either_none : (b : Bool) → no_number ≡ cond b no_number no_number
either_none true = refl
either_none false = refl

pub between_gives : (low high j : ℕ) (m : List Pair) → get j (between low high m) ≡ within low high j (get j m)
between_gives low high j [] = either_none (leb low j && leb j high)
between_gives low high j (p ∷ ps) = go (ℕ_discrete j p.key) (leb low p.key && leb p.key high) refl (between_gives low high j ps)
  where
    go : Dec (j ≡ p.key) → (b : Bool) → (leb low p.key && leb p.key high) ≡ b → get j (between low high ps) ≡ cond (leb low j && leb j high) (get j ps) None
        → get j (cond b (p ∷ between low high ps) (between low high ps)) ≡ cond (leb low j && leb j high) (cond (eqb j p.key) (Some p.value) (get j ps)) None
    go (yes e) true b x = rw (eq-eqb j p.key e, e, b) refl
    go (yes e) false b x = rw (e, b) (rw (e, b) at x)
    go (no d) true b x = rw (ne_eqb j p.key d) x
    go (no d) false b x = rw (ne_eqb j p.key d) x

between_above : (k low high : ℕ) (m : List Pair) → AllAbove k m → AllAbove k (between low high m)
between_above k low high [] a = tt
between_above k low high (p ∷ ps) a = go (leb low p.key && leb p.key high) (between_above k low high ps a.1)
  where
    go : (b : Bool) → (AllAbove k (between low high ps)) → AllAbove k (cond b (p ∷ between low high ps) (between low high ps))
    go true more = (a.0, more)
    go false more = more

pub between_rises : (low high : ℕ) (m : List Pair) → IsRising m → IsRising (between low high m)
between_rises low high [] r = tt
between_rises low high (p ∷ ps) r = go (leb low p.key && leb p.key high) (between_rises low high ps r.1)
  where
    go : (b : Bool) → (IsRising (between low high ps)) → IsRising (cond b (p ∷ between low high ps) (between low high ps))
    go true more = (between_above p.key low high ps r.0, more)
    go false more = more

-- The keys at the ends

-- the last of those after p, or p, is not below it
pub last_from : (p : Pair) (ps : List Pair) → AllAbove p.key ps → p.key ≤ (unwrap_or (last_pair ps) p).key
last_from p [] a = omega arith
last_from p (q ∷ qs) a = last_above q qs a
  where
    last_above : (q : Pair) (qs : List Pair) → AllAbove p.key (q ∷ qs) → p.key ≤ (unwrap_or (last_pair qs) q).key
    last_above q [] a = let x = a.0 in omega (arith, x)
    last_above q (r ∷ rs) a = last_above r rs a.1

last_is : (m : List Pair) → IsRising m → IsEndmost Right m (last_pair m)
last_is [] r = λ j. refl
last_is (p ∷ []) r = (rw (at_key p.key) refl, λ j l. rw (ne_eqb j p.key (λ e. omega (arith, e, l))) refl)
last_is (p ∷ q ∷ ps) r =
    let last : Pair = unwrap_or (last_pair ps) q in
    let x : IsEndmost Right (q ∷ ps) (Some last) = last_is (q ∷ ps) r.1 in
    let above : p.key < last.key = (let a = r.0.0 in let b = last_from q ps r.1.0 in omega (arith, a, b)) in
    (rw (ne_eqb last.key p.key (λ e. omega (arith, e, above))) x.0, λ j l. rw (ne_eqb j p.key (λ e. omega (arith, e, l, above))) (x.1 j l))

pub end_is : (side : Side) (m : List Pair) → IsRising m → IsEndmost side m (end_pair side m)
end_is Left [] r = λ j. refl
end_is Left (p ∷ ps) r = (rw (at_key p.key) refl, λ j l. below_first j p ps r l)
end_is Right m r = last_is m r

-- the pair at an end is of a key of the map
pub end_had : (side : Side) (m : List Pair) (p : Pair) → end_pair side m ≡ Some p → (v : ℕ) × (get p.key m ≡ Some v)
end_had side [] p e = absurd (none side e)
  where
    none : (s : Side) → end_pair s [] ≡ Some p → ⊥
    none Left x = cc
    none Right x = cc
end_had Left (q ∷ qs) p e = (q.value, rw (eq-eqb p.key q.key (sym (ap (λ o. (unwrap_or o q).key) e))) refl)
end_had Right (q ∷ qs) p e = go (last_pair qs) refl (ap (λ o. unwrap_or o q) e) (λ r. end_had Right qs r) (eqb p.key q.key) refl
  where
    here : (b : Bool) → eqb p.key q.key ≡ b → (v : ℕ) × (get p.key qs ≡ Some v) → (v : ℕ) × (cond b (Some q.value) (get p.key qs) ≡ Some v)
    here true is x = (q.value, refl)
    here false is x = x

    go : (o : Option Pair) → last_pair qs ≡ o → unwrap_or (last_pair qs) q ≡ p → ((r : Pair) → last_pair qs ≡ Some r → (v : ℕ) × (get r.key qs ≡ Some v)) → (b : Bool) → eqb p.key q.key ≡ b → (v : ℕ) × (get p.key (q ∷ qs) ≡ Some v)
    go None is eq rest b at = (q.value, rw (eq-eqb p.key q.key (sym (ap (λ (r : Pair). r.key) (sym (ap (λ o. unwrap_or o q) is) ∙ eq)))) refl)
    go (Some r) is eq rest b at =
        let own : r ≡ p = sym (ap (λ o. unwrap_or o q) is) ∙ eq in
        let x : (v : ℕ) × (get p.key qs ≡ Some v) = subst (λ (s : Pair). (v : ℕ) × (get s.key qs ≡ Some v)) own (rest r is) in
        subst (λ (c : Bool). (v : ℕ) × (cond c (Some q.value) (get p.key qs) ≡ Some v)) (sym at) (here b at x)

-- it is below what all are below
pub below_end : (side : Side) (hi : ℕ) (m : List Pair) (p : Pair) → AllBelow hi m → end_pair side m ≡ Some p → p.key < hi
below_end Left hi [] p a e = absurd (cc)
below_end Left hi (q ∷ qs) p a e = subst (λ (r : Pair). r.key < hi) (ap (λ o. unwrap_or o q) e) a.0
below_end Right hi [] p a e = absurd (cc)
below_end Right hi (q ∷ qs) p a e = go (last_pair qs) refl (ap (λ o. unwrap_or o q) e) (λ r. below_end Right hi qs r a.1)
  where
    go : (o : Option Pair) → last_pair qs ≡ o → unwrap_or (last_pair qs) q ≡ p → ((r : Pair) → last_pair qs ≡ Some r → r.key < hi) → p.key < hi
    go None is eq rest = subst (λ (r : Pair). r.key < hi) (sym (ap (λ o. unwrap_or o q) is) ∙ eq) a.0
    go (Some r) is eq rest = subst (λ (s : Pair). s.key < hi) (sym (ap (λ o. unwrap_or o q) is) ∙ eq) (rest r is)

-- after others it is the same
pub last_join : (xs ys : List Pair) (p : Pair) → last_pair ys ≡ Some p → last_pair (xs ++ ys) ≡ Some p
last_join [] ys p e = e
last_join (x ∷ xs) ys p e = ap (λ o. Some (unwrap_or o x)) (last_join xs ys p e)

-- What an edit leaves

-- an edit changes the value of its key alone
pub edit_gives : (e : MapEdit) (m : List Pair) (key : ℕ) → IsRising m → (b : Bool) → eqb key (edit_key e) ≡ b → get key (edited e m) ≡ cond b (value_left e) (get key m)
edit_gives (Insert k v) m key rising true is = rw (eqb-true key k is) (inserted k v m)
edit_gives (Insert k v) m key rising false other = insert_keeps key k v m (eqb-false key k other)
edit_gives (Delete k) m key rising true is = rw (eqb-true key k is) (deleted k m rising)
edit_gives (Delete k) m key rising false other = delete_keeps key k m (eqb-false key k other)

-- What a call leaves

-- an absent key may be taken away, and nothing changes
delete_absent : (k : ℕ) (m : List Pair) → get k m ≡ None → delete k m ≡ m
delete_absent k [] e = refl
delete_absent k (p ∷ ps) e = go (eqb k p.key) (delete_absent k ps) e
  where
    go : (same : Bool) → (get k ps ≡ None → delete k ps ≡ ps) → cond same (Some p.value) (get k ps) ≡ None → cond same ps (p ∷ delete k ps) ≡ p ∷ ps
    go true rest x = let y : Some p.value ≡ None = x in cc
    go false rest x = ap (λ qs. p ∷ qs) (rest x)

pub after_insert : (k v : ℕ) (m : List Pair) → after (call_insert k v) m ≡ insert k v m
after_insert k v m = refl

pub after_delete : (k : ℕ) (m : List Pair) → after (call_delete k) m ≡ delete k m
after_delete k m = go (get k m) refl
  where
    go : (told : Option ℕ) → get k m ≡ told → after_edit (edit_of (call_delete k) (OneValue told)) m ≡ delete k m
    go None e = sym (delete_absent k m e)
    go (Some v) e = refl

pub after_pop : (m : List Pair) → after call_pop_first m ≡ without_first m
after_pop [] = refl
after_pop (p ∷ ps) = rw (at_key p.key) refl

pub after_pop_last : (m : List Pair) → IsRising m → after call_pop_last m ≡ without_last m
after_pop_last [] r = refl
after_pop_last (p ∷ []) r = rw (at_key p.key) refl
after_pop_last (p ∷ q ∷ ps) r =
    let last : Pair = unwrap_or (last_pair ps) q in
    let above : p.key < last.key = (let a = r.0.0 in let b = last_from q ps r.1.0 in omega (arith, a, b)) in
    rw (ne_eqb last.key p.key (λ e. omega (arith, e, above))) (ap (λ qs. p ∷ qs) (after_pop_last (q ∷ ps) r.1))

-- an edit that is made where something is so
where_so : (edit : MapEdit) (m : List Pair) (so : Bool) → after_edit (cond so (Some edit) None) m ≡ cond so (edited edit m) m
where_so edit m true = refl
where_so edit m false = refl

pub after_rule : (k : ℕ) (rule : Rule) (m : List Pair) → after (Edit (Key k) rule) m ≡ by_rule rule k m
after_rule k rule m = where_so (edit_to k (leaves rule)) m (applies rule (get k m))

-- a call leaves what the edit leaves that its reply says it has made; a reading leaves the map
pub after_is : (call : MapCall) (m : List Pair) (made : Option MapEdit) → edit_of call (reply call m) ≡ made → after call m ≡ after_edit made m
after_is call m made e = ap (λ (o : Option MapEdit). after_edit o m) e
