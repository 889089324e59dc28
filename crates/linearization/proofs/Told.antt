-- What an ordered read answers depends on the values of a few keys: those that it reaches.
use Rattle.std.proofs.Common.{◌≡◌, ◌≢◌, ℕ, zero, suc, ◌<◌, ◌≤◌, ◌⊎◌, inl, inr, ⊎_elim, Bool, true, false, cond, ◌&&◌, ◌||◌, not, eqb, leb, ltb, List, [], ◌∷◌, length, take, Option, Some, None, refl, sym, ◌∙◌, ap, arith}
use Rattle.std.specs.Option.{option_eq}
use Rattle.std.specs.List.{filter}
use Rattle.std.proofs.lemmas.Bool.{eq-eqb, ne_eqb, le-leb, lt-leb, lt-ltb, le-ltb, cases_order, cases_eq, cases_lt, or_right, or_left, not-false}
use Rattle.record.specs.Common.{Pair, get, AllAbove, IsRising, Command}
use Rattle.ordered_map.proofs.Lemmas.{get_above}
use Rattle.linearization.specs.Ordered.{looks_for, most_told, AreReadPairs, reaches, is_unlike}
use Rattle.linearization.proofs.Chains.{values_same}

-- Lists of pairs by rising key

above_less : (j k : ℕ) (m : List Pair) → j ≤ k → AllAbove k m → AllAbove j m
above_less j k [] l a = tt
above_less j k (p ∷ ps) l a = ((let x = a.0 in omega (x, l, arith)), above_less j k ps l a.1)

above_take : (k n : ℕ) (m : List Pair) → AllAbove k m → AllAbove k (take n m)
above_take k zero m a = tt
above_take k (suc n) [] a = tt
above_take k (suc n) (p ∷ ps) a = (a.0, above_take k n ps a.1)

-- a key that is not above k, where all are
get_low : (j k : ℕ) (m : List Pair) → j ≤ k → AllAbove k m → get j m ≡ None
get_low j k m l a = get_above j m (above_less j k m l a)

get_first : (p : Pair) (ps : List Pair) → get p.key (p ∷ ps) ≡ Some p.value
get_first p ps = rw (eq-eqb p.key p.key refl) refl

get_later : (j : ℕ) (p : Pair) (ps : List Pair) → j ≢ p.key → get j (p ∷ ps) ≡ get j ps
get_later j p ps ne = rw (ne_eqb j p.key ne) refl

filter_above : (f : ℕ → Bool) (k : ℕ) (m : List Pair) → AllAbove k m → AllAbove k (filter (λ (p : Pair). f p.key) m)
filter_above f k [] a = tt
filter_above f k (p ∷ ps) a = go (f p.key) (filter_above f k ps a.1)
  where
    go : (b : Bool) → AllAbove k (filter (λ (q : Pair). f q.key) ps) → AllAbove k (cond b (p ∷ filter (λ (q : Pair). f q.key) ps) (filter (λ (q : Pair). f q.key) ps))
    go true more = (a.0, more)
    go false more = more

pub filter_rises : (f : ℕ → Bool) (m : List Pair) → IsRising m → IsRising (filter (λ (p : Pair). f p.key) m)
filter_rises f [] r = tt
filter_rises f (p ∷ ps) r = go (f p.key) (filter_rises f ps r.1)
  where
    go : (b : Bool) → IsRising (filter (λ (q : Pair). f q.key) ps) → IsRising (cond b (p ∷ filter (λ (q : Pair). f q.key) ps) (filter (λ (q : Pair). f q.key) ps))
    go true more = (filter_above f p.key ps r.0, more)
    go false more = more

abbrev no_value : Option ℕ
no_value = None

either_none : (b : Bool) → no_value ≡ cond b no_value no_value
either_none true = refl
either_none false = refl

pub get_filter : (f : ℕ → Bool) (j : ℕ) (m : List Pair) → get j (filter (λ (p : Pair). f p.key) m) ≡ cond (f j) (get j m) None
get_filter f j [] = either_none (f j)
get_filter f j (p ∷ ps) = ⊎_elim (λ e. same e (f p.key) refl (get_filter f j ps)) (λ ne. other ne (f p.key) (get_filter f j ps)) (cases_eq j p.key)
  where
    same : j ≡ p.key → (b : Bool) → f p.key ≡ b → get j (filter (λ (q : Pair). f q.key) ps) ≡ cond (f j) (get j ps) None → get j (cond b (p ∷ filter (λ (q : Pair). f q.key) ps) (filter (λ (q : Pair). f q.key) ps)) ≡ cond (f j) (cond (eqb j p.key) (Some p.value) (get j ps)) None
    same e true t more = rw (e, t, eq-eqb p.key p.key refl) refl
    same e false t more = let u : f j ≡ false = ap f e ∙ t in rw u (rw u at more)

    other : (j ≢ p.key) → (b : Bool) → get j (filter (λ (q : Pair). f q.key) ps) ≡ cond (f j) (get j ps) None → get j (cond b (p ∷ filter (λ (q : Pair). f q.key) ps) (filter (λ (q : Pair). f q.key) ps)) ≡ cond (f j) (cond (eqb j p.key) (Some p.value) (get j ps)) None
    other ne true more = rw (ne_eqb j p.key ne) more
    other ne false more = rw (ne_eqb j p.key ne) more

-- The first pairs of a list

reaches_more : (n j : ℕ) (p : Pair) (ps : List Pair) → reaches (suc n) (p ∷ ps) j ≡ (leb j p.key || reaches n ps j)
reaches_more n j p ps = ⊎_elim low high (cases_lt (length ps) n)
  where
    low : length ps < n → reaches (suc n) (p ∷ ps) j ≡ (leb j p.key || reaches n ps j)
    low l = rw (lt-ltb (suc (length ps)) (suc n) (omega (l, arith)), lt-ltb (length ps) n l) (sym (or_right (leb j p.key) true refl))

    high : n ≤ length ps → reaches (suc n) (p ∷ ps) j ≡ (leb j p.key || reaches n ps j)
    high l = rw (le-ltb (suc (length ps)) (suc n) (omega (l, arith)), le-ltb (length ps) n l) refl

-- they have what the list has, of a key that they reach
take_gives : (n j : ℕ) (b : List Pair) → IsRising b → reaches n (take n b) j ≡ true → get j b ≡ get j (take n b)
take_gives zero j b r t = absurd (let y : false ≡ true = t in cc)
take_gives (suc n) j [] r t = refl
take_gives (suc n) j (p ∷ ps) r t = elim (cases_order j p.key) [
  | inl e ↦ rw (eq-eqb j p.key e) refl
  | inr (inl l) ↦ get_later j p ps (λ e. omega (e, l, arith)) ∙ get_low j p.key ps (omega (l, arith)) r.0 ∙ sym (get_later j p (take n ps) (λ e. omega (e, l, arith)) ∙ get_low j p.key (take n ps) (omega (l, arith)) (above_take p.key n ps r.0))
  | inr (inr l) ↦ get_later j p ps (λ e. omega (e, l, arith)) ∙ take_gives n j ps r.1 (rw (lt-leb j p.key l) at (sym (reaches_more n j p (take n ps)) ∙ t)) ∙ sym (get_later j p (take n ps) (λ e. omega (e, l, arith)))
]

-- a list without a value is empty
no_values : (b : List Pair) → ((j : ℕ) → get j b ≡ None) → b ≡ []
no_values [] e = refl
no_values (p ∷ ps) e = absurd (let y : Some p.value ≡ None = sym (get_first p ps) ∙ e p.key in cc)

some_same : (a b : ℕ) → Some a ≡ Some b → a ≡ b
some_same a b e = cc

-- lists that agree on all keys which the first pairs of the one reach have the same first pairs
pub take_same : (n : ℕ) (b c : List Pair) → IsRising b → IsRising c → ((j : ℕ) → reaches n (take n c) j ≡ true → get j b ≡ get j c) → take n b ≡ take n c
take_same zero b c r s agree = refl
take_same (suc n) b [] r s agree = ap (take (suc n)) (no_values b (λ j. agree j (let few : ltb 0 (suc n) ≡ true = lt-ltb 0 (suc n) (omega arith) in rw few refl)))
take_same (suc n) [] (q ∷ qs) r s agree = absurd (let y : None ≡ Some q.value = agree q.key (reaches_more n q.key q (take n qs) ∙ or_left (leb q.key q.key) _ (le-leb q.key q.key (omega arith))) ∙ get_first q qs in cc)
take_same (suc n) (p ∷ ps) (q ∷ qs) r s agree = go (cases_order p.key q.key) (λ e. take_same n ps qs r.1 s.1 (rest e))
  where
    reached : (j : ℕ) → j ≤ q.key → reaches (suc n) (q ∷ take n qs) j ≡ true
    reached j l = reaches_more n j q (take n qs) ∙ or_left (leb j q.key) _ (le-leb j q.key l)

    rest : p.key ≡ q.key → (j : ℕ) → reaches n (take n qs) j ≡ true → get j ps ≡ get j qs
    rest e j t = elim (cases_lt q.key j) [
      | inl l ↦ sym (get_later j p ps (λ d. omega (d, e, l, arith))) ∙ agree j (reaches_more n j q (take n qs) ∙ or_right (leb j q.key) _ t) ∙ get_later j q qs (λ d. omega (d, l, arith))
      | inr l ↦ get_low j p.key ps (omega (l, e, arith)) r.0 ∙ sym (get_low j q.key qs l s.0)
    ]

    go : (p.key ≡ q.key) ⊎ ((p.key < q.key) ⊎ (q.key < p.key)) → (p.key ≡ q.key → take n ps ≡ take n qs) → p ∷ take n ps ≡ q ∷ take n qs
    go (inl e) more =
        let v : p.value ≡ q.value = some_same p.value q.value (sym (get_first p ps) ∙ agree p.key (reached p.key (omega (e, arith))) ∙ (rw (eq-eqb p.key q.key e) refl)) in
        let same : take n ps ≡ take n qs = more e in
        let first : p ≡ q = λ i. record { key = e i; value = v i } in
        ap (λ (x : Pair). x ∷ take n ps) first ∙ ap (λ xs. q ∷ xs) same
    go (inr (inl l)) more = absurd (let y : Some p.value ≡ None = sym (get_first p ps) ∙ agree p.key (reached p.key (omega (l, arith))) ∙ get_low p.key p.key (q ∷ qs) (omega arith) (l, above_less p.key q.key qs (omega (l, arith)) s.0) in cc)
    go (inr (inr l)) more = absurd (let y : None ≡ Some q.value = sym (get_low q.key q.key (p ∷ ps) (omega arith) (l, above_less q.key p.key ps (omega (l, arith)) r.0)) ∙ agree q.key (reached q.key (omega arith)) ∙ get_first q qs in cc)

-- What a read answers on a map

same_option : (a b : Option ℕ) → a ≡ b → option_eq eqb a b ≡ true
same_option None None e = refl
same_option (Some x) (Some y) e = eq-eqb x y (some_same x y e)
same_option None (Some y) e = absurd (cc)
same_option (Some x) None e = absurd (cc)

-- on a map on which it answers these pairs no key is unlike them
pub told_like : (command : Command) (pairs m : List Pair) → IsRising m → AreReadPairs command pairs m → (j : ℕ) → is_unlike command pairs j (get j m) ≡ false
told_like command pairs m r told j = go (looks_for command pairs j) refl (reaches (most_told command) pairs j) refl
  where
    sought : List Pair
    sought = filter (λ (p : Pair). looks_for command pairs p.key) m

    go : (a : Bool) → looks_for command pairs j ≡ a → (b : Bool) → reaches (most_told command) pairs j ≡ b → (a && (b && not (option_eq eqb (get j pairs) (get j m)))) ≡ false
    go false e b t = refl
    go true e false t = refl
    go true e true t =
        let have : get j sought ≡ get j m = get_filter (looks_for command pairs) j m ∙ rw e refl in
        let gives = take_gives (most_told command) j sought (filter_rises (looks_for command pairs) m r) (ap (λ ps. reaches (most_told command) ps j) told ∙ t) in
        rw (same_option (get j pairs) (get j m) (ap (get j) (sym told) ∙ sym gives ∙ have)) refl

-- and on another one without a key unlike them it answers these
pub like_told : (command : Command) (pairs m old : List Pair) → IsRising m → IsRising old → AreReadPairs command pairs old → ((j : ℕ) → is_unlike command pairs j (get j m) ≡ false) → AreReadPairs command pairs m
like_told command pairs m old r s told like = take_same (most_told command) sought before (filter_rises (looks_for command pairs) m r) (filter_rises (looks_for command pairs) old s) agree ∙ told
  where
    sought : List Pair
    sought = filter (λ (p : Pair). looks_for command pairs p.key) m

    before : List Pair
    before = filter (λ (p : Pair). looks_for command pairs p.key) old

    agree : (j : ℕ) → reaches (most_told command) (take (most_told command) before) j ≡ true → get j sought ≡ get j before
    agree j t = get_filter (looks_for command pairs) j m ∙ go (looks_for command pairs j) refl ∙ sym (get_filter (looks_for command pairs) j old)
      where
        go : (b : Bool) → looks_for command pairs j ≡ b → cond b (get j m) None ≡ cond b (get j old) None
        go false e = refl
        go true e =
            let within : reaches (most_told command) pairs j ≡ true = ap (λ ps. reaches (most_told command) ps j) (sym told) ∙ t in
            let has : get j before ≡ get j old = get_filter (looks_for command pairs) j old ∙ rw e refl in
            let gives = take_gives (most_told command) j before (filter_rises (looks_for command pairs) old s) t in
            let equal : not (option_eq eqb (get j pairs) (get j m)) ≡ false = rw (e, within) at (like j) in
            let same : get j pairs ≡ get j m = values_same (get j pairs) (get j m) (not-false (option_eq eqb (get j pairs) (get j m)) equal) in
            sym same ∙ ap (get j) (sym told) ∙ sym gives ∙ has
