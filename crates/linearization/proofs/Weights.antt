-- How many keys are not as answered after each turn, from the newest change to the oldest.
use Rattle.std.proofs.Common.{◌≡◌, ℕ, suc, ◌+◌, ◌-◌, ◌<◌, ◌≤◌, inl, inr, Bool, true, false, cond, eqb, leb, List, [], ◌∷◌, ◌++◌, length, length-append, get_or, reverse, Option, Some, None, refl, sym, ◌∙◌, ap, subst, arith, append_assoc}
use Rattle.std.proofs.lemmas.Bool.{le-leb, eq-eqb, ne_eqb, cases_lt}
use Rattle.std.proofs.lemmas.List.{length-reverse}
use Rattle.linearization.specs.declared.places.Change.{Change}
use Rattle.linearization.specs.declared.places.Place.{Place}
use Rattle.linearization.specs.Links.{latest, newest_value, AreLinkedByKey}
use Rattle.linearization.specs.Ordered.{FallFrom, IsNextBest}
use Rattle.linearization.proofs.Values.{value_at}
use Rattle.linearization.proofs.Counts.{bit, count, count_same, count_changed}
use Rattle.linearization.proofs.Chains.{changes_of, newest, place_at, value_before}

-- The keys of changes

-- a number above all keys
abbrev pub key_bound : List Change → ℕ
key_bound [] = 0
key_bound (c ∷ cs) = suc c.key + key_bound cs

pub key_below : (newer : List Place) (p : Place) (older : List Place) → p.change.key < key_bound (changes_of (newer ++ p ∷ older))
key_below [] p older = omega arith
key_below (q ∷ newer) p older = let i = key_below newer p older in omega (i, arith)

-- a key above has no value
pub value_beyond : (j m : ℕ) (cs : List Change) → key_bound cs ≤ j → value_at j m cs ≡ None
value_beyond j m [] i = refl
value_beyond j m (c ∷ cs) i = rw (ne_eqb j c.key (λ e. omega (e, i, arith)), value_beyond j m cs (omega (i, arith))) (either (leb c.turn m))
  where
    none : Option ℕ
    none = None

    either : (b : Bool) → cond b none none ≡ none
    either true = refl
    either false = refl

-- Values after places

-- a key without a place has none
pub newest_none : (key : ℕ) (ps : List Place) → latest key ps ≡ None → newest_value key (changes_of ps) ≡ None
newest_none key [] e = refl
newest_none key (p ∷ ps) e = go (eqb key p.change.key) e (newest_none key ps)
  where
    go : (b : Bool) → cond b (Some (length ps)) (latest key ps) ≡ None → (latest key ps ≡ None → newest_value key (changes_of ps) ≡ None) → cond b p.change.value (newest_value key (changes_of ps)) ≡ None
    go true d more = absurd (let y : Some (length ps) ≡ None = d in cc)
    go false d more = more d

-- the place of one that has one is there in the list that has the oldest in front
pub newest_some : (key i : ℕ) (places newer ps : List Place) (d : Place) → reverse places ≡ newer ++ ps → latest key ps ≡ Some i → newest_value key (changes_of ps) ≡ (get_or places i d).change.value
newest_some key i places newer ps d split e =
    let x = newest key i ps e in
    let all : reverse places ≡ (newer ++ x.newer) ++ x.place ∷ x.older = split ∙ ap (λ qs. newer ++ qs) x.is ∙ sym (append_assoc newer x.newer (x.place ∷ x.older)) in
    x.says ∙ ap (λ (q : Place). q.change.value) (sym (ap (λ n. get_or places n d) (sym x.number) ∙ place_at places (newer ++ x.newer) x.place x.older d all))

pub newest_within : (key i : ℕ) (places newer ps : List Place) → reverse places ≡ newer ++ ps → latest key ps ≡ Some i → i < length places
newest_within key i places newer ps split e =
    let x = newest key i ps e in
    let n : length places ≡ length newer + length ps = sym (length-reverse places) ∙ ap length split ∙ length-append newer ps in
    let m : length ps ≡ length x.newer + suc (length x.older) = ap length x.is ∙ length-append x.newer (x.place ∷ x.older) in
    let k = x.number in
    omega (n, m, k, arith)

-- Turns that fall

pub fall_less : (a b : ℕ) (cs : List Change) → a ≤ b → FallFrom a cs → FallFrom b cs
fall_less a b [] i f = tt
fall_less a b (c ∷ cs) i f = ((let x = f.0 in omega (x, i, arith)), f.1)

-- after a turn later than which there is none, a key has what the newest change left
pub value_settled : (j m : ℕ) (cs : List Change) → FallFrom (suc m) cs → value_at j m cs ≡ newest_value j cs
value_settled j m [] f = refl
value_settled j m (c ∷ cs) f =
    let x = f.0 in
    rw (le-leb c.turn m (omega (x, arith))) (ap (λ v. cond (eqb j c.key) c.value v) (value_settled j m cs (fall_less c.turn (suc m) cs (omega (x, arith)) f.1)))

-- Weights

-- how many keys are unlike what is answered after these changes
abbrev pub weight : (ℕ → Option ℕ → Bool) → ℕ → List Change → ℕ
weight unlike n cs = count n (λ j. unlike j (newest_value j cs))

-- and how many after turn m
abbrev pub weight_at : (ℕ → Option ℕ → Bool) → ℕ → List Change → ℕ → ℕ
weight_at unlike n cs m = count n (λ j. unlike j (value_at j m cs))

-- Of the turns from `until` on `best` is the greatest with the fewest keys unlike what is answered.
-- Up to `until` each key has what the places in `rest` say, after which there are `more` such keys.
pub record IsWeighed (unlike : ℕ → Option ℕ → Bool) (n first last best more : ℕ) (all rest : List Place) : Type 0 where
  pub until : ℕ
  pub from : first ≤ until
  pub to : until ≤ best
  pub within : best ≤ last
  pub falls : FallFrom (suc until) (changes_of rest)
  pub agree : (j m : ℕ) → m ≤ until → value_at j m (changes_of all) ≡ value_at j m (changes_of rest)
  pub heavy : weight unlike n (changes_of rest) ≡ weight_at unlike n (changes_of all) best + more
  pub least : (m : ℕ) → until ≤ m → m ≤ last → weight_at unlike n (changes_of all) best ≤ weight_at unlike n (changes_of all) m
  pub later : (m : ℕ) → best < m → m ≤ last → weight_at unlike n (changes_of all) best < weight_at unlike n (changes_of all) m

-- so it begins
pub weighed_first : (unlike : ℕ → Option ℕ → Bool) (n first last : ℕ) (all : List Place) → first ≤ last → FallFrom (suc last) (changes_of all) → IsWeighed unlike n first last last 0 all all
weighed_first unlike n first last all i falls = record {
  until = last;
  from = i;
  to = omega arith;
  within = omega arith;
  falls = falls;
  agree = λ j m l. refl;
  heavy = let s : weight unlike n (changes_of all) ≡ weight_at unlike n (changes_of all) last = count_same n (λ j. unlike j (newest_value j (changes_of all))) (λ j. unlike j (value_at j last (changes_of all))) (λ j. ap (unlike j) (sym (value_settled j last (changes_of all) falls))) in omega (s, arith);
  least = λ m a b. let same : last ≡ m = omega (a, b, arith) in rw same (omega arith);
  later = λ m a b. absurd (omega (a, b, arith));
}

module _ (unlike : ℕ → Option ℕ → Bool) (n first last : ℕ) (all : List Place) where
  -- a turn at which the changes in `rest` are those so far
  weight_here : (best more m : ℕ) (rest : List Place) → (x : IsWeighed unlike n first last best more all rest) → m ≤ x.until → FallFrom (suc m) (changes_of rest) → weight_at unlike n (changes_of all) m ≡ weight unlike n (changes_of rest)
  weight_here best more m rest x i falls = count_same n (λ j. unlike j (value_at j m (changes_of all))) (λ j. unlike j (newest_value j (changes_of rest))) (λ j. ap (unlike j) (x.agree j m i ∙ value_settled j m (changes_of rest) falls))

  -- what a change has changed
  weight_changed : (p : Place) (older : List Place) (was is : Bool) → p.change.key < n → unlike p.change.key (newest_value p.change.key (changes_of older)) ≡ was → unlike p.change.key p.change.value ≡ is → weight unlike n (changes_of older) + bit is ≡ weight unlike n (changes_of (p ∷ older)) + bit was
  weight_changed p older was is i w s =
      let here : unlike p.change.key (newest_value p.change.key (changes_of (p ∷ older))) ≡ is = ap (unlike p.change.key) (let q : newest_value p.change.key (changes_of (p ∷ older)) ≡ p.change.value = rw (eq-eqb p.change.key p.change.key refl) refl in q) ∙ s in
      let c = count_changed n p.change.key (λ j. unlike j (newest_value j (changes_of older))) (λ j. unlike j (newest_value j (changes_of (p ∷ older)))) i (λ j ne. ap (unlike j) (let q : newest_value j (changes_of older) ≡ newest_value j (changes_of (p ∷ older)) = rw (ne_eqb j p.change.key ne) refl in q)) in
      rw (here, w) at c

  -- the turns before a change are left
  pub weighed_next : (best more best' more' : ℕ) (p : Place) (older : List Place) (was is : Bool) → IsWeighed unlike n first last best more all (p ∷ older) → first < p.change.turn → p.change.key < n → unlike p.change.key (newest_value p.change.key (changes_of older)) ≡ was → unlike p.change.key p.change.value ≡ is → IsNextBest was is (p.change.turn - 1) best more best' more' → IsWeighed unlike n first last best' more' all older
  weighed_next best more best' more' p older was is x late below w s next = go was is w s next
    where
      turn : ℕ
      turn = p.change.turn

      come : turn ≤ x.until
      come = let f = x.falls.0 in omega (f, arith)

      falls : FallFrom (suc (turn - 1)) (changes_of older)
      falls = fall_less turn (suc (turn - 1)) (changes_of older) (omega (late, arith)) x.falls.1

      agree : (j m : ℕ) → m ≤ turn - 1 → value_at j m (changes_of all) ≡ value_at j m (changes_of older)
      agree j m i = x.agree j m (omega (i, come, late, arith)) ∙ value_before j m p.change (changes_of older) (omega (i, late, arith))

      -- just before the change
      before : weight_at unlike n (changes_of all) (turn - 1) ≡ weight unlike n (changes_of older)
      before = count_same n (λ j. unlike j (value_at j (turn - 1) (changes_of all))) (λ j. unlike j (newest_value j (changes_of older))) (λ j. ap (unlike j) (agree j (turn - 1) (omega arith) ∙ value_settled j (turn - 1) (changes_of older) falls))

      -- and after it
      behind : (m : ℕ) → turn ≤ m → m ≤ x.until → weight_at unlike n (changes_of all) m ≡ weight_at unlike n (changes_of all) best + more
      behind m i l = weight_here best more m (p ∷ older) x l (omega (i, arith), x.falls.1) ∙ x.heavy

      changed : (was is : Bool) → unlike p.change.key (newest_value p.change.key (changes_of older)) ≡ was → unlike p.change.key p.change.value ≡ is → weight unlike n (changes_of older) + bit is ≡ (weight_at unlike n (changes_of all) best + more) + bit was
      changed was is w s = weight_changed p older was is below w s ∙ ap (λ (k : ℕ). k + bit was) x.heavy

      -- where the best so far stays it
      stays : (more' : ℕ) → weight unlike n (changes_of older) ≡ weight_at unlike n (changes_of all) best + more' → IsWeighed unlike n first last best more' all older
      stays more' heavy = record {
        until = turn - 1;
        from = omega (late, arith);
        to = let t = x.to in omega (t, come, arith);
        within = x.within;
        falls = falls;
        agree = agree;
        heavy = heavy;
        least = λ m i l. elim (cases_lt m turn) [
          | inl q ↦ (let same : m ≡ turn - 1 = omega (q, i, late, arith) in rw (same, before, heavy) (omega arith))
          | inr q ↦ elim (cases_lt x.until m) [ inl r ↦ x.least m (omega (r, arith)) l | inr r ↦ (let b = behind m q r in omega (b, arith)) ]
        ];
        later = x.later;
      }

      -- where the older turn is better
      becomes : suc (weight unlike n (changes_of older)) ≡ weight_at unlike n (changes_of all) best → more ≡ 0 → IsWeighed unlike n first last (turn - 1) 0 all older
      becomes less none = record {
        until = turn - 1;
        from = omega (late, arith);
        to = omega arith;
        within = let t = x.to in let y = x.within in omega (t, y, come, arith);
        falls = falls;
        agree = agree;
        heavy = omega (before, arith);
        least = λ m i l. elim (cases_lt m turn) [
          | inl q ↦ (let same : m ≡ turn - 1 = omega (q, i, late, arith) in rw same (omega arith))
          | inr q ↦ (let d = fewer m q l in omega (d, arith))
        ];
        later = λ m i l. fewer m (omega (i, late, arith)) l;
      }
        where
          fewer : (m : ℕ) → turn ≤ m → m ≤ last → weight_at unlike n (changes_of all) (turn - 1) < weight_at unlike n (changes_of all) m
          fewer m i l = elim (cases_lt x.until m) [
            | inl r ↦ (let d = x.least m (omega (r, arith)) l in omega (d, before, less, arith))
            | inr r ↦ (let b = behind m i r in omega (b, before, less, none, arith))
          ]

      go : (was is : Bool) → unlike p.change.key (newest_value p.change.key (changes_of older)) ≡ was → unlike p.change.key p.change.value ≡ is → IsNextBest was is (turn - 1) best more best' more' → IsWeighed unlike n first last best' more' all older
      go true true w s y = rw (y.0, y.1) (stays more (let c = changed true true w s in omega (c, arith)))
      go false false w s y = rw (y.0, y.1) (stays more (let c = changed false false w s in omega (c, arith)))
      go true false w s y = rw (y.0, y.1) (stays (suc more) (let c = changed true false w s in omega (c, arith)))
      go false true w s (inl y) = rw (y.1, y.2) (becomes (let c = changed false true w s in let z = y.0 in omega (c, z, arith)) y.0)
      go false true w s (inr y) = rw y.0 (stays more' (let c = changed false true w s in let z = y.1 in omega (c, z, arith)))

  -- once all changes after the first turn are passed, the best is that of all turns
  pub weighed_all : (best more : ℕ) (rest : List Place) → (x : IsWeighed unlike n first last best more all rest) → FallFrom (suc first) (changes_of rest) → (m : ℕ) → first ≤ m → m ≤ last → weight_at unlike n (changes_of all) best ≤ weight_at unlike n (changes_of all) m
  weighed_all best more rest x falls m i l = elim (cases_lt x.until m) [
    | inl q ↦ x.least m (omega (q, arith)) l
    | inr q ↦ (let h = weight_here best more m rest x q (fall_less (suc first) (suc m) (changes_of rest) (omega (i, arith)) falls) in let v = x.heavy in omega (h, v, arith))
  ]

-- The search, place by place

-- how many places are left
pub record IsWeighing (unlike : ℕ → Option ℕ → Bool) (n first last best more left : ℕ) (all : List Place) : Type 0 where
  pub newer : List Place
  pub rest : List Place
  pub is : all ≡ newer ++ rest
  pub number : length rest ≡ left
  pub weighed : IsWeighed unlike n first last best more all rest

pub next_few : (was is : Bool) (older best more best' more' : ℕ) → IsNextBest was is older best more best' more' → more' ≤ suc more
next_few true true older best more best' more' x = let e = x.1 in omega (e, arith)
next_few false false older best more best' more' x = let e = x.1 in omega (e, arith)
next_few true false older best more best' more' x = let e = x.1 in omega (e, arith)
next_few false true older best more best' more' (inl x) = let e = x.2 in omega (e, arith)
next_few false true older best more best' more' (inr x) = let e = x.1 in omega (e, arith)

-- the next of them is the one that the list has there
record IsPlaceNext (left : ℕ) (place : Place) (rest : List Place) : Type 0 where
  older : List Place
  is : rest ≡ place ∷ older
  number : length older ≡ left - 1

place_next : (items newer rest : List Place) (left : ℕ) (place : Place) → reverse items ≡ newer ++ rest → length rest ≡ left → 0 < left → get_or items (left - 1) place ≡ place → IsPlaceNext left place rest
place_next items newer [] left place is number some here = absurd (omega (number, some, arith))
place_next items newer (p ∷ older) left place is number some here =
    let n : length older ≡ left - 1 = omega (number, arith) in
    let same : p ≡ place = sym (place_at items newer p older place is) ∙ ap (λ i. get_or items i place) n ∙ here in
    record { older = older; is = ap (λ q. q ∷ older) same; number = n }

module _ (unlike : ℕ → Option ℕ → Bool) (first last best more left : ℕ) (items : List Place) (place : Place) (some : 0 < left) (here : get_or items (left - 1) place ≡ place) where
  pub weighing_next : (best' more' : ℕ) (value : Option ℕ) (was is : Bool) → IsWeighing unlike (key_bound (changes_of (reverse items))) first last best more left (reverse items) → AreLinkedByKey (reverse items) → first < place.change.turn → ((key : ℕ) (newer older : List Place) → reverse items ≡ newer ++ older → place.before ≡ latest key older → value ≡ newest_value key (changes_of older)) → was ≡ unlike place.change.key value → is ≡ unlike place.change.key place.change.value → IsNextBest was is (place.change.turn - 1) best more best' more' → IsWeighing unlike (key_bound (changes_of (reverse items))) first last best' more' (left - 1) (reverse items)
  weighing_next best' more' value was is x linked late says w s next =
      let y = place_next items x.newer x.rest left place x.is x.number some here in
      let split : reverse items ≡ x.newer ++ place ∷ y.older = x.is ∙ ap (λ qs. x.newer ++ qs) y.is in
      let behind : reverse items ≡ (x.newer ++ place ∷ []) ++ y.older = split ∙ sym (append_assoc x.newer (place ∷ []) y.older) in
      let said = says place.change.key (x.newer ++ place ∷ []) y.older behind (linked x.newer place y.older split) in
      let below : place.change.key < key_bound (changes_of (reverse items)) = subst (λ qs. place.change.key < key_bound (changes_of qs)) (sym split) (key_below x.newer place y.older) in
      record {
        newer = x.newer ++ place ∷ [];
        rest = y.older;
        is = behind;
        number = y.number;
        weighed = weighed_next unlike (key_bound (changes_of (reverse items))) first last (reverse items) best more best' more' place y.older was is (subst (λ qs. IsWeighed unlike (key_bound (changes_of (reverse items))) first last best more (reverse items) qs) y.is x.weighed) late below (ap (unlike place.change.key) (sym said) ∙ sym w) (sym s) next;
      }

  -- if the next change is not after the first turn, no other one is
  pub weighing_ends : (x : IsWeighing unlike (key_bound (changes_of (reverse items))) first last best more left (reverse items)) → place.change.turn ≤ first → FallFrom (suc first) (changes_of x.rest)
  weighing_ends x early =
      let y = place_next items x.newer x.rest left place x.is x.number some here in
      let falls : FallFrom (suc x.weighed.until) (changes_of (place ∷ y.older)) = subst (λ qs. FallFrom (suc x.weighed.until) (changes_of qs)) y.is x.weighed.falls in
      subst (λ qs. FallFrom (suc first) (changes_of qs)) (sym y.is) (omega (early, arith), falls.1)

-- nor where none is left
pub none_left_falls : (turn : ℕ) (rest : List Place) → length rest ≤ 0 → FallFrom turn (changes_of rest)
none_left_falls turn [] e = tt
none_left_falls turn (p ∷ ps) e = absurd (omega (e, arith))
