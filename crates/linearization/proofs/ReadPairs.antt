-- The pairs that an ordered read answers, found key by key.
use Rattle.std.proofs.Common.{◌≡◌, ◌≢◌, ℕ, zero, suc, ◌<◌, ⊎_elim, Bool, true, false, cond, List, [], ◌∷◌, length, take, Option, Some, None, All, Less, refl, sym, ◌∙◌, ap, subst, arith, unwrap_or}
use Rattle.std.specs.List.{filter}
use Rattle.std.specs.List.Sorted.{IsStrictlySortedBy}
use Rattle.std.specs.Map.{keys_of, lookup}
use Rattle.std.specs.Ordering.{nat_cmp}
use Rattle.std.specs.BTreeMap.{is_at}
use Rattle.std.proofs.lemmas.Bool.{eq-eqb, ne_eqb, cases_eq}
use Rattle.std.proofs.lemmas.Grind.{common_steps}
use Rattle.std.proofs.lemmas.List.{length-map}
use Rattle.std.proofs.lemmas.Map.Keys.{sorted_tail}
use Rattle.std.proofs.lemmas.Map.Views.{All-after_first}
use Rattle.record.specs.Common.{Pair, get, first_pair, AllAbove, IsRising, word_pair, Call, PopFirst, Command, Map, written_log, map_at, number_pairs}
use Rattle.record.specs.declared.record.Line.{Line}
use Rattle.linearization.specs.declared.places.Place.{Place}
use Rattle.linearization.specs.Entries.{AreEntries}
use Rattle.linearization.specs.Links.{latest}
use Rattle.linearization.specs.Ordered.{looks_for, most_told, pairs_read}
use Rattle.linearization.proofs.Values.{value_is, values}
use Rattle.linearization.proofs.Chains.{changes_of, never, compares_not}
use Rattle.linearization.proofs.Told.{filter_rises, get_filter, take_same}

-- The keys that have a value

abbrev pair_of : ℕ → ℕ → Pair
pair_of key value = record { key = key; value = value }

-- the pair of the key in front of others, where it has a value
abbrev pub with_pair : ℕ → Option ℕ → List Pair → List Pair
with_pair key (Some v) ps = pair_of key v ∷ ps
with_pair key None ps = ps

-- the pairs of those of the keys that have a value
abbrev pub held : {X : Type 0} → (ℕ → Option ℕ) → List (ℕ × X) → List Pair
held value [] = []
held value (e ∷ es) = with_pair e.0 (value e.0) (held value es)

compares_same : (k : ℕ) → is_at (nat_cmp k) k ≡ true
compares_same k = grind (arith, common_steps)

compares_less : (j k : ℕ) → nat_cmp j k ≡ Less → j < k
compares_less j k e = grind (arith, common_steps)

-- a value, where there is such a key
abbrev if_known : {X : Type 0} → Option X → Option ℕ → Option ℕ
if_known (Some x) v = v
if_known None v = None

known_none : {X : Type 0} (known : Option X) → if_known known None ≡ None
known_none (Some x) = refl
known_none None = refl

-- what they have of a key
held_get : {X : Type 0} (value : ℕ → Option ℕ) (es : List (ℕ × X)) (j : ℕ) → get j (held value es) ≡ if_known (lookup (is_at (nat_cmp j)) es) (value j)
held_get value [] j = refl
held_get {X} value (e ∷ es) j = ⊎_elim (λ q. same q (value e.0) refl (held_get value es j)) (λ ne. rw (compares_not j e.0 ne) (other ne (value e.0) (held_get value es j))) (cases_eq j e.0)
  where
    same : j ≡ e.0 → (v : Option ℕ) → value e.0 ≡ v → get j (held value es) ≡ if_known (lookup (is_at (nat_cmp j)) es) (value j) → get j (with_pair e.0 v (held value es)) ≡ if_known (cond (is_at (nat_cmp j) e.0) (Some e.1) (lookup (is_at (nat_cmp j)) es)) (value j)
    same q (Some v) is rest =
        let at : is_at (nat_cmp j) e.0 ≡ true = subst (λ (k : ℕ). is_at (nat_cmp j) k ≡ true) q (compares_same j) in
        let has : value j ≡ Some v = ap value q ∙ is in
        rw (at, has, eq-eqb j e.0 q) refl
    same q None is rest =
        let at : is_at (nat_cmp j) e.0 ≡ true = subst (λ (k : ℕ). is_at (nat_cmp j) k ≡ true) q (compares_same j) in
        let has : value j ≡ None = ap value q ∙ is in
        rest ∙ rw (at, has) (known_none (lookup (is_at (nat_cmp j)) es))

    other : j ≢ e.0 → (v : Option ℕ) → get j (held value es) ≡ if_known (lookup (is_at (nat_cmp j)) es) (value j) → get j (with_pair e.0 v (held value es)) ≡ if_known (lookup (is_at (nat_cmp j)) es) (value j)
    other ne (Some v) rest = rw (ne_eqb j e.0 ne) rest
    other ne None rest = rest

-- and they rise as the keys do
held_above : {X : Type 0} (k : ℕ) (value : ℕ → Option ℕ) (es : List (ℕ × X)) → All (λ q. nat_cmp k q ≡ Less) (keys_of es) → AllAbove k (held value es)
held_above k value [] a = tt
held_above {X} k value (e ∷ es) a = go (value e.0) (held_above k value es (λ i d l. a (suc i) d (omega (l, arith))))
  where
    go : (v : Option ℕ) → AllAbove k (held value es) → AllAbove k (with_pair e.0 v (held value es))
    go (Some v) rest = (compares_less k e.0 (a 0 e.0 (omega arith)), rest)
    go None rest = rest

held_rises : {X : Type 0} (value : ℕ → Option ℕ) (es : List (ℕ × X)) → IsStrictlySortedBy nat_cmp (keys_of es) → IsRising (held value es)
held_rises value [] s = tt
held_rises {X} value (e ∷ es) s = go (value e.0) (held_rises value es (sorted_tail nat_cmp e.0 (keys_of es) s))
  where
    go : (v : Option ℕ) → IsRising (held value es) → IsRising (with_pair e.0 v (held value es))
    go (Some v) rest = (held_above e.0 value es (All-after_first nat_cmp e.0 (keys_of es) s), rest)
    go None rest = rest

-- of the keys that are looked for
held_filter : {X : Type 0} (looks : ℕ → Bool) (value : ℕ → Option ℕ) (es : List (ℕ × X)) → held value (filter (λ e. looks e.0) es) ≡ filter (λ (p : Pair). looks p.key) (held value es)
held_filter looks value [] = refl
held_filter {X} looks value (e ∷ es) = go (looks e.0) refl (value e.0) refl (held_filter looks value es)
  where
    go : (b : Bool) → looks e.0 ≡ b → (v : Option ℕ) → value e.0 ≡ v → held value (filter (λ x. looks x.0) es) ≡ filter (λ (p : Pair). looks p.key) (held value es) → held value (cond b (e ∷ filter (λ x. looks x.0) es) (filter (λ x. looks x.0) es)) ≡ filter (λ (p : Pair). looks p.key) (with_pair e.0 v (held value es))
    go true t (Some v) is rest = rw (t, is) (ap (λ ps. pair_of e.0 v ∷ ps) rest)
    go true t None is rest = rw is rest
    go false t (Some v) is rest = rw t rest
    go false t None is rest = rest

-- What is answered

-- the first pairs held of a map, by keys such that it has no others, are those answered
pub told_held : {X : Type 0} (command : Command) (pairs : List Pair) (es : List (ℕ × X)) (m : List Pair) → IsStrictlySortedBy nat_cmp (keys_of es) → IsRising m → ((j : ℕ) → lookup (is_at (nat_cmp j)) es ≡ None → get j m ≡ None) → take (most_told command) (held (λ j. get j m) (filter (λ e. looks_for command pairs e.0) es)) ≡ pairs_read command pairs m
told_held {X} command pairs es m sorted rises unknown = ap (take (most_told command)) (held_filter (looks_for command pairs) (λ j. get j m) es) ∙ take_same (most_told command) (filter (λ (p : Pair). looks_for command pairs p.key) (held (λ j. get j m) es)) (filter (λ (p : Pair). looks_for command pairs p.key) m) (filter_rises (looks_for command pairs) (held (λ j. get j m) es) (held_rises (λ j. get j m) es sorted)) (filter_rises (looks_for command pairs) m rises) (λ j t. agree j)
  where
    same : (j : ℕ) → get j (held (λ k. get k m) es) ≡ get j m
    same j = held_get (λ k. get k m) es j ∙ go (lookup (is_at (nat_cmp j)) es) refl
      where
        go : (known : Option X) → lookup (is_at (nat_cmp j)) es ≡ known → if_known known (get j m) ≡ get j m
        go (Some x) e = refl
        go None e = sym (unknown j e)

    agree : (j : ℕ) → get j (filter (λ (p : Pair). looks_for command pairs p.key) (held (λ k. get k m) es)) ≡ get j (filter (λ (p : Pair). looks_for command pairs p.key) m)
    agree j = get_filter (looks_for command pairs) j (held (λ k. get k m) es) ∙ ap (λ v. cond (looks_for command pairs j) v None) (same j) ∙ sym (get_filter (looks_for command pairs) j m)

-- so of the keys whose newest places are known
pub told_is : (command : Command) (pairs : List Pair) (newest found : List (ℕ × Option ℕ)) (all : List Place) (calls : List Call) (lines : List Line) (turn : ℕ) → AreEntries calls lines (changes_of all) → IsStrictlySortedBy nat_cmp (keys_of newest) → ((key : ℕ) → unwrap_or (lookup (is_at (nat_cmp key)) newest) None ≡ latest key all) → found ≡ filter (λ e. looks_for command pairs e.0) newest → take (most_told command) (held (λ j. get j (map_at calls lines turn)) found) ≡ pairs_read command pairs (map_at calls lines turn)
told_is command pairs newest found all calls lines turn are sorted newest_are is = ap (λ es. take (most_told command) (held (λ j. get j (map_at calls lines turn)) es)) is ∙ told_held command pairs newest (map_at calls lines turn) sorted (values calls (written_log lines) (changes_of all) turn are).0 unknown
  where
    unknown : (j : ℕ) → lookup (is_at (nat_cmp j)) newest ≡ None → get j (map_at calls lines turn) ≡ None
    unknown j e = value_is calls (written_log lines) (changes_of all) j turn are ∙ never j turn all (sym (newest_are j) ∙ ap (λ o. unwrap_or o None) e)

-- Key by key

-- the newest place of the next key
pub newest_next : (get_newest : ℕ → Option (Option ℕ)) (all : List Place) (e : ℕ × Option ℕ) (es left : List (ℕ × Option ℕ)) → left ≡ e ∷ es → All (λ x. get_newest x.0 ≡ Some x.1) left → ((key : ℕ) → unwrap_or (get_newest key) None ≡ latest key all) → e.1 ≡ latest e.0 all
newest_next get_newest all e es left is known are =
    let first : get_newest e.0 ≡ Some e.1 = (rw is at known) 0 e (omega arith) in
    sym (ap (λ o. unwrap_or o None) first) ∙ are e.0

-- the pairs are those of all these keys if, and only if, the rest is that of the keys left
abbrev pub IsToldBy : {X : Type 0} → (ℕ → Option ℕ) → List (ℕ × X) → ℕ → List Pair → List (ℕ × X) → ℕ → List Pair → Type 0
IsToldBy value all most pairs es left rest = (take left (held value es) ≡ rest → take most (held value all) ≡ pairs) × (take most (held value all) ≡ pairs → take left (held value es) ≡ rest)

module _ {X : Type 0} (value : ℕ → Option ℕ) (all : List (ℕ × X)) (most : ℕ) (pairs : List Pair) where
  -- a key without a value is passed over
  pub told_none : (e : ℕ × X) (es : List (ℕ × X)) (left : ℕ) (rest : List Pair) → value e.0 ≡ None → IsToldBy value all most pairs (e ∷ es) left rest → IsToldBy value all most pairs es left rest
  told_none e es left rest none x = rw none at x

  -- and one with a value is answered
  pub told_more : (e : ℕ × X) (es : List (ℕ × X)) (v left less : ℕ) (rest others : List Pair) → value e.0 ≡ Some v → (first : Pair) × (first.key ≡ e.0) × (first.value ≡ v) × (rest ≡ first ∷ others) → suc less ≡ left → IsToldBy value all most pairs (e ∷ es) left rest → IsToldBy value all most pairs es less others
  told_more e es v left less rest others is first less_is x = (λ told. x.0 (begins ∙ ap (λ ps. pair_of e.0 v ∷ ps) told ∙ sym ends), λ told. behind (sym begins ∙ x.1 told ∙ ends))
    where
      same : first.0 ≡ pair_of e.0 v
      same = λ i. record { key = first.1 i; value = first.2 i }

      begins : take left (held value (e ∷ es)) ≡ pair_of e.0 v ∷ take less (held value es)
      begins = rw (is, sym less_is) refl

      ends : rest ≡ pair_of e.0 v ∷ others
      ends = first.3 ∙ ap (λ (p : Pair). p ∷ others) same

      behind : pair_of e.0 v ∷ take less (held value es) ≡ pair_of e.0 v ∷ others → take less (held value es) ≡ others
      behind q = cc

  -- which no other pair may replace
  pub told_other : (e : ℕ × X) (es : List (ℕ × X)) (v left less : ℕ) (rest : List Pair) → value e.0 ≡ Some v → ((first : Pair) (others : List Pair) → first.key ≡ e.0 → first.value ≡ v → rest ≢ first ∷ others) → suc less ≡ left → IsToldBy value all most pairs (e ∷ es) left rest → take most (held value all) ≢ pairs
  told_other e es v left less rest is other less_is x told = other (pair_of e.0 v) (take less (held value es)) refl refl (sym (x.1 told) ∙ begins)
    where
      begins : take left (held value (e ∷ es)) ≡ pair_of e.0 v ∷ take less (held value es)
      begins = rw (is, sym less_is) refl

  -- this many are answered
  pub so_many : (es : List (ℕ × X)) (left : ℕ) (rest : List Pair) → left ≡ 0 → IsToldBy value all most pairs es left rest → IsToldBy value all most pairs [] left rest
  so_many es left rest none x = rw none (rw none at x)

  -- and no pair may be left at the end
  pub told_all : (left : ℕ) (rest : List (ℕ × ℕ)) → IsToldBy value all most pairs [] left (number_pairs rest) → length rest ≡ 0 → take most (held value all) ≡ pairs
  told_all zero [] x empty = x.0 refl
  told_all (suc n) [] x empty = x.0 refl
  told_all left (p ∷ rest) x empty = absurd (omega (empty, arith))

  pub told_less : (left : ℕ) (rest : List (ℕ × ℕ)) → IsToldBy value all most pairs [] left (number_pairs rest) → (length rest ≡ 0 → ⊥) → take most (held value all) ≢ pairs
  told_less zero rest x some told = some (sym (length-map rest (word_pair (λ n. n) (λ n. n))) ∙ ap length (sym (x.1 told)))
  told_less (suc n) rest x some told = some (sym (length-map rest (word_pair (λ n. n) (λ n. n))) ∙ ap length (sym (x.1 told)))

-- Whether a map has a pair

-- a key without a value holds none
pub held_less : {X : Type 0} (value : ℕ → Option ℕ) (e : ℕ × X) (es : List (ℕ × X)) → ((v : ℕ) → value e.0 ≢ Some v) → held value (e ∷ es) ≡ held value es
held_less {X} value e es none = go (value e.0) none
  where
    go : (o : Option ℕ) → ((v : ℕ) → o ≢ Some v) → with_pair e.0 o (held value es) ≡ held value es
    go (Some v) some = absurd (some v refl)
    go None some = refl

-- a map that has a value of a key has a first pair
pub first_some : (key value : ℕ) (m : List Pair) → get key m ≡ Some value → (p : Pair) × (first_pair m ≡ Some p)
first_some key value [] is = let y : None ≡ Some value = is in absurd (cc)
first_some key value (p ∷ ps) is = (p, refl)

-- and one for which a pop would answer no pair has none
pub first_none : (m : List Pair) → [] ≡ pairs_read (Map PopFirst) [] m → first_pair m ≡ None
first_none [] is = refl
first_none (p ∷ ps) is = absurd (cc)
