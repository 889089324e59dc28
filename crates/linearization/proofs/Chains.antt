-- Looking for a turn in which a key has a value, from its newest change to its oldest.
use Rattle.std.proofs.Common.{◌≡◌, ◌≢◌, ℕ, suc, ◌+◌, ◌-◌, ◌<◌, ◌≤◌, ◌⊎◌, inl, inr, ⊎_elim, Bool, true, false, cond, eqb, List, [], ◌∷◌, ◌++◌, length, length-append, map, reverse, get_or, Option, Some, None, refl, sym, ◌∙◌, ap, subst, arith, append_assoc}
use Rattle.std.specs.Prelude.{leb, min, unwrap_or, is_some, is_none}
use Rattle.std.specs.Option.{option_eq}
use Rattle.std.specs.Ordering.{nat_cmp}
use Rattle.std.specs.BTreeMap.{is_at}
use Rattle.std.proofs.lemmas.Bool.{eqb-true, eqb-false, eq-eqb, leb-true, le-leb, cases_order}
use Rattle.std.proofs.lemmas.List.{reverse-append, reverse-reverse, length-reverse}
use Rattle.std.proofs.lemmas.Grind.{reverse_onto, common_steps}
use Rattle.std.proofs.Math.Seq.{get_or-append_seam}
use Rattle.linearization.specs.declared.places.Change.{Change}
use Rattle.linearization.specs.declared.places.Place.{Place}
use Rattle.record.specs.Common.{get, Call, written_log, map_at, IsGreatestTurn}
use Rattle.record.specs.declared.record.Line.{Line}
use Rattle.linearization.specs.Entries.{AreEntries}
use Rattle.linearization.specs.Links.{latest, newest_value, AreLinkedByKey}
use Rattle.linearization.proofs.Values.{value_at, value_is}

-- the changes of places
abbrev pub changes_of : List Place → List Change
changes_of ps = map (λ (q : Place). q.change) ps

-- One place more

pub links_more : (p : Place) (ps : List Place) → p.before ≡ latest p.change.key ps → AreLinkedByKey ps → AreLinkedByKey (p ∷ ps)
links_more p ps b x [] q older e = let s : p ≡ q = cc in let t : ps ≡ older = cc in rw (sym s, sym t) b
links_more p ps b x (n ∷ newer) q older e = x newer q older (let t : ps ≡ newer ++ q ∷ older = cc in t)

-- added to the list that has the oldest in front
pushed : (items new : List Place) (p : Place) → new ≡ items ++ p ∷ [] → reverse new ≡ p ∷ reverse items
pushed items new p e = ap reverse e ∙ reverse-append items (p ∷ [])

pub pushed_links : (items new : List Place) (p : Place) → new ≡ items ++ p ∷ [] → p.before ≡ latest p.change.key (reverse items) → AreLinkedByKey (reverse items) → AreLinkedByKey (reverse new)
pushed_links items new p e b x = subst AreLinkedByKey (sym (pushed items new p e)) (links_more p (reverse items) b x)

-- the newest of each key is known as before, where its key has the new place
pub pushed_newest : (items new : List Place) (p : Place) (old_get new_get : ℕ → Option (Option ℕ)) → new ≡ items ++ p ∷ [] → ((key : ℕ) → unwrap_or (old_get key) None ≡ latest key (reverse items)) → new_get p.change.key ≡ Some (Some (length items)) → ((key : ℕ) → p.change.key ≢ key → new_get key ≡ old_get key) → (key : ℕ) → unwrap_or (new_get key) None ≡ latest key (reverse new)
pushed_newest items new p old_get new_get e are own others key = rw (pushed items new p e) (go (eqb key p.change.key) refl)
  where
    go : (b : Bool) → eqb key p.change.key ≡ b → unwrap_or (new_get key) None ≡ cond b (Some (length (reverse items))) (latest key (reverse items))
    go true same = rw (eqb-true key p.change.key same, own, length-reverse items) refl
    go false other = rw (others key (λ q. eqb-false key p.change.key other (sym q))) (are key)

-- two keys that differ compare so
pub compares_not : (k q : ℕ) → k ≢ q → is_at (nat_cmp k) q ≡ false
compares_not k q ne = grind (arith, common_steps)

-- The newest place of a key

same_branch : (b : Bool) (v : Option ℕ) → cond b v v ≡ v
same_branch true v = refl
same_branch false v = refl

pub cases_lt_le : (a b : ℕ) → (a < b) ⊎ (b ≤ a)
cases_lt_le a b = elim (cases_order a b) [ inl q ↦ inr (omega (q, arith)) | inr (inl q) ↦ inl q | inr (inr q) ↦ inr (omega (q, arith)) ]

pub gt_leb : (a b : ℕ) → b < a → leb a b ≡ false
gt_leb a b i = go (leb a b) refl
  where
    go : (d : Bool) → leb a b ≡ d → d ≡ false
    go true e = let j = leb-true a b e in absurd (omega (i, j, arith))
    go false e = refl

-- it is somewhere, with only others' changes over it, and has what the key was left with
pub record IsNewest (key i : ℕ) (ps : List Place) : Type 0 where
  pub newer : List Place
  pub place : Place
  pub older : List Place
  pub is : ps ≡ newer ++ place ∷ older
  pub number : length older ≡ i
  pub key_is : place.change.key ≡ key
  pub others : (m : ℕ) → value_at key m (changes_of ps) ≡ value_at key m (place.change ∷ changes_of older)
  pub says : newest_value key (changes_of ps) ≡ place.change.value

-- one place more over it, of another key, or itself the newest
newest_more : (key i : ℕ) (p : Place) (ps : List Place) (b : Bool) → eqb key p.change.key ≡ b → cond b (Some (length ps)) (latest key ps) ≡ Some i → (latest key ps ≡ Some i → IsNewest key i ps) → IsNewest key i (p ∷ ps)
newest_more key i p ps true same e rest = record { newer = []; place = p; older = ps; is = refl; number = let n : length ps ≡ i = cc in n; key_is = sym (eqb-true key p.change.key same); others = λ m. refl; says = rw same refl }
newest_more key i p ps false other e rest =
    let x = rest e in
    record {
      newer = p ∷ x.newer;
      place = x.place;
      older = x.older;
      is = ap (λ qs. p ∷ qs) x.is;
      number = x.number;
      key_is = x.key_is;
      others = λ m. rw other (same_branch (leb p.change.turn m) (value_at key m (changes_of ps))) ∙ x.others m;
      says = rw other x.says;
    }

pub newest : (key i : ℕ) (ps : List Place) → latest key ps ≡ Some i → IsNewest key i ps
newest key i [] e = absurd (let y : None ≡ Some i = e in cc)
newest key i (p ∷ ps) e = newest_more key i p ps (eqb key p.change.key) refl e (λ d. newest key i ps d)

-- where there is none, the key has no value
never_more : (key m : ℕ) (p : Place) (ps : List Place) (b : Bool) → eqb key p.change.key ≡ b → cond b (Some (length ps)) (latest key ps) ≡ None → (latest key ps ≡ None → value_at key m (changes_of ps) ≡ None) → value_at key m (changes_of (p ∷ ps)) ≡ None
never_more key m p ps true same e rest = absurd (let y : Some (length ps) ≡ None = e in cc)
never_more key m p ps false other e rest = rw other (same_branch (leb p.change.turn m) (value_at key m (changes_of ps))) ∙ rest e

pub never : (key m : ℕ) (ps : List Place) → latest key ps ≡ None → value_at key m (changes_of ps) ≡ None
never key m [] e = refl
never key m (p ∷ ps) e = never_more key m p ps (eqb key p.change.key) refl e (λ d. never key m ps d)

-- the place of a number, in the list that has the oldest in front
pub place_at : (places : List Place) (newer : List Place) (p : Place) (older : List Place) (d : Place) → reverse places ≡ newer ++ p ∷ older → get_or places (length older) d ≡ p
place_at places newer p older d e = rw (sym (reverse-reverse places), e, reverse-append newer (p ∷ older), reverse_onto older p [], append_assoc (reverse older) (p ∷ []) (reverse newer), sym (length-reverse older)) (get_or-append_seam (reverse older) p (reverse newer) d)

-- The search

-- Of the turns after `until` none has the value. Up to `until` the key has what the places from
-- `at` on say.
pub record IsLookedFor (key : ℕ) (value : Option ℕ) (first last until : ℕ) (at : Option ℕ) (all : List Place) : Type 0 where
  pub newer : List Place
  pub rest : List Place
  pub is : all ≡ newer ++ rest
  pub at_is : at ≡ latest key rest
  pub from : first ≤ until
  pub to : until ≤ last
  pub agree : (m : ℕ) → m ≤ until → value_at key m (changes_of all) ≡ value_at key m (changes_of rest)
  pub none : (m : ℕ) → until < m → m ≤ last → value_at key m (changes_of all) ≢ value

-- so it begins
pub look_starts : (key : ℕ) (value : Option ℕ) (first last : ℕ) (at : Option ℕ) (all : List Place) → first ≤ last → at ≡ latest key all → IsLookedFor key value first last last at all
look_starts key value first last at all from e = record { newer = []; rest = all; is = refl; at_is = e; from = from; to = omega arith; agree = λ m i. refl; none = λ m i j. absurd (omega arith) }

-- the value has been found, or there is none
abbrev pub IsFound : ℕ → Option ℕ → ℕ → ℕ → ℕ → List Place → Type 0
IsFound key value first last m all = IsGreatestTurn (λ n. value_at key n (changes_of all) ≡ value) first last m

abbrev pub IsNowhere : ℕ → Option ℕ → ℕ → ℕ → List Place → Type 0
IsNowhere key value first last all = (n : ℕ) → first ≤ n → n ≤ last → value_at key n (changes_of all) ≢ value

-- at the place of a number
pub record IsHere (key : ℕ) (value : Option ℕ) (first last until i : ℕ) (place : Place) (all : List Place) : Type 0 where
  pub newer : List Place
  pub older : List Place
  pub is : all ≡ newer ++ place ∷ older
  pub number : length older ≡ i
  pub key_is : place.change.key ≡ key
  pub from : first ≤ until
  pub to : until ≤ last
  pub agree : (m : ℕ) → m ≤ until → value_at key m (changes_of all) ≡ value_at key m (place.change ∷ changes_of older)
  pub none : (m : ℕ) → until < m → m ≤ last → value_at key m (changes_of all) ≢ value

-- the place that the list has there is such a one
pub look_here : (key : ℕ) (value : Option ℕ) (first last until i : ℕ) (places : List Place) (place : Place) → get_or places i place ≡ place → IsLookedFor key value first last until (Some i) (reverse places) → IsHere key value first last until i place (reverse places)
look_here key value first last until i places place e x = record {
  newer = x.newer ++ y.newer;
  older = y.older;
  is = split ∙ ap (λ q. (x.newer ++ y.newer) ++ q ∷ y.older) same;
  number = y.number;
  key_is = ap (λ (q : Place). q.change.key) (sym same) ∙ y.key_is;
  from = x.from;
  to = x.to;
  agree = λ m j. x.agree m j ∙ y.others m ∙ ap (λ (q : Place). value_at key m (q.change ∷ changes_of y.older)) same;
  none = x.none;
}
  where
    y : IsNewest key i x.rest
    y = newest key i x.rest (sym x.at_is)

    split : reverse places ≡ (x.newer ++ y.newer) ++ y.place ∷ y.older
    split = x.is ∙ ap (λ qs. x.newer ++ qs) y.is ∙ sym (append_assoc x.newer y.newer (y.place ∷ y.older))

    same : y.place ≡ place
    same = sym (place_at places (x.newer ++ y.newer) y.place y.older place split) ∙ ap (λ n. get_or places n place) y.number ∙ e

-- what the key has there
value_here : (key m : ℕ) (c : Change) (cs : List Change) → c.key ≡ key → c.turn ≤ m → value_at key m (c ∷ cs) ≡ c.value
value_here key m c cs e i = rw (e, le-leb c.turn m i, eq-eqb key key refl) refl

pub value_before : (key m : ℕ) (c : Change) (cs : List Change) → m < c.turn → value_at key m (c ∷ cs) ≡ value_at key m cs
value_before key m c cs i = rw (gt_leb c.turn m i) refl

-- it has the value sought
pub here_found : (key : ℕ) (value : Option ℕ) (first last until i : ℕ) (place : Place) (all : List Place) → IsHere key value first last until i place all → place.change.turn ≤ until → place.change.value ≡ value → IsFound key value first last until all
here_found key value first last until i place all x come e = record {
  from = x.from;
  to = x.to;
  holds = x.agree until (omega arith) ∙ value_here key until place.change (changes_of x.older) x.key_is come ∙ e;
  none_later = x.none;
}

-- it has another since the first turn or before
pub here_ends : (key : ℕ) (value : Option ℕ) (first last until i : ℕ) (place : Place) (all : List Place) → IsHere key value first last until i place all → (place.change.turn ≤ until → place.change.value ≢ value) → place.change.turn ≤ first → IsNowhere key value first last all
here_ends key value first last until i place all x other early n from to is = ⊎_elim (λ j. x.none n j to is) (λ j. other (let f = x.from in omega (f, early, arith)) (sym (value_here key n place.change (changes_of x.older) x.key_is (omega (from, early, arith))) ∙ sym (x.agree n j) ∙ is)) (cases_lt_le until n)

-- the turns before it are left
pub here_older : (key : ℕ) (value : Option ℕ) (first last until i : ℕ) (place : Place) (all : List Place) → AreLinkedByKey all → IsHere key value first last until i place all → (place.change.turn ≤ until → place.change.value ≢ value) → first < place.change.turn → IsLookedFor key value first last (min until (place.change.turn - 1)) place.before all
here_older key value first last until i place all linked x other late = record {
  newer = x.newer ++ place ∷ [];
  rest = x.older;
  is = x.is ∙ sym (append_assoc x.newer (place ∷ []) x.older);
  at_is = linked x.newer place x.older x.is ∙ ap (λ k. latest k x.older) x.key_is;
  from = let f = x.from in omega (f, late, arith);
  to = let t = x.to in omega (t, arith);
  agree = λ m j. x.agree m (omega (j, arith)) ∙ value_before key m place.change (changes_of x.older) (omega (j, late, arith));
  none = λ m j to is. ⊎_elim (λ k. x.none m k to is) (λ k. let come : place.change.turn ≤ m = omega (j, k, late, arith) in other (omega (come, k, arith)) (sym (value_here key m place.change (changes_of x.older) x.key_is come) ∙ sym (x.agree m k) ∙ is)) (cases_lt_le until m);
}

-- where only one turn is looked at, it stays this one
pub look_on : (key m turn : ℕ) (at : Option ℕ) (all : List Place) → m < turn → IsLookedFor key None m m (min m (turn - 1)) at all → IsLookedFor key None m m m at all
look_on key m turn at all late x = let same : min m (turn - 1) ≡ m = omega (late, arith) in subst (λ (until : ℕ). IsLookedFor key None m m until at all) same x

-- how many places may still be looked at
abbrev pub places_left : Option ℕ → ℕ
places_left None = 0
places_left (Some i) = suc i

-- fewer than before are left then
pub here_nearer : (key : ℕ) (value : Option ℕ) (first last until i : ℕ) (place : Place) (all : List Place) → AreLinkedByKey all → IsHere key value first last until i place all → places_left place.before < suc i
here_nearer key value first last until i place all linked x = go place.before (sym (linked x.newer place x.older x.is ∙ ap (λ k. latest k x.older) x.key_is))
  where
    go : (at : Option ℕ) → latest key x.older ≡ at → places_left at < suc i
    go None e = omega arith
    go (Some j) e =
        let y = newest key j x.older e in
        let n = x.number in
        let l : length x.older ≡ length y.newer + suc (length y.older) = ap length y.is ∙ length-append y.newer (y.place ∷ y.older) in
        let k = y.number in
        omega (n, l, k, arith)

-- the place sought is one of the list
pub look_within : (key : ℕ) (value : Option ℕ) (first last until i : ℕ) (places : List Place) → IsLookedFor key value first last until (Some i) (reverse places) → i < length places
look_within key value first last until i places x =
    let y = newest key i x.rest (sym x.at_is) in
    let l : length places ≡ length x.newer + length x.rest = sym (length-reverse places) ∙ ap length x.is ∙ length-append x.newer x.rest in
    let r : length x.rest ≡ length y.newer + suc (length y.older) = ap length y.is ∙ length-append y.newer (y.place ∷ y.older) in
    let k = y.number in
    omega (l, r, k, arith)

-- no place is left: up to there the key has no value
pub look_ends : (key : ℕ) (value : Option ℕ) (first last until : ℕ) (all : List Place) → is_none value ≡ true → IsLookedFor key value first last until None all → IsFound key value first last until all
look_ends key (Some v) first last until all e x = absurd (let y : false ≡ true = e in cc)
look_ends key None first last until all e x = record { from = x.from; to = x.to; holds = x.agree until (omega arith) ∙ never key until x.rest (sym x.at_is); none_later = x.none }

pub look_fails : (key : ℕ) (value : Option ℕ) (first last until : ℕ) (all : List Place) → is_none value ≡ false → IsLookedFor key value first last until None all → IsNowhere key value first last all
look_fails key None first last until all e x = absurd (let y : true ≡ false = e in cc)
look_fails key (Some v) first last until all e x = λ n from to is. ⊎_elim (λ j. x.none n j to is) (λ j. let y : None ≡ Some v = sym (never key n x.rest (sym x.at_is)) ∙ sym (x.agree n j) ∙ is in absurd (cc)) (cases_lt_le until n)

-- Values compared

pub values_same : (a b : Option ℕ) → option_eq eqb a b ≡ true → a ≡ b
values_same None None e = refl
values_same (Some x) (Some y) e = ap (λ (n : ℕ). Some n) (eqb-true x y e)
values_same None (Some y) e = absurd (let y : false ≡ true = e in cc)
values_same (Some x) None e = absurd (let y : false ≡ true = e in cc)

pub values_differ : (a b : Option ℕ) → option_eq eqb a b ≡ false → a ≢ b
values_differ None b e same = absurd (let y : true ≡ false = rw (sym same) at e in cc)
values_differ (Some x) b e same = absurd (let y : true ≡ false = sym (eq-eqb x x refl) ∙ (rw (sym same) at e) in cc)

-- a value, whatever it is, or none
pub some_value : (a : Option ℕ) → is_some a ≡ true → (v : ℕ) × (a ≡ Some v)
some_value (Some v) e = (v, refl)
some_value None e = absurd (let y : false ≡ true = e in cc)

pub no_some : (a : Option ℕ) (v : ℕ) → is_some a ≡ false → a ≢ Some v
no_some (Some w) v e = absurd (let y : true ≡ false = e in cc)
no_some None v e = λ same. let y : None ≡ Some v = same in absurd (cc)

-- In the words of a record

-- what is found of the changes is found of the map after each turn
pub found_map : (key : ℕ) (value : Option ℕ) (first last m : ℕ) (all : List Place) (calls : List Call) (lines : List Line) → AreEntries calls lines (changes_of all) → IsFound key value first last m all → IsGreatestTurn (λ n. get key (map_at calls lines n) ≡ value) first last m
found_map key value first last m all calls lines a x = record {
  from = x.from;
  to = x.to;
  holds = value_is calls (written_log lines) (changes_of all) key m a ∙ x.holds;
  none_later = λ n i j e. x.none_later n i j (sym (value_is calls (written_log lines) (changes_of all) key n a) ∙ e);
}

-- what the change at a place has left to the key
pub here_map : (key : ℕ) (value : Option ℕ) (first last until i : ℕ) (place : Place) (all : List Place) (calls : List Call) (lines : List Line) → AreEntries calls lines (changes_of all) → IsHere key value first last until i place all → place.change.turn ≤ until → place.change.value ≡ get key (map_at calls lines until)
here_map key value first last until i place all calls lines a x come = sym (value_is calls (written_log lines) (changes_of all) key until a ∙ x.agree until (omega arith) ∙ value_here key until place.change (changes_of x.older) x.key_is come)

pub nowhere_map : (key : ℕ) (value : Option ℕ) (first last : ℕ) (all : List Place) (calls : List Call) (lines : List Line) → AreEntries calls lines (changes_of all) → IsNowhere key value first last all → (n : ℕ) → first ≤ n → n ≤ last → get key (map_at calls lines n) ≢ value
nowhere_map key value first last all calls lines a x n i j e = x n i j (sym (value_is calls (written_log lines) (changes_of all) key n a) ∙ e)
