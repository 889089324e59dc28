-- Edits that are asked of lists of pairs: where one is made, and what leaves that hold them show.
use Rattle.std.proofs.Common.{◌≡◌, ◌≢◌, ℕ, zero, suc, ◌+◌, ◌-◌, ◌*◌, ◌^◌, ◌<◌, ◌≤◌, Bool, true, false, cond, ◌&&◌, eqb, ltb, ◌⊎◌, inl, inr, List, [], ◌∷◌, ◌++◌, Option, Some, None, insert as put_in, length, remove, unwrap_or, refl, sym, ◌∙◌, ap, subst, arith, append-nil, append_assoc, lt-ltb, le-ltb, eq-eqb, ne_eqb}
use Rattle.std.specs.Cmp.Lexicographic.{pointwise}
use Rattle.std.proofs.lemmas.Bool.{and_parts, eqb-true, ltb-true, ltb-false}
use Rattle.std.proofs.lemmas.List.{map-append, length-append}
use native.Mathlib.Decide.{ℕ_discrete}
use Rattle.histories.specs.Common.{Settled, More, Side, Left, Right, Slot, First, Word, History, value, plan, member, new, old, node, child, first_key}
use Rattle.record.specs.Common.{Pair, MapEdit, AllAbove, pair, edit_key, edit_to, edited, first_pair, class, is_leaf, said, toward, number_pairs}
use Rattle.ordered_map.specs.OrderedMap.{AllBelow, AllFrom, last_pair}
use Rattle.ordered_map.specs.Holding.{slot_behind, pair_in, held_from, held_behind, held_pairs, IsWellCounted}
use Rattle.ordered_map.specs.TreeWords.{rank, leaf_items, leaf_pairs}
use Rattle.ordered_map.specs.EditPlans.{above_plan, end_leaf_plan}
use Rattle.ordered_map.specs.Edits.{IsLowLeaf, IsLastLeaf, IsSwapBy, IsSplitBy, IsLeafEdit}
use Rattle.ordered_map.specs.TreeShape.{EditsLeaf, leaf_plan}
use Rattle.ordered_map.specs.TrieShape.{EditsEndLeaf, IsAboveBy, PutsAbove, SplitsLeaf}
use Rattle.ordered_map.proofs.Lemmas.{edited_local, held_next, held_count, counted_few, low_items, high_items, low_pairs, high_pairs}
use Rattle.audit.specs.Edits.{AreToward, IsInFront, key_in}

-- The place of an edit

-- the first pairs, this many, stay in front of the edit
abbrev pub StayInFront : MapEdit → List (ℕ × ℕ) → ℕ → Type 0
StayInFront e ps zero = Unit {0}
StayInFront e [] (suc at) = ⊥
StayInFront e (p ∷ ps) (suc at) = IsInFront e (Some p.0) × StayInFront e ps at

-- with the new pair put in at a place
abbrev pub with_value : ℕ → Option ℕ → ℕ → List (ℕ × ℕ) → List (ℕ × ℕ)
with_value key None at ps = ps
with_value key (Some v) at ps = put_in ps at (key, v)

abbrev number_pair : ℕ × ℕ → Pair
number_pair p = pair p.0 p.1

-- after a pair that stays, all is as without it
behind : (key : ℕ) (value : Option ℕ) (p : ℕ × ℕ) (ps qs : List (ℕ × ℕ)) (at : ℕ) → IsInFront (edit_to key value) (Some p.0) → number_pairs (with_value key value at qs) ≡ edited (edit_to key value) (number_pairs ps) → number_pairs (with_value key value (suc at) (p ∷ qs)) ≡ edited (edit_to key value) (number_pairs (p ∷ ps))
behind key None p ps qs at x e = ap (λ (rest : List Pair). number_pair p ∷ rest) e ∙ sym (rw (ne_eqb key p.0 (λ is. x (sym is))) refl)
behind key (Some v) p ps qs at x e = ap (λ (rest : List Pair). number_pair p ∷ rest) e ∙ sym (rw (le-ltb key p.0 (omega (arith, x)), ne_eqb key p.0 (λ is. omega (arith, x, is))) refl)

-- the pair of the key goes, where it is the first that does not stay
gone_here : (key : ℕ) (value : Option ℕ) (p : ℕ × ℕ) (ps : List (ℕ × ℕ)) → p.0 ≡ key → number_pairs (with_value key value 0 ps) ≡ edited (edit_to key value) (number_pairs (p ∷ ps))
gone_here key None p ps e = rw (eq-eqb key p.0 (sym e)) refl
gone_here key (Some v) p ps e = rw (le-ltb key p.0 (omega (arith, e)), eq-eqb key p.0 (sym e)) refl

made_gone : (key : ℕ) (value : Option ℕ) (ps : List (ℕ × ℕ)) (at : ℕ) → StayInFront (edit_to key value) ps at → key_in ps at ≡ Some key → number_pairs (with_value key value at (remove ps at)) ≡ edited (edit_to key value) (number_pairs ps)
made_gone key value [] zero s is = absurd (let z : None ≡ Some key = is in cc)
made_gone key value (p ∷ ps) zero s is = let same : Some p.0 ≡ Some key = is in gone_here key value p ps cc
made_gone key value [] (suc at) s is = absurd s
made_gone key value (p ∷ ps) (suc at) s is = behind key value p ps (remove ps at) at s.0 (made_gone key value ps at s.1 is)

-- or else none goes
kept_here : (key : ℕ) (value : Option ℕ) (p : ℕ × ℕ) (ps : List (ℕ × ℕ)) → ¬ IsInFront (edit_to key value) (Some p.0) → p.0 ≢ key → number_pairs (with_value key value 0 (p ∷ ps)) ≡ edited (edit_to key value) (number_pairs (p ∷ ps))
kept_here key None p ps stops other = absurd (stops other)
kept_here key (Some v) p ps stops other = rw (lt-ltb key p.0 (above key p.0 stops other)) refl
  where
    above : (a b : ℕ) → ¬ (b < a) → b ≢ a → a < b
    above a b x y = grind arith

made_kept : (key : ℕ) (value : Option ℕ) (ps : List (ℕ × ℕ)) (at : ℕ) → StayInFront (edit_to key value) ps at → ¬ IsInFront (edit_to key value) (key_in ps at) → key_in ps at ≢ Some key → number_pairs (with_value key value at ps) ≡ edited (edit_to key value) (number_pairs ps)
made_kept key None [] zero s stops other = refl
made_kept key (Some v) [] zero s stops other = refl
made_kept key value (p ∷ ps) zero s stops other = kept_here key value p ps stops (λ e. other (ap (λ (k : ℕ). Some k) e))
made_kept key value [] (suc at) s stops other = absurd s
made_kept key value (p ∷ ps) (suc at) s stops other = behind key value p ps ps at s.0 (made_kept key value ps at s.1 stops other)

-- lists of pairs that compare as the same are so
pub same_pairs : (xs ys : List (ℕ × ℕ)) → pointwise (λ p q. eqb p.0 q.0 && eqb p.1 q.1) xs ys ≡ true → xs ≡ ys
same_pairs [] [] e = refl
same_pairs [] (y ∷ ys) e = absurd (cc)
same_pairs (x ∷ xs) [] e = absurd (cc)
same_pairs (x ∷ xs) (y ∷ ys) e =
    let all = and_parts (eqb x.0 y.0 && eqb x.1 y.1) (pointwise (λ p q. eqb p.0 q.0 && eqb p.1 q.1) xs ys) e in
    let one = and_parts (eqb x.0 y.0) (eqb x.1 y.1) all.0 in
    let key = eqb-true x.0 y.0 one.0 in
    let value = eqb-true x.1 y.1 one.1 in
    let rest = same_pairs xs ys all.1 in
    λ i. (key i, value i) ∷ rest i

-- so the edit is made where the first pair is that does not stay in front
pub made : (key : ℕ) (value : Option ℕ) (ps qs : List (ℕ × ℕ)) (at : ℕ) → StayInFront (edit_to key value) ps at → ¬ IsInFront (edit_to key value) (key_in ps at) → ((key_in ps at ≡ Some key) × (remove ps at ≡ qs)) ⊎ ((key_in ps at ≢ Some key) × (ps ≡ qs)) → number_pairs (with_value key value at qs) ≡ edited (edit_to key value) (number_pairs ps)
made key value ps qs at s stops (inl x) = ap (λ (rest : List (ℕ × ℕ)). number_pairs (with_value key value at rest)) (sym x.1) ∙ made_gone key value ps at s x.0
made key value ps qs at s stops (inr x) = ap (λ (rest : List (ℕ × ℕ)). number_pairs (with_value key value at rest)) (sym x.1) ∙ made_kept key value ps at s stops x.0

-- the first pair
pub first_at : (ps : List (ℕ × ℕ)) (key : ℕ) → key_in ps 0 ≡ Some key → (v : ℕ) × (first_pair (number_pairs ps) ≡ Some (pair key v))
first_at [] key e = absurd (let z : None ≡ Some key = e in cc)
first_at (p ∷ ps) key e = let same : Some p.0 ≡ Some key = e in let is : p.0 ≡ key = cc in (p.1, ap (λ (k : ℕ). Some (pair k p.1)) is)

-- the last pair
pub last_at : (ps : List (ℕ × ℕ)) (key : ℕ) → key_in ps (length ps - 1) ≡ Some key → (v : ℕ) × (last_pair (number_pairs ps) ≡ Some (pair key v))
last_at [] key e = absurd (let z : None ≡ Some key = e in cc)
last_at (p ∷ []) key e = first_at (p ∷ []) key e
last_at (p ∷ q ∷ ps) key e =
    let x : (v : ℕ) × (last_pair (number_pairs (q ∷ ps)) ≡ Some (pair key v)) = last_at (q ∷ ps) key (subst (λ (n : ℕ). key_in (p ∷ q ∷ ps) n ≡ Some key) (let z : length (p ∷ q ∷ ps) - 1 ≡ suc (length (q ∷ ps) - 1) = omega arith in z) e) in
    (x.0, ap (λ o. Some (unwrap_or o (number_pair p))) x.1)

-- the key of an edit, whatever it leaves to that
pub key_of_edit : (key : ℕ) (value : Option ℕ) → edit_key (edit_to key value) ≡ key
key_of_edit key None = refl
key_of_edit key (Some v) = refl

-- an SCX-record with the plan of an edit of a leaf, and the leaf as what it expects, edits this, if
-- a delete finds its key there
pub leaf_edit_of : (h : History) (s key : ℕ) (put : Option ℕ) → plan h s ≡ leaf_plan (toward (value h) (member h s 0) key) → old h s ≡ member h s 1 → (put ≡ None → said (value h) key (member h s 1) ≢ None) → IsLeafEdit (value h) (edit_to key put) (member h s 1) (new h s) → EditsLeaf h s (edit_to key put)
leaf_edit_of h s key None plan old there edit = record { plan = plan; old = old; edit = edit; there = λ _. there refl }
leaf_edit_of h s key (Some v) plan old there edit = record { plan = plan; old = old; edit = edit; there = λ none. absurd (let z : Some v ≡ None = none in cc) }

-- and of a trie: where a leaf is split at a bit
pub split_leaf_of : (h : History) (s key : ℕ) (put : Option ℕ) → plan h s ≡ leaf_plan (toward (value h) (member h s 0) key) → old h s ≡ member h s 1 → IsSplitBy (value h) (edit_to key put) (member h s 1) (new h s) (value h (child (new h s) Left)) (value h (child (new h s) Right)) → SplitsLeaf h s (edit_to key put)
split_leaf_of h s key None plan old split = record { plan = plan; old = old; first = value h (child (new h s) Left); last = value h (child (new h s) Right); edit = split }
split_leaf_of h s key (Some v) plan old split = record { plan = plan; old = old; first = value h (child (new h s) Left); last = value h (child (new h s) Right); edit = split }

-- where a fork is put above a fork
pub above_of : (h : History) (s key : ℕ) (put : Option ℕ) → plan h s ≡ above_plan (toward (value h) (member h s 0) key) → member h s 1 ≡ 2 → (leaf : ℕ) × (side : Side) × IsAboveBy (value h) (edit_to key put) (old h s) (new h s) leaf side → PutsAbove h s (edit_to key put)
above_of h s key None plan guard (leaf, side, above) = record { plan = plan; guard = guard; leaf = leaf; side = side; edit = above }
above_of h s key (Some v) plan guard (leaf, side, above) = record { plan = plan; guard = guard; leaf = leaf; side = side; edit = above }

-- where the leaf at an end is replaced
pub end_leaf_edit_of : (h : History) (s key : ℕ) (put : Option ℕ) → plan h s ≡ end_leaf_plan (toward (value h) (member h s 0) key) → old h s ≡ member h s 1 → member h s 2 ≡ 2 → (put ≡ None → said (value h) key (member h s 1) ≢ None) → IsSwapBy (value h) (edit_to key put) (member h s 1) (new h s) → EditsEndLeaf h s (edit_to key put)
end_leaf_edit_of h s key None plan old guard there edit = record { plan = plan; old = old; guard = guard; edit = edit; there = λ _. there refl }
end_leaf_edit_of h s key (Some v) plan old guard there edit = record { plan = plan; old = old; guard = guard; edit = edit; there = λ none. absurd (let z : Some v ≡ None = none in cc) }

-- Leaves

module _ (f : Word → ℕ) where
  -- of a leaf of class 0 both lists are what it holds
  low_both : (n : ℕ) → class f n ≡ 0 → leaf_items f n ≡ leaf_pairs f n
  low_both n low = low_items f n low ∙ sym (low_pairs f n low)

  -- If two leaves between them give the map what the edit makes of what the leaf l gives it, so it
  -- is with their items: above all keys the last one's is after the key.
  pub split_items : (e : MapEdit) (l x y : ℕ) → edit_key e < 2 ^ 64 → class f x ≡ 0 → IsLastLeaf f y l → leaf_pairs f x ++ leaf_pairs f y ≡ edited e (leaf_pairs f l) → leaf_items f x ++ leaf_items f y ≡ edited e (leaf_items f l)
  split_items e l x y small low last made = go (ℕ_discrete (class f l) 0)
    where
      go : Dec (class f l ≡ 0) → leaf_items f x ++ leaf_items f y ≡ edited e (leaf_items f l)
      go (yes z) = (λ i. low_both x low i ++ low_both y (last.same_class ∙ z) i) ∙ made ∙ ap (edited e) (sym (low_both l z))
      go (no d) =
          let high : class f y ≢ 0 = λ z. d (sym last.same_class ∙ z) in
          let behind : leaf_items f y ≡ leaf_items f l = high_items f y high ∙ (λ i. pair (last.same_class i * 2 ^ 64 + last.key high i) 0 ∷ []) ∙ sym (high_items f l d) in
          let first : leaf_items f x ≡ edited e [] = low_both x low ∙ sym (append-nil (leaf_pairs f x)) ∙ ap (λ ps. leaf_pairs f x ++ ps) (sym (high_pairs f y high)) ∙ made ∙ ap (edited e) (high_pairs f l d) in
          let above : AllAbove (edit_key e) (leaf_items f l) = subst (AllAbove (edit_key e)) (sym (high_items f l d)) (omega (arith, small, d), tt) in
          (λ i. first i ++ behind i) ∙ sym ((edited_local e).left [] (leaf_items f l) above)

  -- what is on the left of a fork is below it, and what is on its right is not
  left_below : (n k : ℕ) → toward f n k ≡ Left → k < rank f n
  left_below n k e = go (ltb k (rank f n)) refl e
    where
      go : (b : Bool) → ltb k (rank f n) ≡ b → cond b Left Right ≡ Left → k < rank f n
      go true is e = ltb-true k (rank f n) is
      go false is e = absurd (let z : Right ≡ Left = e in cc)

  right_from : (n k : ℕ) → toward f n k ≡ Right → rank f n ≤ k
  right_from n k e = go (ltb k (rank f n)) refl e
    where
      go : (b : Bool) → ltb k (rank f n) ≡ b → cond b Left Right ≡ Right → rank f n ≤ k
      go true is e = absurd (let z : Left ≡ Right = e in cc)
      go false is e = ltb-false k (rank f n) is

  toward_small : (n : ℕ) (side : Side) (ps : List Pair) → AreToward f n side ps → AllBelow (2 ^ 64) ps
  toward_small n side [] a = tt
  toward_small n side (p ∷ ps) a = (a.0, toward_small n side ps a.2)

  toward_left : (n : ℕ) (ps : List Pair) → AreToward f n Left ps → AllBelow (rank f n) ps
  toward_left n [] a = tt
  toward_left n (p ∷ ps) a = (left_below n p.key a.1, toward_left n ps a.2)

  toward_right : (n : ℕ) (ps : List Pair) → AreToward f n Right ps → AllFrom (rank f n) ps
  toward_right n [] a = tt
  toward_right n (p ∷ ps) a = (right_from n p.key a.1, toward_right n ps a.2)

  -- Slots

  -- these pairs, of the slots that were read, are what the leaf holds in front of this slot
  pub record AreReadTo (n : ℕ) (ps : List (ℕ × ℕ)) (next : Option Slot) : Type 0 where
    pub all : number_pairs ps ++ held_behind f n next ≡ held_pairs f n
    pub few : length ps + length (held_behind f n next) ≤ 4

  pub read_none : (n : ℕ) → IsWellCounted f n → AreReadTo n [] (Some First)
  read_none n counted = record { all = refl; few = let more = counted_few f n counted in omega (arith, held_count f n counted, more) }

  -- one more, that of the slot
  pub read_one : (n : ℕ) (ps qs : List (ℕ × ℕ)) (p : ℕ × ℕ) (slot : Slot) (next : Option Slot) → qs ≡ ps ++ p ∷ [] → pair p.0 p.1 ≡ pair_in f n slot → next ≡ slot_behind (f (node n (Settled More))) slot → AreReadTo n ps (Some slot) → AreReadTo n qs next
  read_one n ps qs p slot next added is behind x = record { all = all; few = few }
    where
      here : held_from f n slot ≡ pair p.0 p.1 ∷ held_behind f n next
      here = held_next f n slot ∙ (λ i. sym is i ∷ held_behind f n (sym behind i))

      all : number_pairs qs ++ held_behind f n next ≡ held_pairs f n
      all =
          (λ i. (ap number_pairs added ∙ map-append number_pair ps (p ∷ [])) i ++ held_behind f n next)
          ∙ append_assoc (number_pairs ps) (pair p.0 p.1 ∷ []) (held_behind f n next)
          ∙ ap (λ rest. number_pairs ps ++ rest) (sym here)
          ∙ x.all

      few : length qs + length (held_behind f n next) ≤ 4
      few = let was = x.few in let many = ap length added ∙ length-append ps (p ∷ []) in let rest = ap length here in omega (arith, was, many, rest)

  pub read_room : (n : ℕ) (ps : List (ℕ × ℕ)) (slot : Slot) → AreReadTo n ps (Some slot) → length ps < 4
  read_room n ps slot x = let few = x.few in let here = ap length (held_next f n slot) in omega (arith, few, here)

  pub read_all : (n : ℕ) (ps : List (ℕ × ℕ)) → AreReadTo n ps None → (number_pairs ps ≡ held_pairs f n) × (length ps ≤ 4)
  read_all n ps x = (sym (append-nil (number_pairs ps)) ∙ x.all, (let few = x.few in omega (arith, few)))

  -- a fork c over two leaves, x and y, which between them give the map what the edit makes of what
  -- the leaf l gives it; the fork has the rank of y, and is between their pairs
  pub record IsSplitOfPairs (e : MapEdit) (l c x y : ℕ) : Type 0 where
    pub leaf : is_leaf f l ≡ true
    pub fork : is_leaf f c ≡ false
    pub left : f (child c Left) ≡ x
    pub right : f (child c Right) ≡ y
    pub same_class : class f c ≡ class f y
    pub same_key : class f y ≢ 0 → f (node c first_key) ≡ f (node y first_key)
    pub first : IsLowLeaf f x
    pub last : IsLastLeaf f y l
    pub pairs : leaf_pairs f x ++ leaf_pairs f y ≡ edited e (leaf_pairs f l)
    pub before : AreToward f c Left (leaf_pairs f x)
    pub behind : AreToward f c Right (leaf_pairs f y)

  -- what is on the right of such a fork is at it or above: above all keys it is one item
  last_behind : (c y : ℕ) → class f c ≡ class f y → (class f y ≢ 0 → f (node c first_key) ≡ f (node y first_key)) → AreToward f c Right (leaf_pairs f y) → AllFrom (rank f c) (leaf_items f y)
  last_behind c y same_class same_key right = go (ℕ_discrete (class f y) 0)
    where
      go : Dec (class f y ≡ 0) → AllFrom (rank f c) (leaf_items f y)
      go (yes low) = subst (AllFrom (rank f c)) (sym (low_both y low)) (toward_right c (leaf_pairs f y) right)
      go (no high) =
          let same : rank f c ≡ rank f y = λ i. same_class i * 2 ^ 64 + same_key high i in
          subst (AllFrom (rank f c)) (sym (high_items f y high)) (omega (arith, same), tt)

  pub split_of : (key : ℕ) (value : Option ℕ) (l c x y : ℕ) → key < 2 ^ 64 → IsSplitOfPairs (edit_to key value) l c x y → IsSplitBy f (edit_to key value) l c x y
  split_of key value l c x y small s = record {
    leaf = s.leaf;
    fork = s.fork;
    left = s.left;
    right = s.right;
    first = s.first;
    small = subst (AllBelow (2 ^ 64)) (low_pairs f x s.first.class) (toward_small c Left (leaf_pairs f x) s.before);
    last = s.last;
    items = split_items (edit_to key value) l x y (rw (key_of_edit key value) small) s.first.class s.last s.pairs;
    before = subst (AllBelow (rank f c)) (sym (low_both x s.first.class)) (toward_left c (leaf_pairs f x) s.before);
    behind = last_behind c y s.same_class s.same_key s.behind;
    same_class = s.same_class ∙ s.last.same_class;
    key = λ d. s.same_key (λ z. d (s.same_class ∙ z)) ∙ s.last.key (λ z. d (s.same_class ∙ z));
  }
