-- What is shown of each call of the map by itself, with an arm for each: what it answers of a map,
-- and what it may take. The other laws and proofs of this crate and of later ones are of any call.
use Rattle.std.proofs.Common.{◌≡◌, ℕ, zero, suc, ◌≤◌, List, [], ◌∷◌, take, Bool, true, false, if◌then◌else◌, ◌==◌, nat_lt, nat_le, ◌&&◌, Option, Some, None, unwrap_or, refl, sym, subst, arith, eqb-true}
use Rattle.template.specs.Common.{MayReply, most_scx, MapEdit, Insert, Delete, insert, delete, edited, edit_of, edit_to, MapCall, Edit, Get, Neighbour, Range, MapReply}
use Rattle.template.specs.Common.{OneValue, OnePair, ManyPairs, applies, leaves, reply, get, end_pair, neighbour, between, pair, pair_or_none, Key, End, Pair}
use Rattle.ordered_map.specs.CallRules as form
use Rattle.histories.specs.Common.{Side, Left, Right}
use Rattle.ordered_map.specs.OrderedMap.{last_pair, successor, predecessor}
use Rattle.dict.specs.Calls.{most_tries}
use Rattle.dict.specs.Says.{KeepsLists}
use Rattle.dict.specs.Typed.{IsTypedEdit, IsTypedCall, AreTyped, IsTypedValue, IsTypedReply}

-- Words of types

module _ (keys values : ℕ → Type 0) where
  -- an edit of such words leaves a map of such words
  if_typed : (b : Bool) (ps qs : List Pair) → AreTyped keys values ps → AreTyped keys values qs → AreTyped keys values (if b then ps else qs)
  if_typed true ps qs x y = x
  if_typed false ps qs x y = y

  insert_typed : (k v : ℕ) (ps : List Pair) → keys k → values v → AreTyped keys values ps → AreTyped keys values (insert k v ps)
  insert_typed k v [] a b x = (a, b, tt)
  insert_typed k v (p ∷ ps) a b x =
      if_typed (nat_lt k p.key) (pair k v ∷ p ∷ ps) (if k == p.key then pair k v ∷ ps else p ∷ insert k v ps) (a, b, x)
      (if_typed (k == p.key) (pair k v ∷ ps) (p ∷ insert k v ps) (a, b, x.2) (x.0, x.1, insert_typed k v ps a b x.2))

  delete_typed : (k : ℕ) (ps : List Pair) → AreTyped keys values ps → AreTyped keys values (delete k ps)
  delete_typed k [] x = tt
  delete_typed k (p ∷ ps) x = if_typed (k == p.key) ps (p ∷ delete k ps) x.2 (x.0, x.1, delete_typed k ps x.2)

  pub edited_typed : (e : MapEdit) (ps : List Pair) → IsTypedEdit keys values e → AreTyped keys values ps → AreTyped keys values (edited e ps)
  edited_typed (Insert k v) ps e x = insert_typed k v ps e.0 e.1 x
  edited_typed (Delete k) ps e x = delete_typed k ps x

  -- what such a map replies is of such words
  if_value : (b : Bool) (v w : Option ℕ) → IsTypedValue values v → IsTypedValue values w → IsTypedValue values (if b then v else w)
  if_value true v w x y = x
  if_value false v w x y = y

  get_typed : (k : ℕ) (m : List Pair) → AreTyped keys values m → IsTypedValue values (get k m)
  get_typed k [] x = tt
  get_typed k (p ∷ ps) x = if_value (k == p.key) (Some p.value) (get k ps) x.1 (get_typed k ps x.2)

  -- a key that it has is such a key, with such a value
  pub got_typed : (k v : ℕ) (m : List Pair) → AreTyped keys values m → get k m ≡ Some v → keys k × values v
  got_typed k v [] x is = absurd (let z : None ≡ Some v = is in cc)
  got_typed k v (p ∷ ps) x is = go (k == p.key) refl (got_typed k v ps x.2) is
    where
      go : (b : Bool) → (k == p.key) ≡ b → (get k ps ≡ Some v → keys k × values v) → (if b then Some p.value else get k ps) ≡ Some v → keys k × values v
      go true e behind found = (subst keys (sym (eqb-true k p.key e)) x.0, subst values (let z : Some p.value ≡ Some v = found in cc) x.1)
      go false e behind found = behind found

  if_pair : (b : Bool) (p q : Option Pair) → IsTypedReply keys values (pair_or_none p) → IsTypedReply keys values (pair_or_none q) → IsTypedReply keys values (pair_or_none (if b then p else q))
  if_pair true p q x y = x
  if_pair false p q x y = y

  successor_typed : (k : ℕ) (m : List Pair) → AreTyped keys values m → IsTypedReply keys values (pair_or_none (successor k m))
  successor_typed k [] x = tt
  successor_typed k (p ∷ ps) x = if_pair (nat_lt k p.key) (Some p) (successor k ps) (x.0, x.1) (successor_typed k ps x.2)

  or_typed : (o : Option Pair) (p : Pair) → IsTypedReply keys values (pair_or_none o) → keys p.key → values p.value → keys (unwrap_or o p).key × values (unwrap_or o p).value
  or_typed None p x k v = (k, v)
  or_typed (Some q) p x k v = x

  predecessor_typed : (k : ℕ) (m : List Pair) → AreTyped keys values m → IsTypedReply keys values (pair_or_none (predecessor k m))
  predecessor_typed k [] x = tt
  predecessor_typed k (p ∷ ps) x =
      let rest = predecessor_typed k ps x.2 in
      if_pair (nat_lt p.key k) (Some (unwrap_or (predecessor k ps) p)) (predecessor k ps) (or_typed (predecessor k ps) p rest x.0 x.1) rest

  neighbour_typed : (side : Side) (k : ℕ) (m : List Pair) → AreTyped keys values m → IsTypedReply keys values (pair_or_none (neighbour side k m))
  neighbour_typed Left = predecessor_typed
  neighbour_typed Right = successor_typed

  between_typed : (low high : ℕ) (m : List Pair) → AreTyped keys values m → AreTyped keys values (between low high m)
  between_typed low high [] x = tt
  between_typed low high (p ∷ ps) x = let y = between_typed low high ps x.2 in if_typed (nat_le low p.key && nat_le p.key high) (p ∷ between low high ps) (between low high ps) (x.0, x.1, y) y

  take_typed : (most : ℕ) (m : List Pair) → AreTyped keys values m → AreTyped keys values (take most m)
  take_typed zero m x = tt
  take_typed (suc most) [] x = tt
  take_typed (suc most) (p ∷ ps) x = (x.0, x.1, take_typed most ps x.2)

  last_typed : (p : Pair) (ps : List Pair) → keys p.key → values p.value → AreTyped keys values ps → keys (unwrap_or (last_pair ps) p).key × values (unwrap_or (last_pair ps) p).value
  last_typed p [] k v x = (k, v)
  last_typed p (q ∷ qs) k v x = last_typed q qs x.0 x.1 x.2

  end_typed : (side : Side) (m : List Pair) → AreTyped keys values m → IsTypedReply keys values (pair_or_none (end_pair side m))
  end_typed Left [] x = tt
  end_typed Left (p ∷ ps) x = (x.0, x.1)
  end_typed Right [] x = tt
  end_typed Right (p ∷ ps) x = last_typed p ps x.0 x.1 x.2

  pub reply_typed : (call : MapCall) (m : List Pair) → AreTyped keys values m → IsTypedReply keys values (reply call m)
  reply_typed (Edit (Key k) rule) m x = get_typed k m x
  reply_typed (Edit (End side) rule) m x = end_typed side m x
  reply_typed (Get k) m x = get_typed k m x
  reply_typed (Neighbour side k) m x = neighbour_typed side k m x
  reply_typed (Range low high most) m x = take_typed most (between low high m) (between_typed low high m x)

  -- and the edit that a call of such words has made is one, if what it answers is of such words
  to_typed : (key : ℕ) (left : Option ℕ) → keys key → IsTypedValue values left → IsTypedEdit keys values (edit_to key left)
  to_typed key None k v = k
  to_typed key (Some value) k v = (k, v)

  if_applies : (b : Bool) (made e : MapEdit) → (if b then Some made else None) ≡ Some e → IsTypedEdit keys values made → IsTypedEdit keys values e
  if_applies true made e is x = subst (IsTypedEdit keys values) (let same : made ≡ e = cc in same) x
  if_applies false made e is x = absurd (let none : None ≡ Some e = is in cc)

  pub edit_typed : (call : MapCall) (told : MapReply) (e : MapEdit) → edit_of call told ≡ Some e → IsTypedCall keys values call → IsTypedReply keys values told → IsTypedEdit keys values e
  edit_typed (Edit (Key k) rule) (OneValue found) e is x y = if_applies (applies rule found) (edit_to k (leaves rule)) e is (to_typed k (leaves rule) x.0 x.1)
  edit_typed (Edit (End side) rule) (OnePair p) e is x y = if_applies (applies rule (Some p.value)) (edit_to p.key (leaves rule)) e is (to_typed p.key (leaves rule) y.0 x.1)
  edit_typed call told e is x y = absurd (let none : None ≡ Some e = is in cc)

-- Lists

-- one pair, or none, is not a list of pairs
one_pair : (p : Option Pair) (ps : List Pair) → pair_or_none p ≡ ManyPairs ps → ⊥
one_pair None ps e = cc
one_pair (Some p) ps e = cc

-- a call that answers pairs keeps lists, and has made no edit
pub tells_lists : (call : MapCall) (m : List Pair) (ps : List Pair) → reply call m ≡ ManyPairs ps → KeepsLists call × (edit_of call (ManyPairs ps) ≡ None)
tells_lists (Edit (Key k) rule) m ps told = absurd cc
tells_lists (Edit (End side) rule) m ps told = absurd (one_pair (end_pair side m) ps told)
tells_lists (Get k) m ps told = absurd cc
tells_lists (Neighbour side k) m ps told = (tt, refl)
tells_lists (Range low high most) m ps told = (tt, refl)

-- and may be refused memory
pub may_lack : (call : MapCall) → MayReply call form.Pairs → MayReply call form.NoMemory
may_lack (Edit (Key k) rule) x = absurd x
may_lack (Edit (End side) rule) x = absurd x
may_lack (Get k) x = x
may_lack (Neighbour side k) x = absurd x
may_lack (Range low high most) x = tt

-- Tries

-- the tries that a call has begun take no more SCX-records than all that it may begin
pub tries_take : (call : MapCall) (begun tries : ℕ) → begun ≤ most_tries call tries → most_scx call begun ≤ most_scx call tries
tries_take (Edit goal rule) begun tries few = few
tries_take (Get k) begun tries few = omega arith
tries_take (Neighbour side k) begun tries few = omega arith
tries_take (Range low high most) begun tries few = omega arith

-- each may begin one try, where it may begin one alone
pub one_alone : (call : MapCall) → most_tries call 1 ≡ 1
one_alone (Edit goal rule) = refl
one_alone (Get k) = refl
one_alone (Neighbour side k) = refl
one_alone (Range low high most) = refl
