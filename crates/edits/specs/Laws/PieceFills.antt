-- The fills of a fresh node, one after the other: what its words hold, and which comes next.
use Rattle.std.proofs.Common.{eq-eqb, ◌≡◌, ◌≢◌, ℕ, zero, suc, ◌+◌, ◌-◌, ◌*◌, ◌/◌, ◌%◌, ◌^◌, ◌<◌, ◌≤◌, ◌⊎◌, inl, inr, Bool, true, false, Some, None, Option, List, [], ◌∷◌, length, refl, sym, ◌∙◌, ap, subst, arith, lt-ltb, le-ltb}
use Rattle.std.specs.Prelude.{if◌then◌else◌, min, nat_lt, slice_index_or, unwrap_or}
use Rattle.std.proofs.Math.Decide.{dec_lt}
use Rattle.histories.specs.Common.{NodeNo, NodeWord, Settled, Child, Info, Marked, Head, More, Key, Value, High, Left, Right, Slot, First}
use Rattle.histories.specs.Common.{Second, Third, Fourth, Word, Node, Scx as ScxOf, History, value, node, same_node_word, slot_no, first_key}
use Rattle.arena.proofs.Lemmas.{slot_same as slot_is, word_refl, word_same}
use Rattle.histories.proofs.Lemmas.{IsNodeFill}
use Rattle.template.specs.Common.{Pair, slot_behind, pair}
use Rattle.edits.specs.declared.piece.Piece.{Piece}
use Rattle.edits.specs.declared.piece.Piece.TheVariants.{Leaf, Fork}
use Rattle.edits.specs.Pairs.{pair_at}
use Rattle.edits.specs.Pieces.{fill_place, fills_behind, has_high, is_filled, key_behind, key_first, slot_key, part_behind, word_of}

-- nothing is filled of the node: all its settled words and fields are 0
abbrev pub IsUnfilled : History → ℕ → Type 0
IsUnfilled h n = (q : NodeWord) → IsNodeFill q → value h (node n q) ≡ 0

-- all its settled words and fields are as the piece says
abbrev pub HoldsWords : History → ℕ → Piece → Type 0
HoldsWords h n p = (q : NodeWord) → IsNodeFill q → value h (node n q) ≡ word_of p q

-- those that come before this word are as the piece says, and all others are 0
pub record HoldsBefore (h : History) (n : ℕ) (p : Piece) (part : NodeWord) : Type 0 where
  pub done : (q : NodeWord) → IsNodeFill q → fill_place q < fill_place part → value h (node n q) ≡ word_of p q
  pub blank : (q : NodeWord) → IsNodeFill q → fill_place part ≤ fill_place q → value h (node n q) ≡ 0

-- so is this word too, and all that come after it are 0
pub record HoldsUpTo (h : History) (n : ℕ) (p : Piece) (part : NodeWord) : Type 0 where
  pub done : (q : NodeWord) → IsNodeFill q → fill_place q ≤ fill_place part → value h (node n q) ≡ word_of p q
  pub blank : (q : NodeWord) → IsNodeFill q → fill_place part < fill_place q → value h (node n q) ≡ 0

-- Words of a node

abbrev part_of : Word → NodeWord
part_of (Node n part) = part
part_of (ScxOf s part) = Info

pub part_same : (a b : NodeWord) → same_node_word a b ≡ true → a ≡ b
part_same a b e = ap part_of (word_same (node 0 a) (node 0 b) e)

part_refl : (a : NodeWord) → same_node_word a a ≡ true
part_refl a = word_refl (node 0 a)

pub the_same : {A : Type 0} (a b : A) → Some a ≡ Some b → a ≡ b
the_same a b e = ap (λ o. unwrap_or o a) e

slot_same : (a b : Slot) → slot_no a ≡ slot_no b → a ≡ b
slot_same a b e = slot_is a b (eq-eqb (slot_no a) (slot_no b) e)

slot_few : (a : Slot) → slot_no a < 4
slot_few First = omega arith
slot_few Second = omega arith
slot_few Third = omega arith
slot_few Fourth = omega arith

-- no two words have one place
word_at_place : ℕ → NodeWord
word_at_place n =
    slice_index_or
    (Settled Head ∷ Settled More ∷ Settled (Key First) ∷ Settled (Value First) ∷ Settled (High First) ∷ Settled (Key Second) ∷ Settled (Value Second) ∷ Settled (High Second) ∷ Settled (Key Third) ∷ Settled (Value Third)
    ∷ Settled (High Third) ∷ Settled (Key Fourth) ∷ Settled (Value Fourth) ∷ Settled (High Fourth) ∷ Child Left ∷ Child Right ∷ Info ∷ []) n Marked

place_back : (q : NodeWord) → word_at_place (fill_place q) ≡ q
unfolding word_at_place
place_back (Settled Head) = refl
place_back (Settled More) = refl
place_back (Settled (Key First)) = refl
place_back (Settled (Value First)) = refl
place_back (Settled (High First)) = refl
place_back (Settled (Key Second)) = refl
place_back (Settled (Value Second)) = refl
place_back (Settled (High Second)) = refl
place_back (Settled (Key Third)) = refl
place_back (Settled (Value Third)) = refl
place_back (Settled (High Third)) = refl
place_back (Settled (Key Fourth)) = refl
place_back (Settled (Value Fourth)) = refl
place_back (Settled (High Fourth)) = refl
place_back (Child Left) = refl
place_back (Child Right) = refl
place_back Info = refl
place_back Marked = refl

pub one_place : (a b : NodeWord) → fill_place a ≡ fill_place b → a ≡ b
one_place a b e = sym (place_back a) ∙ ap word_at_place e ∙ place_back b

pub other_place : (a b : NodeWord) → same_node_word a b ≡ false → fill_place b ≢ fill_place a
other_place a b d e = let z : false ≡ true = sym d ∙ subst (λ q. same_node_word a q ≡ true) (sym (one_place b a e)) (part_refl a) in cc

-- Pairs in slots

-- after the last pair are blank ones
blank_behind : (ps : List Pair) (i : ℕ) → length ps ≤ i → pair_at ps i ≡ pair 0 0
blank_behind [] i l = refl
blank_behind (p ∷ ps) zero l = absurd (omega (arith, l))
blank_behind (p ∷ ps) (suc i) l = blank_behind ps i (omega (arith, l))

-- of a leaf the words of the slots after the last pair are 0
module _ (level class : ℕ) (ps : List Pair) where
  abbrev leaf : Piece
  leaf = Leaf level class ps

  no_key : (s : Slot) → length ps ≤ slot_no s → word_of leaf (Settled (Key s)) ≡ 0
  no_key s l = ap (λ (q : Pair). q.key) (blank_behind ps (slot_no s) l)

  no_value : (s : Slot) → length ps ≤ slot_no s → word_of leaf (Settled (Value s)) ≡ 0
  no_value s l = ap (λ (q : Pair). q.value % 2 ^ 64) (blank_behind ps (slot_no s) l)

  no_high : (s : Slot) → length ps ≤ slot_no s → word_of leaf (Settled (High s)) ≡ 0
  no_high s l = ap (λ (q : Pair). q.value / 2 ^ 64) (blank_behind ps (slot_no s) l)

  -- what has a high half is one of the pairs
  high_within : (s : Slot) → has_high ps s ≡ true → slot_no s < length ps
  high_within s e = go (dec_lt (slot_no s) (length ps))
    where
      go : Dec (slot_no s < length ps) → slot_no s < length ps
      go (yes l) = l
      go (no n) = absurd (let z : has_high ps s ≡ false = ap (λ (q : Pair). nat_lt 0 (q.value / 2 ^ 64)) (blank_behind ps (slot_no s) (omega (arith, n))) in let y : true ≡ false = sym e ∙ z in cc)

  zero_high : (s : Slot) → has_high ps s ≡ false → word_of leaf (Settled (High s)) ≡ 0
  zero_high s e = go (dec_lt 0 ((pair_at ps (slot_no s)).value / 2 ^ 64))
    where
      go : Dec (0 < (pair_at ps (slot_no s)).value / 2 ^ 64) → (pair_at ps (slot_no s)).value / 2 ^ 64 ≡ 0
      go (yes l) = absurd (let y : true ≡ false = sym (lt-ltb 0 ((pair_at ps (slot_no s)).value / 2 ^ 64) l) ∙ e in cc)
      go (no n) = omega (arith, n)

-- What is filled

-- each word that a piece fills is one that fills store in
pub piece_fill : (p : Piece) (part : NodeWord) → is_filled p part ≡ true → IsNodeFill part
piece_fill p (Settled q) i = tt
piece_fill p (Child side) i = tt
piece_fill (Leaf level class ps) Info i = absurd (let z : false ≡ true = i in cc)
piece_fill (Leaf level class ps) Marked i = absurd (let z : false ≡ true = i in cc)
piece_fill (Fork level class key l r) Info i = absurd (let z : false ≡ true = i in cc)
piece_fill (Fork level class key l r) Marked i = absurd (let z : false ≡ true = i in cc)

-- The next word

-- a word is filled next: it is after that one, what is between them is 0, and fewer are
-- left
pub record ComesNext (p : Piece) (part next : NodeWord) : Type 0 where
  pub is : is_filled p next ≡ true
  pub later : fill_place part < fill_place next
  pub between : (q : NodeWord) → IsNodeFill q → fill_place part < fill_place q → fill_place q < fill_place next → word_of p q ≡ 0
  pub fewer : fills_behind p next < fills_behind p part

-- none is filled after it
abbrev ComesLast : Piece → NodeWord → Type 0
ComesLast p part = (q : NodeWord) → IsNodeFill q → fill_place part < fill_place q → word_of p q ≡ 0

few_slots : (n : ℕ) (s : Slot) → slot_no s < n → slot_no s < min n 4
few_slots n s l = let f = slot_few s in omega (arith, l, f)

module _ (level class : ℕ) (ps : List Pair) where
  abbrev p : Piece
  p = Leaf level class ps

  leaf_more : 1 < length ps → ComesNext p (Settled Head) (Settled More)
  leaf_more l = record {
    is = lt-ltb 1 (length ps) l;
    later = omega arith;
    between = λ q i a b. absurd (omega (arith, a, b));
    fewer = omega (arith, l);
  }

  -- where a count is left out, it is 0
  first_between : (part : NodeWord) → (1 < length ps → 1 ≤ fill_place part) → (q : NodeWord) → IsNodeFill q → fill_place part < fill_place q → fill_place q < 2 → word_of p q ≡ 0
  first_between part none (Settled Head) i a b = absurd (omega (arith, a))
  first_between part none (Settled More) i a b = go (dec_lt 1 (length ps))
    where
      go : Dec (1 < length ps) → length ps - 1 ≡ 0
      go (yes l) = absurd (let n = none l in omega (arith, n, a))
      go (no d) = omega (arith, d)
  first_between part none (Settled (Key s)) i a b = absurd (omega (arith, b))
  first_between part none (Settled (Value s)) i a b = absurd (omega (arith, b))
  first_between part none (Settled (High s)) i a b = absurd (omega (arith, b))
  first_between part none (Child Left) i a b = absurd (omega (arith, b))
  first_between part none (Child Right) i a b = absurd (omega (arith, b))
  first_between part none Info i a b = absurd i
  first_between part none Marked i a b = absurd i

  leaf_first : (part : NodeWord) → fill_place part < 2 → (1 < length ps → 1 ≤ fill_place part) → 0 < length ps → ComesNext p part first_key
  leaf_first part early none l = record {
    is = lt-ltb 0 (length ps) l;
    later = omega (arith, early);
    between = first_between part none;
    fewer = omega (arith, l, early);
  }

  leaf_value : (s : Slot) → slot_no s < length ps → ComesNext p (Settled (Key s)) (Settled (Value s))
  leaf_value s l = record {
    is = lt-ltb (slot_no s) (length ps) l;
    later = omega arith;
    between = λ q i a b. absurd (omega (arith, a, b));
    fewer = let f = few_slots (length ps) s l in omega (arith, f);
  }

  leaf_high : (s : Slot) → has_high ps s ≡ true → ComesNext p (Settled (Value s)) (Settled (High s))
  leaf_high s e = record {
    is = e;
    later = omega arith;
    between = λ q i a b. absurd (omega (arith, a, b));
    fewer = let f = few_slots (length ps) s (high_within level class ps s e) in omega (arith, f);
  }

  -- between a value and the next key is a high half that is 0
  high_between : (s t : Slot) → slot_no t ≡ suc (slot_no s) → word_of p (Settled (High s)) ≡ 0 → (q : NodeWord) → IsNodeFill q → 3 + 3 * slot_no s < fill_place q → fill_place q < 2 + 3 * slot_no t → word_of p q ≡ 0
  high_between s t e empty (Settled Head) i a b = absurd (omega (arith, a))
  high_between s t e empty (Settled More) i a b = absurd (omega (arith, a))
  high_between s t e empty (Settled (Key u)) i a b = absurd (omega (arith, a, b, e))
  high_between s t e empty (Settled (Value u)) i a b = absurd (omega (arith, a, b, e))
  high_between s t e empty (Settled (High u)) i a b = subst (λ (v : Slot). word_of p (Settled (High v)) ≡ 0) (slot_same s u (omega (arith, a, b, e))) empty
  high_between s t e empty (Child Left) i a b = absurd (let f = slot_few t in omega (arith, b, f))
  high_between s t e empty (Child Right) i a b = absurd (let f = slot_few t in omega (arith, b, f))
  high_between s t e empty Info i a b = absurd i
  high_between s t e empty Marked i a b = absurd i

  leaf_key : (part : NodeWord) (s t : Slot) → (3 + 3 * slot_no s ≤ fill_place part) → (fill_place part ≤ 4 + 3 * slot_no s) → word_of p (Settled (High s)) ≡ 0 ⊎ (4 + 3 * slot_no s ≤ fill_place part) → slot_no t ≡ suc (slot_no s) → slot_no t < length ps → ComesNext p part (Settled (Key t))
  leaf_key part s t from to empty e l = record {
    is = lt-ltb (slot_no t) (length ps) l;
    later = omega (arith, to, e);
    between = between empty;
    fewer = let f = few_slots (length ps) t l in omega (arith, f, to, e);
  }
    where
      between : word_of p (Settled (High s)) ≡ 0 ⊎ (4 + 3 * slot_no s ≤ fill_place part) → (q : NodeWord) → IsNodeFill q → fill_place part < fill_place q → fill_place q < fill_place (Settled (Key t)) → word_of p q ≡ 0
      between (inl z) q i a b = high_between s t e z q i (omega (arith, from, a)) b
      between (inr past) q i a b = absurd (omega (arith, past, a, b, e))

  -- the slot after a slot is the next, and has a pair
  pub slot_next : (s t : Slot) → slot_behind (length ps - 1) s ≡ Some t → (slot_no t ≡ suc (slot_no s)) × (slot_no t < length ps)
  slot_next First t e = go (dec_lt 0 (length ps - 1))
    where
      go : Dec (0 < length ps - 1) → (slot_no t ≡ 1) × (slot_no t < length ps)
      go (yes l) = subst (λ (u : Slot). (slot_no u ≡ 1) × (slot_no u < length ps)) (the_same Second t (rw (lt-ltb 0 (length ps - 1) l) at e)) (refl, omega (arith, l))
      go (no n) = absurd (let z : None ≡ Some t = rw (le-ltb 0 (length ps - 1) (omega (arith, n))) at e in cc)
  slot_next Second t e = go (dec_lt 1 (length ps - 1))
    where
      go : Dec (1 < length ps - 1) → (slot_no t ≡ 2) × (slot_no t < length ps)
      go (yes l) = subst (λ (u : Slot). (slot_no u ≡ 2) × (slot_no u < length ps)) (the_same Third t (rw (lt-ltb 1 (length ps - 1) l) at e)) (refl, omega (arith, l))
      go (no n) = absurd (let z : None ≡ Some t = rw (le-ltb 1 (length ps - 1) (omega (arith, n))) at e in cc)
  slot_next Third t e = go (dec_lt 2 (length ps - 1))
    where
      go : Dec (2 < length ps - 1) → (slot_no t ≡ 3) × (slot_no t < length ps)
      go (yes l) = subst (λ (u : Slot). (slot_no u ≡ 3) × (slot_no u < length ps)) (the_same Fourth t (rw (lt-ltb 2 (length ps - 1) l) at e)) (refl, omega (arith, l))
      go (no n) = absurd (let z : None ≡ Some t = rw (le-ltb 2 (length ps - 1) (omega (arith, n))) at e in cc)
  slot_next Fourth t e = absurd (let z : None ≡ Some t = e in cc)

  -- if there is none, all slots after it are blank
  slot_last : (s u : Slot) → slot_behind (length ps - 1) s ≡ None → slot_no s < slot_no u → length ps ≤ slot_no u
  slot_last First u e l = go (dec_lt 0 (length ps - 1))
    where
      go : Dec (0 < length ps - 1) → length ps ≤ slot_no u
      go (yes m) = absurd (let z : Some Second ≡ None = rw (lt-ltb 0 (length ps - 1) m) at e in cc)
      go (no n) = omega (arith, n, l)
  slot_last Second u e l = go (dec_lt 1 (length ps - 1))
    where
      go : Dec (1 < length ps - 1) → length ps ≤ slot_no u
      go (yes m) = absurd (let z : Some Third ≡ None = rw (lt-ltb 1 (length ps - 1) m) at e in cc)
      go (no n) = omega (arith, n, l)
  slot_last Third u e l = go (dec_lt 2 (length ps - 1))
    where
      go : Dec (2 < length ps - 1) → length ps ≤ slot_no u
      go (yes m) = absurd (let z : Some Fourth ≡ None = rw (lt-ltb 2 (length ps - 1) m) at e in cc)
      go (no n) = omega (arith, n, l)
  slot_last Fourth u e l = absurd (let f = slot_few u in omega (arith, l, f))

  first_next : (part next : NodeWord) → fill_place part < 2 → (1 < length ps → 1 ≤ fill_place part) → key_first ps ≡ Some next → ComesNext p part next
  first_next part next early none e = go (dec_lt 0 (length ps))
    where
      go : Dec (0 < length ps) → ComesNext p part next
      go (yes l) = subst (λ q. ComesNext p part q) (the_same first_key next (rw (lt-ltb 0 (length ps) l) at e)) (leaf_first part early none l)
      go (no n) = absurd (let z : None ≡ Some next = rw (le-ltb 0 (length ps) (omega (arith, n))) at e in cc)

  behind_next : (part next : NodeWord) (s : Slot) → (3 + 3 * slot_no s ≤ fill_place part) → (fill_place part ≤ 4 + 3 * slot_no s) → word_of p (Settled (High s)) ≡ 0 ⊎ (4 + 3 * slot_no s ≤ fill_place part) → key_behind ps s ≡ Some next → ComesNext p part next
  behind_next part next s from to empty e = go (slot_behind (length ps - 1) s) refl e
    where
      go : (o : Option Slot) → slot_behind (length ps - 1) s ≡ o → slot_key o ≡ Some next → ComesNext p part next
      go None b d = absurd (let z : None ≡ Some next = d in cc)
      go (Some t) b d = let n = slot_next s t b in subst (λ q. ComesNext p part q) (the_same (Settled (Key t)) next d) (leaf_key part s t from to empty n.0 n.1)

  leaf_next : (part next : NodeWord) → part_behind p part ≡ Some next → ComesNext p part next
  leaf_next (Settled Head) next e = go (dec_lt 1 (length ps))
    where
      go : Dec (1 < length ps) → ComesNext p (Settled Head) next
      go (yes l) = subst (λ q. ComesNext p (Settled Head) q) (the_same (Settled More) next (rw (lt-ltb 1 (length ps) l) at e)) (leaf_more l)
      go (no n) = first_next (Settled Head) next (omega arith) (λ l. absurd (n l)) (rw (le-ltb 1 (length ps) (omega (arith, n))) at e)
  leaf_next (Settled More) next e = first_next (Settled More) next (omega arith) (λ l. omega arith) e
  leaf_next (Settled (Key s)) next e = go (dec_lt (slot_no s) (length ps))
    where
      go : Dec (slot_no s < length ps) → ComesNext p (Settled (Key s)) next
      go (yes l) = subst (λ q. ComesNext p (Settled (Key s)) q) (the_same (Settled (Value s)) next (rw (lt-ltb (slot_no s) (length ps) l) at e)) (leaf_value s l)
      go (no n) = absurd (let z : None ≡ Some next = rw (le-ltb (slot_no s) (length ps) (omega (arith, n))) at e in cc)
  leaf_next (Settled (Value s)) next e = go (has_high ps s) refl e
    where
      go : (t : Bool) → has_high ps s ≡ t → (if t then Some (Settled (High s)) else key_behind ps s) ≡ Some next → ComesNext p (Settled (Value s)) next
      go true t d = subst (λ q. ComesNext p (Settled (Value s)) q) (the_same (Settled (High s)) next d) (leaf_high s t)
      go false t d = behind_next (Settled (Value s)) next s (omega arith) (omega arith) (inl (zero_high level class ps s t)) d
  leaf_next (Settled (High s)) next e = behind_next (Settled (High s)) next s (omega arith) (omega arith) (inr (omega arith)) e
  leaf_next (Child side) next e = absurd (let z : None ≡ Some next = e in cc)
  leaf_next Info next e = absurd (let z : None ≡ Some next = e in cc)
  leaf_next Marked next e = absurd (let z : None ≡ Some next = e in cc)

  -- The last word

  all_blank : (k : ℕ) → ((s : Slot) → k < 4 + 3 * slot_no s → word_of p (Settled (High s)) ≡ 0) → ((s : Slot) → k < 3 + 3 * slot_no s → length ps ≤ slot_no s) → (k < 1 → length ps ≤ 1) → (q : NodeWord) → IsNodeFill q → k < fill_place q → word_of p q ≡ 0
  all_blank k high low one (Settled Head) i a = absurd (omega (arith, a))
  all_blank k high low one (Settled More) i a = let o = one a in omega (arith, o)
  all_blank k high low one (Settled (Key s)) i a = no_key level class ps s (low s (omega (arith, a)))
  all_blank k high low one (Settled (Value s)) i a = no_value level class ps s (low s a)
  all_blank k high low one (Settled (High s)) i a = high s a
  all_blank k high low one (Child side) i a = refl
  all_blank k high low one Info i a = absurd i
  all_blank k high low one Marked i a = absurd i

  none_at_all : (part : NodeWord) → length ps ≡ 0 → ComesLast p part
  none_at_all part z q i a = all_blank (fill_place part) (λ s l. no_high level class ps s (omega (arith, z))) (λ s l. omega (arith, z)) (λ l. omega (arith, z)) q i a

  none_first : key_first ps ≡ None → length ps ≡ 0
  none_first e = go (dec_lt 0 (length ps))
    where
      go : Dec (0 < length ps) → length ps ≡ 0
      go (yes l) = absurd (let z : Some first_key ≡ None = rw (lt-ltb 0 (length ps) l) at e in cc)
      go (no n) = omega (arith, n)

  none_behind : (s : Slot) → key_behind ps s ≡ None → slot_behind (length ps - 1) s ≡ None
  none_behind s e = go (slot_behind (length ps - 1) s) e
    where
      go : (o : Option Slot) → slot_key o ≡ None → o ≡ None
      go None d = refl
      go (Some t) d = absurd (let z : Some (Settled (Key t)) ≡ None = d in cc)

  -- after the last value or high half
  last_in : (part : NodeWord) (s : Slot) → (3 + 3 * slot_no s ≤ fill_place part) → (word_of p (Settled (High s)) ≡ 0 ⊎ (4 + 3 * slot_no s ≤ fill_place part)) → key_behind ps s ≡ None → ComesLast p part
  last_in part s from empty e q i a = all_blank (fill_place part) (high empty) low (λ l. absurd (omega (arith, from, l))) q i a
    where
      low : (u : Slot) → fill_place part < 3 + 3 * slot_no u → length ps ≤ slot_no u
      low u l = slot_last s u (none_behind s e) (omega (arith, from, l))

      further : (u : Slot) → slot_no s < slot_no u → word_of p (Settled (High u)) ≡ 0
      further u l = no_high level class ps u (slot_last s u (none_behind s e) l)

      here : (u : Slot) → word_of p (Settled (High s)) ≡ 0 → Dec (slot_no s < slot_no u) → slot_no s ≤ slot_no u → word_of p (Settled (High u)) ≡ 0
      here u z (yes l) m = further u l
      here u z (no n) m = subst (λ (v : Slot). word_of p (Settled (High v)) ≡ 0) (slot_same s u (omega (arith, n, m))) z

      high : word_of p (Settled (High s)) ≡ 0 ⊎ (4 + 3 * slot_no s ≤ fill_place part) → (u : Slot) → fill_place part < 4 + 3 * slot_no u → word_of p (Settled (High u)) ≡ 0
      high (inl z) u l = here u z (dec_lt (slot_no s) (slot_no u)) (omega (arith, from, l))
      high (inr past) u l = further u (omega (arith, past, l))

  leaf_last : (part : NodeWord) → is_filled p part ≡ true → part_behind p part ≡ None → ComesLast p part
  leaf_last (Settled Head) i e = go (dec_lt 1 (length ps))
    where
      go : Dec (1 < length ps) → ComesLast p (Settled Head)
      go (yes l) = absurd (let z : Some (Settled More) ≡ None = rw (lt-ltb 1 (length ps) l) at e in cc)
      go (no n) = none_at_all (Settled Head) (none_first (rw (le-ltb 1 (length ps) (omega (arith, n))) at e))
  leaf_last (Settled More) i e = none_at_all (Settled More) (none_first e)
  leaf_last (Settled (Key s)) i e = absurd (let z : Some (Settled (Value s)) ≡ None = rw i at e in cc)
  leaf_last (Settled (Value s)) i e = go (has_high ps s) refl e
    where
      go : (t : Bool) → has_high ps s ≡ t → (if t then Some (Settled (High s)) else key_behind ps s) ≡ None → ComesLast p (Settled (Value s))
      go true t d = absurd (let z : Some (Settled (High s)) ≡ None = d in cc)
      go false t d = last_in (Settled (Value s)) s (omega arith) (inl (zero_high level class ps s t)) d
  leaf_last (Settled (High s)) i e = last_in (Settled (High s)) s (omega arith) (inr (omega arith)) e
  leaf_last (Child side) i e = absurd (let z : false ≡ true = i in cc)
  leaf_last Info i e = absurd (let z : false ≡ true = i in cc)
  leaf_last Marked i e = absurd (let z : false ≡ true = i in cc)

-- A fork

module _ (level class key : ℕ) (l r : NodeNo) where
  abbrev fork : Piece
  fork = Fork level class key l r

  -- what is not filled of it
  fork_between : (q : NodeWord) → IsNodeFill q → 2 < fill_place q → fill_place q < 14 → word_of fork q ≡ 0
  fork_between (Settled Head) i a b = absurd (omega (arith, a))
  fork_between (Settled More) i a b = refl
  fork_between (Settled (Key First)) i a b = absurd (omega (arith, a))
  fork_between (Settled (Key Second)) i a b = refl
  fork_between (Settled (Key Third)) i a b = refl
  fork_between (Settled (Key Fourth)) i a b = refl
  fork_between (Settled (Value s)) i a b = refl
  fork_between (Settled (High s)) i a b = refl
  fork_between (Child Left) i a b = absurd (omega (arith, b))
  fork_between (Child Right) i a b = absurd (omega (arith, b))
  fork_between Info i a b = absurd i
  fork_between Marked i a b = absurd i

  fork_count : (q : NodeWord) → IsNodeFill q → 0 < fill_place q → fill_place q < 2 → word_of fork q ≡ 0
  fork_count (Settled Head) i a b = absurd (omega (arith, a))
  fork_count (Settled More) i a b = refl
  fork_count (Settled (Key s)) i a b = absurd (omega (arith, b))
  fork_count (Settled (Value s)) i a b = absurd (omega (arith, b))
  fork_count (Settled (High s)) i a b = absurd (omega (arith, b))
  fork_count (Child Left) i a b = absurd (omega (arith, b))
  fork_count (Child Right) i a b = absurd (omega (arith, b))
  fork_count Info i a b = absurd i
  fork_count Marked i a b = absurd i

  fork_end : (q : NodeWord) → IsNodeFill q → 15 < fill_place q → word_of fork q ≡ 0
  fork_end (Settled Head) i a = absurd (omega (arith, a))
  fork_end (Settled More) i a = absurd (omega (arith, a))
  fork_end (Settled (Key s)) i a = absurd (let f = slot_few s in omega (arith, a, f))
  fork_end (Settled (Value s)) i a = absurd (let f = slot_few s in omega (arith, a, f))
  fork_end (Settled (High s)) i a = absurd (let f = slot_few s in omega (arith, a, f))
  fork_end (Child Left) i a = absurd (omega (arith, a))
  fork_end (Child Right) i a = absurd (omega (arith, a))
  fork_end Info i a = absurd i
  fork_end Marked i a = absurd i

  fork_next : (part next : NodeWord) → part_behind fork part ≡ Some next → ComesNext fork part next
  fork_next (Settled Head) next e = subst (λ q. ComesNext fork (Settled Head) q) (the_same first_key next e) record { is = refl; later = omega arith; between = fork_count; fewer = omega arith }
  fork_next (Settled (Key First)) next e = subst (λ q. ComesNext fork first_key q) (the_same (Child Left) next e) record { is = refl; later = omega arith; between = fork_between; fewer = omega arith }
  fork_next (Child Left) next e = subst (λ q. ComesNext fork (Child Left) q) (the_same (Child Right) next e) record { is = refl; later = omega arith; between = λ q i a b. absurd (omega (arith, a, b)); fewer = omega arith }
  fork_next (Settled More) next e = absurd (let z : None ≡ Some next = e in cc)
  fork_next (Settled (Key Second)) next e = absurd (let z : None ≡ Some next = e in cc)
  fork_next (Settled (Key Third)) next e = absurd (let z : None ≡ Some next = e in cc)
  fork_next (Settled (Key Fourth)) next e = absurd (let z : None ≡ Some next = e in cc)
  fork_next (Settled (Value s)) next e = absurd (let z : None ≡ Some next = e in cc)
  fork_next (Settled (High s)) next e = absurd (let z : None ≡ Some next = e in cc)
  fork_next (Child Right) next e = absurd (let z : None ≡ Some next = e in cc)
  fork_next Info next e = absurd (let z : None ≡ Some next = e in cc)
  fork_next Marked next e = absurd (let z : None ≡ Some next = e in cc)

  fork_last : (part : NodeWord) → is_filled fork part ≡ true → part_behind fork part ≡ None → ComesLast fork part
  fork_last (Settled Head) i e = absurd (let z : Some first_key ≡ None = e in cc)
  fork_last (Settled (Key First)) i e = absurd (let z : Some (Child Left) ≡ None = e in cc)
  fork_last (Child Left) i e = absurd (let z : Some (Child Right) ≡ None = e in cc)
  fork_last (Child Right) i e = fork_end
  fork_last (Settled More) i e = absurd (let z : false ≡ true = i in cc)
  fork_last (Settled (Key Second)) i e = absurd (let z : false ≡ true = i in cc)
  fork_last (Settled (Key Third)) i e = absurd (let z : false ≡ true = i in cc)
  fork_last (Settled (Key Fourth)) i e = absurd (let z : false ≡ true = i in cc)
  fork_last (Settled (Value s)) i e = absurd (let z : false ≡ true = i in cc)
  fork_last (Settled (High s)) i e = absurd (let z : false ≡ true = i in cc)
  fork_last Info i e = absurd (let z : false ≡ true = i in cc)
  fork_last Marked i e = absurd (let z : false ≡ true = i in cc)

-- Any piece

-- the word that is filled next
pub next_word : (p : Piece) (part next : NodeWord) → part_behind p part ≡ Some next → ComesNext p part next
next_word (Leaf level class ps) part next e = leaf_next level class ps part next e
next_word (Fork level class key l r) part next e = fork_next level class key l r part next e

-- after the last word all others are 0
last_part : (p : Piece) (part : NodeWord) → is_filled p part ≡ true → part_behind p part ≡ None → ComesLast p part
last_part (Leaf level class ps) part i e = leaf_last level class ps part i e
last_part (Fork level class key l r) part i e = fork_last level class key l r part i e

-- a node is filled from its head on
pub head_filled : (p : Piece) → is_filled p (Settled Head) ≡ true
head_filled (Leaf level class ps) = refl
head_filled (Fork level class key l r) = refl

-- What a node holds on the way

module _ (h : History) (n : ℕ) (p : Piece) where
  pub blank_before : IsUnfilled h n → HoldsBefore h n p (Settled Head)
  blank_before b = record { done = λ q i a. absurd (omega (arith, a)); blank = λ q i a. b q i }

  pub holds_next : (part next : NodeWord) → part_behind p part ≡ Some next → HoldsUpTo h n p part → HoldsBefore h n p next
  holds_next part next e x = record {
    done = λ q i a. go q i a (dec_lt (fill_place part) (fill_place q));
    blank = λ q i a. let l = then.later in x.blank q i (omega (arith, l, a));
  }
    where
      then : ComesNext p part next
      then = next_word p part next e

      go : (q : NodeWord) → IsNodeFill q → fill_place q < fill_place next → Dec (fill_place part < fill_place q) → value h (node n q) ≡ word_of p q
      go q i a (yes l) = x.blank q i l ∙ sym (then.between q i l a)
      go q i a (no d) = x.done q i (omega (arith, d))

  pub holds_all : (part : NodeWord) → is_filled p part ≡ true → part_behind p part ≡ None → HoldsUpTo h n p part → HoldsWords h n p
  holds_all part f e x q i = go (dec_lt (fill_place part) (fill_place q))
    where
      go : Dec (fill_place part < fill_place q) → value h (node n q) ≡ word_of p q
      go (yes l) = x.blank q i l ∙ sym (last_part p part f e q i l)
      go (no d) = x.done q i (omega (arith, d))
