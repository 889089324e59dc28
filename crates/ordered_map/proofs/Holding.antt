-- What a leaf holds. The facts that depend on the words in which it does are proved here, and all
-- else uses them.
use Rattle.std.proofs.Common.{◌≡◌, ◌≢◌, ℕ, zero, suc, ◌+◌, ◌*◌, ◌/◌, ◌%◌, ◌^◌, ◌<◌, ◌≤◌, true, cond, eqb, List, [], ◌∷◌, length, refl, sym, ◌∙◌, ap, arith, subst, lt-ltb, eq-eqb, ne_eqb}
use Rattle.std.specs.Prelude.{map, Option, Some, None}
use native.Mathlib.Decide.{ℕ_discrete}
use Rattle.histories.specs.Common.{NodeWord, Settled, Head, More, Key, Value, High, Side, Left, Right, Slot, First, Second, Third, Fourth, Word, IsSettled, node, first_key}
use Rattle.ordered_map.specs.declared.pair.Pair.{Pair}
use Rattle.ordered_map.specs.OrderedMap.{pair, AllBelow, AllFrom, IsRising, first_pair, last_pair, end_pair}
use Rattle.ordered_map.specs.Holding.{slots, slots_from, slot_behind, end_slot, wide_value, pair_in, held_from, held_behind, held_pairs, IsWellCounted}
use Rattle.ordered_map.specs.TreeWords.{class, is_leaf, rank, leaf_pairs, leaf_items, HasItems, IsLeaf}
use Rattle.ordered_map.proofs.Lists.{from_less, below_more, rising_from}

-- the settled words of n are the same
abbrev pub SameSettled : (Word → ℕ) → (Word → ℕ) → ℕ → Type 0
SameSettled b f n = (a : NodeWord) → IsSettled (node n a) → f (node n a) ≡ b (node n a)

-- how many pairs the leaf n has after its first
abbrev more_of : (Word → ℕ) → ℕ → ℕ
more_of f n = f (node n (Settled More))

-- The facts that depend on the layout

-- the same settled words hold the same, and as many
pub same_pair : (b f : Word → ℕ) (n : ℕ) (slot : Slot) → SameSettled b f n → pair_in f n slot ≡ pair_in b n slot
same_pair b f n slot e = λ i. pair (e (Settled (Key slot)) tt i) (wide_value (e (Settled (Value slot)) tt i) (e (Settled (High slot)) tt i))

pub same_from : (b f : Word → ℕ) (n : ℕ) (slot : Slot) → SameSettled b f n → held_from f n slot ≡ held_from b n slot
unfolding held_from
same_from b f n slot e = λ i. map (λ s. same_pair b f n s e i) (slots_from (e (Settled More) tt i) slot)

pub held_same : (b f : Word → ℕ) (n : ℕ) → SameSettled b f n → held_pairs f n ≡ held_pairs b n
held_same b f n e = same_from b f n First e

pub counted_same : (b f : Word → ℕ) (n : ℕ) → SameSettled b f n → IsWellCounted b n → IsWellCounted f n
unfolding IsWellCounted
counted_same b f n e c = let more : f (node n (Settled More)) ≡ b (node n (Settled More)) = e (Settled More) tt in rw more c

-- its count is allowed if it has at most three pairs after its first
pub few_counted : (f : Word → ℕ) (n : ℕ) → f (node n (Settled More)) < 4 → IsWellCounted f n
unfolding IsWellCounted
few_counted f n few = few

pub counted_few : (f : Word → ℕ) (n : ℕ) → IsWellCounted f n → f (node n (Settled More)) < 4
unfolding IsWellCounted
counted_few f n c = c

-- it holds the pairs of its slots
pub held_slots : (f : Word → ℕ) (n : ℕ) → held_pairs f n ≡ map (pair_in f n) (slots (f (node n (Settled More))))
unfolding held_from
held_slots f n = refl

-- with the slots at hand
module _ (f : Word → ℕ) (n : ℕ) where
  abbrev in_slots : ℕ → Slot → List Pair
  in_slots more slot = map (pair_in f n) (slots_from more slot)

  abbrev in_slots_behind : ℕ → Option Slot → List Pair
  in_slots_behind more None = []
  in_slots_behind more (Some slot) = in_slots more slot

  next_slot : (more : ℕ) (slot : Slot) → in_slots more slot ≡ pair_in f n slot ∷ in_slots_behind more (slot_behind more slot)
  next_slot zero First = refl
  next_slot (suc zero) First = refl
  next_slot (suc (suc zero)) First = refl
  next_slot (suc (suc (suc more))) First = rw (lt-ltb 0 (suc (suc (suc more))) (omega arith)) refl
  next_slot zero Second = refl
  next_slot (suc zero) Second = refl
  next_slot (suc (suc zero)) Second = refl
  next_slot (suc (suc (suc more))) Second = rw (lt-ltb 1 (suc (suc (suc more))) (omega arith)) refl
  next_slot zero Third = refl
  next_slot (suc zero) Third = refl
  next_slot (suc (suc zero)) Third = refl
  next_slot (suc (suc (suc more))) Third = rw (lt-ltb 2 (suc (suc (suc more))) (omega arith)) refl
  next_slot more Fourth = refl

  behind_slot : (next : Option Slot) → in_slots_behind (more_of f n) next ≡ held_behind f n next
  unfolding held_from
  behind_slot None = refl
  behind_slot (Some slot) = refl

  slots_count : (more : ℕ) → more < 4 → length (in_slots more First) ≡ 1 + more
  slots_count zero l = refl
  slots_count (suc zero) l = refl
  slots_count (suc (suc zero)) l = refl
  slots_count (suc (suc (suc zero))) l = refl
  slots_count (suc (suc (suc (suc more)))) l = absurd (omega (arith, l))

  slots_rise : (more : ℕ) (slot : Slot) → IsRising (in_slots more First) → IsRising (in_slots more slot)
  slots_rise more First r = r
  slots_rise zero Second r = (tt, tt)
  slots_rise (suc zero) Second r = r.1
  slots_rise (suc (suc zero)) Second r = r.1
  slots_rise (suc (suc (suc more))) Second r = r.1
  slots_rise zero Third r = (tt, tt)
  slots_rise (suc zero) Third r = (tt, tt)
  slots_rise (suc (suc zero)) Third r = r.1.1
  slots_rise (suc (suc (suc more))) Third r = r.1.1
  slots_rise more Fourth r = (tt, tt)

-- from a slot on it holds the pair that is there, and what it holds from the next slot on
pub held_next : (f : Word → ℕ) (n : ℕ) (slot : Slot) → held_from f n slot ≡ pair_in f n slot ∷ held_behind f n (slot_behind (f (node n (Settled More))) slot)
unfolding held_from
held_next f n slot = next_slot f n (more_of f n) slot ∙ ap (λ ps. pair_in f n slot ∷ ps) (behind_slot f n (slot_behind (more_of f n) slot))

-- the first and those after it
pub held_count : (f : Word → ℕ) (n : ℕ) → IsWellCounted f n → length (held_pairs f n) ≡ 1 + f (node n (Settled More))
unfolding held_from IsWellCounted
held_count f n counted = slots_count f n (more_of f n) counted

-- what it holds from a slot on rises if all that it holds does
pub from_rises : (f : Word → ℕ) (n : ℕ) (slot : Slot) → IsRising (held_pairs f n) → IsRising (held_from f n slot)
unfolding held_from
from_rises f n slot rises = slots_rise f n (more_of f n) slot rises

-- Reading slot by slot

-- there is one pair at least, and its key is that of the node
pub record HeldFirst (f : Word → ℕ) (n : ℕ) : Type 0 where
  pub value : ℕ
  pub rest : List Pair
  pub is : held_pairs f n ≡ pair (f (node n first_key)) value ∷ rest

pub held_first : (f : Word → ℕ) (n : ℕ) → HeldFirst f n
held_first f n = record { value = (pair_in f n First).value; rest = held_behind f n (slot_behind (more_of f n) First); is = held_next f n First }

-- the pair at an end of it is in the slot there
pub held_end : (side : Side) (f : Word → ℕ) (n : ℕ) → end_pair side (held_pairs f n) ≡ Some (pair_in f n (end_slot side (f (node n (Settled More)))))
unfolding held_from
held_end Left f n = ap first_pair (held_next f n First)
held_end Right f n = in_slots_end (more_of f n)
  where
    in_slots_end : (more : ℕ) → last_pair (map (pair_in f n) (slots more)) ≡ Some (pair_in f n (end_slot Right more))
    in_slots_end zero = refl
    in_slots_end (suc zero) = refl
    in_slots_end (suc (suc zero)) = refl
    in_slots_end (suc (suc (suc more))) = refl

-- a leaf with no pair after its first has this one
pub held_alone : (f : Word → ℕ) (n : ℕ) → f (node n (Settled More)) ≡ 0 → held_pairs f n ≡ pair_in f n First ∷ []
held_alone f n none = held_next f n First ∙ ap (λ more. pair_in f n First ∷ held_behind f n (slot_behind more First)) none

-- The items of a leaf

pub low_items : (f : Word → ℕ) (n : ℕ) → class f n ≡ 0 → leaf_items f n ≡ held_pairs f n
low_items f n z = rw (eq-eqb (class f n) 0 z) refl

pub high_items : (f : Word → ℕ) (n : ℕ) → class f n ≢ 0 → leaf_items f n ≡ pair (rank f n) 0 ∷ []
high_items f n d = rw (ne_eqb (class f n) 0 d) refl

pub low_pairs : (f : Word → ℕ) (n : ℕ) → class f n ≡ 0 → leaf_pairs f n ≡ held_pairs f n
low_pairs f n z = rw (eq-eqb (class f n) 0 z) refl

pub high_pairs : (f : Word → ℕ) (n : ℕ) → class f n ≢ 0 → leaf_pairs f n ≡ []
high_pairs f n d = rw (ne_eqb (class f n) 0 d) refl

-- the first of them has its rank
pub record FirstItem (f : Word → ℕ) (n : ℕ) : Type 0 where
  pub value : ℕ
  pub rest : List Pair
  pub is : leaf_items f n ≡ pair (rank f n) value ∷ rest

pub first_item : (f : Word → ℕ) (n : ℕ) → FirstItem f n
first_item f n = go (ℕ_discrete (class f n) 0)
  where
    go : Dec (class f n ≡ 0) → FirstItem f n
    go (yes z) =
        let x = held_first f n in
        let r : f (node n first_key) ≡ rank f n = omega (arith, z) in
        record { value = x.value; rest = x.rest; is = low_items f n z ∙ x.is ∙ (λ i. pair (r i) x.value ∷ x.rest) }
    go (no d) = record { value = 0; rest = []; is = high_items f n d }

pub same_items : (b f : Word → ℕ) (n : ℕ) → SameSettled b f n → leaf_items f n ≡ leaf_items b n
same_items b f n e = λ i. cond (eqb (e (Settled Head) tt i % 4) 0) (held_same b f n e i) (pair (e (Settled Head) tt i % 4 * 2 ^ 64 + e first_key tt i) 0 ∷ [])

pub same_pairs : (b f : Word → ℕ) (n : ℕ) → SameSettled b f n → leaf_pairs f n ≡ leaf_pairs b n
same_pairs b f n e = λ i. cond (eqb (e (Settled Head) tt i % 4) 0) (held_same b f n e i) []

-- A leaf has its items between its bounds

-- one above all keys, if its rank is there
pub high_leaf : (f : Word → ℕ) (n lo hi : ℕ) → is_leaf f n ≡ true → class f n ≢ 0 → f (node n first_key) < 2 ^ 64 → lo ≤ rank f n → rank f n < hi → IsLeaf f n lo hi
high_leaf f n lo hi leaf high small from below = record {
  leaf = leaf;
  small = small;
  items = record {
    keys = λ z. absurd (high z);
    rising = subst IsRising (sym (high_items f n high)) (tt, tt);
    from = subst (AllFrom lo) (sym (high_items f n high)) (from, tt);
    below = subst (AllBelow hi) (sym (high_items f n high)) (below, tt);
  };
}

-- one of class 0, if its pairs rise to below the upper bound, and its rank is not below `lo`
pub low_leaf : (f : Word → ℕ) (n lo hi : ℕ) → is_leaf f n ≡ true → class f n ≡ 0 → IsWellCounted f n → IsRising (held_pairs f n) → AllBelow hi (held_pairs f n) → AllBelow (2 ^ 64) (held_pairs f n) → lo ≤ rank f n → IsLeaf f n lo hi
low_leaf f n lo hi leaf low counted rises below words from =
    let x = held_first f n in
    let first : lo ≤ f (node n first_key) = omega (arith, low, from) in
    record {
      leaf = leaf;
      small = (subst (AllBelow (2 ^ 64)) x.is words).0;
      items = record {
        keys = λ z. (counted, words);
        rising = subst IsRising (sym (low_items f n low)) rises;
        from = subst (AllFrom lo) (sym (low_items f n low ∙ x.is)) (rising_from lo (pair (f (node n first_key)) x.value) x.rest first (subst IsRising x.is rises));
        below = subst (AllBelow hi) (sym (low_items f n low)) below;
      };
    }

-- and its rank is there if it has its items there
pub rank_from : (f : Word → ℕ) (n lo hi : ℕ) → HasItems f n lo hi → lo ≤ rank f n
rank_from f n lo hi s = (subst (AllFrom lo) (first_item f n).is s.from).0

pub rank_below : (f : Word → ℕ) (n lo hi : ℕ) → HasItems f n lo hi → rank f n < hi
rank_below f n lo hi s = (subst (AllBelow hi) (first_item f n).is s.below).0

-- wider bounds
pub wider_leaf : (f : Word → ℕ) (n lo hi low high : ℕ) → low ≤ lo → hi ≤ high → IsLeaf f n lo hi → IsLeaf f n low high
wider_leaf f n lo hi low high a b s =
    let x = s.items in
    record { leaf = s.leaf; small = s.small; items = record { keys = x.keys; rising = x.rising; from = from_less low lo (leaf_items f n) a x.from; below = below_more hi high (leaf_items f n) b x.below } }

-- the same words have the same items
pub same_leaf : (b f : Word → ℕ) (n lo hi : ℕ) → SameSettled b f n → IsLeaf b n lo hi → IsLeaf f n lo hi
same_leaf b f n lo hi e s =
    let x = s.items in
    let class_is : class f n ≡ class b n = ap (λ v. v % 4) (e (Settled Head) tt) in
    record {
      leaf = ap (λ v. eqb (v / 4 % 2) 1) (e (Settled Head) tt) ∙ s.leaf;
      small = rw (e first_key tt) s.small;
      items = record {
        keys = λ z. let k = x.keys (sym class_is ∙ z) in (counted_same b f n e k.0, subst (AllBelow (2 ^ 64)) (sym (held_same b f n e)) k.1);
        rising = subst IsRising (sym (same_items b f n e)) x.rising;
        from = subst (AllFrom lo) (sym (same_items b f n e)) x.from;
        below = subst (AllBelow hi) (sym (same_items b f n e)) x.below;
      };
    }

-- the key of a leaf of class 0 is one of those that it holds
pub key_small : (f : Word → ℕ) (n : ℕ) → AllBelow (2 ^ 64) (held_pairs f n) → f (node n first_key) < 2 ^ 64
key_small f n a = (subst (AllBelow (2 ^ 64)) (held_first f n).is a).0
