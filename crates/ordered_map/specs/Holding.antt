-- What the words of a leaf hold: which words hold its pairs is written here alone. One file of
-- proofs opens this; all others use the lemmas of that file.
use Rattle.std.specs.Prelude.{ℕ, zero, suc, ◌+◌, ◌*◌, ◌^◌, ◌<◌, if◌then◌else◌, nat_lt, List, [], ◌∷◌, map, Option, Some, None}
use Rattle.histories.specs.Common.{Settled, More, Key, Value, High, Side, Left, Right, Slot, First, Second, Third, Fourth, Word, node}
use Rattle.ordered_map.specs.declared.pair.Pair.{Pair}
use Rattle.ordered_map.specs.OrderedMap.{pair}

-- the slots of a leaf with `more` pairs after its first: four at most
abbrev pub slots : ℕ → List Slot
slots zero = First ∷ []
slots (suc zero) = First ∷ Second ∷ []
slots (suc (suc zero)) = First ∷ Second ∷ Third ∷ []
slots (suc (suc (suc more))) = First ∷ Second ∷ Third ∷ Fourth ∷ []

-- those of them from this one on
abbrev pub slots_from : ℕ → Slot → List Slot
slots_from more First = slots more
slots_from (suc (suc zero)) Second = Second ∷ Third ∷ []
slots_from (suc (suc (suc more))) Second = Second ∷ Third ∷ Fourth ∷ []
slots_from (suc (suc (suc more))) Third = Third ∷ Fourth ∷ []
slots_from more slot = slot ∷ []

-- the next slot in a leaf with `more` pairs after its first, if there is one
abbrev pub slot_behind : ℕ → Slot → Option Slot
slot_behind more First = if nat_lt 0 more then Some Second else None
slot_behind more Second = if nat_lt 1 more then Some Third else None
slot_behind more Third = if nat_lt 2 more then Some Fourth else None
slot_behind more Fourth = None

-- the slot at this end of a leaf with `more` pairs after its first
abbrev pub end_slot : Side → ℕ → Slot
end_slot Left more = First
end_slot Right zero = First
end_slot Right (suc zero) = Second
end_slot Right (suc (suc zero)) = Third
end_slot Right (suc (suc (suc more))) = Fourth

-- the value of these two halves
abbrev pub wide_value : ℕ → ℕ → ℕ
wide_value low high = low + 2 ^ 64 * high

-- the pair of the leaf n in this slot; its value has two words
abbrev pub pair_in : (Word → ℕ) → ℕ → Slot → Pair
pair_in f n slot = pair (f (node n (Settled (Key slot)))) (wide_value (f (node n (Settled (Value slot)))) (f (node n (Settled (High slot)))))

-- the pairs that the leaf n holds from this slot on
unfoldable pub held_from : (Word → ℕ) → ℕ → Slot → List Pair
held_from f n slot = map (pair_in f n) (slots_from (f (node n (Settled More))) slot)

-- those that it holds from the slot after another one on, if there is one
abbrev pub held_behind : (Word → ℕ) → ℕ → Option Slot → List Pair
held_behind f n None = []
held_behind f n (Some slot) = held_from f n slot

-- the pairs that the leaf n holds where it is of class 0, by rising key
abbrev pub held_pairs : (Word → ℕ) → ℕ → List Pair
held_pairs f n = held_from f n First

-- it holds as many as a leaf may hold: three after its first, at most
unfoldable pub IsWellCounted : (Word → ℕ) → ℕ → Type 0
IsWellCounted f n = f (node n (Settled More)) < 4
