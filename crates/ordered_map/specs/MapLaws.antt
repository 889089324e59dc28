-- What the calls of a map do, by its values.
use Rattle.std.specs.Prelude.{◌≡◌, ◌≢◌, ℕ, ◌<◌, if◌then◌else◌, ◌&&◌, nat_le, List, [], ◌∷◌, Option, Some, None}
use Rattle.histories.specs.Common.{Side, Left, Right}
use Rattle.ordered_map.specs.declared.pair.Pair.{Pair}
use Rattle.ordered_map.specs.declared.rule.Goal.TheVariants.{Key}
use Rattle.ordered_map.specs.declared.rule.Rule.{Rule}
use Rattle.ordered_map.specs.OrderedMap.{MapEdit, Edit, IsRising, after, applies, between, call_delete, call_insert, call_pop_first, call_pop_last, delete, edit_to, edited, end_pair, get, insert, leaves, neighbour}

-- j is beyond k on this side
abbrev pub IsBeyond : Side → ℕ → ℕ → Type 0
IsBeyond Left k j = j < k
IsBeyond Right k j = k < j

-- a pair of the map with a key beyond k on this side, where no key between the two has a value; or
-- no key beyond k has one
abbrev pub IsNeighbour : Side → ℕ → List Pair → Option Pair → Type 0
IsNeighbour side k m (Some p) = IsBeyond side k p.key × (get p.key m ≡ Some p.value) × ((j : ℕ) → IsBeyond side k j → IsBeyond side j p.key → get j m ≡ None)
IsNeighbour side k m None = (j : ℕ) → IsBeyond side k j → get j m ≡ None

-- a pair of the map beyond whose key, on this side, no key has a value; or none has one
abbrev pub IsEndmost : Side → List Pair → Option Pair → Type 0
IsEndmost side m (Some p) = (get p.key m ≡ Some p.value) × ((j : ℕ) → IsBeyond side p.key j → get j m ≡ None)
IsEndmost side m None = (j : ℕ) → get j m ≡ None

-- this, for a key from `low` to `high`, and nothing for any other
abbrev pub within : ℕ → ℕ → ℕ → Option ℕ → Option ℕ
within low high j v = if nat_le low j && nat_le j high then v else None

-- the map without its first pair
abbrev pub without_first : List Pair → List Pair
without_first [] = []
without_first (p ∷ ps) = ps

-- the map without its last pair
abbrev pub without_last : List Pair → List Pair
without_last [] = []
without_last (p ∷ []) = []
without_last (p ∷ q ∷ ps) = p ∷ without_last (q ∷ ps)

-- where the rule changes something in the place of what k has, the map with k at the value that it
-- leaves, or without k if it leaves none; and else the map as it is
abbrev pub by_rule : Rule → ℕ → List Pair → List Pair
by_rule rule k m = if applies rule (get k m) then edited (edit_to k (leaves rule)) m else m

-- an edit changes the value of its key alone, and keeps the keys rising; maps of the same values
-- are the same list
pub record ChangeLaws : Type 0 where
  pub inserted : (k v : ℕ) (m : List Pair) → get k (insert k v m) ≡ Some v
  pub insert_keeps : (j k v : ℕ) (m : List Pair) → j ≢ k → get j (insert k v m) ≡ get j m
  pub deleted : (k : ℕ) (m : List Pair) → IsRising m → get k (delete k m) ≡ None
  pub delete_keeps : (j k : ℕ) (m : List Pair) → j ≢ k → get j (delete k m) ≡ get j m
  pub rising : (e : MapEdit) (m : List Pair) → IsRising m → IsRising (edited e m)
  pub same : (m n : List Pair) → IsRising m → IsRising n → ((k : ℕ) → get k m ≡ get k n) → m ≡ n

-- an insert leaves the map with its key at its value, a delete the map without its key, a pop the
-- map without its first pair, or its last; an edit of a key by any rule, the one or the other, or
-- the map as it was
pub record RuleLaws : Type 0 where
  pub after_insert : (k v : ℕ) (m : List Pair) → after (call_insert k v) m ≡ insert k v m
  pub after_delete : (k : ℕ) (m : List Pair) → after (call_delete k) m ≡ delete k m
  pub after_pop : (m : List Pair) → after call_pop_first m ≡ without_first m
  pub after_pop_last : (m : List Pair) → IsRising m → after call_pop_last m ≡ without_last m
  pub after_rule : (k : ℕ) (rule : Rule) (m : List Pair) → after (Edit (Key k) rule) m ≡ by_rule rule k m

-- the first pair has the least key, the last the greatest, the successor of a key the least above
-- it, and the predecessor the greatest below; between two keys are the pairs of just those keys
pub record ReadLaws : Type 0 where
  pub ends : (side : Side) (m : List Pair) → IsRising m → IsEndmost side m (end_pair side m)
  pub neighbours : (side : Side) (k : ℕ) (m : List Pair) → IsRising m → IsNeighbour side k m (neighbour side k m)
  pub between_rises : (low high : ℕ) (m : List Pair) → IsRising m → IsRising (between low high m)
  pub between : (low high j : ℕ) (m : List Pair) → get j (between low high m) ≡ within low high j (get j m)
