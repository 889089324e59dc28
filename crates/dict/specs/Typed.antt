-- A dictionary of typed keys and values, seen by their words: its SCX-records make edits of such
-- words alone, so its map has no others.
use Rattle.std.specs.Prelude.{◌⊎◌, ℕ, List, [], ◌∷◌, Option, Some, None}
use Rattle.arena.specs.Layout.{IsMap}
use Rattle.histories.specs.Common.{Layout, History, value}
use Rattle.template.specs.Common.{MapEdit, Insert, Delete, MapCall, Edit, MapReply, OneValue, OnePair, ManyPairs, leaves, Goal, Key, End, Spells, Pair}
use Rattle.ordered_map.specs.Planted.{IsPlanted, first_pairs}
use Rattle.ordered_map.specs.TreeShape.{MayEdit}

-- `keys` and `values` say of a word whether it is one of a key, or of a value.

-- an edit with such a key, and such a value
abbrev pub IsTypedEdit : (ℕ → Type 0) → (ℕ → Type 0) → MapEdit → Type 0
IsTypedEdit keys values (Insert k v) = keys k × values v
IsTypedEdit keys values (Delete k) = keys k

-- all pairs are of such keys and values
abbrev pub AreTyped : (ℕ → Type 0) → (ℕ → Type 0) → List Pair → Type 0
AreTyped keys values [] = Unit {0}
AreTyped keys values (p ∷ ps) = keys p.key × values p.value × AreTyped keys values ps

-- the value, if there is one, is such a value
abbrev pub IsTypedValue : (ℕ → Type 0) → Option ℕ → Type 0
IsTypedValue values None = Unit {0}
IsTypedValue values (Some v) = values v

-- the key to which an edit goes, if it names one, is such a key, and what it leaves, if it leaves a
-- value, such a value
abbrev pub IsTypedGoal : (ℕ → Type 0) → Goal → Type 0
IsTypedGoal keys (Key k) = keys k
IsTypedGoal keys (End side) = Unit {0}

abbrev pub IsTypedCall : (ℕ → Type 0) → (ℕ → Type 0) → MapCall → Type 0
IsTypedCall keys values (Edit goal rule) = IsTypedGoal keys goal × IsTypedValue values (leaves rule)
IsTypedCall keys values _ = Unit {0}

-- a reply of such keys and values
abbrev pub IsTypedReply : (ℕ → Type 0) → (ℕ → Type 0) → MapReply → Type 0
IsTypedReply keys values (OneValue told) = IsTypedValue values told
IsTypedReply keys values (OnePair p) = keys p.key × values p.value
IsTypedReply keys values (ManyPairs ps) = AreTyped keys values ps

-- the SCX-record makes an edit of such words
abbrev pub MakesTyped : (ℕ → Type 0) → (ℕ → Type 0) → Layout → History → ℕ → Type 0
MakesTyped keys values lay h s = (e : MapEdit) × MayEdit lay h s e × IsTypedEdit keys values e

-- the shape of a typed dictionary: so does each that begins, and what a table begins with is
-- planted, with such pairs
abbrev pub TypedAllows : (ℕ → Type 0) → (ℕ → Type 0) → Layout → History → ℕ → Type 0
TypedAllows keys values lay h s = MakesTyped keys values lay h s ⊎ (IsPlanted lay h s × AreTyped keys values (first_pairs h))

-- in a dictionary's mode the words spell a map of such pairs
abbrev pub IsTypedThere : (ℕ → Type 0) → (ℕ → Type 0) → Layout → History → Type 0
IsTypedThere keys values lay h = IsMap lay.mode → (m : List Pair) × Spells lay (value h) m × AreTyped keys values m
