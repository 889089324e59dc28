-- Where keys do not rise.
use Rattle.std.specs.Prelude.{ℕ, suc, ◌-◌, ◌<◌, ◌≤◌, List, length, slice_index_or}
use Rattle.ordered_map.specs.declared.pair.Pair.{Pair}
use Rattle.ordered_map.specs.OrderedMap.{pair}

-- the key of the pair at this place, counted from 0
abbrev pub nth_key : List Pair → ℕ → ℕ
nth_key ps i = (slice_index_or ps i (pair 0 0)).key

-- each of the first `at` keys is above the one before
abbrev pub AreStepsUp : List Pair → ℕ → Type 0
AreStepsUp ps at = (i : ℕ) → suc i < at → suc i < length ps → nth_key ps i < nth_key ps (suc i)

-- The key at this place is not above the one before it, and there is no such place before.
pub record FallsFirstAt (ps : List Pair) (at : ℕ) : Type 0 where
  pub some : 1 ≤ at
  pub inside : at < length ps
  pub falls : nth_key ps at ≤ nth_key ps (at - 1)
  pub first : AreStepsUp ps at
