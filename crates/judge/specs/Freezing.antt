-- How many nodes of each SCX-record were ever frozen for it.
use Rattle.std.specs.Prelude.{◌≡◌, ◌↔◌, ℕ, ◌+◌, ◌<◌, if◌then◌else◌, ◌&&◌, not, ◌==◌, Bool, true, false, List, length, slice_index_or, slice_set}
use Rattle.histories.specs.Common.{Layout, Row, Kind, Freeze, all_scx, History, IsNamedScx, IsFrozen, count}

-- how many of the nodes of s, by the list of these numbers
abbrev pub frozen_of : List ℕ → ℕ → ℕ
frozen_of frozen s = slice_index_or frozen s 0

-- whether steps of this kind are freezes
abbrev pub is_freeze : Kind → Bool
is_freeze Freeze = true
is_freeze _ = false

-- whether the row is a freeze that changes its word
abbrev pub freezes : Row → Bool
freezes r = is_freeze r.kind && not (r.before == r.after)

-- the list after the row: one more for the SCX-record that it stores
abbrev pub frozen_after : Row → List ℕ → List ℕ
frozen_after r frozen =
    if freezes r then slice_set frozen r.after (frozen_of frozen r.after + 1)
    else frozen

-- one that freezes is of an SCX-record in the list with fewer than four
abbrev pub MayFreeze : List ℕ → Row → Type 0
MayFreeze frozen r = freezes r ≡ true → (r.after < length frozen) × (frozen_of frozen r.after < 4)

-- the numbers are those of the history
pub record FreezingStands (lay : Layout) (h : History) (frozen : List ℕ) : Type 0 where
  pub size : length frozen ≡ all_scx lay
  -- the first of its nodes, this many, were frozen for s
  pub first : (s j : ℕ) → j < count h s → IsFrozen h s j ↔ (j < frozen_of frozen s)
  pub none : (s : ℕ) → ¬ IsNamedScx h s → frozen_of frozen s ≡ 0
