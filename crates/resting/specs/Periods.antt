-- Periods, and what a pass notes of a record that it has found marked or dead.
use Rattle.std.specs.Prelude.{◌<◌, ◌⊎◌, ℕ}
use Rattle.histories.specs.Common.{Layout, History, Extends}
use Rattle.prims.specs.Moments.{AreFinished}
use Rattle.resting.specs.Dead.{IsDead, IsMarkedRecord}
use Rattle.resting.specs.Records.{Record}
use Rattle.resting.specs.Reach.{IsOutOfReach}

-- At a moment between these two the pass has rested: all SCX-records that it had taken were
-- finished.
pub record RestedBetween (lay : Layout) (snapshot end : History) (o : ℕ) : Type 0 where
  pub rest : History
  pub since : Extends rest snapshot
  pub by : Extends end rest
  pub over : AreFinished lay o 0 rest

-- a period: between the snapshot and the end each pass has rested
pub record IsPeriod (lay : Layout) (snapshot end : History) : Type 0 where
  pub ordered : Extends end snapshot
  pub rested : (o : ℕ) → o < lay.passes → RestedBetween lay snapshot end o

-- what a pass notes of a record
pub data Note : Type 0 where
  -- at this moment it was marked or dead
  marked_or_dead : History → Note
  -- it was dead at this moment, or before
  dead_by : History → Note
  -- it is out of reach
  out_of_reach : Note

-- the record was dead at the moment m of the history, or before
pub record WasDead (lay : Layout) (p : ℕ) (x : Record) (m : History) : Type 0 where
  pub moment : History
  pub within : Extends m moment
  pub dead : IsDead lay p x moment

-- The note of the pass p is right after h: the record was marked or dead at the moment t of h; it
-- was dead at the moment `end` of h, or before; it is out of reach, by the rests of `last`. What is
-- out of reach already may be noted so as well as in either other way.
abbrev pub IsRightNote : Layout → ℕ → Record → History → (ℕ → History) → Note → Type 0
IsRightNote lay p x h last (marked_or_dead t) = Extends h t × (IsMarkedRecord x t ⊎ (IsDead lay p x t ⊎ IsOutOfReach lay h last x))
IsRightNote lay p x h last (dead_by end) = Extends h end × (WasDead lay p x end ⊎ IsOutOfReach lay h last x)
IsRightNote lay p x h last out_of_reach = IsOutOfReach lay h last x
