-- When what is out is touched no more: moments at which passes have rested since it was.
use Rattle.std.specs.Prelude.{◌≡◌, ◌≢◌, ◌<◌, ◌⊎◌, ℕ, true}
use Rattle.histories.specs.Common.{Layout, History, Extends, value, state, info, marked, member, count, scx_finalizes, log, is_final, IsOwnScx, IsTakenScx, IsMember, IsInProgress}
use Rattle.prims.specs.Moments.{AreFinished}
use Rattle.prims.specs.Laws.InTheWay.{HasBeen}

-- Between the moment `marked_at` and the moment `start` the pass o has rested, between two of its
-- calls: then all SCX-records that it had taken were finished. Of those that it has taken since
-- none was in progress over the node up to h but one that was taken in a call in which the node had
-- no mark.
pub record HasRestedSince (lay : Layout) (h start marked_at : History) (n o : ℕ) : Type 0 where
  pub rest : History
  pub within : Extends start rest
  pub since : Extends rest marked_at
  pub over : AreFinished lay o 0 rest
  pub unmarked : (s : ℕ) (m : History) → IsOwnScx lay o s → ¬ IsTakenScx rest s → Extends h m → IsInProgress m s → IsMember m s n → HasBeen m rest (λ k. value k (marked n) ≡ 0)

-- so has each pass
abbrev pub AllHaveRested : Layout → History → History → History → ℕ → Type 0
AllHaveRested lay h start marked_at n = (o : ℕ) → o < lay.passes → HasRestedSince lay h start marked_at n o

-- no node that is not final names the SCX-record
abbrev pub IsNamedByFinal : Layout → History → ℕ → Type 0
IsNamedByFinal lay h s = (n : ℕ) → value h (info n) ≡ s → is_final (log lay h) n ≡ true

-- what a look at a node of a finished SCX-record finds: it finalizes the node and is committed, or
-- the info of the node names another
abbrev pub IsLetGo : History → ℕ → ℕ → Type 0
IsLetGo h s j = ((value h (state s) ≡ 1) × (scx_finalizes h s j ≡ true)) ⊎ (value h (info (member h s j)) ≢ s)

-- so it is with each node that it covers
abbrev pub AreLetGo : History → ℕ → Type 0
AreLetGo h s = (j : ℕ) → j < count h s → IsLetGo h s j
