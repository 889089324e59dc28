-- Who was in the way of a call.
use Rattle.std.specs.Prelude.{◌≡◌, ◌≢◌, ℕ, ◌<◌, false}
use Rattle.arena.specs.declared.layout.Layout.{Layout}
use Rattle.arena.specs.declared.step.Row.{Row}
use Rattle.arena.specs.declared.step.Kind.TheVariants.{LoadInfo}
use Rattle.arena.specs.Words.{state}
use Rattle.arena.specs.History.{History, ◌⊳◌, value, Extends}
use Rattle.arena.specs.ScxRecords.{member, count}
use Rattle.arena.specs.Fills.{IsNamedScx, IsOthersScx}
use Rattle.arena.specs.Found.{HasFound}
use Rattle.arena.specs.Log.{log, is_final}

-- SCX-record s covers node n
pub record IsMember (h : History) (s n : ℕ) : Type 0 where
  pub index : ℕ
  pub within : index < count h s
  pub is : member h s index ≡ n

-- s is in progress: its state is 0, and an info word names it, or has named it
pub record IsInProgress (h : History) (s : ℕ) : Type 0 where
  pub unfinished : value h (state s) ≡ 0
  pub named : IsNamedScx h s

-- after some row of h later than `start`, s was in progress and covered n
pub record WasInTheWay (h start : History) (n s : ℕ) : Type 0 where
  pub row : Row
  pub before : History
  pub within : Extends h (row ⊳ before)
  pub since : Extends before start
  pub running : IsInProgress (row ⊳ before) s
  pub covers : IsMember (row ⊳ before) s n

-- an LLX of node n by the pass c, which began at `start`, was right to fail: the SCX-record s is
-- another pass's and was in the way of the call, and is finished now
pub record HasFailed (lay : Layout) (c : ℕ) (now start : History) (n s : ℕ) : Type 0 where
  -- the call's last look at the node's info has found s
  pub found : HasFound c now start LoadInfo n s
  pub others : IsOthersScx lay c s
  pub in_the_way : WasInTheWay now start n s
  pub over : value now (state s) ≢ 0
  -- the node was not final at the call's start
  pub not_final : is_final (log lay start) n ≡ false
