-- Snapshots that clients keep, and what calls ask of them.
use Rattle.std.specs.Prelude.{◌≡◌, ℕ, ◌<◌, List, Option, Some, None, IsSome, slice_get, slice_index_or}
use Rattle.std.specs.List.{Contains}
use Rattle.histories.specs.Common.{Row as StepRow, LoadInfo, History, ◌⊳◌, Extends, IsLastStep}
use Rattle.record.specs.declared.record.Answer.{Answer}
use Rattle.record.specs.declared.record.Answer.TheVariants.{Snapshot, Full}

-- what a reply leaves of the client's snapshot of the cell that an LLX of
-- the call looked at: one of this moment, or none
abbrev pub snapshot_of : Answer → History → Option History
snapshot_of (Snapshot left right) now = Some now
-- a call whose share was too small for its SCX leaves the snapshot of its LLX
snapshot_of (Full what left) now = Some now
snapshot_of _ now = None

-- the client keeps a snapshot of each of the cells
abbrev pub AreLinked : (ℕ → Option History) → List ℕ → Type 0
AreLinked linked cells = (n : ℕ) → Contains cells n → IsSome (linked n)

-- the node is one of the cells, and P holds of each cell before it
pub record IsBehindAll (P : ℕ → Type 0) (cells : List ℕ) (node : ℕ) : Type 0 where
  pub place : ℕ
  pub is : slice_get cells place ≡ Some node
  pub before : (i : ℕ) → i < place → P (slice_index_or cells i 0)

-- this is the first of the cells without a kept snapshot
abbrev pub IsFirstUnlinked : (ℕ → Option History) → List ℕ → ℕ → Type 0
IsFirstUnlinked linked cells node = (linked node ≡ None) × IsBehindAll (λ n. IsSome (linked n)) cells node

-- the moment of a `set` of client c, which began at `start`, at which its LLX has looked at the
-- cell for the last time: it has just loaded the cell's info, and no info word since
pub record IsLastLook (c : ℕ) (now start moment : History) (n : ℕ) : Type 0 where
  pub row : StepRow
  pub before : History
  pub is : moment ≡ row ⊳ before
  pub since : Extends before start
  pub last : IsLastStep c now LoadInfo n row before
