-- What answers say.
use Rattle.std.specs.Prelude.{◌≡◌, ℕ, Bool, true, false, List, Option, Some, None}
use Rattle.std.specs.List.{Contains}
use Rattle.histories.specs.Common.{Layout, Left, Right, Kind, History, IsOwnNode, IsOwnScx, IsOthersScx, IsTakenNode, IsTakenScx, WasInTheWay, HasFound, log, fields, last, is_final}
use Rattle.ordered_map.specs.Tries.{HasLostTries}
use Rattle.record.specs.declared.record.Line.{Line}
use Rattle.record.specs.declared.record.Finished.{Finished}
use Rattle.record.specs.declared.record.Answer.{Answer}
use Rattle.record.specs.Turns.{won}
use Rattle.record.specs.declared.record.Answer.TheVariants.{Snapshot, Finalized, Done, Same}

-- where an answered call of cells took place: an LLX that says something in its last turn, a VLX
-- that found its cells as they were in its first, an SCX that is done in the turn of its entry; all
-- others took place nowhere
abbrev pub moment_of : Answer → ℕ → ℕ → Option ℕ → Option ℕ
moment_of (Snapshot left right) first last won = Some last
moment_of Finalized first last won = Some last
moment_of Same first last won = Some first
moment_of Done first last won = won
moment_of _ first last won = None

-- a call of cells took place where its answer says
abbrev pub IsPlacedCell : Layout → List Line → Finished → Type 0
IsPlacedCell lay lines reply = reply.moment ≡ moment_of reply.answer reply.begin reply.end (won lay lines reply.client.0)

-- the snapshot is right: left and right are the node's
-- fields in the log, where the node is not final
pub record IsSnapshotAt (lay : Layout) (now : History) (n left right : ℕ) : Type 0 where
  pub left_is : left ≡ fields lay now n Left
  pub right_is : right ≡ fields lay now n Right
  pub not_final : is_final (log lay now) n ≡ false

-- the cell at this moment is as at the snapshot's
-- moment: it has the same last entry, and is not final
pub record IsUnchanged (lay : Layout) (at moment : History) (n : ℕ) : Type 0 where
  pub same : last (log lay at) n ≡ last (log lay moment) n
  pub not_final : is_final (log lay at) n ≡ false

-- the client keeps a snapshot of the cell, which at this moment is as that found it
abbrev pub IsAsSnapped : Layout → History → (ℕ → Option History) → ℕ → Type 0
IsAsSnapped lay at linked n = (moment : History) × (linked n ≡ Some moment) × IsUnchanged lay at moment n

-- the client keeps a snapshot of each of the cells, and each is as its snapshot found it
abbrev pub AreUnchanged : Layout → History → (ℕ → Option History) → List ℕ → Type 0
AreUnchanged lay at linked cells = (n : ℕ) → Contains cells n → IsAsSnapped lay at linked n

-- another client's SCX-record has reached one of the cells since the snapshot of it
pub record IsInTheWay (lay : Layout) (c : ℕ) (now start : History) (kind : Kind) (cells : List ℕ) (node scx : ℕ) (IsMoment : History → Type 0) : Type 0 where
  pub among : Contains cells node
  -- the moment of the cell's snapshot
  pub moment : History
  pub of_snapshot : IsMoment moment
  -- the SCX-record was in progress over the cell at some step after that moment
  pub way : WasInTheWay now moment node scx
  -- the last step of this kind in the call has found it in the cell's info
  pub found : HasFound c now start kind node scx
  pub others : IsOthersScx lay c scx

-- since the call's start another client's SCX-record was in progress over this node
abbrev pub WasBlockedBy : Layout → ℕ → History → History → ℕ → ℕ → Type 0
WasBlockedBy lay c now start node scx = IsOthersScx lay c scx × WasInTheWay now start node scx

-- the call has lost all its tries: since its start the client has begun `tries`, and in the newest
-- of them another client's SCX-record was in progress over this node
abbrev pub HasLostAllTries : Layout → ℕ → ℕ → History → History → ℕ → ℕ → Type 0
HasLostAllTries lay tries c now start node scx = IsOthersScx lay c scx × HasLostTries c now start tries node scx

-- the client's share has a node and an SCX-record that are not taken
pub record HasRoom (lay : Layout) (c : ℕ) (at : History) : Type 0 where
  pub node_number : ℕ
  pub own_node : IsOwnNode lay c node_number
  pub free_node : ¬ IsTakenNode at node_number
  pub scx_number : ℕ
  pub own_scx : IsOwnScx lay c scx_number
  pub free_scx : ¬ IsTakenScx at scx_number

-- whether the answer is `done`
abbrev pub is_done : Answer → Bool
is_done Done = true
is_done _ = false

-- an update of the call is in the log if its answer says so, and only then
abbrev pub HasItsEntry : Bool → Option ℕ → Type 0
HasItsEntry true (Some turn) = Unit {0}
HasItsEntry false None = Unit {0}
HasItsEntry _ _ = ⊥
