-- What an audit knows of a call of cells as it judges its answer or its entry.
use Rattle.std.specs.Prelude.{◌≡◌, ℕ, ◌<◌, List, slice_get, Bool, true, Option, Some}
use Rattle.histories.specs.Common.{Layout, LoadInfo, Freeze, Side, IsOwnNode, History, value, Extends, has, members_from, finalized_from, count, node, child, first_value}
use Rattle.record.specs.Common.{IsAsSnapped, HasNodesLeft, HasScxLeft, IsLastLook}
use Rattle.record.specs.Answers.{IsUnchanged}
use Rattle.audit.specs.Remembered.{IsMomentAt, IsLookOf, AreSnapshotsOf}
use Rattle.audit.specs.declared.memory.FoundInfo.{FoundInfo}
use Rattle.audit.specs.declared.memory.Memory.{Memory}

-- of each of the cells that is said to be the same: it is as its snapshot found it
abbrev pub AreSameAt : Layout → History → (ℕ → Option History) → List ℕ → List Bool → Type 0
AreSameAt lay at linked cells same = (place n : ℕ) → slice_get cells place ≡ Some n → slice_get same place ≡ Some true → IsAsSnapped lay at linked n

-- what is known of a call of client c that began at `start`,
-- with the snapshots that the client keeps
pub record IsCallSeen (lay : Layout) (c : ℕ) (h start : History) (linked : ℕ → Option History) (memory : Memory) : Type 0 where
  pub started : IsMomentAt h memory.begun start
  pub nodes : HasNodesLeft lay c start memory.nodes
  pub scx : HasScxLeft lay c start memory.scx
  pub looks : (look : FoundInfo) → memory.look ≡ Some look → IsLookOf lay h c LoadInfo look
  pub freezes : (look : FoundInfo) → memory.freeze ≡ Some look → IsLookOf lay h c Freeze look
  pub snapshots : AreSnapshotsOf lay h memory linked

-- the last look of a kind was made after the first `after` steps,
-- at this node, where it found this
pub record IsLookAt (look : Option FoundInfo) (node found after : ℕ) : Type 0 where
  pub kept : FoundInfo
  pub is : look ≡ Some kept
  pub behind : after < kept.steps
  pub at : kept.node.0 ≡ node
  pub it_found : kept.found ≡ found

-- the look of the memory is this one, at this node since the call's start
pub record IsOwnLook (memory : Memory) (node : ℕ) (look : FoundInfo) : Type 0 where
  pub is : memory.look ≡ Some look
  pub behind : memory.begun < look.steps
  pub at : look.node.0 ≡ node

-- the cell is as the last look of the call's own LLX has found it
pub record IsAsLooked (lay : Layout) (c : ℕ) (h start : History) (n : ℕ) : Type 0 where
  pub moment : History
  pub within : Extends h moment
  pub look : IsLastLook c h start moment n
  pub same : IsUnchanged lay h moment n

-- SCX-record s covers just these cells, and finalizes those of them that are in the second list
pub record IsOverCells (h : History) (s : ℕ) (cells removed : List ℕ) : Type 0 where
  pub members : members_from h s 0 (count h s) ≡ cells
  pub finalizes : (n : ℕ) → has (finalized_from h s 0 (count h s)) n ≡ has removed n

-- the node is of the client's share, has this value, and its fields are 0
pub record IsFreshWith (lay : Layout) (c : ℕ) (h : History) (n x : ℕ) : Type 0 where
  pub own : IsOwnNode lay c n
  pub value_is : value h (node n first_value) ≡ x
  pub empty : (side : Side) → value h (child n side) ≡ 0
