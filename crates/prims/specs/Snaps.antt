-- Lists of snapshots.
use Rattle.std.specs.Prelude.{◌≡◌, ◌≢◌, ℕ, ◌<◌, Bool, ◌&&◌, nat_lt, ◌==◌, List, length, map}
use Rattle.std.specs.List.{Contains, list_any}
use Rattle.arena.specs.declared.number.NodeNo.{NodeNo}
use Rattle.prims.specs.Snap.{snap_at}
use Rattle.prims.specs.declared.snap.Snap.{Snap}

-- no two snapshots of the list are of one node
abbrev pub AreDistinct : List Snap → Type 0
AreDistinct snaps = (i j : ℕ) → i < length snaps → j < length snaps → i ≢ j → (snap_at snaps i).node.0 ≢ (snap_at snaps j).node.0

-- some snapshot of the list is of node n
pub record IsAmong (snaps : List Snap) (n : ℕ) : Type 0 where
  pub at : ℕ
  pub within : at < length snaps
  pub is : (snap_at snaps at).node.0 ≡ n

-- node n is one of the list
abbrev pub ListsNode : List NodeNo → ℕ → Type 0
ListsNode nodes n = Contains (map (λ (m : NodeNo). m.0) nodes) n

-- whether node n is one of the list
abbrev pub has_node : List NodeNo → ℕ → Bool
has_node nodes n = list_any (λ (m : NodeNo). m.0 == n) nodes

-- whether the list has a j-th snapshot, and its node is among those to be finalized
abbrev pub finalizes : List Snap → List NodeNo → ℕ → Bool
finalizes snaps nodes j = nat_lt j (length snaps) && has_node nodes (snap_at snaps j).node.0
