-- What a run of SCX is to do.
use Rattle.std.specs.Prelude.{◌≡◌, ◌<◌, ◌↔◌, ℕ, true, List, length}
use Rattle.histories.specs.Common.{NodeNo, Side, plan_finalizes, side_of}
use Rattle.template.specs.Common.{IsUpdateOver, ListsNode, update_field_index, snap_at, Snap, PutRun}

-- the run of SCX covers the nodes of these snapshots, finalizes those of them in the list, and puts
-- this node, with this value, into the field; its SCX-record and the number of its call are these
pub record IsPutOver (m : PutRun) (snaps : List Snap) (finalize : List NodeNo) (field : ℕ × Side) (v node scx number : ℕ) : Type 0 where
  pub over : IsUpdateOver m.scx.update
  pub snaps_are : m.scx.update.snaps ≡ snaps
  pub fresh : m.scx.update.fresh.0 ≡ node
  pub record_is : m.scx.scx.0 ≡ scx
  pub called : m.scx.call ≡ number
  pub removed : (j : ℕ) → j < length snaps → (plan_finalizes m.scx.update.plan.0 j ≡ true) ↔ ListsNode finalize (snap_at snaps j).node.0
  pub node_is : (snap_at snaps (update_field_index m.scx.update)).node.0 ≡ field.0
  pub side : side_of m.scx.update.plan.0 ≡ field.1
  pub is_value : m.value ≡ v
