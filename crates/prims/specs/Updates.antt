-- Updates.
use Rattle.std.specs.Prelude.{◌≡◌, ℕ, List}
use Rattle.histories.specs.Common.{NodeNo, Side, field_index_of, side_of}
use Rattle.prims.specs.declared.snap.Snap.{Snap}
use Rattle.prims.specs.declared.update.Update.{Update}
use Rattle.prims.specs.Snap.{snap_at}

-- which of the update's nodes has the field: its place among them
abbrev pub update_field_index : Update → ℕ
update_field_index u = field_index_of u.plan.0

-- the update changes this field of a node of the snapshots
pub record ChangesField (u : Update) (snaps : List Snap) (field : NodeNo × Side) : Type 0 where
  pub node : (snap_at snaps (update_field_index u)).node.0 ≡ field.0.0
  pub side : side_of u.plan.0 ≡ field.1
