-- Snapshots: their fields, and lists of them.
use Rattle.std.specs.Prelude.{ℕ, List, slice_index_or}
use Rattle.histories.specs.Common.{NodeNo, Side, Left, Right}
use Rattle.prims.specs.declared.snap.Snap.{Snap}

-- the field on this side, as the snapshot found it
abbrev pub child_of : Snap → Side → NodeNo
child_of snap Left = snap.left
child_of snap Right = snap.right

-- the i-th snapshot of the list, or a blank one (all numbers 0) beyond its end
abbrev pub snap_at : List Snap → ℕ → Snap
snap_at snaps i = slice_index_or snaps i record { node = record { 0 = 0 }; scx = record { 0 = 0 }; left = record { 0 = 0 }; right = record { 0 = 0 } }
