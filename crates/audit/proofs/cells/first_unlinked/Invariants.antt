use Rattle.std.proofs.Common.{◌≡◌, ℕ, ◌<◌, get_or, slice_get, Some}
use Rattle.audit.specs.declared.memory.Snapshot.{Snapshot}
use Rattle.audit.proofs.cells.first_unlinked.Given as goal

abbrev pub invariant-loop-cell : goal.invariant-loop-cell
invariant-loop-cell l = (i : ℕ) → i < l.cell-index → (kept : Snapshot) × (slice_get l.memory.snapshots (get_or l.cells i 0) ≡ Some (Some kept))
