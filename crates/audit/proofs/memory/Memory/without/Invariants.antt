use Rattle.std.proofs.Common.{◌≡◌, ℕ, slice_get, take, true, false, Option, Some, None}
use Rattle.arena.specs.Log.{has}
use Rattle.audit.specs.declared.memory.Snapshot.{Snapshot}
use Rattle.audit.proofs.memory.Memory.without.Given as goal

abbrev pub invariant-loop-cell : goal.invariant-loop-cell
invariant-loop-cell l = record {
  same : l.memory ≡ record l.fn.self { snapshots = l.memory.snapshots };
  dropped : (n : ℕ) (kept : Option Snapshot) → slice_get l.memory.snapshots n ≡ Some kept → has (take l.cell-index l.cells) n ≡ true → kept ≡ None;
  others : (n : ℕ) → has (take l.cell-index l.cells) n ≡ false → slice_get l.memory.snapshots n ≡ slice_get l.fn.self.snapshots n;
}
