use Rattle.std.proofs.Common.{◌≡◌, ◌-◌, ℕ, [], Some, slice_get, vec_len}
use Rattle.tables.specs.Slotted.{plot_at}
use Rattle.tables.specs.TableRule.{new_passes}
use Rattle.tables.specs.Passes.{PassView, ground, new_pass}
use Rattle.forest.proofs.forest.pass_all.Given as goal

abbrev pub invariant-loop-number : goal.invariant-loop-number
invariant-loop-number g l = record {
  count : vec_len l.passes ≡ l.number;
  each : (tries j : ℕ) (d : PassView) → slice_get l.passes.items j ≡ Some d → d ≡ new_pass (ground l.words.table.shared.table_id l.layout l.words.table.shared.key.planting tries) j;
  table : l.seat.table_id ≡ l.words.table.shared.table_id;
  bare : l.seat.me.1 ≡ [];
  left : l.seat.me.0.passes ≡ new_passes (plot_at l.words.table.shared.key) l.number (l.layout.passes - l.number);
}
