use Rattle.std.proofs.Common.{◌≡◌, ◌-◌, ℕ, [], Some, slice_get, vec_len}
use Rattle.tables.specs.LastingOpening.{first_memory}
use Rattle.tables.specs.LastingRule.{plot_in}
use Rattle.tables.specs.LastingTables.{new_pass_in}
use Rattle.tables.specs.Passes.{PassView, ground}
use Rattle.tables.specs.Slotted.{in_turns}
use Rattle.tables.specs.TableRule.{passes_with}
use Rattle.forest.proofs.lasting.passes_in_turns.Given as goal

abbrev pub invariant-loop-number : goal.invariant-loop-number
invariant-loop-number g l = record {
  count : vec_len l.passes ≡ l.number;
  each : (tries j : ℕ) (d : PassView) → slice_get l.passes.items j ≡ Some d → d ≡ new_pass_in (in_turns l.layout l.turns) (ground l.words.table.shared.table_id (in_turns l.layout l.turns).lay l.words.table.shared.key.planting tries) j;
  table : l.seat.table_id ≡ l.words.table.shared.table_id;
  bare : l.seat.me.1 ≡ [];
  left : l.seat.me.0.passes ≡ passes_with (first_memory (in_turns l.layout l.turns)) (plot_in (in_turns l.layout l.turns) l.words.table.shared.key.planting) l.number (l.layout.passes - l.number);
}
