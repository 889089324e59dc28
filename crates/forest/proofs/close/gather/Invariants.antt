use Rattle.std.proofs.Common.{◌≡◌, ◌++◌, List, vec_len}
use Rattle.std.specs.List.{All}
use Rattle.tables.specs.Passes.{PassView, IsOn}
use Rattle.tables.specs.Slotted.{names_of_table}
use Rattle.forest.specs.JoinedSeats.{AreIn}
use Rattle.forest.proofs.close.gather.Given as goal

abbrev pub invariant-loop-pass : goal.invariant-loop-pass
invariant-loop-pass g l = record {
  gone : List PassView;
  were : l.fn.passes.items ≡ l.passes.items ++ gone;
  are_in : AreIn g.S.Shape.allows gone l.all.me.0.passes;
  left : All (IsOn l.words.table.shared.table_id (names_of_table l.words.table.shared.key)) l.passes.items;
  table : l.all.table_id ≡ l.words.table.shared.table_id;
}

abbrev pub decreases-loop-pass : goal.decreases-loop-pass
decreases-loop-pass g l = vec_len l.passes
