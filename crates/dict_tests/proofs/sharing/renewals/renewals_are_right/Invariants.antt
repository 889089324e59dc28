use Rattle.std.specs.List.{All}
use Rattle.tables.specs.Passes.{IsOf}
use Rattle.dict_tests.proofs.sharing.renewals.renewals_are_right.Given as goal

abbrev pub invariant-loop-time : goal.invariant-loop-time
invariant-loop-time g l = All (IsOf l.forest) l.passes.items
