use Rattle.std.specs.List.{All}
use Rattle.tables.specs.Passes.{IsOf}
use Rattle.bench.proofs.lasting.fill_up.Given as goal

abbrev pub invariant-loop-filler : goal.invariant-loop-filler
invariant-loop-filler l = All (IsOf l.forest) l.passes.items
