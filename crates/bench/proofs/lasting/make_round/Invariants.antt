use Rattle.std.proofs.Common.{◌≡◌}
use Rattle.tables.specs.Passes.{IsOf}
use Rattle.bench.specs.Tally.{total}
use Rattle.bench.proofs.lasting.make_round.Given as goal

abbrev pub invariant-loop-again : goal.invariant-loop-again
invariant-loop-again l = IsOf l.forest l.pass × (total l.tally ≡ total l.fn.tally)
