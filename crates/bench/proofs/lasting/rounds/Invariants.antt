use Rattle.std.proofs.Common.{◌≡◌}
use Rattle.tables.specs.Passes.{IsOf}
use Rattle.bench.specs.Tally.{total}
use Rattle.bench.proofs.lasting.rounds.Given as goal

abbrev pub invariant-loop-call : goal.invariant-loop-call
invariant-loop-call l = IsOf l.forest l.pass × (total l.tally ≡ l.call)
