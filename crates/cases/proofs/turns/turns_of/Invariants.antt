use Rattle.std.proofs.Common.{◌<◌, All}
use Rattle.cases.proofs.turns.turns_of.Given as goal

abbrev pub invariant-loop-line : goal.invariant-loop-line
invariant-loop-line l = All (λ pass. pass.0 < l.passes) l.turns.items
