use Rattle.std.proofs.Common.{◌≡◌, false}
use Rattle.tables.specs.Passes.{IsOf}
use Rattle.dict_tests.proofs.sharing.held.rest.Given as goal

abbrev pub invariant-loop-kind : goal.invariant-loop-kind
invariant-loop-kind l = IsOf l.forest l.call.began × (l.call.over ≡ false)

abbrev pub decreases-loop-kind : goal.decreases-loop-kind
decreases-loop-kind l = l.call.left
