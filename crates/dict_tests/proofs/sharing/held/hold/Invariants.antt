use Rattle.std.proofs.Common.{◌≡◌, false}
use Rattle.tables.specs.Passes.{IsOf}
use Rattle.dict_tests.proofs.sharing.held.hold.Given as goal

abbrev pub invariant-loop-step : goal.invariant-loop-step
invariant-loop-step l = IsOf l.forest l.call.began × (l.call.over ≡ false)
