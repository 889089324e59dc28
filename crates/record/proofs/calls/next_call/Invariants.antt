use Rattle.std.proofs.Common.{◌≡◌, drop}
use Rattle.record.specs.Commands.{commands}
use Rattle.record.proofs.calls.next_call.Given as goal

abbrev pub invariant-loop-at : goal.invariant-loop-at
invariant-loop-at l = commands (drop l.fn.from l.calls) l.pass.0 ≡ commands (drop l.at l.calls) l.pass.0
