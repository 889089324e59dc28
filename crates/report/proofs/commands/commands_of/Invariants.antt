use Rattle.std.proofs.Common.{◌≡◌, take}
use Rattle.record.specs.Commands.{commands}
use Rattle.report.proofs.commands.commands_of.Given as goal

-- the commands of the calls so far
abbrev pub invariant-loop-call : goal.invariant-loop-call
invariant-loop-call l = l.own.items ≡ commands (take l.call-index l.calls) l.client.0
