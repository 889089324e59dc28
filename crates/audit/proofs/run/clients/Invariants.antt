use Rattle.std.proofs.Common.{◌≡◌, [], length}
use Rattle.audit.specs.After.{AreClientsAfter}
use Rattle.audit.proofs.run.clients.Given as goal

abbrev pub invariant-loop-number : goal.invariant-loop-number
invariant-loop-number l = (length l.clients.items ≡ l.number) × AreClientsAfter l.script.layout l.script.calls.items [] l.clients.items
