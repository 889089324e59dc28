use Rattle.std.proofs.Common.{◌≡◌, ℕ, ◌<◌, Some, length, slice_get}
use Rattle.std.specs.Option.{option_map}
use Rattle.record.specs.Commands.{commands}
use Rattle.report.proofs.commands.Commands.of.Given as goal

-- the commands of the clients so far are kept
abbrev pub invariant-loop-client : goal.invariant-loop-client
invariant-loop-client l = record {
  many : length l.clients.items ≡ l.client;
  kept : (c : ℕ) → c < l.client → option_map (λ own. own.items) (slice_get l.clients.items c) ≡ Some (commands l.calls c);
}
