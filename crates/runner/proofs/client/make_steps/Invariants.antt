use Rattle.std.proofs.Common.{◌≡◌, false}
use Rattle.forest.specs.Opened.{IsSameOpen}
use Rattle.runner.proofs.client.make_steps.Given as goal

abbrev pub invariant-loop-kind : goal.invariant-loop-kind
invariant-loop-kind g l = record { goes : l.call.over ≡ false; same : IsSameOpen l.fn.call l.call }

abbrev pub decreases-loop-kind : goal.decreases-loop-kind
decreases-loop-kind g l = l.call.left
