use Rattle.std.proofs.Common.{◌≡◌, take}
use Rattle.record.specs.Commands.{commands}
use Rattle.tables.specs.Passes.{IsOf}
use Rattle.runner.specs.Calls.{HasCalledNumbers, HaveReplies}
use Rattle.runner.proofs.client.make_calls.Given as goal

abbrev pub invariant-loop-call : goal.invariant-loop-call
invariant-loop-call g l = record {
  of_forest : IsOf l.forest l.pass;
  number : l.pass.number ≡ l.fn.pass.number;
  replies : HaveReplies (HasCalledNumbers l.forest) l.fn.pass (commands (take l.call-index l.calls) l.fn.pass.number) l.replies.items l.pass;
}
