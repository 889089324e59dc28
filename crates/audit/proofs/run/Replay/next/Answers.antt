use Rattle.std.proofs.Common.{ℕ, List, slice_get, ◌∙◌, ap}
use Rattle.record.specs.Common.{Call, commands}
use Rattle.audit.specs.Calls.{command_at}
use Rattle.audit.specs.After.{calls_of}
use Rattle.audit.proofs.NextCalls.{command_next}
use Rattle.audit.proofs.run.Replay.next.Goals as goal

pub returns : goal.returns
returns c =
    let x = c.requires.after.clients c.args.client.now.pass.0 c.args.client.now c.requires.client in
    c.command.ensures ∙ ap (λ (l : List Call). command_at l c.args.client.now.at) c.calls.ensures ∙ command_next (calls_of c.args.self.now) c.args.client.now.pass.0 c.args.client.now.answered c.args.client.now.at x.place ∙ ap (λ (n : ℕ). slice_get (commands (calls_of c.args.self.now) c.args.client.now.pass.0) n) x.answered
