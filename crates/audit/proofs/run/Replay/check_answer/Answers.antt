use Rattle.std.proofs.lemmas.Result.{on_ok_weaker}
use Rattle.audit.specs.After.{lines_of, layout_of, calls_of}
use Rattle.audit.proofs.Asking.{is_client, is_begun, took_few}
use Rattle.audit.proofs.run.Replay.check_answer.Goals as goal

pub returns-then-is_map-clause-took : goal.returns-then-is_map-clause-took
returns-then-is_map-clause-took c =
    let run = c.args.self.now in
    let few = c.has_taken_few.ensures (layout_of run) (calls_of run) (lines_of run) c.requires.remembers.remembered (is_client run c.args.client.now c.args.command.now c.args.reply.now c.requires.remembers.after c.requires.next.is_client c.requires.next.own) (is_begun run c.args.client.now c.args.command.now c.args.reply.now c.requires.remembers.after c.requires.next.is_client c.requires.next.own c.requires.next.begun) c.in_ok-require.ensures in
    on_ok_weaker c.check_map_answer.result (λ _. took_few run c.args.client.now c.args.command.now c.args.reply.now c.requires.remembers.after c.requires.next.is_client c.requires.next.own few) c.check_map_answer.ensures.right

pub returns-else-is_map-clause-took : goal.returns-else-is_map-clause-took
returns-else-is_map-clause-took c =
    let run = c.args.self.now in
    let few = c.has_taken_few.ensures (layout_of run) (calls_of run) (lines_of run) c.requires.remembers.remembered (is_client run c.args.client.now c.args.command.now c.args.reply.now c.requires.remembers.after c.requires.next.is_client c.requires.next.own) (is_begun run c.args.client.now c.args.command.now c.args.reply.now c.requires.remembers.after c.requires.next.is_client c.requires.next.own c.requires.next.begun) c.in_ok-require.ensures in
    on_ok_weaker c.check_cells_answer.result (λ _. took_few run c.args.client.now c.args.command.now c.args.reply.now c.requires.remembers.after c.requires.next.is_client c.requires.next.own few) c.check_cells_answer.ensures.right
