use Rattle.std.proofs.Common.{◌∙◌, ◌+◌, ap, length}
use Rattle.std.proofs.lemmas.List.{length_push}
use Rattle.report.proofs.CommandLists.{kept_more}
use Rattle.report.proofs.commands.Commands.of.Goals as goal

pub loop-client-preserved : goal.loop-client-preserved
loop-client-preserved c =
    let inv = c.loop-client.invariant in
    record {
      many = ap length c.in_ok-push.ensures.items ∙ length_push c.loop-client.clients.items _ ∙ ap (λ k. k + 1) inv.many;
      kept = kept_more (λ own. own.items) c.args.calls.now c.loop-client.clients.items c.push.new.self.items _ c.loop-client.client inv.many inv.kept c.in_ok-commands_of.ensures c.in_ok-push.ensures.items;
    }
