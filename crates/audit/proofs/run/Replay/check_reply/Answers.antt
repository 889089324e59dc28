use Rattle.std.proofs.Common.{◌≡◌, Some, eqb-true, rules}
use Rattle.audit.proofs.Fitting.{reply_fits}
use Rattle.audit.proofs.run.Replay.check_reply.Goals as goal

pub returns : goal.returns
returns c =
    let begun : c.args.client.now.begun ≡ Some c.args.reply.now.begin = search rules in
    reply_fits c.args.self.now c.args.reply.now c.args.client.now c.in-Some.command c.requires.remembers.after c.requires.client c.requires.own c.in-Some.ensures c.requires.last (eqb-true _ _ c.in_ok-require.ensures) begun (eqb-true _ _ c.in_ok-require-3.ensures) (c.may_answer.ensures c.in_ok-require_or_blame_idle.ensures) (search rules) (c.is_within.ensures c.in_ok-require-5.ensures) c.in_ok-check_answer.ensures.right c.in_ok-check_answer.ensures.took c.in_ok-check_answer.ensures.placed
