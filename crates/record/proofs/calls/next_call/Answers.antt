use Rattle.std.proofs.Common.{◌≡◌, rules}
use Rattle.record.proofs.Commands.{call_at}
use Rattle.record.proofs.calls.next_call.Goals as goal

pub returns-then-eq : goal.returns-then-eq
returns-then-eq c =
    let same : c.index-calls-at.result.client.0 ≡ c.args.pass.0 = search rules in
    call_at c.args.calls.now c.args.pass.0 c.loop-at.at c.index-calls-at.result _ c.loop-at-test.true c.index-calls-at.is same c.loop-at.invariant
