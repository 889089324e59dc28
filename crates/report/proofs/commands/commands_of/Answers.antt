use Rattle.std.proofs.Common.{◌≡◌, rules}
use Rattle.report.proofs.CommandLists.{own_more, own_same}
use Rattle.report.proofs.commands.commands_of.Goals.{then-eq+in_ok-push, else-eq}
use Rattle.report.proofs.commands.commands_of.Goals as goal

pub loop-call-preserved : goal.loop-call-preserved
loop-call-preserved c = elim c.if-eq.branch [
  | then-eq+in_ok-push w ↦
      let same : c.call-item.result.client.0 ≡ c.args.client.0 = search rules in
      rw w.own-is (own_more c.args.calls.now c.loop-call.call-index c.call-item.result c.args.client.0 c.loop-call-test.true c.call-item.is c.loop-call.own.items c.loop-call.invariant same w.push.new.self.items w.in_ok-push.ensures.items)
  | else-eq w ↦
      let other : c.call-item.result.client.0 ≡ c.args.client.0 → ⊥ = search rules in
      rw w.own-is (own_same c.args.calls.now c.loop-call.call-index c.call-item.result c.args.client.0 c.loop-call-test.true c.call-item.is c.loop-call.own.items c.loop-call.invariant other)
]
