use Rattle.std.proofs.Common.{◌≡◌, ◌∙◌, true, false, sym, ap, eqb}
use Rattle.runner.specs.Calls.{HasCalledNumbers}
use Rattle.runner.proofs.Chains.{replies_next, replies_skip}
use Rattle.runner.proofs.client.make_calls.Goals.{then-eq+in_ok-push, else-eq}
use Rattle.runner.proofs.client.make_calls.Goals as goal

pub loop-call-preserved : goal.loop-call-preserved
loop-call-preserved g c =
    let client = c.call-item.result.client.0 in
    let number : c.eq.result ≡ eqb client c.args.pass.number = c.eq.ensures ∙ ap (eqb client) c.number-client.ensures.is in
    let inv = c.loop-call.invariant in
    elim c.if-eq.branch [
      | then-eq+in_ok-push w ↦
          let call = w.make_call-back.ensures.1 in
          let same : eqb client c.args.pass.number ≡ true = sym number ∙ w.if-eq.true in
          rw (w.pass-is, w.replies-is, w.in_ok-push.ensures.items) record {
            of_forest = call.pass;
            number = call.goes_on.later.number ∙ inv.number;
            replies = replies_next (HasCalledNumbers c.args.forest.now) c.args.calls.now c.loop-call.call-index c.call-item.result c.args.pass.number c.loop-call-test.true c.call-item.is c.args.pass c.loop-call.pass c.loop-call.replies.items inv.replies same w.make_call-back.result.0 _ w.make_call-back.result.1 w.request_of-request.ensures.call w.make_call-back.ensures;
          }
      | else-eq w ↦
          let other : eqb client c.args.pass.number ≡ false = sym number ∙ w.if-eq.false in
          rw (w.pass-is, w.replies-is) record {
            of_forest = inv.of_forest;
            number = inv.number;
            replies = replies_skip (HasCalledNumbers c.args.forest.now) c.args.calls.now c.loop-call.call-index c.call-item.result c.args.pass.number c.loop-call-test.true c.call-item.is c.args.pass c.loop-call.pass c.loop-call.replies.items inv.replies other;
          }
    ]
