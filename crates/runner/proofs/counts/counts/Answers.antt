use Rattle.std.proofs.Common.{◌≤◌, ◌<◌, ◌+◌, arith, refl, take, length, get_or, length-take, length-set, ◌∙◌}
use Rattle.std.proofs.lemmas.List.{get_or-replicate}
use Rattle.runner.proofs.Counted.{calls_few, counted, not_counted}
use Rattle.runner.proofs.counts.counts.Goals.{then-client-lt-CLIENTS, else-client-lt-CLIENTS}
use Rattle.runner.proofs.counts.counts.Goals as goal

pub loop-call-init : goal.loop-call-init
loop-call-init c = record { long = refl; each = λ k less. get_or-replicate 32 k 0 0 less }

pub overflow_add-counts : goal.overflow_add-counts
overflow_add-counts c =
    let is = c.loop-call.invariant.each c.call-item.result.client.0 c.if-client-lt-CLIENTS.true in
    let few = calls_few (take c.loop-call.call-index c.args.calls.now) c.call-item.result.client.0 in
    let long = length-take c.loop-call.call-index c.args.calls.now in
    let less = c.loop-call-test.true in
    omega (arith, is, few, long, less)

pub loop-call-preserved : goal.loop-call-preserved
loop-call-preserved c = elim c.if-client-lt-CLIENTS.branch [
  | then-client-lt-CLIENTS w ↦ rw w.counts-is (
      let long = c.loop-call.invariant.long in
      let inside : c.call-item.result.client.0 < length c.loop-call.counts = rw long w.if-client-lt-CLIENTS.true in
      record {
        long = length-set c.loop-call.counts c.call-item.result.client.0 (get_or c.loop-call.counts c.call-item.result.client.0 0 + 1) ∙ long;
        each = λ k less. counted c.args.calls.now c.loop-call.call-index c.call-item.result c.loop-call.counts c.loop-call-test.true c.call-item.is inside (λ j below. c.loop-call.invariant.each j (rw long at below)) k (rw long less);
      })
  | else-client-lt-CLIENTS w ↦ rw w.counts-is (
      let long = c.loop-call.invariant.long in
      let beyond : length c.loop-call.counts ≤ c.call-item.result.client.0 = rw long w.if-client-lt-CLIENTS.false in
      record {
        long = long;
        each = λ k less. not_counted c.args.calls.now c.loop-call.call-index c.call-item.result c.loop-call.counts c.loop-call-test.true c.call-item.is beyond (λ j below. c.loop-call.invariant.each j (rw long at below)) k (rw long less);
      })
]
