use Rattle.std.proofs.Common.{refl, ◌∙◌}
use Rattle.std.proofs.lemmas.List.{drop_all}
use Rattle.player.proofs.Followed.{before_first, behind_last, behind_next, client_within, stopped_in_next, told}
use Rattle.player.proofs.orders.follow.Goals as goal

pub loop-order-init : goal.loop-order-init
loop-order-init g c = record { passes = refl; so_far = λ start p x. before_first c.args.orders.now p _ x }

pub obey-requires : goal.obey-requires
obey-requires g c = rw c.loop-order.invariant.passes (client_within _ _ (c.requires c.loop-order.order-index _ c.loop-order-test.true))

pub loop-order-preserved : goal.loop-order-preserved
loop-order-preserved g c = record {
  passes = c.obey.ensures.passes ∙ c.loop-order.invariant.passes;
  so_far = λ start p x.
      let y = c.loop-order.invariant.so_far start p x in
      behind_next c.args.orders.now p _ c.loop-order.order-index y _ c.loop-order-test.true _ (c.in_ok-obey.ensures.obeyed start y.later y.stands);
}

pub returns-in_err-obey-clause-stopped : goal.returns-in_err-obey-clause-stopped
returns-in_err-obey-clause-stopped g c = λ start p x.
    let y = c.loop-order.invariant.so_far start p x in
    told c.from_residual.result c.in_err-obey.field-0.0 _ c.from_residual.ensures.1
    (stopped_in_next c.args.orders.now p _ c.loop-order.order-index y _ c.loop-order-test.true _ (c.in_err-obey.ensures.stopped start y.later y.stands))

pub returns-clause-followed : goal.returns-clause-followed
returns-clause-followed g c = λ start p x.
    behind_last c.args.orders.now p _ c.loop-order.order-index (c.loop-order.invariant.so_far start p x) (drop_all c.loop-order.order-index c.args.orders.now c.loop-order-test.false)
