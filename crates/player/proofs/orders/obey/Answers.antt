use Rattle.std.proofs.Common.{arith, refl, ◌∙◌}
use Rattle.player.proofs.Followed.{all_done, none_done, one_done, stopped, told}
use Rattle.player.proofs.orders.obey.Goals as goal

pub loop-order-init : goal.loop-order-init
loop-order-init g c = record {
  passes = refl;
  few = let same = c.wanted_by-left.ensures in omega (arith, same);
  so_far = λ start p x. none_done c.args.order p _ _ c.wanted_by-left.ensures x;
}

pub has_call-requires : goal.has_call-requires
has_call-requires g c = rw (c.client_of-client.ensures, c.loop-order.invariant.passes) c.requires

pub turn-requires : goal.turn-requires
turn-requires g c = rw (c.client_of-client.ensures, c.loop-order.invariant.passes) c.requires

pub loop-order-preserved : goal.loop-order-preserved
loop-order-preserved g c =
    let few = c.loop-order.invariant.few in
    record {
      passes = c.turn.ensures.passes ∙ c.loop-order.invariant.passes;
      few = omega (arith, few);
      so_far = λ start p x.
          let u = c.loop-order.invariant.so_far start p x in
          let has = rw c.client_of-client.ensures at (c.has_call.ensures start _ u.later u.stands) in
          let asked = (c.asks.ensures.asks _ _ has).0 c.loop-order-test.true in
          let t = rw c.client_of-client.ensures at (c.in_ok-turn.ensures.turned start u.later u.stands) in
          one_done c.args.order p _ _ u _ _ _ _ _ few asked.0 asked.1 c.counted.ensures.few t.2 (c.counted.ensures.more _ _ _ t.2) t.3;
    }

pub returns-in_err-turn-clause-stopped : goal.returns-in_err-turn-clause-stopped
returns-in_err-turn-clause-stopped g c = λ start p x.
    let u = c.loop-order.invariant.so_far start p x in
    told c.from_residual.result c.in_err-turn.field-0.0 _ c.from_residual.ensures.1 (stopped c.args.order p _ _ u _ (c.in_err-turn.ensures.broken start u.later u.stands))

pub returns-clause-obeyed : goal.returns-clause-obeyed
returns-clause-obeyed g c = λ start p x.
    let u = c.loop-order.invariant.so_far start p x in
    let has = rw c.client_of-client.ensures at (c.has_call.ensures start _ u.later u.stands) in
    all_done c.args.order p _ _ u c.loop-order.invariant.few (λ both. let yes = (c.asks.ensures.asks _ _ has).1 both in let no = c.loop-order-test.false in cc)
