use Rattle.std.proofs.Common.{◌≢◌, ap, sym, ◌∙◌}
use Rattle.arena.specs.declared.head.Head.{Head as HeadParts}
use Rattle.order.proofs.Finding.{high_looks, leaves_high, starts_in}
use Rattle.order.proofs.neighbour.NeighbourRead.head_on.Goals.{else-head-via-then-head+else-head-eq0, else-head-via-else-head}
use Rattle.order.proofs.neighbour.NeighbourRead.head_on.Goals as goal

pub returns-then-head-eq0-clause-goes_on : goal.returns-then-head-eq0-clause-goes_on
returns-then-head-eq0-clause-goes_on c snaps d h reading own x is = rw c.first_load.ensures (starts_in c.args.self.now snaps d h c.args.node reading x (ap (λ (w : HeadParts). w.leaf) is ∙ c.if-head.true) (ap (λ (w : HeadParts). w.class) is ∙ c.if-head-eq0.true))

pub returns-then-head-2-clause-goes_on : goal.returns-then-head-2-clause-goes_on
returns-then-head-2-clause-goes_on c snaps d h reading own x is =
    let high : c.args.head.class ≢ 0 = elim c.else-head.branch [
      | else-head-via-then-head+else-head-eq0 w ↦ w.if-head-eq0.false
      | else-head-via-else-head w ↦ absurd (let e = sym w.if-head.false ∙ c.if-head-2.true in cc)
    ] in
    rw (c.leave.ensures.new, c.leave.ensures.next, c.above_keys-self.ensures) (leaves_high c.args.self.now snaps d h c.args.node reading x (ap (λ (w : HeadParts). w.leaf) is ∙ c.if-head-2.true) own (λ z. high (sym (ap (λ (w : HeadParts). w.class) is) ∙ z)))

pub returns-clause-goes_on : goal.returns-clause-goes_on
returns-clause-goes_on c snaps d h reading own x is = rw c.children-children.ensures (high_looks c.args.self.now snaps d h c.args.node reading x c.args.head is (sym c.asks_on_route.ensures ∙ c.if-asks_on_route.false) c.if-head-2.false)
