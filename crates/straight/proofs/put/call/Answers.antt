use Rattle.prims.specs.declared.scx.ScxAt.TheVariants.{Plan as AtPlan, Help}
use Rattle.straight.specs.declared.scx.ScxTask.{ScxTask}
use Rattle.straight.specs.StraightScx.{changing_at}
use Rattle.straight.specs.StraightPut.{fresh_put}
use Rattle.straight.specs.Hands.{names}
use Rattle.straight.proofs.StraightPut.{putter, begins_change, change_waits, put_done}
use Rattle.straight.proofs.put.call.Goals as goal

pub call-requires-clause-waits : goal.call-requires-clause-waits
call-requires-clause-waits g c = let r = c.requires.begins in let change : ScxTask = c.args.put.task in
    ((putter g.S.Shape.allows (names c.args.hand) c.args.hand.number r.0 r.1.0 r.1.1 (fresh_put c.args.snaps.now c.args.put)), begins_change g.S.Shape.allows (names c.args.hand) c.args.hand.number r.0 r.1.0 r.1.1 (fresh_put c.args.snaps.now c.args.put) _ (changing_at c.args.snaps.now change AtPlan) _ (c.fill_value.ensures.waits r.0 r.1 r.2))

pub returns-then-call-clause-ends : goal.returns-then-call-clause-ends
returns-then-call-clause-ends g c = λ k fits x. let change : ScxTask = c.args.put.task in
    let t = (c.call.ensures.leads.to (putter g.S.Shape.allows (names c.args.hand) c.args.hand.number k fits.0 fits.1 (fresh_put c.args.snaps.now c.args.put)) (begins_change g.S.Shape.allows (names c.args.hand) c.args.hand.number k fits.0 fits.1 (fresh_put c.args.snaps.now c.args.put) _ (changing_at c.args.snaps.now change AtPlan) _ (c.fill_value.ensures.waits k fits x))).commits c.if-call.true in
    (_, put_done g.S.Shape.allows (names c.args.hand) c.args.hand.number k fits.0 fits.1 (fresh_put c.args.snaps.now c.args.put) _ (changing_at c.args.snaps.now change AtPlan) c.call.new.help t.0 t.1)

pub complete_blocked-requires-clause-waits : goal.complete_blocked-requires-clause-waits
complete_blocked-requires-clause-waits g c = let r = c.requires.begins in let change : ScxTask = c.args.put.task in let u = (fresh_put c.args.snaps.now c.args.put) in
    let x = change_waits g.S.Shape.allows (names c.args.hand) c.args.hand.number r.0 r.1.0 r.1.1 u _ (changing_at c.args.snaps.now change (Help c.call.new.help)) _ ((c.call.ensures.leads.to (putter g.S.Shape.allows (names c.args.hand) c.args.hand.number r.0 r.1.0 r.1.1 (fresh_put c.args.snaps.now c.args.put)) (begins_change g.S.Shape.allows (names c.args.hand) c.args.hand.number r.0 r.1.0 r.1.1 (fresh_put c.args.snaps.now c.args.put) _ (changing_at c.args.snaps.now change AtPlan) _ (c.fill_value.ensures.waits r.0 r.1 r.2))).blocked c.if-call.false) in
    (r.0, u, r.1, x)

pub returns-clause-ends : goal.returns-clause-ends
returns-clause-ends g c = λ k fits x. let change : ScxTask = c.args.put.task in let u = (fresh_put c.args.snaps.now c.args.put) in
    let y = change_waits g.S.Shape.allows (names c.args.hand) c.args.hand.number k fits.0 fits.1 u _ (changing_at c.args.snaps.now change (Help c.call.new.help)) _ ((c.call.ensures.leads.to (putter g.S.Shape.allows (names c.args.hand) c.args.hand.number k fits.0 fits.1 (fresh_put c.args.snaps.now c.args.put)) (begins_change g.S.Shape.allows (names c.args.hand) c.args.hand.number k fits.0 fits.1 (fresh_put c.args.snaps.now c.args.put) _ (changing_at c.args.snaps.now change AtPlan) _ (c.fill_value.ensures.waits k fits x))).blocked c.if-call.false) in
    c.complete_blocked.ensures.ends k u fits y
