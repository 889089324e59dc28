use Rattle.std.proofs.Common.{◌≡◌, ◌∙◌, subst, arith}
use Rattle.upkeep.specs.UpkeepBook.{slots_in}
use Rattle.upkeep.specs.UpkeepDeals.{DealsOn, HasDealt}
use Rattle.upkeep.proofs.UpkeepDealt.{deals_more, pass_now}
use Rattle.upkeep.proofs.UpkeepDeals.{rests_deal}
use Rattle.upkeep.proofs.deal.deal.Goals as goal

pub returns-then-next-own-clause-given : goal.returns-then-next-own-clause-given
returns-then-next-own-clause-given g c = rests_deal g.S.Shape.allows _ c.args.seat.now.me.0 c.take_back_to.new.seat.me.0 c.take_back_to.ensures.given

pub put_run-requires-clause-pass : goal.put_run-requires-clause-pass
put_run-requires-clause-pass g c = let r = c.requires.pass in let e = c.take_back_to.ensures in
    let x = pass_now g.S.Shape.allows c.args.words.now c.args.layout.now c.args.seat.now c.take_back_to.new.seat c.args.own.now c.take_back_to.new.own c.args.next c.args.next r.0 r.1 r.2 r.3 r.4 r.5 r.6 e.table e.still e.given in
    let all : c.args.next ≡ c.take_back_to.new.own.dealt = (let a = e.more.0 in let b = c.if-next-own.false in omega (arith, a, b)) in
    (x.0, x.1, x.2, x.3, x.4, x.5 ∙ all, x.6)

pub returns-in-Some-clause-given : goal.returns-in-Some-clause-given
returns-in-Some-clause-given g c = let allows = g.S.Shape.allows in let t = slots_in c.args.words.now in let old = c.args.own.now in let mid = c.take_back_to.new.own in let new = c.put_run.new.own in let e = c.take_back_to.ensures in
    let all : c.take_back_to.new.own.dealt ≡ c.args.next = (let a = e.more.0 in let b = c.if-next-own.false in omega (arith, a, b)) in
    deals_more allows t old mid new c.args.next c.args.next c.put_run.result c.args.seat.now.me.0 c.take_back_to.new.seat.me.0 c.put_run.new.seat.me.0 e.still (rests_deal allows (HasDealt allows t old mid c.args.next c.args.next) c.args.seat.now.me.0 c.take_back_to.new.seat.me.0 e.given)
    (subst (λ n. DealsOn (HasDealt allows t mid new n c.put_run.result) c.take_back_to.new.seat.me.0 c.put_run.new.seat.me.0) all c.put_run.ensures.given)

pub returns-in_default-clause-given : goal.returns-in_default-clause-given
returns-in_default-clause-given g c = rests_deal g.S.Shape.allows _ c.args.seat.now.me.0 c.take_back_to.new.seat.me.0 c.take_back_to.ensures.given

pub returns-in_default-2-clause-given : goal.returns-in_default-2-clause-given
returns-in_default-2-clause-given g c = rests_deal g.S.Shape.allows _ c.args.seat.now.me.0 c.take_back_to.new.seat.me.0 c.take_back_to.ensures.given
