use Rattle.std.proofs.Common.{refl, ◌∙◌, arith}
use Rattle.upkeep.specs.UpkeepBook.{slots_in}
use Rattle.upkeep.specs.UpkeepDeals.{HasDealt}
use Rattle.upkeep.proofs.UpkeepDealt.{dealt_not, pass_now, seat_dealt, still_on, still_same}
use Rattle.upkeep.proofs.UpkeepSteps.{seat_still}
use Rattle.upkeep.proofs.deal.put_more.Goals as goal

pub loop-i-init : goal.loop-i-init
loop-i-init g c = let r = c.requires.pass in let own = c.args.own.now in record {
  stays = (refl, refl);
  still = still_same own;
  more = omega arith;
  few = omega arith;
  so = seat_still g.S.Shape.allows (HasDealt g.S.Shape.allows (slots_in c.args.words.now) own own c.args.next c.args.next) r.0 c.args.seat.now.me.0 r.3.alone (dealt_not g.S.Shape.allows (slots_in c.args.words.now) own c.args.next r.0 r.2 r.6 r.3.names c.requires.next own.ends.0);
}

pub put_next-requires-clause-pass : goal.put_next-requires-clause-pass
put_next-requires-clause-pass g c = let r = c.requires.pass in let inv = c.loop-i.invariant in
    pass_now g.S.Shape.allows c.args.words.now c.args.layout.now c.args.seat.now c.loop-i.seat c.args.own.now c.loop-i.own c.args.next c.args.next r.0 r.1 r.2 r.3 r.4 r.5 r.6 inv.stays inv.still inv.so

pub loop-i-preserved : goal.loop-i-preserved
loop-i-preserved g c = let inv = c.loop-i.invariant in let e = c.put_next.ensures in record {
  stays = (e.table.0 ∙ inv.stays.0, e.table.1 ∙ inv.stays.1);
  still = still_on c.args.own.now c.loop-i.own c.put_next.new.own inv.still e.still;
  more = (let a = e.dealt in let b = inv.more in omega (arith, a, b));
  few = (let a = e.dealt in let b = inv.few in omega (arith, a, b));
  so = seat_dealt g.S.Shape.allows (slots_in c.args.words.now) c.args.own.now c.loop-i.own c.put_next.new.own c.args.next c.args.next c.args.next c.args.seat.now.me.0 c.loop-i.seat.me.0 c.put_next.new.seat.me.0 inv.still inv.so e.given;
}

pub returns-clause-few : goal.returns-clause-few
returns-clause-few g c = let few = c.loop-i.invariant.few in let len = c.args.own.now.slots.ok.0 in let e = c.len-i-end.ensures in let to = c.loop-i.auto.i-end (let n = c.requires.inside in omega (arith, n, len, e)) in omega (arith, few, to, len, e)
