use Rattle.std.proofs.Common.{refl, ◌∙◌, arith}
use Rattle.upkeep.specs.UpkeepBook.{slots_in}
use Rattle.upkeep.specs.UpkeepDeals.{HasDealt}
use Rattle.upkeep.proofs.UpkeepDealt.{dealt_not, pass_now, seat_dealt, still_on, still_same}
use Rattle.upkeep.proofs.UpkeepSteps.{seat_still}
use Rattle.upkeep.proofs.deal.take_back_to.Goals as goal

pub loop-own-init : goal.loop-own-init
loop-own-init g c = let r = c.requires.pass in let own = c.args.own.now in record {
  stays = (refl, refl);
  still = still_same own;
  more = c.requires.next;
  few = omega arith;
  so = seat_still g.S.Shape.allows (HasDealt g.S.Shape.allows (slots_in c.args.words.now) own own c.args.next c.args.next) r.0 c.args.seat.now.me.0 r.3.alone (dealt_not g.S.Shape.allows (slots_in c.args.words.now) own c.args.next r.0 r.2 r.6 r.3.names c.requires.next own.ends.0);
}

pub take_back-requires-clause-pass : goal.take_back-requires-clause-pass
take_back-requires-clause-pass g c = let r = c.requires.pass in let inv = c.loop-own.invariant in
    pass_now g.S.Shape.allows c.args.words.now c.args.layout.now c.args.seat.now c.loop-own.seat c.args.own.now c.loop-own.own c.args.next c.args.next r.0 r.1 r.2 r.3 r.4 r.5 r.6 inv.stays inv.still inv.so

pub loop-own-preserved : goal.loop-own-preserved
loop-own-preserved g c = let inv = c.loop-own.invariant in let e = c.take_back.ensures in record {
  stays = (e.table.0 ∙ inv.stays.0, e.table.1 ∙ inv.stays.1);
  still = still_on c.args.own.now c.loop-own.own c.take_back.new.own inv.still e.still;
  more = e.more.0;
  few = (let a = e.more.1 in let b = inv.few in omega (arith, a, b));
  so = seat_dealt g.S.Shape.allows (slots_in c.args.words.now) c.args.own.now c.loop-own.own c.take_back.new.own c.args.next c.args.next c.args.next c.args.seat.now.me.0 c.loop-own.seat.me.0 c.take_back.new.seat.me.0 inv.still inv.so e.given;
}

pub returns-then-not-take_back-clause-table : goal.returns-then-not-take_back-clause-table
returns-then-not-take_back-clause-table g c = let inv = c.loop-own.invariant in let e = c.take_back.ensures in (e.table.0 ∙ inv.stays.0, e.table.1 ∙ inv.stays.1)

pub returns-then-not-take_back-clause-still : goal.returns-then-not-take_back-clause-still
returns-then-not-take_back-clause-still g c = still_on c.args.own.now c.loop-own.own c.take_back.new.own c.loop-own.invariant.still c.take_back.ensures.still

pub returns-then-not-take_back-clause-more : goal.returns-then-not-take_back-clause-more
returns-then-not-take_back-clause-more g c = let inv = c.loop-own.invariant in let e = c.take_back.ensures in (e.more.0, let a = e.more.1 in let b = inv.few in omega (arith, a, b))

pub returns-then-not-take_back-clause-given : goal.returns-then-not-take_back-clause-given
returns-then-not-take_back-clause-given g c = let inv = c.loop-own.invariant in seat_dealt g.S.Shape.allows (slots_in c.args.words.now) c.args.own.now c.loop-own.own c.take_back.new.own c.args.next c.args.next c.args.next c.args.seat.now.me.0 c.loop-own.seat.me.0 c.take_back.new.seat.me.0 inv.still inv.so c.take_back.ensures.given

pub returns-clause-table : goal.returns-clause-table
returns-clause-table g c = c.loop-own.invariant.stays

pub returns-clause-still : goal.returns-clause-still
returns-clause-still g c = c.loop-own.invariant.still

pub returns-clause-more : goal.returns-clause-more
returns-clause-more g c = (c.loop-own.invariant.more, c.loop-own.invariant.few)

pub returns-clause-given : goal.returns-clause-given
returns-clause-given g c = c.loop-own.invariant.so
