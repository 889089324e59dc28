use Rattle.std.proofs.Common.{◌<◌, ◌+◌, Some, length, ap, refl, sym, ◌∙◌, subst, arith}
use Rattle.std.proofs.lemmas.List.{length-set}
use Rattle.upkeep.specs.UpkeepBook.{KnowsNow, slots_in}
use Rattle.upkeep.proofs.UpkeepDeals.{left_on}
use Rattle.upkeep.proofs.UpkeepLooks.{at_now, table_in}
use Rattle.upkeep.proofs.UpkeepSteps.{rests_on, seat_still}
use Rattle.upkeep.proofs.UpkeepTurn.{ended_on, from_pass}
use Rattle.upkeep.proofs.UpkeepTurns.{TurnsTo, all_turned, lost_as, lost_set, none_turned, one_turned, own_slot, read_at, rest_as, taken_on}
use Rattle.upkeep.proofs.turn.turn_all.Goals as goal

pub loop-i-init : goal.loop-i-init
loop-i-init g c = let r = c.requires.pass in record {
  stays = (refl, refl);
  same = record { kind = refl; first = refl; turn = refl; end = refl; dealt = refl; count = refl; lost = λ i x there is. there };
  so = seat_still g.S.Shape.allows (TurnsTo (slots_in c.args.words.now) c.args.own.now c.args.own.now 0) r.0 c.args.seat.now.me.0 r.2.alone (none_turned (slots_in c.args.words.now) c.args.own.now r.0);
}

pub turn-requires-clause-pass : goal.turn-requires-clause-pass
turn-requires-clause-pass g c =
    let r = c.requires.pass in
    let allows = g.S.Shape.allows in
    let t = slots_in c.args.words.now in
    let old = c.args.own.now in
    let own = c.loop-i.own in
    let inv = c.loop-i.invariant in
    let so = inv.so in
    let on = from_pass allows (TurnsTo t old own c.loop-i.i) c.args.seat.now.me.0 c.loop-i.seat.me.0 r.0 r.2.alone so in
    let len = old.slots.ok.0 in
    let less : c.loop-i.i < length old.slots.items = omega (arith, c.loop-i-test.true, c.len-i-end.ensures, len) in
    let inside : c.loop-i.i < length own.slots.items = subst (λ n. c.loop-i.i < n) (sym inv.same.count) less in (
      so.later,
      r.1,
      at_now c.args.words.now c.args.layout.now allows (TurnsTo t old own c.loop-i.i) c.args.seat.now c.loop-i.seat r.0 r.2 inv.stays so,
      own_slot t c.args.layout.now r.0 so.later old own.kind own.first c.loop-i.i (table_in c.args.words.now c.args.layout.now c.args.seat.now r.0 r.2) r.5.all on.0.number inv.same.kind inv.same.first less,
      ended_on allows r.0 so.later on.0 t r.1 on.1.rests r.3,
      taken_on allows r.0 so.later on.0 own.kind old.kind c.args.next inv.same.kind r.4,
      on.1.waits r.1 r.5 r.3 c.loop-i.i c.index.result.now (omega arith) less (read_at own.slots.items c.loop-i.i c.index.result.now inside c.index.ensures),
      r.6,
      left_on allows r.0 so.later r.6 on.0 on.1.rests.away r.7,
      (λ lost. lost_as r.0 so.later on.0.layout on.0.number _ _ (rest_as r.0 so.later on.0.planting on.1.rests.rested) old.kind own.kind c.index.result.now.name inv.same.kind
          (r.8 c.loop-i.i c.index.result.now (inv.same.lost c.loop-i.i c.index.result.now (read_at own.slots.items c.loop-i.i c.index.result.now inside c.index.ensures) lost) lost)),
    )

pub loop-i-preserved : goal.loop-i-preserved
loop-i-preserved g c =
    let allows = g.S.Shape.allows in
    let t = slots_in c.args.words.now in
    let old = c.args.own.now in
    let own = c.loop-i.own in
    let i = c.loop-i.i in
    let inv = c.loop-i.invariant in
    let r = c.requires.pass in
    let so = inv.so in
    let on = from_pass allows (TurnsTo t old own i) c.args.seat.now.me.0 c.loop-i.seat.me.0 r.0 r.2.alone so in
    let y = c.turn.ensures.turned in
    let len = old.slots.ok.0 in
    let less : i < length old.slots.items = omega (arith, c.loop-i-test.true, c.len-i-end.ensures, len) in
    let inside : i < length own.slots.items = subst (λ n. i < n) (sym inv.same.count) less in
    let next = from_pass allows (KnowsNow t own.kind (own.first + i) c.turn.result) c.loop-i.seat.me.0 c.turn.new.seat.me.0 so.later so.is y in record {
      stays = (c.turn.ensures.table.0 ∙ inv.stays.0, c.turn.ensures.table.1 ∙ inv.stays.1);
      same = record { kind = inv.same.kind; first = inv.same.first; turn = inv.same.turn; end = inv.same.end; dealt = inv.same.dealt; count = length-set own.slots.items i c.turn.result ∙ inv.same.count; lost = lost_set old own i c.turn.result (λ lost. read_at own.slots.items i c.index.result.now inside c.index.ensures ∙ ap Some (sym (c.turn.ensures.lost lost))) inv.same.lost };
      so = record {
        pass = r.0;
        later = y.later;
        was = r.2.alone;
        is = y.is;
        goes_on = rests_on allows r.0 so.later y.later on.0 next.0;
        holds = one_turned t old allows own _ inv.same.kind i c.turn.result refl refl refl r.0 so.later y.later next.0 next.1 on.1;
      };
    }

pub returns-clause-table : goal.returns-clause-table
returns-clause-table g c = c.loop-i.invariant.stays

pub returns-clause-same : goal.returns-clause-same
returns-clause-same g c = c.loop-i.invariant.same

pub returns-clause-turned : goal.returns-clause-turned
returns-clause-turned g c =
    let r = c.requires.pass in
    let allows = g.S.Shape.allows in
    let t = slots_in c.args.words.now in
    let old = c.args.own.now in
    let own = c.loop-i.own in
    let inv = c.loop-i.invariant in
    let so = inv.so in
    let on = from_pass allows (TurnsTo t old own c.loop-i.i) c.args.seat.now.me.0 c.loop-i.seat.me.0 r.0 r.2.alone so in
    let len = old.slots.ok.0 in
    record {
      pass = r.0;
      later = so.later;
      was = r.2.alone;
      is = so.is;
      goes_on = on.0;
      holds = all_turned t old own c.loop-i.i r.0 so.later r.1 inv.same (omega (arith, c.loop-i-test.false, c.loop-i.auto.i-end, c.len-i-end.ensures, len)) on.0.number on.0.planting r.5 r.3 on.1;
    }
