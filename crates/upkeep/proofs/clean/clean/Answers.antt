use Rattle.std.proofs.Common.{◌≡◌, ◌+◌, refl, ◌∙◌, subst, arith}
use Rattle.histories.specs.Common.{IsWord, Layout}
use Rattle.tables.specs.LastingSlots.{memory_cleared}
use Rattle.upkeep.specs.UpkeepBook.{HasFreed, NowRemembers, parts_of, slots_in}
use Rattle.upkeep.proofs.UpkeepLooks.{at_now, few_parts, own_now, table_in}
use Rattle.upkeep.proofs.UpkeepSteps.{seat_as, seat_on, seat_still}
use Rattle.upkeep.proofs.UpkeepTurn.{IsClearedTo, all_cleared, none_cleared, one_cleared}
use Rattle.upkeep.proofs.clean.clean.Goals as goal

pub loop-place-init : goal.loop-place-init
loop-place-init g c = let r = c.requires in record {
  stays = (refl, refl);
  so = seat_still g.S.Shape.allows (IsClearedTo (slots_in c.args.words.now) c.args.kind c.args.slot 0) r.0 c.args.seat.now.me.0 r.1.alone (none_cleared (slots_in c.args.words.now) c.args.kind c.args.slot r.0 r.3);
}

pub clear-requires-clause-empty : goal.clear-requires-clause-empty
clear-requires-clause-empty g c = let r = c.requires in let so = c.loop-place.invariant.so in (
  so.later,
  at_now c.args.words.now c.args.layout.now g.S.Shape.allows _ c.args.seat.now c.loop-place.seat r.0 r.1 c.loop-place.invariant.stays so,
  own_now c.args.words.now c.args.layout.now g.S.Shape.allows _ c.args.seat.now c.loop-place.seat r.0 r.1 so _ r.2,
  so.holds.empty,
)

pub loop-place-preserved : goal.loop-place-preserved
loop-place-preserved g c =
    let t = slots_in c.args.words.now in
    let inv = c.loop-place.invariant in
    let word = c.clear.ensures.cleared.0 in
    let is = table_in c.args.words.now c.args.layout.now c.args.seat.now c.requires.0 c.requires.1 in record {
      stays = (c.clear.ensures.table.0 ∙ inv.stays.0, c.clear.ensures.table.1 ∙ inv.stays.1);
      so = seat_on g.S.Shape.allows (IsClearedTo t c.args.kind c.args.slot c.loop-place.place) (NowRemembers (λ m rows. memory_cleared m word)) (IsClearedTo t c.args.kind c.args.slot (c.loop-place.place + 1)) c.args.seat.now.me.0 c.loop-place.seat.me.0 c.clear.new.seat.me.0
          (λ p q r. one_cleared t c.args.kind c.args.slot c.loop-place.place p q r word (λ other i. c.clear.ensures.cleared.3 other (subst (λ (l : Layout). IsWord l other) is i)))
          inv.so c.clear.ensures.cleared.1;
    }

pub returns-clause-table : goal.returns-clause-table
returns-clause-table g c = c.loop-place.invariant.stays

pub returns-clause-cleaned : goal.returns-clause-cleaned
returns-clause-cleaned g c =
    let t = slots_in c.args.words.now in
    let count : c.loop-place.place ≡ parts_of c.args.kind = omega (arith, c.loop-place-test.false, c.loop-place.auto.place-end, c.parts_of-place-end.ensures) in
    seat_as g.S.Shape.allows (IsClearedTo t c.args.kind c.args.slot c.loop-place.place) (HasFreed t c.args.kind c.args.slot) c.args.seat.now.me.0 c.loop-place.seat.me.0
    (λ p q goes one x. all_cleared t c.args.kind c.args.slot c.loop-place.place (λ w same i. few_parts t.table c.args.kind c.args.slot c.loop-place.place w count same i) p q x)
    c.loop-place.invariant.so
