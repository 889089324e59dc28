use Rattle.std.proofs.Common.{sym, subst}
use Rattle.histories.specs.Common.{Layout}
use Rattle.slots.specs.Lasting.{IsOwnRecord}
use Rattle.upkeep.specs.UpkeepBook.{HasFreed, IsKnownSo, KnowsNow, record_numbered, slots_in}
use Rattle.upkeep.specs.declared.book.SlotUse.{SlotUse}
use Rattle.upkeep.specs.declared.book.SlotUse.TheVariants.{Dying, Free}
use Rattle.upkeep.proofs.UpkeepLooks.{is_word_of}
use Rattle.upkeep.proofs.UpkeepSteps.{seat_as, seat_still}
use Rattle.upkeep.proofs.UpkeepTurn.{as_known, dying_now, nothing_done}
use Rattle.upkeep.proofs.turn.turn.Goals as goal

pub look_at-requires-clause-pass : goal.look_at-requires-clause-pass
look_at-requires-clause-pass g c = let r = c.requires.pass in let p = r.0 in let so = subst (λ (k : SlotUse). IsKnownSo (slots_in c.args.words.now) p.planting p.number.0 p.memory r.1 c.args.kind c.args.slot c.args.known.name k) c.in-Used.is r.6 in
    (p, r.2, r.3, so, r.5 c.args.known.name (subst (λ (l : Layout). IsOwnRecord l p.number.0 (record_numbered c.args.kind c.args.known.name)) (sym r.2.names) so.own) c.if-name-next.true, r.7, r.8)

pub place-at-requires : goal.place-at-requires
place-at-requires g c = let r = c.requires.pass in is_word_of c.args.layout.now r.0.number.0 c.word_at.result _ r.2.is_pass r.3 c.word_at.ensures.record c.word_at.ensures.part

pub note_dying-requires : goal.note_dying-requires
note_dying-requires g c = let r = c.requires.pass in let p = r.0 in let so = subst (λ (k : SlotUse). IsKnownSo (slots_in c.args.words.now) p.planting p.number.0 p.memory r.1 c.args.kind c.args.slot c.args.known.name k) c.in-Found.is r.6 in
    (p, r.1, r.2, c.place-at.ensures.inside, r.4, so.1)

pub free-requires : goal.free-requires
free-requires g c = let r = c.requires.pass in let p = r.0 in let so = subst (λ (k : SlotUse). IsKnownSo (slots_in c.args.words.now) p.planting p.number.0 p.memory r.1 c.args.kind c.args.slot c.args.known.name k) c.in-Dying.is r.6 in
    (p, r.1, r.2, r.3, r.4, so.0, so.1, r.5 c.args.known.name (subst (λ (l : Layout). IsOwnRecord l p.number.0 (record_numbered c.args.kind c.args.known.name)) (sym r.2.names) so.0.own) c.if-name-next-2.true)

pub returns-in-Found-clause-turned : goal.returns-in-Found-clause-turned
returns-in-Found-clause-turned g c = let r = c.requires.pass in let p = r.0 in let t = slots_in c.args.words.now in
    let so = subst (λ (k : SlotUse). IsKnownSo t p.planting p.number.0 p.memory r.1 c.args.kind c.args.slot c.args.known.name k) c.in-Found.is r.6 in
    as_known g.S.Shape.allows t c.args.kind c.args.slot record { name = c.args.known.name; known = Dying } c.args.seat.now.me.0 c.note_dying.new.seat.me.0 _ p r.2.alone
    (λ q goes e. dying_now t c.args.kind c.args.slot g.S.Shape.allows p q goes c.args.known.name so.0 e)
    c.note_dying.ensures.looked

pub returns-in-Dying-clause-turned : goal.returns-in-Dying-clause-turned
returns-in-Dying-clause-turned g c = seat_as g.S.Shape.allows (HasFreed (slots_in c.args.words.now) c.args.kind c.args.slot) (KnowsNow (slots_in c.args.words.now) c.args.kind c.args.slot record { name = c.args.known.name; known = Free }) c.args.seat.now.me.0 c.free.new.seat.me.0 (λ p q goes one x. record { keeps = x.keeps; so = x.clean }) c.free.ensures.freed

pub free_lost-requires : goal.free_lost-requires
free_lost-requires g c = let r = c.requires.pass in let p = r.0 in let so = subst (λ (k : SlotUse). IsKnownSo (slots_in c.args.words.now) p.planting p.number.0 p.memory r.1 c.args.kind c.args.slot c.args.known.name k) c.in-Lost.is r.6 in
    (p, r.2, r.3, so, r.9 c.in-Lost.is, r.4.seen.there, r.5 c.args.known.name (subst (λ (l : Layout). IsOwnRecord l p.number.0 (record_numbered c.args.kind c.args.known.name)) (sym r.2.names) so.own) c.if-name-next-3.true)

pub returns-in-Lost-clause-turned : goal.returns-in-Lost-clause-turned
returns-in-Lost-clause-turned g c = seat_as g.S.Shape.allows (HasFreed (slots_in c.args.words.now) c.args.kind c.args.slot) (KnowsNow (slots_in c.args.words.now) c.args.kind c.args.slot record { name = c.args.known.name; known = Free }) c.args.seat.now.me.0 c.free_lost.new.seat.me.0 (λ p q goes one x. record { keeps = x.keeps; so = x.clean }) c.free_lost.ensures.freed

pub returns-in_default-clause-turned : goal.returns-in_default-clause-turned
returns-in_default-clause-turned g c = let r = c.requires.pass in seat_still g.S.Shape.allows (KnowsNow (slots_in c.args.words.now) c.args.kind c.args.slot c.args.known) r.0 c.args.seat.now.me.0 r.2.alone (nothing_done (slots_in c.args.words.now) c.args.kind c.args.slot r.0 r.1 c.args.known r.4 r.6)

pub returns-in_default-2-clause-turned : goal.returns-in_default-2-clause-turned
returns-in_default-2-clause-turned g c = let r = c.requires.pass in seat_still g.S.Shape.allows (KnowsNow (slots_in c.args.words.now) c.args.kind c.args.slot c.args.known) r.0 c.args.seat.now.me.0 r.2.alone (nothing_done (slots_in c.args.words.now) c.args.kind c.args.slot r.0 r.1 c.args.known r.4 r.6)

pub returns-in_default-3-clause-turned : goal.returns-in_default-3-clause-turned
returns-in_default-3-clause-turned g c = let r = c.requires.pass in seat_still g.S.Shape.allows (KnowsNow (slots_in c.args.words.now) c.args.kind c.args.slot c.args.known) r.0 c.args.seat.now.me.0 r.2.alone (nothing_done (slots_in c.args.words.now) c.args.kind c.args.slot r.0 r.1 c.args.known r.4 r.6)

pub returns-in_default-4-clause-turned : goal.returns-in_default-4-clause-turned
returns-in_default-4-clause-turned g c = let r = c.requires.pass in seat_still g.S.Shape.allows (KnowsNow (slots_in c.args.words.now) c.args.kind c.args.slot c.args.known) r.0 c.args.seat.now.me.0 r.2.alone (nothing_done (slots_in c.args.words.now) c.args.kind c.args.slot r.0 r.1 c.args.known r.4 r.6)
