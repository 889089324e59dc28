use Rattle.std.proofs.Common.{◌<◌, ◌+◌, refl, arith}
use Rattle.tables.specs.LastingSlots.{memory_given_back}
use Rattle.upkeep.specs.UpkeepBook.{HasFreed, NowRemembers, name_numbered, slots_in}
use Rattle.upkeep.proofs.UpkeepDealt.{empty_then, given_back, is_left, last_dealt, name_there, within}
use Rattle.upkeep.proofs.UpkeepLooks.{at_now, is_word_of, table_in}
use Rattle.upkeep.proofs.UpkeepSteps.{rests_on}
use Rattle.upkeep.proofs.UpkeepTurn.{from_pass}
use Rattle.upkeep.proofs.UpkeepTurns.{own_slot}
use Rattle.upkeep.proofs.deal.free_last.Goals as goal

pub place-at-requires : goal.place-at-requires
place-at-requires g c = let r = c.requires.pass in let own = c.args.own.now in let at = c.requires.slot in
    is_word_of c.args.layout.now r.0.number.0 c.word_at.result _ r.3.is_pass (own_slot (slots_in c.args.words.now) c.args.layout.now r.0 r.0 own own.kind own.first c.args.i (table_in c.args.words.now c.args.layout.now c.args.seat.now r.0 r.3) r.6.all refl refl refl (within own.slots.items c.args.i at.0 at.1)) c.word_at.ensures.record c.word_at.ensures.part

pub give_back-requires : goal.give_back-requires
give_back-requires g c = let r = c.requires.pass in let own = c.args.own.now in (
  r.0,
  r.1,
  r.3,
  c.place-at.ensures.inside,
  r.4,
  (name_there g.S.Shape.allows (slots_in c.args.words.now) own own c.args.i c.args.next c.args.name r.0 r.2 r.6 c.requires.slot).held,
  last_dealt own.kind r.0.memory c.args.name (let d = r.6.all.dealt in let n = c.requires.name in omega (arith, d, n)),
  is_left own.kind r.1 c.args.name (let e = r.5 in let n = c.requires.next in omega (arith, e, n)),
)

pub clean-requires : goal.clean-requires
clean-requires g c =
    let r = c.requires.pass in
    let own = c.args.own.now in
    let at = c.requires.slot in
    let allows = g.S.Shape.allows in
    let t = slots_in c.args.words.now in
    let x = c.give_back.ensures.given in
    let goes = from_pass allows (NowRemembers (λ m rows. memory_given_back t m (name_numbered own.kind c.args.name))) c.args.seat.now.me.0 c.give_back.new.seat.me.0 r.0 r.3.alone x in (
      x.later,
      at_now c.args.words.now c.args.layout.now allows (NowRemembers (λ m rows. memory_given_back t m (name_numbered own.kind c.args.name))) c.args.seat.now c.give_back.new.seat r.0 r.3 c.give_back.ensures.table x,
      own_slot t c.args.layout.now r.0 x.later own own.kind own.first c.args.i (table_in c.args.words.now c.args.layout.now c.args.seat.now r.0 r.3) r.6.all goes.0.number refl refl (within own.slots.items c.args.i at.0 at.1),
      empty_then allows t own own c.args.i c.args.next c.args.name r.0 r.2 r.6 at x.later goes.1,
    )

pub take_from-requires-clause-inside : goal.take_from-requires-clause-inside
take_from-requires-clause-inside g c = let at = c.requires.slot in within c.args.own.now.slots.items c.args.i at.0 at.1

pub returns-clause-given : goal.returns-clause-given
returns-clause-given g c =
    let r = c.requires.pass in
    let own = c.args.own.now in
    let new = c.take_from.new.self in
    let allows = g.S.Shape.allows in
    let t = slots_in c.args.words.now in
    let x = c.give_back.ensures.given in
    let goes = from_pass allows (NowRemembers (λ m rows. memory_given_back t m (name_numbered own.kind c.args.name))) c.args.seat.now.me.0 c.give_back.new.seat.me.0 r.0 r.3.alone x in
    let y = c.clean.ensures.cleaned in
    let on = from_pass allows (HasFreed t own.kind (own.first + c.args.i)) c.give_back.new.seat.me.0 c.clean.new.seat.me.0 x.later x.is y in
    let inside : c.args.name < own.end = (let n = c.requires.name in let e = own.ends.0 in omega (arith, n, e)) in
    record {
      pass = r.0;
      later = y.later;
      was = r.3.alone;
      is = y.is;
      goes_on = rests_on allows r.0 x.later y.later goes.0 on.0;
      holds = given_back allows t own new c.args.i c.args.next c.args.name r.0 r.2 r.6 c.requires.slot x.later goes.1 y.later goes.0 on.0 on.1 c.take_from.ensures.still c.take_from.ensures.dealt c.take_from.ensures.slots r.3.names c.requires.next inside;
    }
