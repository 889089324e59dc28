use Rattle.std.proofs.Common.{◌≤◌, ◌+◌, refl, arith}
use Rattle.upkeep.specs.UpkeepBook.{NowRemembers, dealt_of, name_numbered, slots_in}
use Rattle.upkeep.specs.UpkeepDeals.{HasDealt, memory_given, next_of}
use Rattle.upkeep.proofs.UpkeepDealt.{may_get, next_dealt, within}
use Rattle.upkeep.proofs.UpkeepLooks.{is_word_of, table_in}
use Rattle.upkeep.proofs.UpkeepTurn.{known_as}
use Rattle.upkeep.proofs.UpkeepTurns.{own_slot}
use Rattle.upkeep.proofs.deal.put_next.Goals as goal

pub place-at-requires : goal.place-at-requires
place-at-requires g c = let r = c.requires.pass in let own = c.args.own.now in let free = c.requires.slot.0 in
    is_word_of c.args.layout.now r.0.number.0 c.word_at.result _ r.3.is_pass (own_slot (slots_in c.args.words.now) c.args.layout.now r.0 r.0 own own.kind own.first c.args.i (table_in c.args.words.now c.args.layout.now c.args.seat.now r.0 r.3) r.6.all refl refl refl (within own.slots.items c.args.i free.0 free.1)) c.word_at.ensures.record c.word_at.ensures.part

pub give_next-requires : goal.give_next-requires
give_next-requires g c = let r = c.requires.pass in let own = c.args.own.now in
    let less : next_of own.kind r.1 ≤ dealt_of own.kind r.0.memory = (let e = r.5 in let d = r.6.all.dealt in let n = c.requires.next in omega (arith, e, d, n)) in (
      r.0,
      r.1,
      r.3,
      c.place-at.ensures.inside,
      r.4,
      less,
      may_get g.S.Shape.allows (slots_in c.args.words.now) r.0 r.1 r.2 own c.args.i 0 r.3.names r.4 less r.6 c.requires.slot.0 c.requires.slot.1,
    )

pub put-requires-clause-inside : goal.put-requires-clause-inside
put-requires-clause-inside g c = let free = c.requires.slot.0 in within c.args.own.now.slots.items c.args.i free.0 free.1

pub put-requires-clause-name : goal.put-requires-clause-name
put-requires-clause-name g c = let inside = c.requires.slot.1.inside in omega (arith, inside)

pub returns-clause-given : goal.returns-clause-given
returns-clause-given g c =
    let r = c.requires.pass in
    let allows = g.S.Shape.allows in
    let t = slots_in c.args.words.now in
    let own = c.args.own.now in
    let new = c.put.new.self in
    let less : next_of own.kind r.1 ≤ dealt_of own.kind r.0.memory = (let e = r.5 in let d = r.6.all.dealt in let n = c.requires.next in omega (arith, e, d, n)) in
    let may = may_get allows t r.0 r.1 r.2 own c.args.i 0 r.3.names r.4 less r.6 c.requires.slot.0 c.requires.slot.1 in
    known_as allows (NowRemembers (λ m rows. memory_given own.kind m 0 (name_numbered own.kind (own.first + c.args.i)) rows)) (HasDealt allows t own new c.args.next c.args.next) c.args.seat.now.me.0 c.give_next.new.seat.me.0 r.0 r.3.alone
    (λ q goes e. next_dealt allows t own new c.args.i c.args.next r.0 q r.2 goes e c.put.ensures.still c.put.ensures.dealt c.put.ensures.slots may c.requires.slot.1 r.6 r.3.names c.requires.next)
    c.give_next.ensures.given
