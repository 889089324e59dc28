use Rattle.std.proofs.Common.{ap, refl, sym, ◌∙◌, subst}
use Rattle.upkeep.specs.UpkeepBook.{slots_in}
use Rattle.upkeep.specs.UpkeepKeeper.{HasTakenByRest, HasTakenRest, RunsSince}
use Rattle.upkeep.specs.UpkeepSteps.{RemembersRest}
use Rattle.tables.specs.declared.memory.PassMemory.{PassMemory}
use Rattle.upkeep.proofs.UpkeepKeeper.{back_during, loses_nothing, loses_on, lost_at_rest, lost_of, lost_on, rest_deals, rested_after, rested_now, rests_no_more, taken_now}
use Rattle.upkeep.proofs.UpkeepLooks.{at_now}
use Rattle.upkeep.proofs.UpkeepSet.{left_rested, own_pass}
use Rattle.upkeep.proofs.UpkeepDeals.{resting_deals}
use Rattle.upkeep.proofs.UpkeepStays.{map_then, stays_out}
use Rattle.upkeep.proofs.UpkeepSteps.{seat_on, seat_still}
use Rattle.upkeep.proofs.UpkeepTurn.{from_pass, known_as}
use Rattle.upkeep.proofs.keeper.Keeper.take_rest.Goals as goal

pub returns-then-self-ge-MOST_RESTS-clause-rests : goal.returns-then-self-ge-MOST_RESTS-clause-rests
returns-then-self-ge-MOST_RESTS-clause-rests g c =
    let r = c.requires in
    let t = slots_in c.args.words.now in
    seat_still g.S.Shape.allows (HasTakenRest t c.args.self.now) r.0 c.args.seat.now.me.0 r.1.alone (rests_no_more t r.0 c.args.self.now c.if-self-ge-MOST_RESTS.true r.5)

pub rest-self-requires-clause-between : goal.rest-self-requires-clause-between
rest-self-requires-clause-between g c = let r = c.requires in (r.0, r.1.alone, r.2, sym r.5.books.slots.often, r.4.over)

pub go_on-requires : goal.go_on-requires
go_on-requires g c =
    let allows = g.S.Shape.allows in
    let words = c.args.words.now in
    let lay = c.args.layout.now in
    let t = slots_in words in
    let r = c.requires in
    let old = c.args.self.now in
    let mid = record old { often = c.rest-self.result; taken = c.next.result.0.0 } in
    let x = c.rest-self.ensures.rests in
    let on = from_pass allows RemembersRest c.args.seat.now.me.0 c.rest-self.new.seat.me.0 r.0 r.1.alone x in
    let is_pass = own_pass words lay c.args.seat.now r.0 r.1 in
    let has = left_rested allows r.0 x.later c.args.left.now on.0 (ap (λ (m : PassMemory). m.away) on.1) is_pass r.3 r.4 in
    let rested = ap (λ (m : PassMemory). m.rested) on.1 in
    let out = stays_out c.unborn_stays_out.ensures.none r.0 x.later (resting_deals r.0 x.later on.0) is_pass r.4.over r.3.lawful (map_then allows r.0.layout x.later on.0.layout r.6 has.run) in (
      x.later,
      r.5.books.since,
      at_now words lay allows RemembersRest c.args.seat.now c.rest-self.new.seat r.0 r.1 c.rest-self.ensures.table x,
      back_during allows t r.0 x.later on.0 on.1 old mid c.rest-self.ensures.often refl refl r.5.books.since c.in-Some.period
          (subst (RunsSince t.table.passes r.0 r.5.books.since) c.in-Some.is r.5.books.period) r.5.books.slots,
      has,
      lost_at_rest x.later mid rested (lost_of x.later x.later.known old mid (loses_nothing old mid refl refl) (lost_on r.0 x.later on.0.layout on.0.number out old r.5.lost)),
      subst (HasTakenByRest x.later) (sym c.next.ensures.0) (taken_now x.later c.args.left.now.next_node rested has.share.taken_nodes),
    )

pub returns-in_default-clause-rests : goal.returns-in_default-clause-rests
returns-in_default-clause-rests g c =
    let allows = g.S.Shape.allows in
    let words = c.args.words.now in
    let lay = c.args.layout.now in
    let t = slots_in words in
    let r = c.requires in
    let old = c.args.self.now in
    let mid = record old { often = c.rest-self.result; taken = c.next.result.0.0 } in
    known_as allows RemembersRest (HasTakenRest t mid) c.args.seat.now.me.0 c.rest-self.new.seat.me.0 r.0 r.1.alone
    (λ q goes is.
    let has = left_rested allows r.0 q c.args.left.now goes (ap (λ (m : PassMemory). m.away) is) (own_pass words lay c.args.seat.now r.0 r.1) r.3 r.4 in
    rested_now allows t r.0 q goes is old mid c.rest-self.ensures.often refl refl refl
    (subst (HasTakenByRest q) (sym c.next.ensures.0) (taken_now q c.args.left.now.next_node (ap (λ (m : PassMemory). m.rested) is) has.share.taken_nodes))
    r.5.books)
    c.rest-self.ensures.rests

pub returns-in-Some-clause-rests : goal.returns-in-Some-clause-rests
returns-in-Some-clause-rests g c =
    let t = slots_in c.args.words.now in
    let rests = HasTakenRest t c.go_on.new.self in
    seat_on g.S.Shape.allows RemembersRest rests rests c.args.seat.now.me.0 c.rest-self.new.seat.me.0 c.go_on.new.seat.me.0 (λ p q r e x. rested_after t c.go_on.new.self p q r (rest_deals p q e) x) c.rest-self.ensures.rests c.go_on.ensures.rests

pub returns-then-self-ge-MOST_RESTS-clause-lost : goal.returns-then-self-ge-MOST_RESTS-clause-lost
returns-then-self-ge-MOST_RESTS-clause-lost g c = loses_nothing c.args.self.now c.args.self.now refl refl

pub returns-in_default-clause-lost : goal.returns-in_default-clause-lost
returns-in_default-clause-lost g c = let old = c.args.self.now in loses_nothing old record old { often = c.rest-self.result; taken = c.next.result.0.0 } refl refl

pub returns-in-Some-clause-lost : goal.returns-in-Some-clause-lost
returns-in-Some-clause-lost g c = let old = c.args.self.now in let mid = record old { often = c.rest-self.result; taken = c.next.result.0.0 } in loses_on old mid c.go_on.new.self (loses_nothing old mid refl refl) c.go_on.ensures.lost
