use Rattle.std.proofs.Common.{ap, refl, sym}
use Rattle.upkeep.specs.UpkeepKeeper.{IsBackWith}
use Rattle.upkeep.specs.UpkeepSteps.{RemembersRest}
use Rattle.tables.specs.declared.memory.PassMemory.{PassMemory}
use Rattle.upkeep.proofs.UpkeepKeeper.{deals_same, keeper_back, rest_deals, stays_there}
use Rattle.upkeep.proofs.UpkeepSteps.{seat_as, seat_still}
use Rattle.upkeep.proofs.keeper.Keeper.come_back.Goals as goal

pub returns-then-self-ge-MOST_RESTS-clause-back : goal.returns-then-self-ge-MOST_RESTS-clause-back
returns-then-self-ge-MOST_RESTS-clause-back g c =
    let r = c.requires in
    let keeper = c.args.self.now in
    seat_still g.S.Shape.allows (IsBackWith keeper keeper) r.0 c.args.seat.now.me.0 r.2.alone record {
      keeps = record { kept = λ t out x. x; deals = deals_same r.0.memory };
      there = λ t x. stays_there t r.0 keeper c.if-self-ge-MOST_RESTS.true x.books;
    }

pub rest-self-requires-clause-between : goal.rest-self-requires-clause-between
rest-self-requires-clause-between g c = let r = c.requires in (r.0, r.2.alone, r.3, sym r.5.books.slots.often, r.4)

pub returns-clause-back : goal.returns-clause-back
returns-clause-back g c =
    let allows = g.S.Shape.allows in
    let old = c.args.self.now in
    let new = record old { often = c.rest-self.result } in
    seat_as allows RemembersRest (IsBackWith old new) c.args.seat.now.me.0 c.rest-self.new.seat.me.0
    (λ p q goes was e. record {
      keeps = record { kept = λ t out x. keeper_back allows t p q goes e old new c.rest-self.ensures.often refl refl refl refl out x; deals = rest_deals p q e };
      there = λ t x. ap (λ (m : PassMemory). m.away) e;
    })
    c.rest-self.ensures.rests
