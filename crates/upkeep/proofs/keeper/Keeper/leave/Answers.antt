use Rattle.std.proofs.Common.{sym}
use Rattle.upkeep.specs.UpkeepKeeper.{KeepsStill}
use Rattle.upkeep.specs.UpkeepSteps.{RemembersLeaving}
use Rattle.upkeep.proofs.UpkeepKeeper.{away_deals, deals_same, keeper_away}
use Rattle.upkeep.proofs.UpkeepSteps.{seat_as, seat_still}
use Rattle.upkeep.proofs.keeper.Keeper.leave.Goals as goal

pub returns-then-self-ge-MOST_RESTS-clause-left : goal.returns-then-self-ge-MOST_RESTS-clause-left
returns-then-self-ge-MOST_RESTS-clause-left g c =
    let r = c.requires in
    seat_still g.S.Shape.allows (KeepsStill c.args.self.now c.args.self.now) r.0 c.args.seat.now.me.0 r.2.alone record { kept = λ t out x. x; deals = deals_same r.0.memory }

pub leave-requires-clause-between : goal.leave-requires-clause-between
leave-requires-clause-between g c = let r = c.requires in (r.0, r.2.alone, r.3, sym r.5.books.slots.often, r.4)

pub returns-clause-left : goal.returns-clause-left
returns-clause-left g c =
    let allows = g.S.Shape.allows in
    let keeper = c.args.self.now in
    seat_as allows RemembersLeaving (KeepsStill keeper keeper) c.args.seat.now.me.0 c.leave.new.seat.me.0
    (λ p q goes was e. record { kept = λ t out x. keeper_away allows t p q goes e keeper c.if-self-ge-MOST_RESTS.false out x; deals = away_deals p q e })
    c.leave.ensures.leaves
