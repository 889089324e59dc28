use Rattle.std.proofs.Common.{subst, sym}
use Rattle.tables.specs.Slotted.{in_turns}
use Rattle.upkeep.specs.UpkeepKeeper.{KeepsStill}
use Rattle.forest.specs.UpkeepKept.{ComesBack, HasGoneAway}
use Rattle.upkeep.proofs.UpkeepKeeper.{deals_same, seat_of}
use Rattle.upkeep.proofs.UpkeepDeals.{resting_deals}
use Rattle.upkeep.proofs.UpkeepSet.{own_pass}
use Rattle.upkeep.proofs.UpkeepStays.{map_then, stays_out}
use Rattle.upkeep.proofs.UpkeepSteps.{seat_still}
use Rattle.forest.proofs.away.leave.Goals as goal

pub returns-in_default-clause-left : goal.returns-in_default-clause-left
returns-in_default-clause-left g c =
    let r = c.requires in
    seat_still g.S.Shape.allows (HasGoneAway c.args.kept.now) r.0 c.args.seat.now.me.0 r.1.alone record { comes_back = r.5; rested = r.4; deals = deals_same r.0.memory }

pub leave-requires : goal.leave-requires
leave-requires g c =
    let r = c.requires in
    let kept = c.in-Some.kept in
    (r.0, in_turns kept.layout kept.turns, r.1, r.2, r.3, subst (λ k. ComesBack k r.0) c.in-Some.is r.5)

pub returns-clause-left : goal.returns-clause-left
returns-clause-left g c =
    let allows = g.S.Shape.allows in
    let r = c.requires in
    let kept = c.in-Some.kept in
    seat_of allows (KeepsStill kept.keeper kept.keeper) (HasGoneAway c.args.kept.now) c.args.seat.now.me.0 c.leave.new.seat.me.0 r.0 r.1.alone c.leave.ensures.left
    (λ goes y.
    let q = c.leave.ensures.left.later in
    let out = stays_out c.unborn_stays_out.ensures.none r.0 q (resting_deals r.0 q goes) (own_pass c.args.words.now c.args.layout.now c.args.seat.now r.0 r.1) r.3 r.6.lawful (map_then allows r.0.layout q goes.layout r.7 (goes.sound r.6)) in
    let z = y.kept (in_turns kept.layout kept.turns) out (subst (λ k. ComesBack k r.0) c.in-Some.is r.5) in
    record { comes_back = subst (λ k. ComesBack k c.leave.ensures.left.later) (sym c.in-Some.is) z; rested = z.books.slots.rested; deals = y.deals })
