use Rattle.std.proofs.Common.{None, Some, subst, sym}
use Rattle.tables.specs.Slotted.{in_turns}
use Rattle.upkeep.specs.UpkeepKeeper.{IsBackWith}
use Rattle.forest.specs.UpkeepKept.{ComesBack, HasComeBack}
use Rattle.upkeep.specs.UpkeepSteps.{RestsOn}
use Rattle.upkeep.proofs.UpkeepKeeper.{deals_same, seat_of}
use Rattle.upkeep.proofs.UpkeepDeals.{resting_deals}
use Rattle.upkeep.proofs.UpkeepSet.{own_pass}
use Rattle.upkeep.proofs.UpkeepStays.{map_then, stays_out}
use Rattle.upkeep.proofs.UpkeepSteps.{seat_still}
use Rattle.forest.proofs.away.come_back.Goals as goal

pub returns-in_err-kept-clause-back : goal.returns-in_err-kept-clause-back
returns-in_err-kept-clause-back g c =
    let allows = g.S.Shape.allows in
    let seat = c.args.seat.now.me.0 in
    let r = c.requires in
    let still = seat_still allows (HasComeBack None) r.0 seat r.1.alone record { keeps = tt; there = subst (λ k. ComesBack k r.0) c.in_err-kept.was r.5; rested = r.4; deals = deals_same r.0.memory } in
    subst (λ k. RestsOn allows (HasComeBack k) seat seat) (sym c.from_residual.ensures) still

pub come_back-requires : goal.come_back-requires
come_back-requires g c =
    let r = c.requires in
    let kept = c.in_ok-kept.kept in
    (r.0, in_turns kept.layout kept.turns, r.1, r.2, r.3, subst (λ k. ComesBack k r.0) c.in_ok-kept.was r.5)

pub returns-clause-back : goal.returns-clause-back
returns-clause-back g c =
    let allows = g.S.Shape.allows in
    let r = c.requires in
    let kept = c.in_ok-kept.kept in
    let t = in_turns kept.layout kept.turns in
    let new = record kept { keeper = c.come_back.new.self } in
    let keeper = subst (λ k. ComesBack k r.0) c.in_ok-kept.was r.5 in
    seat_of allows (IsBackWith kept.keeper new.keeper) (HasComeBack (Some new)) c.args.seat.now.me.0 c.come_back.new.seat.me.0 r.0 r.1.alone c.come_back.ensures.back
    (λ goes y.
    let q = c.come_back.ensures.back.later in
    let out = stays_out c.unborn_stays_out.ensures.none r.0 q (resting_deals r.0 q goes) (own_pass c.args.words.now c.args.layout.now c.args.seat.now r.0 r.1) r.3 r.6.lawful (map_then allows r.0.layout q goes.layout r.7 (goes.sound r.6)) in
    let z = y.keeps.kept t out keeper in
    record { keeps = z; there = y.there t keeper; rested = z.books.slots.rested; deals = y.keeps.deals })
