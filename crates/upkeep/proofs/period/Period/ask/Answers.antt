use Rattle.std.proofs.Common.{◌<◌, length, refl, sym, subst, arith, slice_set}
use Rattle.upkeep.specs.UpkeepPeriod.{HasLookedAgain, HasPeriod, IsPolledSince, PollsOn}
use Rattle.tables.specs.declared.view.SeatedPass.{SeatedPass}
use Rattle.tables.proofs.Ruled.{same_pass}
use Rattle.upkeep.proofs.UpkeepPeriod.{asked_again, asks_none}
use Rattle.upkeep.proofs.UpkeepSteps.{seat_as, seat_still}
use Rattle.upkeep.proofs.period.Period.ask.Goals as goal

pub look_again-requires-clause-one : goal.look_again-requires-clause-one
look_again-requires-clause-one g c =
    let period = c.requires.period in
    let k = c.args.other.0 in
    let some = period.3.others k c.in-Some.seen c.in-Some.is in
    let polled = subst (IsPolledSince period.0 period.2 k) c.in-Some.is (period.3.polled k some.0 some.1) in
    (period.0, period.1, polled.moment, polled.last)

pub returns-in-Some-clause-polls : goal.returns-in-Some-clause-polls
returns-in-Some-clause-polls g c =
    let period = c.requires.period in
    let k = c.args.other.0 in
    let count = c.args.layout.now.passes in
    let waits = c.look_again.result in
    let new = record c.args.self.now { waits = slice_set c.args.self.now.waits k waits } in
    let inside : k < length c.args.self.now.waits = omega arith in
    seat_as g.S.Shape.allows (HasLookedAgain k c.in-Some.seen waits) (PollsOn count count c.args.self.now new) c.args.seat.now.me.0 c.look_again.new.seat.me.0
    (λ p q goes was x. asked_again g.S.Shape.allows p q goes count k c.in-Some.seen waits c.args.self.now new c.in-Some.is refl inside period.2 (subst (λ (z : SeatedPass). HasPeriod count z period.2 c.args.self.now) (sym (same_pass c.args.seat.now.me.0.passes period.0 p period.1 was)) period.3) x)
    c.look_again.ensures.looked

pub returns-in_default-clause-polls : goal.returns-in_default-clause-polls
returns-in_default-clause-polls g c =
    let period = c.requires.period in
    let count = c.args.layout.now.passes in
    seat_still g.S.Shape.allows (PollsOn count count c.args.self.now c.args.self.now) period.0 c.args.seat.now.me.0 period.1 (asks_none count period.0 c.args.self.now)
