use Rattle.std.proofs.Common.{None, Some, refl, sym, subst}
use Rattle.histories.specs.Common.{Layout}
use Rattle.upkeep.specs.UpkeepBook.{slots_in}
use Rattle.upkeep.specs.UpkeepKeeper.{HasTakenByRest, HasTurnedSlots}
use Rattle.upkeep.specs.UpkeepPeriod.{HasPeriod, PollsOn}
use Rattle.upkeep.proofs.UpkeepDeals.{left_on}
use Rattle.upkeep.proofs.UpkeepKeeper.{back_polled, loses_nothing, loses_on, lost_again, over_now, period_ended, period_waits, polls_deal, rested_after, seat_of, taken_again}
use Rattle.upkeep.proofs.UpkeepLooks.{at_now, table_in}
use Rattle.upkeep.proofs.UpkeepSteps.{rests_on}
use Rattle.upkeep.proofs.UpkeepTurn.{from_pass}
use Rattle.upkeep.proofs.keeper.Keeper.go_on.Goals as goal

pub poll-requires-clause-period : goal.poll-requires-clause-period
poll-requires-clause-period g c =
    let r = c.requires in
    let lay = c.args.layout.now in
    (r.0, r.2.alone, r.1, subst (λ (l : Layout). HasPeriod l.passes r.0 r.1 c.args.period) (table_in c.args.words.now lay c.args.seat.now r.0 r.2) r.3.runs)

pub turn-requires : goal.turn-requires
turn-requires g c =
    let allows = g.S.Shape.allows in
    let words = c.args.words.now in
    let lay = c.args.layout.now in
    let t = slots_in words in
    let r = c.requires in
    let keeper = c.args.self.now in
    let x = c.poll.ensures.polls in
    let so = PollsOn lay.passes lay.passes c.args.period c.poll.new.self in
    let on = from_pass allows so c.args.seat.now.me.0 c.poll.new.seat.me.0 r.0 r.2.alone x in
    let runs = on.1.period r.1 (subst (λ (l : Layout). HasPeriod l.passes r.0 r.1 c.args.period) (table_in words lay c.args.seat.now r.0 r.2) r.3.runs) in
    let back = back_polled allows t r.0 x.later on.0 on.1.keeps keeper keeper refl refl refl r.1 r.3.back in (
      x.later,
      r.1,
      at_now words lay allows so c.args.seat.now c.poll.new.seat r.0 r.2 c.poll.ensures.table x,
      back,
      period_ended allows t r.0 x.later on.0 on.1.keeps keeper keeper refl refl refl r.1 r.3.back r.3.rested (λ own. c.poll.ensures.over c.if-poll.true x.later r.1 runs back.there own),
      left_on allows r.0 x.later c.args.left.now on.0 on.1.keeps.away r.4,
      lost_again r.0 x.later on.0.layout on.0.number on.0.planting on.1.keeps.rested keeper r.5,
    )

pub returns-then-poll-clause-rests : goal.returns-then-poll-clause-rests
returns-then-poll-clause-rests g c =
    let allows = g.S.Shape.allows in
    let n = c.args.layout.now.passes in
    let t = slots_in c.args.words.now in
    let r = c.requires in
    let keeper = c.args.self.now in
    let turned = c.turn.new.self in
    let new = record turned { period = None } in
    let x = c.poll.ensures.polls in
    let y = c.turn.ensures.turned in
    let one = PollsOn n n c.args.period c.poll.new.self in
    let two = HasTurnedSlots t turned in
    let on = from_pass allows one c.args.seat.now.me.0 c.poll.new.seat.me.0 r.0 r.2.alone x in
    let next = from_pass allows two c.poll.new.seat.me.0 c.turn.new.seat.me.0 x.later x.is y in
    let polled = taken_again r.0 x.later on.0.layout on.0.number on.0.planting on.1.keeps.rested keeper.taken r.6 in
    let taken = taken_again x.later y.later next.0.layout next.0.number next.0.planting next.1.rested keeper.taken polled in
    record {
      pass = r.0;
      later = y.later;
      was = r.2.alone;
      is = y.is;
      goes_on = rests_on allows r.0 x.later y.later on.0 next.0;
      holds = rested_after t new r.0 x.later y.later (polls_deal r.0.memory x.later.memory on.1.keeps) (over_now t x.later y.later turned next.1 (subst (HasTakenByRest y.later) (sym c.turn.ensures.taken) taken));
    }

pub returns-else-poll-clause-rests : goal.returns-else-poll-clause-rests
returns-else-poll-clause-rests g c =
    let allows = g.S.Shape.allows in
    let words = c.args.words.now in
    let lay = c.args.layout.now in
    let t = slots_in words in
    let r = c.requires in
    let keeper = c.args.self.now in
    let x = c.poll.ensures.polls in
    let same = table_in words lay c.args.seat.now r.0 r.2 in
    seat_of allows (PollsOn lay.passes lay.passes c.args.period c.poll.new.self) _ c.args.seat.now.me.0 c.poll.new.seat.me.0 r.0 r.2.alone x
    (λ goes polls. period_waits allows t r.0 x.later goes polls.keeps keeper record keeper { period = Some c.poll.new.self } refl refl refl r.1 c.poll.new.self refl
    (subst (λ (l : Layout). HasPeriod l.passes x.later r.1 c.poll.new.self) (sym same) (polls.period r.1 (subst (λ (l : Layout). HasPeriod l.passes r.0 r.1 c.args.period) same r.3.runs)))
    refl r.6 r.3.back)

pub returns-then-poll-clause-lost : goal.returns-then-poll-clause-lost
returns-then-poll-clause-lost g c = let turned = c.turn.new.self in let new = record turned { period = None } in loses_on c.args.self.now turned new c.turn.ensures.lost (loses_nothing turned new refl refl)

pub returns-else-poll-clause-lost : goal.returns-else-poll-clause-lost
returns-else-poll-clause-lost g c = let old = c.args.self.now in loses_nothing old record old { period = Some c.poll.new.self } refl refl
