use Rattle.std.proofs.Common.{◌≡◌, ◌+◌, None, replicate, refl, ◌∙◌, ap, subst, arith}
use Rattle.upkeep.specs.UpkeepPeriod.{BeginsPeriod, PollsOn}
use Rattle.upkeep.specs.UpkeepSteps.{RestsOn}
use Rattle.tables.specs.declared.view.SeatedPass.{SeatedPass}
use Rattle.tables.proofs.Ruled.{same_pass}
use Rattle.upkeep.proofs.UpkeepPeriod.{asks_none, begins_period, nobody, polls_on}
use Rattle.upkeep.proofs.UpkeepSteps.{seat_as, seat_on, seat_still}
use Rattle.upkeep.proofs.period.Period.begin.Goals as goal

pub loop-other-init : goal.loop-other-init
loop-other-init g c = let one = c.requires.one in record { table = (refl, refl); polls = seat_still g.S.Shape.allows _ one.0 _ one.1 (asks_none 0 one.0 _) }

pub take_in-requires-clause-one : goal.take_in-requires-clause-one
take_in-requires-clause-one g c =
    let one = c.requires.one in
    let polls = c.loop-other.invariant.polls in
    (polls.later, polls.is, polls.goes_on.number ∙ ap (λ (z : SeatedPass). z.number) (same_pass c.args.seat.now.me.0.passes one.0 polls.pass one.1 polls.was) ∙ one.2)

pub loop-other-preserved : goal.loop-other-preserved
loop-other-preserved g c =
    let k = c.loop-other.other in
    let first = record c.loop-other.period { waits = replicate 32 None } in
    let now = c.loop-other.period in
    let new = c.take_in.new.self in
    record {
      table = (c.take_in.ensures.table.0 ∙ c.loop-other.invariant.table.0, c.take_in.ensures.table.1 ∙ c.loop-other.invariant.table.1);
      polls = seat_on g.S.Shape.allows (PollsOn 0 k first now) (PollsOn k (k + 1) now new) (PollsOn 0 (k + 1) first new) c.args.seat.now.me.0 c.loop-other.seat.me.0 c.take_in.new.seat.me.0 (polls_on 0 k (k + 1) first now new) c.loop-other.invariant.polls c.take_in.ensures.polls;
    }

pub returns-clause-begins : goal.returns-clause-begins
returns-clause-begins g c =
    let first = record c.loop-other.period { waits = replicate 32 None } in
    let now = c.loop-other.period in
    let count = c.args.layout.now.passes in
    let all : c.loop-other.other ≡ count = omega arith in
    seat_as g.S.Shape.allows (PollsOn 0 count first now) (BeginsPeriod count now) c.args.seat.now.me.0 c.loop-other.seat.me.0
    (λ p q goes was x. begins_period count first now p q (nobody 32) x)
    (subst (λ n. RestsOn g.S.Shape.allows (PollsOn 0 n first now) c.args.seat.now.me.0 c.loop-other.seat.me.0) all c.loop-other.invariant.polls)
