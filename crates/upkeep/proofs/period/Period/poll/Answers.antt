use Rattle.std.proofs.Common.{not, refl, sym, ◌∙◌, ap, subst}
use Rattle.histories.specs.Common.{Layout}
use Rattle.tables.specs.Slotted.{names_of_table}
use Rattle.upkeep.specs.UpkeepPeriod.{IsFirstWaited, WaitsForNobody, HasPeriod, PollsOn}
use Rattle.tables.specs.declared.view.SeatedPass.{SeatedPass}
use Rattle.tables.proofs.Ruled.{same_pass}
use Rattle.upkeep.proofs.UpkeepPeriod.{all_rested, asks_none, over_if, polls_on}
use Rattle.upkeep.proofs.UpkeepSteps.{passes_of_table, seat_on, seat_still}
use Rattle.upkeep.proofs.period.Period.poll.Goals as goal

pub loop-other-init : goal.loop-other-init
loop-other-init g c = let period = c.requires.period in record { table = (refl, refl); polls = seat_still g.S.Shape.allows _ period.0 _ period.1 (asks_none c.args.layout.now.passes period.0 c.args.self.now) }

pub ask-requires-clause-period : goal.ask-requires-clause-period
ask-requires-clause-period g c =
    let period = c.requires.period in
    let polls = c.loop-other.invariant.polls in
    (polls.later, polls.is, period.2, polls.holds.period period.2 (subst (λ (z : SeatedPass). HasPeriod c.args.layout.now.passes z period.2 c.args.self.now) (sym (same_pass c.args.seat.now.me.0.passes period.0 polls.pass period.1 polls.was)) period.3))

pub loop-other-preserved : goal.loop-other-preserved
loop-other-preserved g c =
    let n = c.args.layout.now.passes in
    let first = c.args.self.now in
    let now = c.loop-other.self in
    let new = c.ask.new.self in
    record {
      table = (c.ask.ensures.table.0 ∙ c.loop-other.invariant.table.0, c.ask.ensures.table.1 ∙ c.loop-other.invariant.table.1);
      polls = seat_on g.S.Shape.allows (PollsOn n n first now) (PollsOn n n now new) (PollsOn n n first new) c.args.seat.now.me.0 c.loop-other.seat.me.0 c.ask.new.seat.me.0 (polls_on n n n first now new) c.loop-other.invariant.polls c.ask.ensures.polls;
    }

pub returns-clause-over : goal.returns-clause-over
returns-clause-over g c = λ over q rows period there own.
    let site = c.args.words.now.table.shared.key in
    all_rested (names_of_table site) q rows c.loop-other.self (over_if c.waits_for.result (WaitsForNobody c.loop-other.self) (λ other. IsFirstWaited c.loop-other.self other.0) (c.is_none.ensures ∙ ap not over) c.waits_for.ensures)
    (subst (λ n. HasPeriod n q rows c.loop-other.self) (sym (passes_of_table site ∙ ap (λ (l : Layout). l.passes) c.requires.table.0.layout)) period) there own
