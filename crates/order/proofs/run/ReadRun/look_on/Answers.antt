use Rattle.std.proofs.Common.{ap, ◌∙◌}
use Rattle.histories.specs.Common.{Done, begun_at}
use Rattle.order.proofs.Blaming.{try_as}
use Rattle.order.proofs.Nearer.{below, less_look, from_looked, to_tries}
use Rattle.order.proofs.Turns.{left_as, looks_on, snapped, finalized, failed}
use Rattle.order.proofs.run.ReadRun.look_on.Goals as goal

pub returns-in-Ask-clause-nearer : goal.returns-in-Ask-clause-nearer
returns-in-Ask-clause-nearer g c nodes fits = less_look _ _ _ _ _ _ (rw c.in-Ask.is at c.next.ensures.nearer nodes tt)

pub returns-in-Done-Snapshot-clause-nearer : goal.returns-in-Done-Snapshot-clause-nearer
returns-in-Done-Snapshot-clause-nearer g c nodes fits = below c.proceed.result _ _ _ (left_as g.R.Read.means c.args.self.now c.looked-next.new.self c.proceed.new.self nodes _ c.proceed.result c.looked-next.ensures.tries c.looked-next.ensures.same.0 (c.proceed.ensures.nearer nodes _ (c.looked-next.ensures.nearer nodes fits))) (from_looked _ _ _ _ _)

pub returns-in-Done-Finalized-clause-nearer : goal.returns-in-Done-Finalized-clause-nearer
returns-in-Done-Finalized-clause-nearer g c nodes fits = below c.lost.result _ _ _ (c.lost.ensures.nearer nodes) (to_tries _ _)

pub returns-in-Done-Fail-clause-nearer : goal.returns-in-Done-Fail-clause-nearer
returns-in-Done-Fail-clause-nearer g c nodes fits = below c.lost-in-Done-Fail.result _ _ _ (c.lost-in-Done-Fail.ensures.nearer nodes) (to_tries _ _)

pub returns-in-Ask-clause-turn : goal.returns-in-Ask-clause-turn
returns-in-Ask-clause-turn g c d begin look h try goes x since ready = looks_on g.R.Read.means c.args.self.now d begin look h c.args.children c.args.level c.args.llx c.next.new.self c.next.result goes x since c.next.ensures.same (c.next.ensures.turn (begun_at d look) h goes.reads.run.1 ready) c.in-Ask.step c.in-Ask.is try

pub returns-in-Done-Snapshot-clause-turn : goal.returns-in-Done-Snapshot-clause-turn
returns-in-Done-Snapshot-clause-turn g c d begin look h try goes x since ready =
    let s = snapped g.R.Read.means c.args.self.now d begin look h c.args.children c.args.level c.args.llx c.next.new.self c.next.result goes x since c.next.ensures.same (c.next.ensures.turn (begun_at d look) h goes.reads.run.1 ready) c.in-Done-Snapshot.snap (c.in-Done-Snapshot.is ∙ ap (λ a. Done a) c.in-Done-Snapshot.field-0-is) in
    c.proceed.ensures.turn d begin h (try_as d h begin _ _ _ _ c.looked-next.ensures.same.1 c.looked-next.ensures.tries try) (c.looked-next.ensures.goes_on (begun_at d begin) h goes (rw (← c.in-Done-Snapshot.snap-is) at s.0) (rw (← c.in-Done-Snapshot.snap-is) at s.1))

pub returns-in-Done-Snapshot-clause-tries : goal.returns-in-Done-Snapshot-clause-tries
returns-in-Done-Snapshot-clause-tries g c d look h goes x since ready =
    let s = snapped g.R.Read.means c.args.self.now d d.start look h c.args.children c.args.level c.args.llx c.next.new.self c.next.result goes x since c.next.ensures.same (c.next.ensures.turn (begun_at d look) h goes.reads.run.1 ready) c.in-Done-Snapshot.snap (c.in-Done-Snapshot.is ∙ ap (λ a. Done a) c.in-Done-Snapshot.field-0-is) in
    rw c.looked-next.ensures.tries at (c.proceed.ensures.tries d h (c.looked-next.ensures.goes_on d h goes (rw (← c.in-Done-Snapshot.snap-is) at s.0) (rw (← c.in-Done-Snapshot.snap-is) at s.1)))

pub returns-in-Done-Finalized-clause-turn : goal.returns-in-Done-Finalized-clause-turn
returns-in-Done-Finalized-clause-turn g c d begin look h try goes x since ready =
    let way = finalized g.R.Read.means c.args.self.now d begin look h c.args.children c.args.level c.args.llx c.next.new.self c.next.result goes x since c.next.ensures.same (c.next.ensures.turn (begun_at d look) h goes.reads.run.1 ready) c.in-Done-Finalized.node c.in-Done-Finalized.scx (c.in-Done-Finalized.is ∙ ap (λ a. Done a) c.in-Done-Finalized.field-0-is) in
    c.lost.ensures.turn d begin h try goes (rw (← c.in-Done-Finalized.node-is, ← c.in-Done-Finalized.scx-is) at way)

pub returns-in-Done-Fail-clause-turn : goal.returns-in-Done-Fail-clause-turn
returns-in-Done-Fail-clause-turn g c d begin look h try goes x since ready =
    let way = failed g.R.Read.means c.args.self.now d begin look h c.args.children c.args.level c.args.llx c.next.new.self c.next.result goes x since c.next.ensures.same (c.next.ensures.turn (begun_at d look) h goes.reads.run.1 ready) c.in-Done-Fail.node c.in-Done-Fail.scx (c.in-Done-Fail.is ∙ ap (λ a. Done a) c.in-Done-Fail.field-0-is) in
    c.lost-in-Done-Fail.ensures.turn d begin h try goes (rw (← c.in-Done-Fail.node-is, ← c.in-Done-Fail.scx-is) at way)

pub returns-in-Done-Finalized-clause-tries : goal.returns-in-Done-Finalized-clause-tries
returns-in-Done-Finalized-clause-tries g c d look h goes x since ready =
    let way = finalized g.R.Read.means c.args.self.now d d.start look h c.args.children c.args.level c.args.llx c.next.new.self c.next.result goes x since c.next.ensures.same (c.next.ensures.turn (begun_at d look) h goes.reads.run.1 ready) c.in-Done-Finalized.node c.in-Done-Finalized.scx (c.in-Done-Finalized.is ∙ ap (λ a. Done a) c.in-Done-Finalized.field-0-is) in
    c.lost.ensures.tries d h x.asks (rw (← c.in-Done-Finalized.node-is, ← c.in-Done-Finalized.scx-is) at way)

pub returns-in-Done-Fail-clause-tries : goal.returns-in-Done-Fail-clause-tries
returns-in-Done-Fail-clause-tries g c d look h goes x since ready =
    let way = failed g.R.Read.means c.args.self.now d d.start look h c.args.children c.args.level c.args.llx c.next.new.self c.next.result goes x since c.next.ensures.same (c.next.ensures.turn (begun_at d look) h goes.reads.run.1 ready) c.in-Done-Fail.node c.in-Done-Fail.scx (c.in-Done-Fail.is ∙ ap (λ a. Done a) c.in-Done-Fail.field-0-is) in
    c.lost-in-Done-Fail.ensures.tries d h x.asks (rw (← c.in-Done-Fail.node-is, ← c.in-Done-Fail.scx-is) at way)
