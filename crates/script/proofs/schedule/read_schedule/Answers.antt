use Rattle.std.proofs.Common.{rules}
use Rattle.script.specs.Grammars.{IsScheduleFault, SayOrders}
use Rattle.texts.proofs.Lemmas.{settled_bad, settled_ok}
use Rattle.script.proofs.schedule.read_schedule.Goals as goal

pub returns-clause-says : goal.returns-clause-says
returns-clause-says g c bytes told =
    settled_ok (λ schedule. SayOrders c.args.script.now.layout.passes bytes schedule.orders.items) c.schedule_of-schedule.result c.by_failure_count.result (search rules) (c.schedule_of-schedule.ensures.says bytes told)

pub returns-clause-fault : goal.returns-clause-fault
returns-clause-fault g c bytes told =
    settled_bad (IsScheduleFault c.args.script.now.layout.passes bytes) c.schedule_of-schedule.result c.by_failure_count.result c.by_failure_count.ensures.bad (c.schedule_of-schedule.ensures.fault bytes told)
