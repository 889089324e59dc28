use Rattle.std.proofs.Common.{[], lit<, rules}
use Rattle.texts.proofs.Lemmas.{passed_on}
use Rattle.script.proofs.schedule.schedule_of.Goals as goal

pub returns-in_err-orders-clause-fault : goal.returns-in_err-orders-clause-fault
returns-in_err-orders-clause-fault g c bytes told =
    passed_on c.entries.result c.from_residual.result c.in_err-orders.field-0.0 c.in_err-orders.was (search rules) (λ row cause why. why)
    (c.entries.ensures.fault bytes [] (c.new.ensures.none bytes told) c.new.ensures.number (lit< tt))

pub returns-clause-says : goal.returns-clause-says
returns-clause-says g c bytes told = c.in_ok-orders.ensures.entries bytes [] (c.new.ensures.none bytes told)
