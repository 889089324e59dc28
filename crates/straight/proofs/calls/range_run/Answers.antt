use Rattle.straight.proofs.StraightCalls.{as_many_steps}
use Rattle.straight.proofs.calls.range_run.Goals as goal

pub returns-clause-bound : goal.returns-clause-bound
returns-clause-bound c = λ nodes some. as_many_steps c.run-run.result c.exchange_all.new.run c.reserve-2.new.self c.reserve-3.new.self c.reserve.new.self nodes _ c.exchange_all.ensures.same c.run-run.ensures.fresh.start (c.run-run.ensures.bound nodes some)
