use Rattle.regnubas.specs.Passes.{IsOf}
use Rattle.scheduler.proofs.work.Given as goal

abbrev pub invariant-loop-turn : goal.invariant-loop-turn
invariant-loop-turn l = IsOf l.queue l.pass
