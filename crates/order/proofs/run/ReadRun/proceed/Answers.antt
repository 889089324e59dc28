use Rattle.std.proofs.Common.{inl, refl}
use Rattle.order.proofs.Turns.{ends_refused}
use Rattle.order.proofs.run.ReadRun.proceed.Goals as goal

pub returns-in-Ok-clause-turn : goal.returns-in-Ok-clause-turn
returns-in-Ok-clause-turn g c d begin h try x = c.stand.ensures.turn d h (begin, try, rw c.in-Ok.is at x)

pub returns-in-Ok-clause-nearer : goal.returns-in-Ok-clause-nearer
returns-in-Ok-clause-nearer g c nodes n near = c.stand.ensures.nearer nodes n (rw c.in-Ok.is at near)

pub returns-in-Ok-clause-tries : goal.returns-in-Ok-clause-tries
returns-in-Ok-clause-tries g c d h x = c.stand.ensures.tries d h (rw c.in-Ok.is at x)

pub returns-in-Err-clause-turn : goal.returns-in-Err-clause-turn
returns-in-Err-clause-turn g c d begin h try x = ends_refused g.R.Read.means c.args.self.now d begin h c.in-Err.refused _ try (rw c.in-Err.is at x)

pub returns-in-Err-clause-tries : goal.returns-in-Err-clause-tries
returns-in-Err-clause-tries g c d h x = inl refl
