use Rattle.std.proofs.Common.{ap, Ok}
use Rattle.straight.proofs.StraightTries.{tries_as, tries_nearer, tries_on}
use Rattle.straight.proofs.StraightUpdate.{handed_on}
use Rattle.straight.proofs.update.look_on.Goals as goal

pub loop-now-init : goal.loop-now-init
loop-now-init g c = record { goes_on = tries_as c.in_ok-now.was }

pub look_at-requires-clause-tries : goal.look_at-requires-clause-tries
look_at-requires-clause-tries g c = let r = c.requires.goes_on in (r.0, (tries_on c.loop-now.invariant.goes_on (tries_as (ap (λ n. Ok n) c.in-Look.is))).to r.0 r.1)

pub returns-in_err-now-2 : goal.returns-in_err-now-2
returns-in_err-now-2 g c = rw (handed_on _ _ c.from_residual-in_err-now-2.ensures.1) (tries_on c.loop-now.invariant.goes_on (tries_on (tries_as (ap (λ n. Ok n) c.in-Look.is)) c.in_err-now-2.ensures.goes_on))

pub loop-now-smaller : goal.loop-now-smaller
loop-now-smaller g c = tries_nearer (tries_on (tries_as (ap (λ n. Ok n) c.in-Look.is)) c.in_ok-now-2.ensures.goes_on) c.in_ok-now-2.ensures.moves

pub loop-now-preserved : goal.loop-now-preserved
loop-now-preserved g c = record { goes_on = tries_on c.loop-now.invariant.goes_on (tries_on (tries_as (ap (λ n. Ok n) c.in-Look.is)) c.in_ok-now-2.ensures.goes_on) }
