use Rattle.std.proofs.Common.{ap, Ok}
use Rattle.straight.proofs.StraightTries.{tries_as, tries_nearer, tries_on}
use Rattle.straight.proofs.update.read_on.Goals as goal

pub loop-now-init : goal.loop-now-init
loop-now-init g c = record { goes_on = tries_as c.in_ok-now.was }

pub read-now-requires-clause-tries : goal.read-now-requires-clause-tries
read-now-requires-clause-tries g c = let r = c.requires.goes_on in (r.0, (tries_on c.loop-now.invariant.goes_on (tries_as (ap (λ n. Ok n) c.in-Read.is))).to r.0 r.1)

pub loop-now-smaller : goal.loop-now-smaller
loop-now-smaller g c = tries_nearer (tries_on (tries_as (ap (λ n. Ok n) c.in-Read.is)) c.read-now.ensures.goes_on) c.read-now.ensures.moves

pub loop-now-preserved : goal.loop-now-preserved
loop-now-preserved g c = record { goes_on = tries_on c.loop-now.invariant.goes_on (tries_on (tries_as (ap (λ n. Ok n) c.in-Read.is)) c.read-now.ensures.goes_on) }
