use Rattle.straight.proofs.StraightTries.{tries_on}
use Rattle.straight.proofs.reads.read_pairs.Goals as goal

pub read_pair-next-requires-clause-tries : goal.read_pair-next-requires-clause-tries
read_pair-next-requires-clause-tries g c = c.requires.tries

pub read_next_pair-next-requires-clause-tries : goal.read_next_pair-next-requires-clause-tries
read_next_pair-next-requires-clause-tries g c = let r = c.requires.tries in (r.0, c.read_pair-next.ensures.goes_on.to r.0 r.1)

pub read_next_pair-next-requires-2-clause-tries : goal.read_next_pair-next-requires-2-clause-tries
read_next_pair-next-requires-2-clause-tries g c = let r = c.requires.tries in (r.0, (tries_on c.read_pair-next.ensures.goes_on c.read_next_pair-next.ensures.goes_on).to r.0 r.1)

pub read_next_pair-requires-clause-tries : goal.read_next_pair-requires-clause-tries
read_next_pair-requires-clause-tries g c = let r = c.requires.tries in (r.0, (tries_on (tries_on c.read_pair-next.ensures.goes_on c.read_next_pair-next.ensures.goes_on) c.read_next_pair-next-2.ensures.goes_on).to r.0 r.1)

pub returns-clause-goes_on : goal.returns-clause-goes_on
returns-clause-goes_on g c = tries_on (tries_on (tries_on c.read_pair-next.ensures.goes_on c.read_next_pair-next.ensures.goes_on) c.read_next_pair-next-2.ensures.goes_on) c.read_next_pair.ensures.goes_on
