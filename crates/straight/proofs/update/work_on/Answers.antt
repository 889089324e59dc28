use Rattle.straight.proofs.StraightTries.{tries_on}
use Rattle.straight.proofs.update.work_on.Goals as goal

pub read_on-loaded-requires-clause-goes_on : goal.read_on-loaded-requires-clause-goes_on
read_on-loaded-requires-clause-goes_on g c = let r = c.requires.goes_on in (r.0, c.look_on-looked.ensures.to r.0 r.1)

pub fill_on-requires-clause-goes_on : goal.fill_on-requires-clause-goes_on
fill_on-requires-clause-goes_on g c = let r = c.requires.goes_on in (r.0, (tries_on c.look_on-looked.ensures c.read_on-loaded.ensures).to r.0 r.1)

pub returns : goal.returns
returns g c = tries_on c.look_on-looked.ensures (tries_on c.read_on-loaded.ensures c.fill_on.ensures)
