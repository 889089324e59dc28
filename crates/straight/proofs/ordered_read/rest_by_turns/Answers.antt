use Rattle.std.proofs.Common.{refl}
use Rattle.straight.proofs.StraightReading.{reads_as, reads_end, reads_from, reads_on}
use Rattle.straight.proofs.ordered_read.rest_by_turns.Goals as goal

pub loop-next-init : goal.loop-next-init
loop-next-init g c = record { goes_on = reads_as refl }

pub load_on-requires-clause-waits : goal.load_on-requires-clause-waits
load_on-requires-clause-waits g c = let w = c.requires.waits in (w.0, rw c.in-Load.is at (c.loop-next.invariant.goes_on.to w.0 w.1))

pub look_on-requires-clause-waits : goal.look_on-requires-clause-waits
look_on-requires-clause-waits g c = let w = c.requires.waits in (w.0, rw c.in-Look.is at (c.loop-next.invariant.goes_on.to w.0 w.1))

pub validate_on-requires-clause-waits : goal.validate_on-requires-clause-waits
validate_on-requires-clause-waits g c = let w = c.requires.waits in (w.0, rw c.in-Validate.is at (c.loop-next.invariant.goes_on.to w.0 w.1))

pub leave-requires-clause-stops : goal.leave-requires-clause-stops
leave-requires-clause-stops g c = let w = c.requires.waits in (w.0, (reads_on c.loop-next.invariant.goes_on (reads_from c.in-Load.is c.in-Err.ensures)).to w.0 w.1)

pub leave-requires-in-Err-look_on-clause-stops : goal.leave-requires-in-Err-look_on-clause-stops
leave-requires-in-Err-look_on-clause-stops g c = let w = c.requires.waits in (w.0, (reads_on c.loop-next.invariant.goes_on (reads_from c.in-Look.is c.in-Err-look_on.ensures)).to w.0 w.1)

pub returns-in-Validate : goal.returns-in-Validate
returns-in-Validate g c = reads_end (reads_on c.loop-next.invariant.goes_on (reads_as c.in-Validate.is)) c.validate_on.ensures
