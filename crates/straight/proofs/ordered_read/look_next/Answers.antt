use Rattle.std.proofs.Common.{refl}
use Rattle.straight.proofs.StraightReading.{reads_as, reads_on}
use Rattle.straight.proofs.ordered_read.look_next.Goals as goal

pub look_on-requires-clause-waits : goal.look_on-requires-clause-waits
look_on-requires-clause-waits g c = let w = c.requires.waits in (w.0, rw c.in-Look.is at w.1)

pub returns-in-Look : goal.returns-in-Look
returns-in-Look g c = reads_on (reads_as c.in-Look.is) c.look_on.ensures

pub returns-in_default : goal.returns-in_default
returns-in_default g c = reads_as refl
