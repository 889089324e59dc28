use Rattle.straight.proofs.StraightReading.{reads_on}
use Rattle.straight.proofs.ordered_read.read_pairs.Goals as goal

pub read_next_pair-requires-2-clause-waits : goal.read_next_pair-requires-2-clause-waits
read_next_pair-requires-2-clause-waits g c = let w = c.requires.waits in (w.0, c.in-Ok.ensures.to w.0 w.1)

pub returns-in-Err-read_next_pair : goal.returns-in-Err-read_next_pair
returns-in-Err-read_next_pair g c = reads_on c.in-Ok.ensures c.in-Err-read_next_pair.ensures

pub read_next_pair-requires-3-clause-waits : goal.read_next_pair-requires-3-clause-waits
read_next_pair-requires-3-clause-waits g c = let w = c.requires.waits in (w.0, (reads_on c.in-Ok.ensures c.in-Ok-read_next_pair.ensures).to w.0 w.1)

pub returns-in-Err-read_next_pair-2 : goal.returns-in-Err-read_next_pair-2
returns-in-Err-read_next_pair-2 g c = reads_on c.in-Ok.ensures (reads_on c.in-Ok-read_next_pair.ensures c.in-Err-read_next_pair-2.ensures)

pub read_next_pair-requires-4-clause-waits : goal.read_next_pair-requires-4-clause-waits
read_next_pair-requires-4-clause-waits g c = let w = c.requires.waits in (w.0, (reads_on c.in-Ok.ensures (reads_on c.in-Ok-read_next_pair.ensures c.in-Ok-read_next_pair-2.ensures)).to w.0 w.1)

pub returns : goal.returns
returns g c = reads_on c.in-Ok.ensures (reads_on c.in-Ok-read_next_pair.ensures (reads_on c.in-Ok-read_next_pair-2.ensures c.read_next_pair-4.ensures))
