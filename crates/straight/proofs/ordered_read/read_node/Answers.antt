use Rattle.std.proofs.Common.{◌∙◌, ap}
use Rattle.order.specs.declared.read.ReadNext.TheVariants.{Load}
use Rattle.straight.proofs.StraightReading.{reads_from, reads_on}
use Rattle.straight.proofs.ordered_read.read_node.Goals as goal

pub load_on-requires-clause-waits : goal.load_on-requires-clause-waits
load_on-requires-clause-waits g c = c.requires.waits

pub load_on-requires-in-Load-Key-clause-waits : goal.load_on-requires-in-Load-Key-clause-waits
load_on-requires-in-Load-Key-clause-waits g c = let w = c.requires.waits in (w.0, rw (c.in-Load-Key.is ∙ ap Load (rw c.in-Load-Key.is at c.in-Load-Key.field-0-is)) at (c.in-Ok.ensures.to w.0 w.1))

pub returns-in-Load-Key : goal.returns-in-Load-Key
returns-in-Load-Key g c = reads_on c.in-Ok.ensures (reads_from (c.in-Load-Key.is ∙ ap Load (rw c.in-Load-Key.is at c.in-Load-Key.field-0-is)) c.load_on-in-Load-Key.ensures)

pub load_on-requires-in-Load-More-clause-waits : goal.load_on-requires-in-Load-More-clause-waits
load_on-requires-in-Load-More-clause-waits g c = let w = c.requires.waits in (w.0, rw (c.in-Load-More.is ∙ ap Load (rw c.in-Load-More.is at c.in-Load-More.field-0-is)) at (c.in-Ok.ensures.to w.0 w.1))

pub returns-in-Load-More : goal.returns-in-Load-More
returns-in-Load-More g c = reads_on c.in-Ok.ensures (reads_from (c.in-Load-More.is ∙ ap Load (rw c.in-Load-More.is at c.in-Load-More.field-0-is)) c.load_on-in-Load-More.ensures)

pub returns-in_default : goal.returns-in_default
returns-in_default g c = c.in-Ok.ensures
