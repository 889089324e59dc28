use Rattle.std.proofs.Common.{◌∙◌, ap}
use Rattle.order.specs.declared.read.ReadNext.TheVariants.{Load}
use Rattle.straight.proofs.StraightReading.{reads_from, reads_on}
use Rattle.straight.proofs.ordered_read.read_value.Goals as goal

pub load_on-requires-clause-waits : goal.load_on-requires-clause-waits
load_on-requires-clause-waits g c = c.requires.waits

pub load_on-requires-in-Load-High-clause-waits : goal.load_on-requires-in-Load-High-clause-waits
load_on-requires-in-Load-High-clause-waits g c = let w = c.requires.waits in (w.0, rw (c.in-Load-High.is ∙ ap Load (rw c.in-Load-High.is at c.in-Load-High.field-0-is)) at (c.in-Ok.ensures.to w.0 w.1))

pub returns-in-Load-High : goal.returns-in-Load-High
returns-in-Load-High g c = reads_on c.in-Ok.ensures (reads_from (c.in-Load-High.is ∙ ap Load (rw c.in-Load-High.is at c.in-Load-High.field-0-is)) c.load_on-in-Load-High.ensures)

pub returns-in_default : goal.returns-in_default
returns-in_default g c = c.in-Ok.ensures
