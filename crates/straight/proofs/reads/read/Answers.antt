use Rattle.std.proofs.Common.{◌∙◌, ap}
use Rattle.arena.specs.declared.word.SettledPart.TheVariants.{Key}
use Rattle.straight.proofs.reads.read.Goals as goal

pub read_pairs-requires-clause-tries : goal.read_pairs-requires-clause-tries
read_pairs-requires-clause-tries g c = let r = c.requires.tries in (r.0, rw (c.in-Key-First.is ∙ ap Key (rw c.in-Key-First.is at c.in-Key-First.field-0-is)) at r.1)

pub returns-in-Key-First-clause-goes_on : goal.returns-in-Key-First-clause-goes_on
returns-in-Key-First-clause-goes_on g c = rw (c.in-Key-First.is ∙ ap Key (rw c.in-Key-First.is at c.in-Key-First.field-0-is)) c.read_pairs.ensures.goes_on
