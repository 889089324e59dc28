use Rattle.ordered_map.proofs.Reading.{IsReading, parts_size}
use Rattle.ordered_map.proofs.reader.leaves.Given as goal

abbrev pub invariant-loop-part : goal.invariant-loop-part
invariant-loop-part l = IsReading l.words l.parts.items l.leaves.items

abbrev pub decreases-loop-part : goal.decreases-loop-part
decreases-loop-part l = parts_size l.parts.items
