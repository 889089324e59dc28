use Rattle.std.proofs.Common.{◌-◌, ◌≤◌, length}
use Rattle.audit.specs.Edits.{edit_begun}
use Rattle.audit.proofs.ListEdits.{StayInFront}
use Rattle.audit.proofs.edits.edited.Given as goal

abbrev pub invariant-loop-at : goal.invariant-loop-at
invariant-loop-at l = (l.at ≤ length l.pairs.items) × StayInFront (edit_begun l.begun) l.pairs.items l.at

abbrev pub decreases-loop-at : goal.decreases-loop-at
decreases-loop-at l = length l.pairs.items - l.at
