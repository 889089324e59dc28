use Rattle.std.proofs.Common.{◌-◌, length}
use Rattle.audit.specs.Edits.{word_now}
use Rattle.audit.proofs.ListEdits.{AreReadTo}
use Rattle.audit.proofs.leaves.held.Given as goal

abbrev pub invariant-loop-next : goal.invariant-loop-next
invariant-loop-next l = AreReadTo (word_now l.judge) l.leaf l.pairs.items l.next

abbrev pub decreases-loop-next : goal.decreases-loop-next
decreases-loop-next l = 4 - length l.pairs.items
