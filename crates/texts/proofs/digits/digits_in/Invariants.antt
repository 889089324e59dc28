use Rattle.std.proofs.Common.{◌≡◌, ◌+◌, length, decimal}
use Rattle.texts.proofs.digits.digits_in.Given as goal

abbrev pub invariant-loop-left : goal.invariant-loop-left
invariant-loop-left l = length (decimal l.fn.n) ≡ length (decimal l.left) + l.digits

abbrev pub decreases-loop-left : goal.decreases-loop-left
decreases-loop-left l = l.left
