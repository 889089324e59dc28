use Rattle.std.proofs.Common.{All, take}
use Rattle.capi.specs.Ends.{IsEmpty, held_in}
use Rattle.capi.proofs.end.leave_all.Given as goal

abbrev pub invariant-loop-place : goal.invariant-loop-place
invariant-loop-place l = All IsEmpty (take l.place-index (held_in l.passes))
