use Rattle.std.proofs.Common.{arith}
use Rattle.capi.specs.Ends.{IsEmpty}
use Rattle.capi.proofs.Ends.{all_more, all_through}
use Rattle.capi.proofs.end.leave_all.Goals as goal

pub loop-place-preserved : goal.loop-place-preserved
loop-place-preserved c =
    all_more IsEmpty c.loop-place.passes c.loop-place.place-index _ (omega (arith, c.loop-place.auto.passes, c.loop-place-test.true)) c.loop-place.invariant c.leave.ensures

pub returns : goal.returns
returns c = all_through IsEmpty c.loop-place.passes c.loop-place.place-index (omega (arith, c.loop-place.auto.passes, c.loop-place-test.false)) c.loop-place.invariant
