use Rattle.std.proofs.Common.{Some, sym, ◌∙◌, ap}
use Rattle.capi.specs.Owned.{owner_of, pass_of}
use Rattle.capi.proofs.Ends.{one_more}
use Rattle.capi.proofs.end.take_tree.Goals as goal

pub loop-place-preserved : goal.loop-place-preserved
loop-place-preserved c =
    let is = ap Some (sym c.in-Here.is ∙ c.into_inner.ensures) ∙ c.in-Some-into_box.ensures in
    let more = one_more c.loop-place.yielded c.in-Some.place c.in-Here.own is c.loop-place.passes.items _ _ _ (ap pass_of c.in-Tree.is) (ap owner_of c.in-Tree.is) c.in-Ok.ensures.items c.loop-place.invariant.are in
    record { are = more.0; owner = more.1 }
