use Rattle.std.proofs.Common.{◌≡◌, All, IfSome, Some, map}
use Rattle.std.specs.Arc.{arc_value}
use Rattle.tables.specs.Passes.{Ground}
use Rattle.capi.specs.Ends.{IsIn, held_in, pass_in}
use Rattle.capi.proofs.end_lasting.take_lasting_tree.Given as goal

abbrev pub invariant-loop-place : goal.invariant-loop-place
invariant-loop-place l = record {
  are : map pass_in (held_in l.yielded) ≡ map Some l.passes.items;
  owner : (f : Ground) → All (IsIn f) (held_in l.yielded) → IfSome l.owner (λ a. arc_value a ≡ f);
}
