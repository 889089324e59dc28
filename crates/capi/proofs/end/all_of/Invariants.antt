use Rattle.std.proofs.Common.{◌≡◌, ◌<◌, length, All, MatchOption, take}
use Rattle.tables.specs.Passes.{Ground}
use Rattle.capi.specs.Ends.{IsIn, IsThere, held_in}
use Rattle.capi.specs.Made.{IsHeldOf}
use Rattle.capi.proofs.end.all_of.Given as goal

abbrev pub invariant-loop-place : goal.invariant-loop-place
invariant-loop-place l = record {
  same : held_in l.passes ≡ held_in l.initial.passes;
  held : All IsThere (take l.place-index (held_in l.passes));
  of : (f : Ground) → All (IsIn f) (held_in l.passes) → All (IsHeldOf f) (take l.place-index (held_in l.passes));
  all : MatchOption l.all (l.place-index ≡ 0) (λ n. (0 < length l.passes) × ((f : Ground) → All (IsIn f) (held_in l.passes) → n ≡ f.layout.passes));
}
