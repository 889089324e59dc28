use Rattle.std.proofs.Common.{◌≡◌, ℕ, None, IsSome, unwrap_or}
use Rattle.std.specs.Ordering.{nat_cmp}
use Rattle.std.specs.BTreeMap.{get}
use Rattle.linearization.proofs.Keys.{HoldOfFirst}
use Rattle.linearization.proofs.places.Places.new.Given as goal

abbrev pub invariant-loop-call : goal.invariant-loop-call
invariant-loop-call l = record {
  none : (key : ℕ) → unwrap_or (get nat_cmp l.newest key) None ≡ None;
  keys : HoldOfFirst (λ key. IsSome (get nat_cmp l.newest key)) l.call-index l.calls;
}
