use Rattle.std.proofs.Common.{◌≡◌, ℕ, None, reverse}
use Rattle.linearization.specs.Links.{latest}
use Rattle.linearization.proofs.Chains.{IsLookedFor, places_left}
use Rattle.linearization.proofs.places.Places.value_from.Given as goal

abbrev pub invariant-loop-at : goal.invariant-loop-at
invariant-loop-at l = (key : ℕ) → l.fn.newest ≡ latest key (reverse l.self.list.items) → IsLookedFor key None l.turn l.turn l.turn l.at (reverse l.self.list.items)

abbrev pub decreases-loop-at : goal.decreases-loop-at
decreases-loop-at l = places_left l.at
