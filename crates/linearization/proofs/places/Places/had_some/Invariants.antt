use Rattle.std.proofs.Common.{ℕ, Some, reverse}
use Rattle.linearization.proofs.Chains.{IsLookedFor, places_left}
use Rattle.linearization.proofs.places.Places.had_some.Given as goal

-- so it is of each value
abbrev pub invariant-loop-at : goal.invariant-loop-at
invariant-loop-at l = (v : ℕ) → IsLookedFor l.key (Some v) l.first l.last l.turn l.at (reverse l.self.list.items)

abbrev pub decreases-loop-at : goal.decreases-loop-at
decreases-loop-at l = places_left l.at
