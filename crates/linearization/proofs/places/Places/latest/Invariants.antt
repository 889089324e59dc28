use Rattle.std.proofs.Common.{reverse}
use Rattle.linearization.proofs.Chains.{IsLookedFor, places_left}
use Rattle.linearization.proofs.places.Places.latest.Given as goal

abbrev pub invariant-loop-at : goal.invariant-loop-at
invariant-loop-at l = IsLookedFor l.key l.value l.first l.last l.until l.at (reverse l.self.list.items)

abbrev pub decreases-loop-at : goal.decreases-loop-at
decreases-loop-at l = places_left l.at
