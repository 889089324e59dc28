use Rattle.std.proofs.Common.{suc, ◌+◌, ◌≤◌, length, reverse}
use Rattle.record.specs.MapRecord.{number_pairs}
use Rattle.linearization.specs.Ordered.{FallFrom, is_unlike}
use Rattle.linearization.proofs.Chains.{changes_of}
use Rattle.linearization.proofs.Weights.{key_bound, IsWeighing}
use Rattle.linearization.proofs.places.Places.latest_with_pairs.Given as goal

-- `more` counts no more than the places that are passed
abbrev pub invariant-loop-left : goal.invariant-loop-left
invariant-loop-left l = record {
  few : l.more + l.left ≤ length l.self.list.items;
  weighing : l.first ≤ l.last → FallFrom (suc l.last) (changes_of (reverse l.self.list.items)) → IsWeighing (is_unlike l.command (number_pairs l.pairs)) (key_bound (changes_of (reverse l.self.list.items))) l.first l.last l.best l.more l.left (reverse l.self.list.items);
}

abbrev pub decreases-loop-left : goal.decreases-loop-left
decreases-loop-left l = l.left
