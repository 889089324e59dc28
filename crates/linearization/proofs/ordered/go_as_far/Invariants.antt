use Rattle.std.proofs.Common.{◌≡◌, drop, leb}
use Rattle.std.specs.List.{list_any}
use Rattle.record.specs.MapRecord.{number_pairs}
use Rattle.linearization.proofs.ordered.go_as_far.Given as goal

-- what is true of the pairs that are left
abbrev pub invariant-loop-pair : goal.invariant-loop-pair
invariant-loop-pair l = list_any (λ p. leb l.key p.key) (number_pairs l.pairs) ≡ list_any (λ p. leb l.key p.key) (number_pairs (drop l.pair-index l.pairs))
