use Rattle.std.proofs.Common.{◌≡◌, drop}
use Rattle.record.specs.Common.{get, number_pairs}
use Rattle.linearization.proofs.ordered.value_in.Given as goal

-- what the pairs that are left have
abbrev pub invariant-loop-pair : goal.invariant-loop-pair
invariant-loop-pair l = get l.key (number_pairs l.pairs) ≡ get l.key (number_pairs (drop l.pair-index l.pairs))
