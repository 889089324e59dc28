use Rattle.std.proofs.Common.{◌≡◌, drop}
use Rattle.record.specs.Common.{get, number_pairs}
use Rattle.audit.proofs.leaves.said.Given as goal

-- what the pairs that are left say
abbrev pub invariant-loop-pair : goal.invariant-loop-pair
invariant-loop-pair l = get l.key (number_pairs l.pair-items) ≡ get l.key (number_pairs (drop l.pair-index l.pair-items))
