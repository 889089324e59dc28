use Rattle.std.proofs.Common.{drop}
use Rattle.record.specs.MapRecord.{number_pairs}
use Rattle.ordered_map.specs.OrderedMap.{AllBelow, AllFrom}
use Rattle.audit.proofs.trie_shape.are_within.Given as goal

-- all are within if those that are left are
abbrev pub invariant-loop-pair : goal.invariant-loop-pair
invariant-loop-pair l =
    (AllFrom l.from (number_pairs (drop l.pair-index l.pairs)) → AllFrom l.from (number_pairs l.pairs))
    × (AllBelow l.to (number_pairs (drop l.pair-index l.pairs)) → AllBelow l.to (number_pairs l.pairs))
