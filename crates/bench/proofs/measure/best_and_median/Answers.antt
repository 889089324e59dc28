use Rattle.std.proofs.Common.{arith, rules}
use Rattle.std.proofs.lemmas.List.Sorted.{IsNonDecreasingBy-from_sort_by_key}
use Rattle.std.proofs.lemmas.Option.{slice_get-get_or}
use Rattle.bench.specs.declared.repetition.Repetition.{Repetition}
use Rattle.bench.proofs.measure.best_and_median.Goals as goal

pub returns-clause-order : goal.returns-clause-order
returns-clause-order c = IsNonDecreasingBy-from_sort_by_key (λ (r : Repetition). r.nanos) _ c.sort_unstable_by_key.ensures.sorted (λ a r q k. search rules)

pub returns-clause-median : goal.returns-clause-median
returns-clause-median c = slice_get-get_or c.sort_unstable_by_key.new.self _ _ (omega arith)
