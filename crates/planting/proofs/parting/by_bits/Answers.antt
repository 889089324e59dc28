use Rattle.std.proofs.Common.{rules, of_calls, nat_lt}
use Rattle.std.proofs.lemmas.Fn.{always_returns_same}
use Rattle.ordered_map.specs.declared.pair.Pair.{Pair}
use Rattle.ordered_map.specs.OrderedMap.{pair}
use Rattle.planting.proofs.Parts.{point_parts}
use Rattle.planting.proofs.parting.by_bits.Goals as goal

pub returns : goal.returns
returns c =
    let key = c.fork_between-place.result.key in
    point_parts c.args.pairs.now c.partition_point.result key c.fork_between-place.result.level (pair 0 0) c.requires.many c.requires.rising c.partition_point.ensures.bound c.fork_between-place.ensures.rising
    (λ in_order. c.partition_point.ensures.partitioned (λ (p : Pair). nat_lt p.key key) (always_returns_same _ _ _ (λ a r f k. search (rules, of_calls))) in_order)
