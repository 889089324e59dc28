use Rattle.std.proofs.Common.{◌≡◌, ℕ, List, Some, subst, rules}
use Rattle.ordered_map.specs.declared.pair.Pair.{Pair}
use Rattle.ordered_map.specs.OrderedMap.{last_pair, pair}
use Rattle.audit.proofs.ListEdits.{last_at}
use Rattle.audit.proofs.edits.is_last_key.Goals as goal

pub returns : goal.returns
returns c same = subst (λ (ps : List Pair). (v : ℕ) × (last_pair ps ≡ Some (pair c.args.key v))) c.pairs_of_leaf-pairs.ensures.pairs (last_at c.pairs_of_leaf-pairs.result.items c.args.key (search rules))
