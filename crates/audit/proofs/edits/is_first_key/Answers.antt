use Rattle.std.proofs.Common.{◌≡◌, ℕ, List, Some, subst, rules}
use Rattle.record.specs.Common.{Pair, first_pair, pair}
use Rattle.audit.proofs.ListEdits.{first_at}
use Rattle.audit.proofs.edits.is_first_key.Goals as goal

pub returns : goal.returns
returns c same = subst (λ (ps : List Pair). (v : ℕ) × (first_pair ps ≡ Some (pair c.args.key v))) c.pairs_of_leaf-pairs.ensures.pairs (first_at c.pairs_of_leaf-pairs.result.items c.args.key (search rules))
