use Rattle.std.proofs.Common.{sym, ◌∙◌, ap, rules}
use Rattle.record.specs.MapRecord.{number_pairs}
use Rattle.audit.proofs.ListEdits.{same_pairs}
use Rattle.audit.proofs.leaves.is_leaf_copy.Goals as goal

pub returns-then-is_readable-2-clause-pairs : goal.returns-then-is_readable-2-clause-pairs
returns-then-is_readable-2-clause-pairs c same =
    sym c.pairs_of_leaf.ensures.pairs ∙ ap number_pairs (same_pairs c.pairs_of_leaf.result.items c.pairs_of_leaf-then-is_readable-2.result.items (search rules)) ∙ c.pairs_of_leaf-then-is_readable-2.ensures.pairs
