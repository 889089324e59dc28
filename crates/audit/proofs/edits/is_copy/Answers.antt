use Rattle.std.proofs.Common.{◌≡◌, sym, ◌∙◌, rules}
use Rattle.ordered_map.specs.TreeWords.{class}
use Rattle.ordered_map.proofs.Lemmas.{low_pairs}
use Rattle.audit.specs.Edits.{word_now}
use Rattle.audit.proofs.edits.is_copy.Goals as goal

pub returns-else-not-leaf-clause-copy : goal.returns-else-not-leaf-clause-copy
returns-else-not-leaf-clause-copy c same =
    let f = word_now c.args.judge.now in
    let same_class : class f c.args.one ≡ class f c.args.other = search rules in
    record {
      same_head = search rules;
      same_key = search rules;
      same_pairs = λ leaf low. (search rules, sym (low_pairs f c.args.one (same_class ∙ low)) ∙ c.is_leaf_copy.ensures.pairs same ∙ low_pairs f c.args.other low);
    }
