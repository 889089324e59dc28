use Rattle.std.proofs.Common.{◌≡◌, ◌++◌, sym, ◌∙◌, ap, rules}
use Rattle.record.specs.Common.{edited, number_pairs}
use Rattle.ordered_map.specs.TreeWords.{leaf_pairs}
use Rattle.audit.specs.Edits.{edit_begun, word_now}
use Rattle.audit.proofs.ListEdits.{IsSplitOfPairs, same_pairs, split_of}
use Rattle.audit.proofs.edits.is_split.Goals as goal

pub returns-then-are_toward-2-clause-edit : goal.returns-then-are_toward-2-clause-edit
returns-then-are_toward-2-clause-edit c same =
    let f = word_now c.args.judge.now in
    let begun = c.args.begun.now in
    let made = ap number_pairs (same_pairs c.joined.result.items c.edited.result.items (search rules)) in
    let pairs : leaf_pairs f c.child-left.result ++ leaf_pairs f c.child-right.result ≡ edited (edit_begun begun) (leaf_pairs f c.args.leaf) =
    sym (c.joined.ensures ∙ (λ i. c.pairs_of_leaf-low.ensures.pairs i ++ c.pairs_of_leaf-high.ensures.pairs i)) ∙ made ∙ c.edited.ensures ∙ ap (edited (edit_begun begun)) c.pairs_of_leaf.ensures.pairs in
    let split : IsSplitOfPairs f (edit_begun begun) c.args.leaf c.args.fork c.child-left.result c.child-right.result = search rules in
    rw (c.child-left.ensures, c.child-right.ensures) at (split_of f begun.key begun.value c.args.leaf c.args.fork c.child-left.result c.child-right.result c.requires.small split)
