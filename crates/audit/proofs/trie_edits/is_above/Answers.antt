use Rattle.std.proofs.Common.{◌≡◌, [], sym, ◌∙◌, ap, rules}
use Rattle.ordered_map.specs.Holding.{held_pairs}
use Rattle.record.specs.Common.{edited, number_pairs, toward}
use Rattle.audit.specs.Edits.{edit_begun, word_now}
use Rattle.audit.proofs.ListEdits.{key_of_edit, same_pairs}
use Rattle.audit.proofs.trie_edits.is_above.Goals as goal

pub returns-then-is_low_leaf-clause-edit : goal.returns-then-is_low_leaf-clause-edit
returns-then-is_low_leaf-clause-edit c same =
    let f = word_now c.args.judge.now in
    let begun = c.args.begun.now in
    let none : c.new.result.items ≡ [] = search rules in
    let made = ap number_pairs (same_pairs c.held.result.items c.edited.result.items (search rules)) in
    let pairs : held_pairs f c.child-leaf.result ≡ edited (edit_begun begun) [] = sym c.held.ensures.pairs ∙ made ∙ c.edited.ensures ∙ ap (λ ps. edited (edit_begun begun) (number_pairs ps)) none in
    let turn = ap (toward f c.args.fork) (key_of_edit begun.key begun.value) ∙ sym c.toward-side.ensures in (
      c.child-leaf.result,
      c.toward-side.result,
      record {
        old_fork = search rules;
        old_low = search rules;
        first = search rules;
        pairs = pairs;
        fork = search rules;
        low = search rules;
        turn = turn;
        leaf = sym c.child-leaf.ensures;
        other = search rules;
      },
    )
