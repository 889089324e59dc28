use Rattle.std.proofs.Common.{◌≡◌, sym, ◌∙◌, ap, rules}
use Rattle.ordered_map.specs.Edits.{IsLowLeaf}
use Rattle.ordered_map.specs.Holding.{held_pairs}
use Rattle.record.specs.Common.{edited, class, number_pairs}
use Rattle.ordered_map.proofs.Lemmas.{low_pairs}
use Rattle.audit.specs.Edits.{edit_begun, word_now}
use Rattle.audit.proofs.ListEdits.{same_pairs}
use Rattle.audit.proofs.edits.is_swap.Goals as goal

pub returns-clause-edit : goal.returns-clause-edit
returns-clause-edit c same =
    let f = word_now c.args.judge.now in
    let edit = edit_begun c.args.begun.now in
    let low : class f c.args.leaf ≡ 0 = search rules in
    let new : IsLowLeaf f c.args.new = search rules in
    let made = ap number_pairs (same_pairs c.pairs_of_leaf.result.items c.edited.result.items (search rules)) in
    let pairs : held_pairs f c.args.new ≡ edited edit (held_pairs f c.args.leaf) =
    sym (c.pairs_of_leaf.ensures.pairs ∙ low_pairs f c.args.new new.class) ∙ made ∙ c.edited.ensures ∙ ap (edited edit) (c.pairs_of_leaf-2.ensures.pairs ∙ low_pairs f c.args.leaf low) in
    record { leaf = c.requires.leaf; class = low; new = new; pairs = pairs; deep = c.requires.deep }
