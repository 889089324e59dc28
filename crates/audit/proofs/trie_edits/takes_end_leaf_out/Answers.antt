use Rattle.std.proofs.Common.{◌≡◌, ℕ, sym, ◌∙◌, subst, rules}
use Rattle.arena.specs.ScxRecords.{plan, member}
use Rattle.ordered_map.specs.EditPlans.{end_join_plan}
use Rattle.ordered_map.specs.TrieShape.{TakesEndLeafOut}
use Rattle.record.specs.Common.{edit_key, toward}
use Rattle.judge.specs.Histories.{seen_history}
use Rattle.audit.specs.Edits.{edit_begun, word_now}
use Rattle.audit.proofs.ListEdits.{key_of_edit}
use Rattle.audit.proofs.trie_edits.takes_end_leaf_out.Goals as goal

pub returns-then-is_join : goal.returns-then-is_join
returns-then-is_join c is_sibling =
    let h = seen_history c.args.judge.now in
    let f = word_now c.args.judge.now in
    let s = c.args.scx in
    let key : c.args.begun.now.key ≡ edit_key (edit_begun c.args.begun.now) = sym (key_of_edit c.args.begun.now.key c.args.begun.now.value) in
    let plan_is : plan h s ≡ end_join_plan (toward f (member h s 0) c.args.begun.now.key) = search rules in
    let side_is = c.toward-side.ensures ∙ (λ i. toward f (c.member-2.ensures i) (key i)) in
    subst (TakesEndLeafOut h s (edit_begun c.args.begun.now)) side_is
    (record {
      plan = subst (λ (k : ℕ). plan h s ≡ end_join_plan (toward f (member h s 0) k)) key plan_is;
      old = search rules;
      guard = search rules;
      leaf = c.end_leaf_out-leaf.result;
      edit = search rules;
      fields = λ seen. (sym (c.end_leaf_out-leaf.ensures seen), c.is_sibling.ensures is_sibling seen);
      copied = search rules;
    })
