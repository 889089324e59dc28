use Rattle.std.proofs.Common.{rules}
use Rattle.judge.specs.Histories.{seen_history}
use Rattle.audit.proofs.ListEdits.{end_leaf_edit_of}
use Rattle.audit.proofs.trie_edits.edits_end_leaf.Goals as goal

pub returns-then-may_edit : goal.returns-then-may_edit
returns-then-may_edit c is_swap = end_leaf_edit_of (seen_history c.args.judge.now) c.args.scx c.args.begun.now.key c.args.begun.now.value (search rules) (search rules) (search rules) (search rules) (search rules)
