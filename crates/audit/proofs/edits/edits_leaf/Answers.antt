use Rattle.std.proofs.Common.{inl, inr, rules}
use Rattle.histories.specs.Common.{Left, Right, child, new}
use Rattle.judge.specs.Histories.{seen_history}
use Rattle.audit.specs.Edits.{word_now}
use Rattle.audit.proofs.ListEdits.{leaf_edit_of}
use Rattle.audit.proofs.edits.edits_leaf.Goals as goal

pub returns-then-is_swap-clause-edit : goal.returns-then-is_swap-clause-edit
returns-then-is_swap-clause-edit c is_swap = leaf_edit_of (seen_history c.args.judge.now) c.args.scx c.args.begun.now.key c.args.begun.now.value (search rules) (search rules) (search rules) (inl (search rules))

pub returns-else-is_swap-clause-edit : goal.returns-else-is_swap-clause-edit
returns-else-is_swap-clause-edit c is_split = leaf_edit_of (seen_history c.args.judge.now) c.args.scx c.args.begun.now.key c.args.begun.now.value (search rules) (search rules) (search rules) (inr (word_now c.args.judge.now (child (new (seen_history c.args.judge.now) c.args.scx) Left), word_now c.args.judge.now (child (new (seen_history c.args.judge.now) c.args.scx) Right), search rules, search rules))
