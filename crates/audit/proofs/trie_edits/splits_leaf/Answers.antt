use Rattle.std.proofs.Common.{rules}
use Rattle.judge.specs.Histories.{seen_history}
use Rattle.audit.proofs.ListEdits.{split_leaf_of}
use Rattle.audit.proofs.trie_edits.splits_leaf.Goals as goal

pub returns-then-is_readable-clause-edit : goal.returns-then-is_readable-clause-edit
returns-then-is_readable-clause-edit c is_split = split_leaf_of (seen_history c.args.judge.now) c.args.scx c.args.begun.now.key c.args.begun.now.value (search rules) (search rules) (search rules)
