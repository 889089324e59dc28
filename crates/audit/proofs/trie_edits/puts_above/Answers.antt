use Rattle.std.proofs.Common.{rules}
use Rattle.judge.specs.Histories.{seen_history}
use Rattle.audit.proofs.ListEdits.{above_of}
use Rattle.audit.proofs.trie_edits.puts_above.Goals as goal

pub returns-then-is_above-clause-edit : goal.returns-then-is_above-clause-edit
returns-then-is_above-clause-edit c two = above_of (seen_history c.args.judge.now) c.args.scx c.args.begun.now.key c.args.begun.now.value (search rules) (search rules) (search rules)
