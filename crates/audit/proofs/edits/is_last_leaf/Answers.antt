use Rattle.std.proofs.Common.{◌≡◌, rules}
use Rattle.ordered_map.specs.TreeWords.{class}
use Rattle.audit.specs.Edits.{word_now}
use Rattle.audit.proofs.edits.is_last_leaf.Goals as goal

pub returns-then-class-eq0 : goal.returns-then-class-eq0
returns-then-class-eq0 c counted =
    let low : class (word_now c.args.judge.now) c.args.node ≡ 0 = search rules in
    record { leaf = search rules; same_class = search rules; counted = λ _. search rules; key = λ high. absurd (high low) }

pub returns-else-class-eq0 : goal.returns-else-class-eq0
returns-else-class-eq0 c same = record { leaf = search rules; same_class = search rules; counted = λ low. absurd (search rules); key = λ _. search rules }
