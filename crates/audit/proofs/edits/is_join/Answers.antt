use Rattle.std.proofs.Common.{rules}
use Rattle.ordered_map.specs.Edits.{IsLowLeaf}
use Rattle.audit.specs.Edits.{word_now}
use Rattle.audit.proofs.edits.is_join.Goals as goal

pub returns-then-is_emptied-clause-edit : goal.returns-then-is_emptied-clause-edit
returns-then-is_emptied-clause-edit c is_copy =
    let low : IsLowLeaf (word_now c.args.judge.now) c.args.leaf = search rules in
    record { fork = search rules; leaf = low.leaf; low = low.class; emptied = search rules; copy = search rules }
