use Rattle.planting.proofs.Laid.{one_more}
use Rattle.planting.proofs.table.store.Goals as goal

pub returns-clause-laid : goal.returns-clause-laid
returns-clause-laid c = one_more c.args.words.now c.apply.new.self c.args.node c.args.part c.args.value c.requires.there c.apply.ensures.after
