use Rattle.std.proofs.Common.{sym, ap, subst}
use Rattle.histories.specs.Common.{Layout}
use Rattle.tables.specs.Passes.{AreNew, ground}
use Rattle.tables.specs.Slotted.{names_of_table}
use Rattle.forest.proofs.forest.Forest.with_plot.Goals as goal

pub returns-clause-passes : goal.returns-clause-passes
returns-clause-passes g c =
    let shared = c.in_ok-words.words.table.shared in
    subst (λ (l : Layout). AreNew (ground shared.table_id l shared.key.planting c.args.tries) c.in_ok-passes.passes.items) (sym (ap names_of_table c.in_ok-words.ensures.key)) (c.in_ok-passes.ensures c.args.tries)
