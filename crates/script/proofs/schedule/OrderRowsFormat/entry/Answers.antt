use Rattle.std.proofs.Common.{rules}
use Rattle.script.specs.Orders.{order_row}
use Rattle.script.proofs.Fields.{read_four}
use Rattle.script.proofs.schedule.OrderRowsFormat.entry.Goals as goal

pub returns-clause-row : goal.returns-clause-row
returns-clause-row c =
    read_four order_row _ _ _ _ _ _ (search rules) (search rules) (search rules) (search rules) c.order_of.ensures.row
