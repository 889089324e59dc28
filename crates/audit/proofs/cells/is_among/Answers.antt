use Rattle.std.proofs.Common.{◌≡◌, get_or, sym, ◌∙◌, arith, rules}
use Rattle.audit.proofs.CellLists.{has_at, has_none, item_at}
use Rattle.audit.proofs.cells.is_among.Goals as goal

pub returns-then-eq : goal.returns-then-eq
returns-then-eq c =
    let cells = c.args.cells.now in
    let at : get_or cells c.loop-cell.cell-index 0 ≡ c.cell-item.result = item_at cells c.loop-cell.cell-index c.cell-item.result (omega arith) c.cell-item.is in
    let same : c.node.result.0 ≡ c.args.node.0 = search rules in
    sym (has_at cells c.loop-cell.cell-index c.args.node.0 (omega arith) (at ∙ sym c.node.ensures.node ∙ same))

pub returns : goal.returns
returns c = sym (has_none c.args.cells.now c.args.node.0 (λ i p. c.loop-cell.invariant i (omega arith)))
