use Rattle.std.proofs.Common.{◌≡◌, ℕ, get_or, sym, subst, ◌∙◌, below_more, arith}
use Rattle.record.specs.Answers.{IsAsSnapped}
use Rattle.judge.specs.Histories.{seen_history}
use Rattle.audit.proofs.CellLists.{each_contained, item_at}
use Rattle.audit.proofs.cells.are_unchanged.Goals as goal

pub loop-cell-preserved : goal.loop-cell-preserved
loop-cell-preserved c = λ linked x.
    let cells = c.args.cells.now in
    let at : get_or cells c.loop-cell.cell-index 0 ≡ c.cell-item.result = item_at cells c.loop-cell.cell-index c.cell-item.result (omega arith) c.cell-item.is in
    below_more (λ (i : ℕ). IsAsSnapped c.args.judge.now.layout (seen_history c.args.judge.now) linked (get_or cells i 0)) c.loop-cell.cell-index (c.loop-cell.invariant linked x) (subst (λ (n : ℕ). IsAsSnapped c.args.judge.now.layout (seen_history c.args.judge.now) linked n) (c.node.ensures.node ∙ sym at) (c.is_as_snapped.ensures linked x c.if-not-is_as_snapped.false))

pub returns : goal.returns
returns c = λ linked x t. each_contained (λ (n : ℕ). IsAsSnapped c.args.judge.now.layout (seen_history c.args.judge.now) linked n) c.args.cells.now (λ i p. c.loop-cell.invariant linked x i (omega (arith, p)))
