use Rattle.std.proofs.Common.{◌≡◌, ℕ, get_or, slice_get, Some, sym, subst, ◌∙◌, below_more, arith}
use Rattle.audit.specs.declared.memory.Snapshot.{Snapshot}
use Rattle.audit.proofs.CellLists.{item_at}
use Rattle.audit.proofs.CellCallFacts.{first_is, all_linked, some_kept, none_kept}
use Rattle.audit.proofs.cells.first_unlinked.Goals as goal

pub returns-then-is_none-clause-first : goal.returns-then-is_none-clause-first
returns-then-is_none-clause-first c = λ lay h linked x.
    let cells = c.args.cells.now in
    let i = c.loop-cell.cell-index in
    let node = c.node-node.result.0 in
    let at : get_or cells i 0 ≡ c.cell-item.result = item_at cells i c.cell-item.result (omega arith) c.cell-item.is in
    let none = none_kept c.snapshot.result _ c.if-is_none.ensures c.snapshot.ensures.none in
    first_is lay h c.args.memory.now linked x cells i node (omega arith) (at ∙ sym c.node-node.ensures.node) (none (omega (arith, c.node-node.ensures.to_eight))) c.loop-cell.invariant

pub loop-cell-preserved : goal.loop-cell-preserved
loop-cell-preserved c =
    let cells = c.args.cells.now in
    let i = c.loop-cell.cell-index in
    let at : get_or cells i 0 ≡ c.cell-item.result = item_at cells i c.cell-item.result (omega arith) c.cell-item.is in
    let there = some_kept c.snapshot.result (λ kept. slice_get c.args.memory.now.snapshots c.node-node.result.0 ≡ Some (Some kept)) c.if-is_none.ensures c.snapshot.ensures.some in
    below_more (λ (j : ℕ). (kept : Snapshot) × (slice_get c.args.memory.now.snapshots (get_or cells j 0) ≡ Some (Some kept))) i c.loop-cell.invariant (subst (λ (n : ℕ). (kept : Snapshot) × (slice_get c.args.memory.now.snapshots n ≡ Some (Some kept))) (c.node-node.ensures.node ∙ sym at) there)

pub returns-clause-none : goal.returns-clause-none
returns-clause-none c = λ lay h linked x. all_linked lay h c.args.memory.now linked x c.args.cells.now (λ j q. c.loop-cell.invariant j (omega (arith, q)))
