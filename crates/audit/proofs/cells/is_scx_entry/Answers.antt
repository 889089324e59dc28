use Rattle.std.proofs.Common.{◌≡◌, ℕ, true, List, sym, subst, rules}
use Rattle.histories.specs.Common.{Layout, has, entry, member, plan, new, field_index, side_of}
use Rattle.record.specs.Common.{update_cells, update_finalize, update_field, update_value, linked, IsEntryOver}
use Rattle.record.specs.Answers.{AreUnchanged}
use Rattle.judge.specs.Histories.{seen_history}
use Rattle.audit.specs.CellCalls.{IsOverCells, IsFreshWith}
use Rattle.audit.proofs.CellEntries.{entry_over, snapshots_seen, own_memory}
use Rattle.audit.proofs.CellLists.{part_has}
use Rattle.audit.proofs.cells.is_scx_entry.Goals as goal

pub is_over-requires : goal.is_over-requires
is_over-requires c = λ n h. subst (λ (cells : List ℕ). has cells n ≡ true) (sym c.cells.ensures.cells) (part_has c.finalize.result.now _ c.finalize.ensures.part n h)

pub returns-then-is_fresh : goal.returns-then-is_fresh
returns-then-is_fresh c = λ lay calls lines x row n side win word t.
    let all = c.args.steps.now in
    let l = all.judge.layout in
    let h = seen_history all.judge in
    let s = c.args.scx.0 in
    let p = c.args.client.now.pass.0 in
    let u = c.args.update.now in
    let memory = c.memory-memory.result in
    let covers : IsOverCells h s c.cells.result.now c.finalize.result.now = search rules in
    let over : IsOverCells h s (update_cells u) (update_finalize u) = subst (λ (k : List ℕ). IsOverCells h s k (update_finalize u)) c.cells.ensures.cells (subst (λ (k : List ℕ). IsOverCells h s c.cells.result.now k) c.finalize.ensures.cells covers) in
    let at : member h s (field_index h s) ≡ (update_field u).0 = search rules in
    let on : side_of (plan h s) ≡ (update_field u).1 = search rules in
    let fresh : IsFreshWith l p h (new h s) (update_value u) = search rules in
    let is = own_memory lay calls lines all x p memory c.requires c.memory-memory.ensures in
    let same = subst (λ (k : List ℕ). AreUnchanged l h (linked calls lay.mode lines p) k) c.cells-then-is_fresh.ensures.cells (c.are_unchanged.ensures (linked calls lay.mode lines p) (snapshots_seen lay calls lines all x p memory is) t) in
    subst (λ (k : Layout). IsEntryOver k p h (entry k h s n side row.after) (update_cells u) (update_finalize u) (update_field u) (update_value u) × AreUnchanged k h (linked calls lay.mode lines p) (update_cells u)) x.steps.layout (entry_over l p h s n side row (update_cells u) (update_finalize u) (update_field u) (update_value u) win word over at on fresh, same)
