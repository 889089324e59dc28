use Rattle.std.proofs.Common.{◌≡◌, ℕ, List, [], ◌∷◌, IsSome, is_some, sym, ap, subst, ◌∙◌, rules}
use Rattle.histories.specs.Common.{Layout, History, Extends, entry, member, plan, new, field_index, side_of}
use Rattle.record.specs.Answers.{IsUnchanged}
use Rattle.record.specs.Common.{linked, IsLastLook, start, begin, IsEntryOver}
use Rattle.judge.specs.Histories.{seen_history}
use Rattle.audit.specs.CellCalls.{IsOverCells, IsFreshWith, IsAsLooked}
use Rattle.audit.proofs.CellEntries.{entry_over, call_seen, own_memory}
use Rattle.audit.proofs.cells.is_set_entry.Goals as goal

pub returns-then-is_some : goal.returns-then-is_some
returns-then-is_some c = λ lay calls lines x begun row n side win word t.
    let all = c.args.steps.now in
    let l = all.judge.layout in
    let h = seen_history all.judge in
    let s = c.args.scx.0 in
    let p = c.args.client.now.pass.0 in
    let field = c.args.field.now in
    let memory = c.memory-memory.result in
    let st = start lay.mode lines p in
    let covers : IsOverCells h s c.as_slice.result.now [] = search rules in
    let over : IsOverCells h s (field.0 ∷ []) [] = subst (λ (k : List ℕ). IsOverCells h s k []) (c.as_slice.ensures.cells ∙ c.one-cell.ensures) covers in
    let at : member h s (field_index h s) ≡ field.0 = search rules in
    let on : side_of (plan h s) ≡ field.1 = search rules in
    let fresh : IsFreshWith l p h (new h s) c.args.value = search rules in
    let some : IsSome c.args.client.now.begun = search rules in
    let has_begun : IsSome (begin lines p) = sym (ap is_some begun) ∙ some in
    let is = own_memory lay calls lines all x p memory c.requires c.memory-memory.ensures in
    let looked : IsAsLooked l p h st field.0 = subst (λ (k : ℕ). IsAsLooked l p h st k) c.node.ensures.node (c.is_as_looked.ensures p st (linked calls lay.mode lines p) (call_seen lay calls lines all x p memory is has_begun) t) in
    subst (λ (k : Layout). IsEntryOver k p h (entry k h s n side row.after) (field.0 ∷ []) [] field c.args.value × ((moment : History) × Extends h moment × IsLastLook p h st moment field.0 × IsUnchanged k h moment field.0)) x.steps.layout (entry_over l p h s n side row (field.0 ∷ []) [] field c.args.value win word over at on fresh, (looked.moment, looked.within, looked.look, looked.same))
