use Rattle.std.proofs.Common.{sym, subst}
use Rattle.arena.specs.Log.{entry}
use Rattle.record.specs.Common.{Command, IsEntryFor, linked, start}
use Rattle.judge.specs.Histories.{seen_history}
use Rattle.audit.proofs.cells.is_entry_for.Goals as goal

pub returns-in-Scx : goal.returns-in-Scx
returns-in-Scx c = λ lay calls lines x begun row n side win word t.
    let h = seen_history c.args.steps.now.judge in
    let p = c.args.client.now.pass.0 in
    subst (λ (k : Command). IsEntryFor lay p h (start lay.mode lines p) (linked calls lay.mode lines p) (entry lay h c.args.scx.0 n side row.after) k) (sym c.in-Scx.is) (c.is_scx_entry.ensures lay calls lines x row n side win word t)

pub returns-in-Set : goal.returns-in-Set
returns-in-Set c = λ lay calls lines x begun row n side win word t.
    let h = seen_history c.args.steps.now.judge in
    let p = c.args.client.now.pass.0 in
    subst (λ (k : Command). IsEntryFor lay p h (start lay.mode lines p) (linked calls lay.mode lines p) (entry lay h c.args.scx.0 n side row.after) k) (sym c.in-Set.is) (c.is_set_entry.ensures lay calls lines x begun row n side win word t)
