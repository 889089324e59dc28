use Rattle.std.proofs.Common.{ℕ, refl, ◌∙◌, ap}
use Rattle.arena.specs.declared.word.Side.{Side}
use Rattle.prims.specs.Snaps.{AreDistinct, IsAmong}
use Rattle.script.specs.declared.command.Command.TheVariants.{Scx as ScxCommand}
use Rattle.player.proofs.Begins.{begins_put, distinct_snaps, among_snaps, scx_can_put, scx_linked, scx_unlinked}
use Rattle.player.proofs.client.Client.begin_scx.Goals as goal

pub put-requires-clause-distinct : goal.put-requires-clause-distinct
put-requires-clause-distinct c =
    let x : AreDistinct c.deref.result.now = rw c.deref.ensures.0 (distinct_snaps c.in-Ok.snaps.items c.cells-cells.result.now c.in-Ok.ensures.nodes c.cells-cells.ensures.differ) in
    x

pub put-requires-clause-among : goal.put-requires-clause-among
put-requires-clause-among c =
    let x : IsAmong c.deref.result.now c.node.result.0 = rw (c.deref.ensures.0, c.node.ensures.node) (among_snaps c.in-Ok.snaps.items c.cells-cells.result.now _ c.in-Ok.ensures.nodes (rw c.cells-cells.ensures.cells c.field-cell.ensures.inside)) in
    x

pub returns-in-Err : goal.returns-in-Err
returns-in-Err c v began sound mode r u is =
    (record { pass = refl; number = refl; next = refl }, refl, scx_unlinked v began c.args.self.now c.args.update.now c.in-Err.node r u is (rw c.cells-cells.ensures.cells at c.in-Err.ensures.unkept))

pub returns-in-Ok : goal.returns-in-Ok
returns-in-Ok c v began sound mode r u is =
    begins_put v began c.args.self.now c.put.new.self c.args.update.now c.put.result u is
    (scx_linked v c.args.self.now (ScxCommand c.args.update.now) c.in-Ok.snaps.items _ r c.in-Ok.ensures.kept (c.in-Ok.ensures.nodes ∙ c.cells-cells.ensures.cells))
    (c.put.ensures v v.linked sound (scx_can_put v began c.args.self.now c.args.update.now c.deref.result.now c.deref-in-Ok.result.now (c.node.result, c.field-cell.result.1) c.value.result mode r u is
    (rw c.deref.ensures.0 c.in-Ok.ensures.kept)
    (rw c.deref.ensures.0 (c.in-Ok.ensures.nodes ∙ c.cells-cells.ensures.cells))
    (rw c.deref-in-Ok.ensures.0 (c.nodes-finalize.ensures ∙ c.finalize.ensures.cells))
    (c.node.ensures.node ∙ ap (λ (p : ℕ × Side). p.0) c.field-cell.ensures.field, ap (λ (p : ℕ × Side). p.1) c.field-cell.ensures.field)
    c.value.ensures))
