use Rattle.std.proofs.Common.{arith, ℕ, List, length, refl, sym, ◌∙◌, ap, Some, None}
use Rattle.record.specs.Common.{Command, asks_map}
use Rattle.player.proofs.Shapes.{of_cells}
use Rattle.player.proofs.Snapshots.{kept_linked}
use Rattle.player.proofs.Begins.{llx_starts, vlx_starts, vlx_unlinked, rests_at, begins_run, some_snaps, as_many_snaps}
use Rattle.player.proofs.client.Client.begin.Goals as goal

pub returns-in-Llx : goal.returns-in-Llx
returns-in-Llx c v began sound some mode r u is =
    begins_run v c.args.self.now c.run.new.self c.args.turn c.run.result
    (c.run.ensures.begins v sound (llx_starts v began _ c.new.result None _ sound (of_cells v.layout.mode (sym (ap (λ (k : Command). asks_map k) c.in-Llx.is) ∙ mode)) (rests_at v c.args.self.now c.args.turn r) u c.new.ensures.start (rw c.new.ensures.node c.node.ensures.to_eight) (is ∙ ap (λ (k : Command). Some k) c.in-Llx.is) (rw c.new.ensures.node c.node.ensures.node)))

pub returns-in-Set : goal.returns-in-Set
returns-in-Set c v began sound some mode r u is =
    begins_run v c.args.self.now c.run-in-Set.new.self c.args.turn c.run-in-Set.result
    (c.run-in-Set.ensures.begins v sound (llx_starts v began _ c.new-in-Set.result _ _ sound (of_cells v.layout.mode (sym (ap (λ (k : Command). asks_map k) c.in-Set.is) ∙ mode)) (rests_at v c.args.self.now c.args.turn r) u c.new-in-Set.ensures.start (rw c.new-in-Set.ensures.node c.node-in-Set.ensures.to_eight) (is ∙ ap (λ (k : Command). Some k) c.in-Set.is) (rw c.new-in-Set.ensures.node (c.node-in-Set.ensures.node, refl, refl))))

pub returns-in-Ok : goal.returns-in-Ok
returns-in-Ok c v began sound some mode r u is =
    let rests = rests_at v c.args.self.now c.args.turn r in
    let items = c.new-in-Ok-2.ensures.snaps ∙ c.new-in-Ok.ensures ∙ c.deref.ensures.0 in
    let none = c.new-in-Ok-2.ensures.asked in
    begins_run v c.args.self.now c.run-in-Ok.new.self c.args.turn c.run-in-Ok.result
    (c.run-in-Ok.ensures.begins v sound (vlx_starts v began _ c.new-in-Ok-2.result c.in-Vlx.cells sound (of_cells v.layout.mode (sym (ap (λ (k : Command). asks_map k) c.in-Vlx.is) ∙ mode)) rests u c.new-in-Ok-2.ensures.asked
    (rw items (some_snaps c.in-Ok.snaps.items c.as_slice.result.now c.in-Ok.ensures.nodes c.as_slice.ensures.some))
    (rw items (c.in-Ok.ensures.nodes ∙ c.as_slice.ensures.cells))
    (rw items (kept_linked v.layout c.args.self.now.pass.0 v.past v.linked c.args.self.now.kept c.in-Ok.snaps.items c.in-Ok.ensures.kept r.stands.kept))
    (is ∙ ap (λ (k : Command). Some k) c.in-Vlx.is)
    (rw (items, none) (omega (arith, as_many_snaps c.in-Ok.snaps.items c.as_slice.result.now c.in-Ok.ensures.nodes ∙ ap (λ (l : List ℕ). length l) c.as_slice.ensures.cells)))))

pub returns-in-Err : goal.returns-in-Err
returns-in-Err c v began sound some mode r u is =
    (record { pass = refl; number = refl; next = refl }, refl, vlx_unlinked v began _ c.in-Vlx.cells c.in-Err.node (rests_at v c.args.self.now c.args.turn r) u (is ∙ ap (λ (k : Command). Some k) c.in-Vlx.is) (rw c.as_slice.ensures.cells at c.in-Err.ensures.unkept))

pub returns-in-Scx : goal.returns-in-Scx
returns-in-Scx c v began sound some mode r u is =
    begins_run v c.args.self.now c.begin_scx.new.self c.args.turn c.begin_scx.result
    (c.begin_scx.ensures v began sound (of_cells v.layout.mode (sym (ap (λ (k : Command). asks_map k) c.in-Scx.is) ∙ mode)) (rests_at v c.args.self.now c.args.turn r) u (is ∙ ap (λ (k : Command). Some k) c.in-Scx.is))

pub returns-in-Map : goal.returns-in-Map
returns-in-Map c v began sound some mode r u is =
    begins_run v c.args.self.now c.begin_request.new.self c.args.turn c.begin_request.result
    (c.begin_request.ensures v began sound some (sym mode ∙ ap (λ (k : Command). asks_map k) c.in-Map.is) (rests_at v c.args.self.now c.args.turn r) u (is ∙ ap (λ (k : Command). Some k) c.in-Map.is))
