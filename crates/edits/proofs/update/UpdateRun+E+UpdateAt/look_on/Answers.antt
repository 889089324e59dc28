use Rattle.histories.specs.Common.{begun_at, Done}
use Rattle.edits.proofs.GoingOn.{still_nearer}
use Rattle.std.proofs.Common.{sym, ◌∙◌, ap}
use Rattle.edits.proofs.Nearer.{below, looked_on, from_look, to_tries}
use Rattle.edits.specs.declared.edit.Look.TheVariants.{At}
use Rattle.edits.proofs.Blaming.{look_failed, look_finalized}
use Rattle.edits.proofs.Looking.{looks_on, can_look, snapped, is_needed}
use Rattle.edits.proofs.Turns.{look_lost}
use Rattle.edits.proofs.update.UpdateRun+E+UpdateAt.look_on.Goals as goal

pub returns-in-Ask-clause-nearer : goal.returns-in-Ask-clause-nearer
returns-in-Ask-clause-nearer g c asked nodes = looked_on _ _ _ _ _ (rw c.in-Ask.is at c.next.ensures.nearer nodes tt)

pub returns-in-Done-Snapshot-clause-nearer : goal.returns-in-Done-Snapshot-clause-nearer
returns-in-Done-Snapshot-clause-nearer g c asked nodes = c.go_on.ensures.nearer nodes _ (still_nearer g.E.Edit.means c.looked-next.new.self c.args.found c.looked-next.result nodes _ _ (c.looked-next.ensures.nearer asked nodes) (from_look _ _ _ _))

pub returns-in-Done-Finalized-clause-nearer : goal.returns-in-Done-Finalized-clause-nearer
returns-in-Done-Finalized-clause-nearer g c asked nodes = below c.lost.result _ _ _ (c.lost.ensures.nearer nodes) (to_tries _ _)

pub returns-in-Done-Fail-clause-nearer : goal.returns-in-Done-Fail-clause-nearer
returns-in-Done-Fail-clause-nearer g c asked nodes = below c.lost-in-Done-Fail.result _ _ _ (c.lost-in-Done-Fail.ensures.nearer nodes) (to_tries _ _)

pub returns-in-Ask-clause-turn : goal.returns-in-Ask-clause-turn
returns-in-Ask-clause-turn g c d b begin h run try x ready = (b, try, tt, looks_on g.E.Edit.means c.args.self.now c.args.llx c.next.new.self c.args.found begin (begun_at d b) h c.next.result x c.next.ensures.same (c.next.ensures.turn (begun_at (begun_at d b) begin) h run ready) c.in-Ask.step c.in-Ask.is)

pub returns-in-Done-Snapshot-clause-turn : goal.returns-in-Done-Snapshot-clause-turn
returns-in-Done-Snapshot-clause-turn g c d b begin h run try x ready =
    let w = c.next.ensures.turn (begun_at (begun_at d b) begin) h run ready in
    let s = snapped g.E.Edit.means c.args.self.now c.args.llx c.next.new.self c.args.found begin (begun_at d b) h c.next.result x c.next.ensures.same w c.in-Done-Snapshot.snap (c.in-Done-Snapshot.is ∙ ap (λ a. Done a) c.in-Done-Snapshot.field-0-is) in
    c.go_on.ensures.turn d h run (c.looked-next.ensures.turn d b h run try (can_look g.E.Edit.means c.args.self.now c.args.llx c.next.new.self c.args.found begin (begun_at d b) h c.next.result x c.next.ensures.same w)
    (rw (← c.in-Done-Snapshot.snap-is) at s.0) (rw (← c.in-Done-Snapshot.snap-is) at s.1) (rw (← c.in-Done-Snapshot.snap-is) at s.2))

pub returns-in-Done-Snapshot-clause-spends : goal.returns-in-Done-Snapshot-clause-spends
returns-in-Done-Snapshot-clause-spends g c asked = c.go_on.ensures.spends c.args.self.now.share _ _ (c.looked-next.ensures.spends asked)

pub returns-in-Done-Finalized-clause-turn : goal.returns-in-Done-Finalized-clause-turn
returns-in-Done-Finalized-clause-turn g c d b begin h run try x ready =
    let w = c.next.ensures.turn (begun_at (begun_at d b) begin) h run ready in
    let can = can_look g.E.Edit.means c.args.self.now c.args.llx c.next.new.self c.args.found begin (begun_at d b) h c.next.result x c.next.ensures.same w in
    let way = look_finalized g.E.Edit.means g.met.E.Edit.laws.looks c.args.self.now.edit (begun_at d b) h c.args.found c.args.self.now.snaps.items x.run (is_needed g.E.Edit.means c.args.self.now (begun_at d b) h c.args.found can) x.looked c.next.new.self begin x.since (x.named ∙ ap At (sym c.next.ensures.same)) c.in-Done-Finalized.node c.in-Done-Finalized.scx x.quiet
    (rw (c.in-Done-Finalized.is ∙ ap (λ a. Done a) c.in-Done-Finalized.field-0-is) at w) in
    let t = look_lost g.E.Edit.means c.args.self.now d b h c.args.found c.in-Done-Finalized.node.0 c.in-Done-Finalized.scx.0 try can way in
    c.lost.ensures.turn d h run t.0 (rw (← c.in-Done-Finalized.node-is, ← c.in-Done-Finalized.scx-is) at t.1)

pub returns-in-Done-Fail-clause-turn : goal.returns-in-Done-Fail-clause-turn
returns-in-Done-Fail-clause-turn g c d b begin h run try x ready =
    let w = c.next.ensures.turn (begun_at (begun_at d b) begin) h run ready in
    let can = can_look g.E.Edit.means c.args.self.now c.args.llx c.next.new.self c.args.found begin (begun_at d b) h c.next.result x c.next.ensures.same w in
    let way = look_failed g.E.Edit.means g.met.E.Edit.laws.looks c.args.self.now.edit (begun_at d b) h c.args.found c.args.self.now.snaps.items x.run (is_needed g.E.Edit.means c.args.self.now (begun_at d b) h c.args.found can) x.looked c.next.new.self begin x.since (x.named ∙ ap At (sym c.next.ensures.same)) c.in-Done-Fail.node c.in-Done-Fail.scx
    (rw (c.in-Done-Fail.is ∙ ap (λ a. Done a) c.in-Done-Fail.field-0-is) at w) in
    let t = look_lost g.E.Edit.means c.args.self.now d b h c.args.found c.in-Done-Fail.node.0 c.in-Done-Fail.scx.0 try can way in
    c.lost-in-Done-Fail.ensures.turn d h run t.0 (rw (← c.in-Done-Fail.node-is, ← c.in-Done-Fail.scx-is) at t.1)
