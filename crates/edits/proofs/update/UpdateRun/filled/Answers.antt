use Rattle.std.proofs.Common.{sym, ◌∙◌, refl}
use Rattle.arena.specs.Machines.{begun_at}
use Rattle.edits.proofs.Filling.{node_next, scx_next}
use Rattle.edits.proofs.GoingOn.{still_nearer}
use Rattle.edits.proofs.Nearer.{to_next_node, to_scx}
use Rattle.edits.proofs.NodePlaces.{after_next}
use Rattle.edits.proofs.ReadWords.{fills_head}
use Rattle.edits.proofs.Turns.{fills_word}
use Rattle.edits.proofs.update.UpdateRun.filled.Goals as goal

pub returns-in-Some-clause-nearer : goal.returns-in-Some-clause-nearer
returns-in-Some-clause-nearer g c nodes = rw (after_next c.args.self.now.work.need (λ i. g.E.Edit.means.pieces c.args.self.now.edit c.args.found.now c.args.self.now.snaps.items c.args.self.now.nodes c.args.self.now.read i) c.args.nth c.in-Some.after (sym c.behind.ensures ∙ c.in-Some.is)) (to_next_node _ _ _)

pub returns-in-None-clause-nearer : goal.returns-in-None-clause-nearer
returns-in-None-clause-nearer g c nodes = still_nearer g.E.Edit.means c.take_scx.new.self c.args.found.now c.take_scx.result nodes _ _ (c.take_scx.ensures.nearer nodes) (to_scx _ _)

pub returns-in-Some-clause-turn : goal.returns-in-Some-clause-turn
returns-in-Some-clause-turn g c d b h part run try x last =
    let can = fills_head g.E.Edit.means c.args.self.now (begun_at d b) h c.args.found.now c.in-Some.after (node_next g.E.Edit.means c.args.self.now (begun_at d b) h c.args.found.now c.args.nth part x c.in-Some.after last (sym c.behind.ensures ∙ c.in-Some.is)) in
    (b, try, tt, fills_word g.E.Edit.means c.args.self.now c.args.found.now c.in-Some.after _ _ _ _ (begun_at d b) h can refl refl refl)

pub returns-in-None-clause-turn : goal.returns-in-None-clause-turn
returns-in-None-clause-turn g c d b h part run try x last = c.take_scx.ensures.turn d b h run try (scx_next g.E.Edit.means c.args.self.now (begun_at d b) h c.args.found.now c.args.nth part x last (sym c.behind.ensures ∙ c.in-None.is))
