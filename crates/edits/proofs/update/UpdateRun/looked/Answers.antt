use Rattle.std.proofs.Common.{refl, length}
use Rattle.arena.specs.Machines.{begun_at}
use Rattle.edits.proofs.Nearer.{few_alone, one_more, one_or_full}
use Rattle.edits.proofs.GoingOn.{still_nearer}
use Rattle.edits.proofs.Looking.{is_needed, looked_one_more, pushed}
use Rattle.edits.proofs.update.UpdateRun.looked.Goals as goal

pub returns-clause-nearer : goal.returns-clause-nearer
returns-clause-nearer g c asked nodes = still_nearer g.E.Edit.means c.look.new.self c.args.found.now c.look.result nodes _ _ (c.look.ensures.nearer asked nodes) (one_more _ _ _ _ _ (few_alone g.E.Edit.means g.met.E.Edit.laws.bounds c.args.self.now.edit) (one_or_full c.try_push-fits.result (λ v. length v.items) _ _ c.try_push-fits.ensures.len c.try_push-fits.ensures.err c.try_push-fits.ensures.full))

pub returns-clause-turn : goal.returns-clause-turn
returns-clause-turn g c d b h run try x named is met = c.look.ensures.turn d b h run try (looked_one_more g.E.Edit.means c.args.self.now _ (begun_at d b) h c.args.found.now c.args.snap c.args.snap.node.0 refl refl refl refl
    (pushed c.try_push-fits.result _ (length c.args.self.now.snaps.items) _ (g.met.E.Edit.laws.bounds.few_looks c.args.self.now.edit c.args.found.now c.args.self.now.snaps.items c.args.snap.node named) (few_alone g.E.Edit.means g.met.E.Edit.laws.bounds c.args.self.now.edit) c.try_push-fits.ensures.ok c.try_push-fits.ensures.full) named (g.met.E.Edit.laws.looks.there c.args.self.now.edit (begun_at d b) h c.args.found.now c.args.self.now.snaps.items c.args.snap.node x.begins.run (is_needed g.E.Edit.means c.args.self.now (begun_at d b) h c.args.found.now x) x.looked named) is met x)
