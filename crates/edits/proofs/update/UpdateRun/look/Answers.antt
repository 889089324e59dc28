use Rattle.std.proofs.Common.{◌≡◌, sym, ◌∙◌}
use Rattle.edits.specs.declared.edit.Look.TheVariants.{At}
use Rattle.arena.specs.Machines.{begun_at}
use Rattle.template.proofs.Lemmas.{opened_if_stood}
use Rattle.edits.proofs.Looking.{is_needed}
use Rattle.edits.proofs.Blaming.{look_differs}
use Rattle.edits.proofs.Turns.{look_lost, looks_at}
use Rattle.edits.proofs.Nearer.{less_than, to_look, to_works, to_tries}
use Rattle.edits.proofs.update.UpdateRun.look.Goals as goal

pub returns-in-At-clause-nearer : goal.returns-in-At-clause-nearer
returns-in-At-clause-nearer g c asked nodes = to_look _ _ _ _ (g.met.E.Edit.laws.bounds.few_looks c.args.self.now.edit c.args.found.now c.args.self.now.snaps.items c.in-At.node (rw (sym c.as_slice.ensures.value) (sym c.look.ensures ∙ c.in-At.is)))

pub returns-in-Differs-clause-nearer : goal.returns-in-Differs-clause-nearer
returns-in-Differs-clause-nearer g c asked nodes = to_tries _ _

pub returns-in-Enough-clause-nearer : goal.returns-in-Enough-clause-nearer
returns-in-Enough-clause-nearer g c asked nodes = less_than _ _ _ (c.begin_work.ensures.nearer asked nodes) (to_works _ _ _)

pub returns-in-Differs-clause-turn : goal.returns-in-Differs-clause-turn
returns-in-Differs-clause-turn g c d b h run try x =
    let t = look_lost g.E.Edit.means c.args.self.now d b h c.args.found.now c.in-Differs.node.0 c.in-Differs.scx.0 try x
    (look_differs g.E.Edit.means g.met.E.Edit.laws.looks c.args.self.now.edit (begun_at d b) h c.args.found.now c.args.self.now.snaps.items x.begins.run (is_needed g.E.Edit.means c.args.self.now (begun_at d b) h c.args.found.now x) x.looked c.in-Differs.node c.in-Differs.scx x.quiet
    (rw (sym c.as_slice.ensures.value) (sym c.look.ensures ∙ c.in-Differs.is))) in
    (t.0, t.1)

pub returns-in-At-clause-turn : goal.returns-in-At-clause-turn
returns-in-At-clause-turn g c d b h run try x = (b, try, tt, looks_at g.E.Edit.means c.args.self.now c.args.found.now c.in-At.node (begun_at d b) h run x named (opened_if_stood d.layout h c.in-At.node.0 x.begins.run (g.met.E.Edit.laws.looks.there c.args.self.now.edit (begun_at d b) h c.args.found.now c.args.self.now.snaps.items c.in-At.node x.begins.run (is_needed g.E.Edit.means c.args.self.now (begun_at d b) h c.args.found.now x) x.looked named)))
  where
    named : g.E.Edit.means.looks c.args.self.now.edit c.args.found.now c.args.self.now.snaps.items ≡ At c.in-At.node
    named = rw (sym c.as_slice.ensures.value) (sym c.look.ensures ∙ c.in-At.is)

pub returns-in-Enough-clause-turn : goal.returns-in-Enough-clause-turn
returns-in-Enough-clause-turn g c d b h run try x = c.begin_work.ensures.turn d b h run try x (rw (sym c.as_slice.ensures.value) (sym c.look.ensures ∙ c.in-Enough.is))
