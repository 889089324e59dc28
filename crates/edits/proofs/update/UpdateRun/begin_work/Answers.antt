use Rattle.std.proofs.Common.{◌≤◌, ◌+◌, ◌∙◌, ap, subst, sym}
use Rattle.arena.specs.Machines.{begun_at}
use Rattle.edits.specs.declared.edit.Work.{Work}
use Rattle.edits.proofs.GoingOn.{taken_before}
use Rattle.edits.proofs.Looking.{same_tries, takes_nodes}
use Rattle.edits.proofs.update.UpdateRun.begin_work.Goals as goal

pub returns-clause-turn : goal.returns-clause-turn
returns-clause-turn g c d b h run try x enough = c.begin_reading.ensures.turn d b h run (same_tries (ap (λ m. m.limit) c.take_nodes.ensures.same) (ap (λ m. m.tries) c.take_nodes.ensures.same) try) (takes_nodes g.E.Edit.means c.args.self.now c.take_nodes.new.self (begun_at d b) h c.args.found.now x enough c.take_nodes.ensures.same c.take_nodes.ensures.taken)

pub returns-clause-spends : goal.returns-clause-spends
returns-clause-spends g c asked =
    let bounds = g.met.E.Edit.laws.bounds in
    let ed = c.args.self.now.edit in
    let few = subst (λ (w : Work). w.need ≤ g.E.Edit.means.most_nodes ed) (sym asked) (bounds.few_nodes ed c.args.found.now) in
    let same = c.begin_reading.ensures.same.0 ∙ ap (λ m. m.edit) c.take_nodes.ensures.same in
    let most = subst (λ e. c.args.self.now.share.nodes ≤ c.take_nodes.new.self.share.nodes + g.E.Edit.means.most_nodes e) (sym same) (c.take_nodes.ensures.spent.0 _ (bounds.some_nodes ed) few) in
    rw (sym (ap (λ m. m.tries) c.take_nodes.ensures.same)) (taken_before g.E.Edit.means c.args.self.now.share c.take_nodes.new.self.share c.begin_reading.new.self c.args.found.now c.begin_reading.result _ _ most c.take_nodes.ensures.spent.1 c.begin_reading.ensures.spends)
