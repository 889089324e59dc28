use Rattle.std.proofs.Common.{◌+◌, ◌≤◌, suc, subst, ◌∙◌, ap}
use Rattle.histories.specs.Common.{Layout}
use Rattle.edits.specs.Next.{standing}
use Rattle.edits.specs.Steps.{update_left}
use Rattle.edits.specs.declared.update.UpdateAt.{UpdateAt}
use Rattle.edits.specs.declared.update.UpdateRun.{UpdateRun}
use Rattle.straight.specs.Leads.{steps_made}
use Rattle.tables.specs.Traces.{shared_nodes}
use Rattle.straight.specs.Hands.{names}
use Rattle.straight.proofs.StraightUpdate.{has_passes}
use Rattle.tables.proofs.Slotted.{passes_are}
use Rattle.straight.proofs.resume.from_place.Goals as goal

pub take_run-machine-requires : goal.take_run-machine-requires
take_run-machine-requires g c = record { some = has_passes c.requires.waits.0 _ (passes_are c.args.hand.words.now.table.shared.key ∙ ap (λ (l : Layout). l.passes) (c.requires.table.1).layout) }

pub rest_from-updated-requires-clause-waits : goal.rest_from-updated-requires-clause-waits
rest_from-updated-requires-clause-waits g c = let r = c.requires.waits in (r.0, rw c.take_run-machine.ensures r.1)

pub returns : goal.returns
returns g c = record {
  table = c.rest_from-updated.ensures.table;
  to = λ u x. c.rest_from-updated.ensures.to u (rw c.take_run-machine.ensures x);
  steps = subst (λ (m : UpdateRun g.row.E.Denot UpdateAt). steps_made c.rest_from-updated.new.seat ≤ steps_made c.args.seat.now + suc (update_left g.E.Edit.means (standing m c.args.at) (shared_nodes (names c.args.hand)))) c.take_run-machine.ensures c.rest_from-updated.ensures.steps;
}
