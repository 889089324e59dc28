use Rattle.std.proofs.Common.{◌+◌, ◌≤◌, suc, subst}
use Rattle.edits.specs.Steps.{update_left}
use Rattle.edits.specs.declared.update.UpdateAt.{UpdateAt}
use Rattle.edits.specs.declared.update.UpdateRun.{UpdateRun}
use Rattle.straight.specs.Leads.{steps_made}
use Rattle.tables.specs.Traces.{shared_nodes}
use Rattle.straight.specs.Hands.{names}
use Rattle.straight.proofs.resume.rest_from.Goals as goal

pub finish-requires-clause-stands : goal.finish-requires-clause-stands
finish-requires-clause-stands g c = let r = c.requires.waits in (r.0, rw c.placed_at.ensures r.1)

pub returns : goal.returns
returns g c = record {
  table = c.finish.ensures.table;
  to = λ u x. c.finish.ensures.to u (rw c.placed_at.ensures x);
  steps = subst (λ (m : UpdateRun g.row.E.Denot UpdateAt). steps_made c.finish.new.seat ≤ steps_made c.args.seat.now + suc (update_left g.E.Edit.means m (shared_nodes (names c.args.hand)))) c.placed_at.ensures c.finish.ensures.steps;
}
