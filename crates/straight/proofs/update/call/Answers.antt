use Rattle.std.proofs.Common.{◌+◌, ◌*◌, ◌≤◌, ◌∙◌, ap, subst, sym, rules}
use Rattle.template.specs.Walk.Steps.{room}
use Rattle.template.specs.declared.walk.Found.{Found}
use Rattle.edits.specs.Edits.{all_looks}
use Rattle.edits.specs.Next.{left_then}
use Rattle.edits.specs.Steps.{most_works, try_left}
use Rattle.edits.specs.declared.update.UpdateRun.{UpdateRun}
use Rattle.edits.proofs.Lemmas.{weighs_next}
use Rattle.straight.specs.CallKinds.{calls}
use Rattle.straight.specs.Leads.{steps_made}
use Rattle.straight.specs.StraightUpdate.{Updater, UpdaterBegins, UpdaterGoesOn}
use Rattle.straight.specs.StraightWalk.{WalkerFinds}
use Rattle.tables.specs.Traces.{shared_nodes}
use Rattle.straight.specs.Hands.{names}
use Rattle.straight.proofs.StraightGuard.{call_steps, finds, walker, walks_there}
use Rattle.straight.proofs.update.call.Given.{Over}
use Rattle.straight.proofs.update.call.Goals.{After-test_share-next}
use Rattle.straight.proofs.update.call.Goals as goal

-- whichever call began, after its walk it continues as its try does
goes_on : (g : Over) (c : After-test_share-next g) (u : Updater (calls g.S.Shape g.M.Machine g.M.CallMachine.left_dealt (names c.args.hand) c.args.hand.number) g.E.Edit.means) → UpdaterBegins u c.args.seat.now.me.0.passes c.args.run.now → UpdaterGoesOn u c.call_from.new.seat.me.0.passes c.test_share-next.new.self c.copied-found.result c.test_share-next.result
goes_on g c u x =
    let begun = c.in-Ok.ensures.walks in
    finds u _ c.begin.new.run c.test_share-next.new.self c.way-way.result c.goal-goal.result c.call_from.result.1 c.copied-found.result c.test_share-next.result
    (c.way-way.ensures ∙ sym (ap (λ (m : UpdateRun g.row.E.Denot (Unit {0})). g.E.Edit.means.way m.edit) begun.is)) (c.goal-goal.ensures ∙ sym (ap (λ (m : UpdateRun g.row.E.Denot (Unit {0})). g.E.Edit.means.goal m.edit) begun.is))
    c.test_share-next.ensures.same c.test_share-next.ensures.tries c.test_share-next.ensures.spends (λ b h. c.test_share-next.ensures.turn u.call b h)
    (subst (λ (f : Found). WalkerFinds (walker u c.begin.new.run) c.call_from.new.seat.me.0.passes c.way-way.result c.goal-goal.result c.call_from.result.1 f) (sym c.copied-found.ensures)
    (c.call_from.ensures.finds (walker u c.begin.new.run) (walks_there u c.begin.new.run c.way-way.result c.goal-goal.result _ c.in-Ok.first (begun.to u x))))

pub call_from-requires-clause-waits : goal.call_from-requires-clause-waits
call_from-requires-clause-waits g c = let r = c.requires.begins in (walker r.0 c.begin.new.run, walks_there r.0 c.begin.new.run c.way-way.result c.goal-goal.result _ c.in-Ok.first (c.in-Ok.ensures.walks.to r.0 r.1))

pub call_from-requires-clause-stands : goal.call_from-requires-clause-stands
call_from-requires-clause-stands g c = c.in-Ok.ensures.walks.stands

pub try_on-requires-clause-goes_on : goal.try_on-requires-clause-goes_on
try_on-requires-clause-goes_on g c = let r = c.requires.begins in (r.0, goes_on g (goal.at.try_on-requires-clause-goes_on g c).After-test_share-next r.0 r.1)

-- what is left after its walk is as much as where it had not begun
left : (g : Over) (c : After-test_share-next g) → left_then g.E.Edit.means c.test_share-next.new.self c.copied-found.result c.test_share-next.result (shared_nodes (names c.args.hand)) ≤ c.args.run.now.tries * try_left g.E.Edit.means c.args.run.now.edit (shared_nodes (names c.args.hand)) + (64 * g.E.Edit.means.most_looks c.args.run.now.edit + most_works g.E.Edit.means c.args.run.now.edit + 39)
left g c =
    let nodes = shared_nodes (names c.args.hand) in
    subst (λ (m : UpdateRun g.row.E.Denot (Unit {0})). left_then g.E.Edit.means c.test_share-next.new.self c.copied-found.result c.test_share-next.result nodes ≤ m.tries * try_left g.E.Edit.means m.edit nodes + (64 * g.E.Edit.means.most_looks m.edit + most_works g.E.Edit.means m.edit + 39)) c.in-Ok.ensures.walks.is
    (weighs_next g.E.Edit.means c.test_share-next.new.self c.copied-found.result c.test_share-next.result nodes _ (c.test_share-next.ensures.nearer nodes))

pub returns : goal.returns
returns g c =
    let at = (goal.at.returns g c).After-test_share-next in
    let nodes = shared_nodes (names c.args.hand) in
    let run = c.args.run.now in
    record {
      table = search rules;
      to = λ u x. c.try_on.ensures.to u (goes_on g at u x);
      steps = subst (λ way. steps_made c.try_on.new.seat ≤ steps_made c.args.seat.now + (run.tries * try_left g.E.Edit.means run.edit nodes + (3 * (2 + room way nodes) + 5 + (64 * all_looks (g.E.Edit.means.guard run.edit) (g.E.Edit.means.most_looks run.edit) + most_works g.E.Edit.means run.edit + 39)))) c.way-way.ensures
          (call_steps _ _ _ _ _ _ _ _ _ _ _ c.in-Ok.ensures.walks.steps c.call_from.ensures.steps (left g at) c.try_on.ensures.steps);
    }
