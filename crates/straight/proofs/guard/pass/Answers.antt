use Rattle.std.proofs.Common.{◌∙◌, refl, sym, subst}
use Rattle.order.specs.LastTurns.{no_turns}
use Rattle.template.specs.Common.{IsPastRoot}
use Rattle.template.specs.Walk.Places.{LoadsHead}
use Rattle.template.specs.Walk.Steps.{room}
use Rattle.histories.specs.Common.{Left, head_of}
use Rattle.edits.specs.declared.update.UpdateRun.{UpdateRun}
use Rattle.straight.specs.CallKinds.{calls}
use Rattle.straight.specs.StraightGuard.{UpdaterWalks}
use Rattle.straight.specs.StraightLlx.{LoadsMark}
use Rattle.straight.specs.StraightUpdate.{Updater, UpdaterBegins}
use Rattle.straight.specs.StraightWalk.{WalkerGoesDown}
use Rattle.tables.specs.Traces.{shared_nodes}
use Rattle.straight.specs.Hands.{names}
use Rattle.straight.proofs.StraightGuard.{guard_looker, guard_steps, guards_again, is_there, left_again, looks_at_guard, passes_guard, rooted, roots, walker}
use Rattle.straight.proofs.guard.pass.Given.{Over}
use Rattle.straight.proofs.guard.pass.Goals.{After-step-head, After-root-root}
use Rattle.straight.proofs.guard.pass.Goals as goal

-- whichever call begins, its guard's mark is what it loads behind the head of the root
looks : (g : Over) (c : After-step-head g) (u : Updater (calls g.S.Shape g.M.Machine g.M.CallMachine.left_dealt (names c.args.hand) c.args.hand.number) g.E.Edit.means) → UpdaterBegins u c.args.seat.now.me.0.passes c.args.run.now → LoadsMark (guard_looker u c.args.run.now c.args.way c.args.goal c.step-head.result) c.step-head.new.seat.me.0.passes record { 0 = 2 }
looks g c u x = looks_at_guard u c.args.run.now c.args.way c.args.goal c.step-head.result _ c.requires.guard
    (c.step-head.ensures.told u.call u.first (u.with_run (rooted u c.args.run.now c.args.way c.args.goal)) (u.is_layout, u.is_number)
    (rw c.load-asked.ensures (roots u c.args.run.now c.args.way c.args.goal _ c.requires.goes.0 c.requires.goes.1 x)))

pub step-head-requires-clause-waits : goal.step-head-requires-clause-waits
step-head-requires-clause-waits g c = let r = c.requires.begins in let u = r.0 in
    (u.call, u.first, u.with_run (rooted u c.args.run.now c.args.way c.args.goal), (u.is_layout, u.is_number), rw c.load-asked.ensures (roots u c.args.run.now c.args.way c.args.goal _ c.requires.goes.0 c.requires.goes.1 r.1))

pub look-requires-clause-waits : goal.look-requires-clause-waits
look-requires-clause-waits g c = let r = c.requires.begins in (guard_looker r.0 c.args.run.now c.args.way c.args.goal c.step-head.result, looks g (goal.at.look-requires-clause-waits g c).After-step-head r.0 r.1)

pub from_place-requires-clause-waits : goal.from_place-requires-clause-waits
from_place-requires-clause-waits g c = let r = c.requires.begins in let u = r.0 in
    (u, rw c.again-at.ensures (guards_again u c.args.run.now c.args.way c.args.goal c.step-head.result _ c.in-Err.marked c.in-Err.scx (c.in-Err.ensures.waits (guard_looker u c.args.run.now c.args.way c.args.goal c.step-head.result) (looks g (goal.at.from_place-requires-clause-waits g c).After-step-head u r.1))))

pub returns-in-Err-clause-ends : goal.returns-in-Err-clause-ends
returns-in-Err-clause-ends g c = record {
  table = (c.from_place.ensures.table.0 ∙ c.look.ensures.table.0 ∙ c.step-head.ensures.table.0, c.from_place.ensures.table.1 ∙ c.look.ensures.table.1 ∙ c.step-head.ensures.table.1, c.from_place.ensures.table.2 ∙ c.look.ensures.table.2 ∙ c.step-head.ensures.table.2);
  to = λ u x. c.from_place.ensures.to u (rw c.again-at.ensures (guards_again u c.args.run.now c.args.way c.args.goal c.step-head.result _ c.in-Err.marked c.in-Err.scx (c.in-Err.ensures.waits (guard_looker u c.args.run.now c.args.way c.args.goal c.step-head.result) (looks g (goal.at.returns-in-Err-clause-ends g c).After-step-head u x))));
  steps = left_again g.E.Edit.means c.args.run.now c.args.way c.args.goal c.step-head.result c.in-Err.marked c.in-Err.scx (shared_nodes (names c.args.hand)) _ _ _ _ c.requires.goes.0 c.requires.guard c.step-head.ensures.one c.look.ensures.steps (rw c.again-at.ensures at c.from_place.ensures.steps);
}

-- and behind its guard it goes down from the root
below : (g : Over) (c : After-root-root g) (u : Updater (calls g.S.Shape g.M.Machine g.M.CallMachine.left_dealt (names c.args.hand) c.args.hand.number) g.E.Edit.means) → LoadsMark (guard_looker u c.args.run.now c.args.way c.args.goal c.step-head.result) c.step-head.new.seat.me.0.passes record { 0 = 2 }
    → WalkerGoesDown (walker u (record c.args.run.now { guard = c.in-Ok.snap })) c.look.new.seat.me.0.passes c.args.way c.args.goal c.root-root.result.trail (head_of c.step-head.result).level Left c.root-root.result.turns
below g c u x = rw c.root-root.ensures (passes_guard u c.args.run.now c.args.way c.args.goal c.step-head.result _ c.in-Ok.snap (c.in-Ok.ensures.snaps (guard_looker u c.args.run.now c.args.way c.args.goal c.step-head.result) x) no_turns)

pub descend-requires-clause-waits : goal.descend-requires-clause-waits
descend-requires-clause-waits g c = let r = c.requires.begins in let at = goal.at.descend-requires-clause-waits g c in (walker r.0 (record c.args.run.now { guard = c.in-Ok.snap }), below g at.After-root-root r.0 (looks g at.After-step-head r.0 r.1))

pub returns-in-Ok-clause-walks : goal.returns-in-Ok-clause-walks
returns-in-Ok-clause-walks g c = record {
  table = (c.descend.ensures.table.0 ∙ c.look.ensures.table.0 ∙ c.step-head.ensures.table.0, c.descend.ensures.table.1 ∙ c.look.ensures.table.1 ∙ c.step-head.ensures.table.1, c.descend.ensures.table.2 ∙ c.look.ensures.table.2 ∙ c.step-head.ensures.table.2);
  to = λ u x.
      let at = goal.at.returns-in-Ok-clause-walks g c in
      let kept : UpdateRun g.row.E.Denot (Unit {0}) = record c.args.run.now { guard = c.in-Ok.snap } in
      subst (λ (m : UpdateRun g.row.E.Denot (Unit {0})). UpdaterWalks u c.descend.new.seat.me.0.passes m c.args.way c.args.goal c.descend.result) (sym c.guarded.ensures)
      (is_there u kept c.args.way c.args.goal _ c.descend.result (subst IsPastRoot (sym c.descend.ensures.below.at) tt) (c.descend.ensures.down (walker u kept) (below g at.After-root-root u (looks g at.After-step-head u x))));
  is = rw c.guarded.ensures refl;
  stands = record { place = subst LoadsHead (sym c.descend.ensures.below.at) tt; begins = c.descend.ensures.below.begins };
  steps = rw c.descend.ensures.below.at (guard_steps (g.E.Edit.means.guard c.args.run.now.edit) _ _ _ _ (room c.args.way (shared_nodes (names c.args.hand))) (head_of c.step-head.result).level (g.E.Edit.means.most_looks c.args.run.now.edit) c.requires.guard c.step-head.ensures.one c.look.ensures.steps c.descend.ensures.one);
}
