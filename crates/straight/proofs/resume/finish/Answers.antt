use Rattle.std.proofs.Common.{◌∙◌, Some, arith}
use Rattle.straight.specs.Hosts.{HostedIsTold, HostedStands}
use Rattle.straight.specs.StraightUpdate.{Updater}
use Rattle.tables.specs.Traces.{shared_nodes}
use Rattle.straight.specs.CallKinds.{calls}
use Rattle.straight.specs.Hands.{names}
use Rattle.edits.specs.Steps.{IsNearer, update_left}
use Rattle.straight.proofs.Advances.{weighs}
use Rattle.straight.proofs.Hosts.{told_on}
use Rattle.straight.proofs.StraightUpdate.{ends_nowhere, goes_told, told_fits}
use Rattle.straight.proofs.resume.finish.Given.{Over}
use Rattle.straight.proofs.resume.finish.Goals.{After-step-turn}
use Rattle.straight.proofs.resume.finish.Goals as goal

-- the update gets what its step has found
told : (g : Over) (c : After-step-turn g) (u : Updater (calls g.S.Shape g.M.Machine g.M.CallMachine.left_dealt (names c.args.hand) c.args.hand.number) g.E.Edit.means) → HostedStands u c.args.seat.now.me.0.passes c.args.machine c.args.turn → HostedIsTold u c.step-told.new.seat.me.0.passes c.loop-turn.machine c.step-told.result
told g c u x = c.step-told.ensures.told u.call u.first (u.with_run c.loop-turn.machine) (u.is_layout, u.is_number) (rw c.in-Ask.is at c.loop-turn.invariant.stands u x)

-- it has fewer steps left than before
nearer : (g : Over) (c : After-step-turn g) → IsNearer g.E.Edit.means c.step-turn.new.self (shared_nodes (names c.args.hand)) c.step-turn.result (update_left g.E.Edit.means c.loop-turn.machine (shared_nodes (names c.args.hand)))
nearer g c = let r = c.requires.stands in c.step-turn.ensures.nearer (shared_nodes (names c.args.hand)) (told_fits r.0 _ c.loop-turn.machine c.step-told.result (told g c r.0 r.1))

pub step-told-requires-clause-waits : goal.step-told-requires-clause-waits
step-told-requires-clause-waits g c = let r = c.requires.stands in let u = r.0 in (u.call, u.first, u.with_run c.loop-turn.machine, (u.is_layout, u.is_number), rw c.in-Ask.is at c.loop-turn.invariant.stands u r.1)

pub loop-turn-preserved : goal.loop-turn-preserved
loop-turn-preserved g c = record {
  here = (c.step-told.ensures.table.0 ∙ c.loop-turn.invariant.here.0, c.step-told.ensures.table.1 ∙ c.loop-turn.invariant.here.1, c.step-told.ensures.table.2 ∙ c.loop-turn.invariant.here.2);
  stands = λ u x.
      let t = told g c u x in
      told_on u _ c.loop-turn.machine c.step-turn.new.self (Some c.step-told.result) c.step-turn.result (goes_told u _ c.loop-turn.machine c.step-turn.new.self c.step-told.result c.step-turn.result c.step-turn.ensures.same c.step-turn.ensures.tries c.step-turn.ensures.spends t) (λ h. c.step-turn.ensures.turn u.call h) t;
  steps = (let w = weighs c.step-turn.result _ _ (nearer g c) in let one = c.step-told.ensures.one in let old = rw c.in-Ask.is at c.loop-turn.invariant.steps in omega (arith, w, one, old));
}

pub loop-turn-smaller : goal.loop-turn-smaller
loop-turn-smaller g c = rw c.in-Ask.is (let w = weighs c.step-turn.result _ _ (nearer g c) in omega (arith, w))

pub returns-in-Done : goal.returns-in-Done
returns-in-Done g c = record {
  table = c.loop-turn.invariant.here;
  to = λ u x. ends_nowhere u _ c.loop-turn.machine _ c.placed_at.result c.in-Done.updated c.placed_at.ensures (rw c.in-Done.is at c.loop-turn.invariant.stands u x);
  steps = (let steps = c.loop-turn.invariant.steps in omega (arith, steps));
}
