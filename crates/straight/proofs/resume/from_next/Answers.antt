use Rattle.std.proofs.Common.{arith, sym, subst, ◌∙◌, ap}
use Rattle.histories.specs.Common.{Layout}
use Rattle.template.specs.declared.walk.Found.{Found}
use Rattle.tables.specs.Traces.{shared_nodes}
use Rattle.straight.specs.StraightUpdate.{Updater, UpdaterGoesOn}
use Rattle.straight.specs.CallKinds.{calls}
use Rattle.straight.specs.Hands.{names}
use Rattle.straight.proofs.StraightUpdate.{goes_there, has_passes, left_standing}
use Rattle.straight.proofs.resume.from_next.Given.{Over}
use Rattle.straight.proofs.resume.from_next.Goals.{After-copied}
use Rattle.tables.proofs.Slotted.{passes_are}
use Rattle.straight.proofs.resume.from_next.Goals as goal

-- with a place again it continues as before
goes_on : (g : Over) (c : After-copied g) (u : Updater (calls g.S.Shape g.M.Machine g.M.CallMachine.left_dealt (names c.args.hand) c.args.hand.number) g.E.Edit.means) → UpdaterGoesOn u c.args.seat.now.me.0.passes c.args.run.now c.args.found.now c.args.next → UpdaterGoesOn u c.args.seat.now.me.0.passes c.take_run-machine.result c.copied.result c.args.next
goes_on g c u x = subst (λ (f : Found). UpdaterGoesOn u c.args.seat.now.me.0.passes c.take_run-machine.result f c.args.next) (sym c.copied.ensures) (goes_there u _ c.args.run.now c.take_run-machine.result c.args.found.now c.args.next c.take_run-machine.ensures x)

pub take_run-machine-requires : goal.take_run-machine-requires
take_run-machine-requires g c = record { some = has_passes c.requires.goes_on.0 _ (passes_are c.args.hand.words.now.table.shared.key ∙ ap (λ (l : Layout). l.passes) (c.requires.table.1).layout) }

pub rest_from_next-updated-requires-clause-goes_on : goal.rest_from_next-updated-requires-clause-goes_on
rest_from_next-updated-requires-clause-goes_on g c = let r = c.requires.goes_on in (r.0, goes_on g (goal.at.rest_from_next-updated-requires-clause-goes_on g c).After-copied r.0 r.1)

pub returns : goal.returns
returns g c = record {
  table = c.rest_from_next-updated.ensures.table;
  to = λ u x. c.rest_from_next-updated.ensures.to u (goes_on g (goal.at.returns g c).After-copied u x);
  steps = (let s = rw c.copied.ensures at c.rest_from_next-updated.ensures.steps in let w = left_standing g.E.Edit.means c.args.run.now c.take_run-machine.result c.args.found.now c.args.next (shared_nodes (names c.args.hand)) c.take_run-machine.ensures in omega (arith, s, w));
}
