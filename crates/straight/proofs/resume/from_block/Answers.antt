use Rattle.std.proofs.Common.{arith, sym, subst, ◌∙◌, ap}
use Rattle.histories.specs.Common.{Layout}
use Rattle.template.specs.declared.walk.Found.{Found}
use Rattle.straight.specs.StraightUpdate.{Updater, UpdaterIsBlocked}
use Rattle.straight.specs.CallKinds.{calls}
use Rattle.straight.specs.Hands.{names}
use Rattle.straight.proofs.StraightUpdate.{blocked_there, has_passes}
use Rattle.straight.proofs.resume.from_block.Given.{Over}
use Rattle.straight.proofs.resume.from_block.Goals.{After-copied}
use Rattle.tables.proofs.Slotted.{passes_are}
use Rattle.straight.proofs.resume.from_block.Goals as goal

-- taken up it waits as before
blocked : (g : Over) (c : After-copied g) (u : Updater (calls g.S.Shape g.M.Machine g.M.CallMachine.left_dealt (names c.args.hand) c.args.hand.number) g.E.Edit.means) → UpdaterIsBlocked u c.args.seat.now.me.0.passes c.args.run.now c.args.found.now c.args.scx c.args.help.now → UpdaterIsBlocked u c.args.seat.now.me.0.passes c.take_run-machine.result c.copied.result c.args.scx c.args.help.now
blocked g c u x = subst (λ (f : Found). UpdaterIsBlocked u c.args.seat.now.me.0.passes c.take_run-machine.result f c.args.scx c.args.help.now) (sym c.copied.ensures) (blocked_there u _ c.args.run.now c.take_run-machine.result c.args.found.now c.args.scx c.args.help.now c.take_run-machine.ensures x)

pub take_run-machine-requires : goal.take_run-machine-requires
take_run-machine-requires g c = record { some = has_passes c.requires.blocked.0 _ (passes_are c.args.hand.words.now.table.shared.key ∙ ap (λ (l : Layout). l.passes) (c.requires.table.1).layout) }

pub rest_from_block-updated-requires-clause-blocked : goal.rest_from_block-updated-requires-clause-blocked
rest_from_block-updated-requires-clause-blocked g c = let r = c.requires.blocked in (r.0, blocked g (goal.at.rest_from_block-updated-requires-clause-blocked g c).After-copied r.0 r.1)

pub returns : goal.returns
returns g c = record {
  table = c.rest_from_block-updated.ensures.table;
  to = λ u x. c.rest_from_block-updated.ensures.to u (blocked g (goal.at.returns g c).After-copied u x);
  steps = (let s = rw c.take_run-machine.ensures at c.rest_from_block-updated.ensures.steps in omega (arith, s));
}
