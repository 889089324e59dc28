use Rattle.std.proofs.Common.{Some, subst, sym, ap, arith, refl}
use Rattle.straight.specs.CallKinds.{calls}
use Rattle.straight.specs.Hosts.{HostedWaits}
use Rattle.straight.specs.StraightUpdate.{Updater, UpdaterFills}
use Rattle.straight.specs.Hands.{names}
use Rattle.histories.specs.Common.{Step, Store, Fill as FillKind, Node as NodeOf}
use Rattle.edits.specs.Pieces.{part_behind}
use Rattle.straight.proofs.StraightUpdate.{fewer_fills_then, fill_as, fill_steps, fills_on, filling}
use Rattle.straight.proofs.fresh_nodes.put.Given.{Over}
use Rattle.straight.proofs.fresh_nodes.put.Goals.{After-at}
use Rattle.straight.proofs.fresh_nodes.put.Goals as goal

-- whichever call it is, it waits for the fill of what the piece says
waits : (g : Over) (c : After-at g) (u : Updater (calls g.S.Shape g.M.Machine g.M.CallMachine.left_dealt (names c.args.hand) c.args.hand.number) g.E.Edit.means) → UpdaterFills u c.args.seat.now.me.0.passes c.args.run.now c.args.node.found.now c.args.node.nth (Some c.args.part) → HostedWaits u c.args.seat.now.me.0.passes (filling u c.args.run.now c.args.node.found.now c.args.node.nth c.args.part) record { kind = FillKind; word = NodeOf c.at.result c.args.part; access = Store c.args.value }
waits g c u x = subst (λ (s : Step). HostedWaits u c.args.seat.now.me.0.passes (filling u c.args.run.now c.args.node.found.now c.args.node.nth c.args.part) s) (fill_as u c.args.run.now c.args.node.found.now c.args.node.nth c.args.part c.args.node.piece.now c.at.result c.args.value c.requires.fresh.1 c.at.ensures c.requires.value) x

pub step_from-requires-clause-waits : goal.step_from-requires-clause-waits
step_from-requires-clause-waits g c = let r = c.requires.fills in let u = r.0 in (u.call, u.first, u.with_run (filling u c.args.run.now c.args.node.found.now c.args.node.nth c.args.part), (u.is_layout, u.is_number), waits g (goal.at.step_from-requires-clause-waits g c).After-at u r.1)

pub returns-clause-goes_on : goal.returns-clause-goes_on
returns-clause-goes_on g c = record {
  table = c.step_from.ensures.table;
  to = λ u x. fills_on u _ c.args.run.now c.args.node.found.now c.args.node.nth c.args.part (part_behind c.args.node.piece.now c.args.part) c.step_from.result g.met.E.Edit.laws.fills (ap (λ p. part_behind p c.args.part) (sym c.requires.fresh.1))
      (c.step_from.ensures.told u.call u.first (u.with_run (filling u c.args.run.now c.args.node.found.now c.args.node.nth c.args.part)) (u.is_layout, u.is_number) (waits g (goal.at.returns-clause-goes_on g c).After-at u x));
  later = (let one = c.step_from.ensures.one in omega (arith, one));
  steps = fill_steps _ _ _ _ c.step_from.ensures.one (fewer_fills_then c.args.node.piece.now c.args.part (part_behind c.args.node.piece.now c.args.part) refl);
}
