use Rattle.std.proofs.Common.{arith, rules}
use Rattle.histories.specs.Common.{field_index_of, side_of, child, state, Store, Exchange, Update, Commit, New, Old}
use Rattle.help.specs.Help.Known.{node_at, settled_load}
use Rattle.help.specs.declared.state.HelpAt.TheVariants.{SetFrozen as AtSetFrozen, New as AtNew, Old as AtOld, Update as AtUpdate, Commit as AtCommit}
use Rattle.straight.specs.StraightHelp.{Helper, HelperMarks, SetsFlag}
use Rattle.straight.specs.CallKinds.{calls}
use Rattle.straight.specs.Inside.{InnerWaits}
use Rattle.straight.specs.Hands.{names}
use Rattle.straight.proofs.StraightHelp.{no_marks, to_old, to_update, to_commit}
use Rattle.straight.proofs.helps.commit.Given.{Over}
use Rattle.straight.proofs.helps.commit.Goals.{After-act_on, After-mark_all, After-read-new, After-read-old, After-act}
use Rattle.straight.proofs.helps.commit.Goals as goal

-- whichever call waited to set the flag, it goes from place to place
at_marks : (g : Over) (c : After-act_on g) (k : Helper g.T.Shape.allows (calls g.S.Shape g.M.Machine g.M.CallMachine.left_dealt (names c.args.hand) c.args.hand.number)) → SetsFlag k c.args.seat.now.me.0.passes c.args.run.now → HelperMarks k c.act_on.new.seat.me.0.passes c.args.run.now 0
at_marks g c k x = no_marks k _ c.args.run.now c.act_on.result (c.act_on.ensures.told k (record c.args.run.now { at = AtSetFrozen }) x)

at_new : (g : Over) (c : After-mark_all g) (k : Helper g.T.Shape.allows (calls g.S.Shape g.M.Machine g.M.CallMachine.left_dealt (names c.args.hand) c.args.hand.number)) → SetsFlag k c.args.seat.now.me.0.passes c.args.run.now → InnerWaits k c.mark_all.new.seat.me.0.passes (record c.args.run.now { at = AtNew }) (settled_load c.args.run.now.scx.0 New)
at_new g c k x = c.mark_all.ensures.to k (at_marks g (goal.at.mark_all-requires-clause-marks g c.before).After-act_on k x)

at_old : (g : Over) (c : After-read-new g) (k : Helper g.T.Shape.allows (calls g.S.Shape g.M.Machine g.M.CallMachine.left_dealt (names c.args.hand) c.args.hand.number)) → SetsFlag k c.args.seat.now.me.0.passes c.args.run.now → InnerWaits k c.read-new.new.seat.me.0.passes (record c.args.run.now { at = AtOld c.read-new.result }) (settled_load c.args.run.now.scx.0 Old)
at_old g c k x = to_old k _ c.args.run.now c.read-new.result (c.read-new.ensures.told k (record c.args.run.now { at = AtNew }) (at_new g (goal.at.read-new-requires-clause-waits g c.before).After-mark_all k x))

at_update : (g : Over) (c : After-read-old g) (k : Helper g.T.Shape.allows (calls g.S.Shape g.M.Machine g.M.CallMachine.left_dealt (names c.args.hand) c.args.hand.number)) → SetsFlag k c.args.seat.now.me.0.passes c.args.run.now → let m = c.args.run.now in InnerWaits k c.read-old.new.seat.me.0.passes (record m { at = AtUpdate }) record { kind = Update; word = child (node_at m.members (field_index_of m.plan.0)) (side_of m.plan.0); access = Exchange c.read-old.result c.read-new.result }
at_update g c k x = to_update k _ c.args.run.now c.read-new.result c.read-old.result (c.read-old.ensures.told k (record c.args.run.now { at = AtOld c.read-new.result }) (at_old g (goal.at.read-old-requires-clause-waits g c.before).After-read-new k x))

at_commit : (g : Over) (c : After-act g) (k : Helper g.T.Shape.allows (calls g.S.Shape g.M.Machine g.M.CallMachine.left_dealt (names c.args.hand) c.args.hand.number)) → (let m = c.args.run.now in InnerWaits k c.read-old.new.seat.me.0.passes (record m { at = AtUpdate }) record { kind = Update; word = child (node_at m.members (field_index_of m.plan.0)) (side_of m.plan.0); access = Exchange c.read-old.result c.read-new.result }) → let m = c.args.run.now in InnerWaits k c.act.new.seat.me.0.passes (record m { at = AtCommit }) record { kind = Commit; word = state m.scx.0; access = Store 1 }
at_commit g c k y = to_commit k _ c.args.run.now c.act.result (c.act.ensures.told k (record c.args.run.now { at = AtUpdate }) (rw (c.index.ensures.value, c.at.ensures, c.side.ensures) y))

pub act_on-requires-clause-waits : goal.act_on-requires-clause-waits
act_on-requires-clause-waits g c = let r = c.requires.waits in (r.0, record c.args.run.now { at = AtSetFrozen }, r.1)

pub mark_all-requires-clause-marks : goal.mark_all-requires-clause-marks
mark_all-requires-clause-marks g c = let r = c.requires.waits in (r.0, at_marks g (goal.at.mark_all-requires-clause-marks g c).After-act_on r.0 r.1)

pub read-new-requires-clause-waits : goal.read-new-requires-clause-waits
read-new-requires-clause-waits g c = let r = c.requires.waits in (r.0, record c.args.run.now { at = AtNew }, at_new g (goal.at.read-new-requires-clause-waits g c).After-mark_all r.0 r.1)

pub read-old-requires-clause-waits : goal.read-old-requires-clause-waits
read-old-requires-clause-waits g c = let r = c.requires.waits in (r.0, record c.args.run.now { at = AtOld c.read-new.result }, at_old g (goal.at.read-old-requires-clause-waits g c).After-read-new r.0 r.1)

pub act-requires-clause-waits : goal.act-requires-clause-waits
act-requires-clause-waits g c = let r = c.requires.waits in (r.0, record c.args.run.now { at = AtUpdate }, rw (c.index.ensures.value, c.at.ensures, c.side.ensures) (at_update g (goal.at.act-requires-clause-waits g c).After-read-old r.0 r.1))

pub act_on-requires-2-clause-waits : goal.act_on-requires-2-clause-waits
act_on-requires-2-clause-waits g c = let r = c.requires.waits in (r.0, record c.args.run.now { at = AtCommit }, at_commit g (goal.at.act_on-requires-2-clause-waits g c).After-act r.0 (at_update g (goal.at.act_on-requires-2-clause-waits g c).After-read-old r.0 r.1))

pub returns : goal.returns
returns g c = record {
  table = search rules;
  to = λ k x. (c.act_on-2.result, c.act_on-2.ensures.told k (record c.args.run.now { at = AtCommit }) (at_commit g (goal.at.returns g c).After-act k (at_update g (goal.at.returns g c).After-read-old k x)));
  steps = (let a = c.act_on.ensures.one in let b = c.mark_all.ensures.steps in let d = c.read-new.ensures.one in let e = c.read-old.ensures.one in let f = c.act.ensures.one in let h = c.act_on-2.ensures.one in omega (arith, a, b, d, e, f, h));
}
