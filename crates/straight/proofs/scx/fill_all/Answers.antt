use Rattle.std.proofs.Common.{arith, rules}
use Rattle.arena.specs.declared.number.MemberIndex.TheVariants.{First}
use Rattle.arena.specs.declared.word.ScxWord.TheVariants.{New, Old, Member, Seen, Call as CallWord}
use Rattle.prims.specs.Snap.{snap_at}
use Rattle.prims.specs.declared.scx.ScxAt.TheVariants.{Plan as AtPlan, New as AtNew, Old as AtOld, Member as AtMember, Seen as AtSeen, Call as AtCall}
use Rattle.straight.specs.StraightScx.{Changer, changing_at, scx_fill, FillsPlan}
use Rattle.straight.specs.CallKinds.{calls}
use Rattle.straight.specs.Inside.{InnerWaits}
use Rattle.straight.specs.Hands.{names}
use Rattle.straight.proofs.StraightScx.{to_new, to_old, to_member}
use Rattle.straight.proofs.scx.fill_all.Given.{Over}
use Rattle.straight.proofs.scx.fill_all.Goals.{After-fill, After-fill-2, After-fill-3, After-fill_members, After-fill_infos}
use Rattle.straight.proofs.scx.fill_all.Goals as goal

-- whichever call waited for the fill of the plan, it goes from fill to fill
at_new : (g : Over) (c : After-fill g) (k : Changer g.T.Shape.allows (calls g.S.Shape g.M.Machine g.M.CallMachine.left_dealt (names c.args.hand) c.args.hand.number)) → FillsPlan k c.args.seat.now.me.0.passes (g.L.SnapList.list c.args.snaps.now) c.args.change → InnerWaits k c.fill.new.seat.me.0.passes (changing_at (g.L.SnapList.list c.args.snaps.now) c.args.change AtNew) (scx_fill c.args.change.scx New c.args.change.fresh.0)
at_new g c k x = to_new k (g.L.SnapList.list c.args.snaps.now) c.args.change _ c.fill.result (c.fill.ensures.told k (changing_at (g.L.SnapList.list c.args.snaps.now) c.args.change AtPlan) x)

at_old : (g : Over) (c : After-fill-2 g) (k : Changer g.T.Shape.allows (calls g.S.Shape g.M.Machine g.M.CallMachine.left_dealt (names c.args.hand) c.args.hand.number)) → FillsPlan k c.args.seat.now.me.0.passes (g.L.SnapList.list c.args.snaps.now) c.args.change → InnerWaits k c.fill-2.new.seat.me.0.passes (changing_at (g.L.SnapList.list c.args.snaps.now) c.args.change AtOld) (scx_fill c.args.change.scx Old c.args.change.old.0)
at_old g c k x = to_old k (g.L.SnapList.list c.args.snaps.now) c.args.change _ c.fill-2.result (c.fill-2.ensures.told k (changing_at (g.L.SnapList.list c.args.snaps.now) c.args.change AtNew) (at_new g (goal.at.fill-requires-2-clause-waits g c.before).After-fill k x))

at_member : (g : Over) (c : After-fill-3 g) (k : Changer g.T.Shape.allows (calls g.S.Shape g.M.Machine g.M.CallMachine.left_dealt (names c.args.hand) c.args.hand.number)) → FillsPlan k c.args.seat.now.me.0.passes (g.L.SnapList.list c.args.snaps.now) c.args.change → InnerWaits k c.fill-3.new.seat.me.0.passes (changing_at (g.L.SnapList.list c.args.snaps.now) c.args.change (AtMember First)) (scx_fill c.args.change.scx (Member 0) (snap_at (g.L.SnapList.list c.args.snaps.now) 0).node.0)
at_member g c k x = to_member k (g.L.SnapList.list c.args.snaps.now) c.args.change _ c.fill-3.result (c.fill-3.ensures.told k (changing_at (g.L.SnapList.list c.args.snaps.now) c.args.change AtOld) (at_old g (goal.at.fill-requires-3-clause-waits g c.before).After-fill-2 k x))

at_seen : (g : Over) (c : After-fill_members g) (k : Changer g.T.Shape.allows (calls g.S.Shape g.M.Machine g.M.CallMachine.left_dealt (names c.args.hand) c.args.hand.number)) → FillsPlan k c.args.seat.now.me.0.passes (g.L.SnapList.list c.args.snaps.now) c.args.change → InnerWaits k c.fill_members.new.seat.me.0.passes (changing_at (g.L.SnapList.list c.args.snaps.now) c.args.change (AtSeen First)) (scx_fill c.args.change.scx (Seen 0) (snap_at (g.L.SnapList.list c.args.snaps.now) 0).scx.0)
at_seen g c k x = c.fill_members.ensures.to k (at_member g (goal.at.fill_members-requires-clause-waits g c.before).After-fill-3 k x)

at_call : (g : Over) (c : After-fill_infos g) (k : Changer g.T.Shape.allows (calls g.S.Shape g.M.Machine g.M.CallMachine.left_dealt (names c.args.hand) c.args.hand.number)) → FillsPlan k c.args.seat.now.me.0.passes (g.L.SnapList.list c.args.snaps.now) c.args.change → InnerWaits k c.fill_infos.new.seat.me.0.passes (changing_at (g.L.SnapList.list c.args.snaps.now) c.args.change AtCall) (scx_fill c.args.change.scx CallWord c.args.change.call)
at_call g c k x = c.fill_infos.ensures.to k (at_seen g (goal.at.fill_infos-requires-clause-waits g c.before).After-fill_members k x)

pub fill-requires-clause-waits : goal.fill-requires-clause-waits
fill-requires-clause-waits g c = let r = c.requires.waits in (r.0, (changing_at (g.L.SnapList.list c.args.snaps.now) c.args.change AtPlan), r.1)

pub fill-requires-2-clause-waits : goal.fill-requires-2-clause-waits
fill-requires-2-clause-waits g c = let r = c.requires.waits in (r.0, (changing_at (g.L.SnapList.list c.args.snaps.now) c.args.change AtNew), at_new g (goal.at.fill-requires-2-clause-waits g c).After-fill r.0 r.1)

pub fill-requires-3-clause-waits : goal.fill-requires-3-clause-waits
fill-requires-3-clause-waits g c = let r = c.requires.waits in (r.0, (changing_at (g.L.SnapList.list c.args.snaps.now) c.args.change AtOld), at_old g (goal.at.fill-requires-3-clause-waits g c).After-fill-2 r.0 r.1)

pub fill_members-requires-clause-waits : goal.fill_members-requires-clause-waits
fill_members-requires-clause-waits g c = let r = c.requires.waits in (r.0, at_member g (goal.at.fill_members-requires-clause-waits g c).After-fill-3 r.0 r.1)

pub fill_infos-requires-clause-waits : goal.fill_infos-requires-clause-waits
fill_infos-requires-clause-waits g c = let r = c.requires.waits in (r.0, at_seen g (goal.at.fill_infos-requires-clause-waits g c).After-fill_members r.0 r.1)

pub fill-requires-4-clause-waits : goal.fill-requires-4-clause-waits
fill-requires-4-clause-waits g c = let r = c.requires.waits in (r.0, (changing_at (g.L.SnapList.list c.args.snaps.now) c.args.change AtCall), at_call g (goal.at.fill-requires-4-clause-waits g c).After-fill_infos r.0 r.1)

pub returns : goal.returns
returns g c = record {
  table = search rules;
  to = λ k x. c.fill-4.ensures.told k (changing_at (g.L.SnapList.list c.args.snaps.now) c.args.change AtCall) (at_call g (goal.at.returns g c).After-fill_infos k x);
  steps = (let a = c.fill.ensures.one in let b = c.fill-2.ensures.one in let d = c.fill-3.ensures.one in let e = c.fill_members.ensures.steps in let f = c.fill_infos.ensures.steps in let h = c.fill-4.ensures.one in omega (arith, a, b, d, e, f, h));
}
