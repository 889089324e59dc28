use Rattle.prims.specs.declared.scx.ScxAt.TheVariants.{Member as AtMember}
use Rattle.straight.specs.StraightScx.{changing_at}
use Rattle.straight.proofs.StraightScx.{next_member, to_seen, behind_some, behind_none, behind_is}
use Rattle.straight.proofs.scx.fill_member.Goals as goal

pub fill-requires-clause-waits : goal.fill-requires-clause-waits
fill-requires-clause-waits g c = let r = c.requires.waits in (r.0, (changing_at (g.L.SnapList.list c.args.snaps.now) c.args.change (AtMember c.args.j)), rw (c.get-wanted.ensures, c.index.ensures.value, c.number.ensures.value) r.1)

pub returns-clause-behind : goal.returns-clause-behind
returns-clause-behind g c = behind_is c.member_behind.result c.args.j _ c.member_behind.ensures.valid c.member_behind.ensures.value

pub returns-clause-next : goal.returns-clause-next
returns-clause-next g c = behind_some c.member_behind.result c.args.j _ c.member_behind.ensures.valid c.member_behind.ensures.value _
    (λ next is within k x. next_member k (g.L.SnapList.list c.args.snaps.now) c.args.change _ c.args.j next c.fill.result is within (c.fill.ensures.told k (changing_at (g.L.SnapList.list c.args.snaps.now) c.args.change (AtMember c.args.j)) (rw (c.get-wanted.ensures, c.index.ensures.value, c.number.ensures.value) x)))

pub returns-clause-last : goal.returns-clause-last
returns-clause-last g c = behind_none c.member_behind.result c.args.j _ c.member_behind.ensures.valid c.member_behind.ensures.value _
    (λ none k x. to_seen k (g.L.SnapList.list c.args.snaps.now) c.args.change _ c.args.j c.fill.result none (c.fill.ensures.told k (changing_at (g.L.SnapList.list c.args.snaps.now) c.args.change (AtMember c.args.j)) (rw (c.get-wanted.ensures, c.index.ensures.value, c.number.ensures.value) x)))
