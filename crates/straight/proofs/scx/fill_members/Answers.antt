use Rattle.straight.proofs.scx.fill_members.Goals as goal

pub fill_member-requires-2-clause-waits : goal.fill_member-requires-2-clause-waits
fill_member-requires-2-clause-waits g c = let r = c.requires.waits in (r.0, c.in-Some.ensures.next r.0 r.1)

pub fill_member-requires-3-clause-waits : goal.fill_member-requires-3-clause-waits
fill_member-requires-3-clause-waits g c = let r = c.requires.waits in (r.0, c.in-Some-fill_member.ensures.next r.0 (c.in-Some.ensures.next r.0 r.1))

pub fill_member-requires-4-clause-waits : goal.fill_member-requires-4-clause-waits
fill_member-requires-4-clause-waits g c = let r = c.requires.waits in (r.0, c.in-Some-fill_member-2.ensures.next r.0 (c.in-Some-fill_member.ensures.next r.0 (c.in-Some.ensures.next r.0 r.1)))
