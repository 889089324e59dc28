use Rattle.straight.proofs.scx.fill_infos.Goals as goal

pub fill_seen-requires-2-clause-waits : goal.fill_seen-requires-2-clause-waits
fill_seen-requires-2-clause-waits g c = let r = c.requires.waits in (r.0, c.in-Some.ensures.next r.0 r.1)

pub fill_seen-requires-3-clause-waits : goal.fill_seen-requires-3-clause-waits
fill_seen-requires-3-clause-waits g c = let r = c.requires.waits in (r.0, c.in-Some-fill_seen.ensures.next r.0 (c.in-Some.ensures.next r.0 r.1))

pub fill_seen-requires-4-clause-waits : goal.fill_seen-requires-4-clause-waits
fill_seen-requires-4-clause-waits g c = let r = c.requires.waits in (r.0, c.in-Some-fill_seen-2.ensures.next r.0 (c.in-Some-fill_seen.ensures.next r.0 (c.in-Some.ensures.next r.0 r.1)))
