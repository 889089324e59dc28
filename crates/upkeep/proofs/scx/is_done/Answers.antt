use Rattle.upkeep.proofs.scx.is_done.Goals as goal

pub note_done-requires : goal.note_done-requires
note_done-requires g c = let r = c.requires.pass in (r.0, r.1, r.2, c.requires.at, r.3, r.5.held, r.6, r.7 c.if-removed.true)

pub is_done_with-requires-clause-pass : goal.is_done_with-requires-clause-pass
is_done_with-requires-clause-pass g c = let r = c.requires.pass in (r.0, r.1, r.2, r.3, r.4, r.5, r.6)

pub returns-then-removed-clause-looked : goal.returns-then-removed-clause-looked
returns-then-removed-clause-looked g c = c.note_done.ensures.looked

pub returns-else-removed-clause-looked : goal.returns-else-removed-clause-looked
returns-else-removed-clause-looked g c = c.is_done_with.ensures.looked
