use Rattle.straight.proofs.scx.fill.Goals as goal

pub step_from-requires-clause-waits : goal.step_from-requires-clause-waits
step_from-requires-clause-waits g c = let r = c.requires.waits in (r.0.call, r.0.first, r.0.with_run r.1, (r.0.is_layout, r.0.is_number), r.2)
