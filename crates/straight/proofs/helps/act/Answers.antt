use Rattle.straight.proofs.Inside.{waits_within}
use Rattle.straight.proofs.helps.act.Goals as goal

pub node_start-start-requires-clause-node : goal.node_start-start-requires-clause-node
node_start-start-requires-clause-node g c = let r = c.requires.waits in waits_within r.0 _ g.met.M.Machine.lawful r.1 _ r.2

pub step_from-requires-clause-waits : goal.step_from-requires-clause-waits
step_from-requires-clause-waits g c = let r = c.requires.waits in (r.0.call, r.0.first, r.0.with_run r.1, (r.0.is_layout, r.0.is_number), r.2)
