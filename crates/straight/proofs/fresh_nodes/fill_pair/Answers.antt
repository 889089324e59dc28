use Rattle.std.proofs.Common.{sym}
use Rattle.histories.specs.Common.{Settled, High}
use Rattle.edits.proofs.Lemmas.{value_behind_key}
use Rattle.straight.proofs.StraightTries.{fills_further}
use Rattle.straight.proofs.StraightUpdate.{filled_next}
use Rattle.straight.proofs.fresh_nodes.fill_pair.Goals as goal

pub put-requires-clause-fills : goal.put-requires-clause-fills
put-requires-clause-fills g c = c.requires.fills

pub put-requires-2-clause-fills : goal.put-requires-2-clause-fills
put-requires-2-clause-fills g c = let r = c.requires.fills in (r.0, rw (value_behind_key c.args.node.piece.now c.args.slot c.requires.leaf c.requires.there) at (c.put.ensures.goes_on.to r.0 r.1))

pub fill_high-requires-clause-fills : goal.fill_high-requires-clause-fills
fill_high-requires-clause-fills g c = let r = c.requires.fills in
    (r.0, c.put-2.ensures.goes_on.to r.0 (rw (value_behind_key c.args.node.piece.now c.args.slot c.requires.leaf c.requires.there) at (c.put.ensures.goes_on.to r.0 r.1)))

pub returns-clause-goes_on : goal.returns-clause-goes_on
returns-clause-goes_on g c = fills_further (rw (value_behind_key c.args.node.piece.now c.args.slot c.requires.leaf c.requires.there) at c.put.ensures.goes_on)
    (fills_further c.put-2.ensures.goes_on (rw (sym c.key_behind.ensures) at c.fill_high.ensures))

pub returns-clause-filled : goal.returns-clause-filled
returns-clause-filled g c = filled_next c.args.node.piece.now (Settled (High c.args.slot)) c.key_behind.result c.key_behind.ensures
