use Rattle.straight.proofs.StraightTries.{fills_as, fills_further}
use Rattle.straight.proofs.fresh_nodes.fill_last_pairs.Goals as goal

pub fill_pair-fourth-requires-clause-fills : goal.fill_pair-fourth-requires-clause-fills
fill_pair-fourth-requires-clause-fills g c = let r = c.requires.fills in (r.0, rw (c.is_pair_next.ensures c.if-not-is_pair_next.false).0 at r.1)

pub fill_pair-requires-clause-fills : goal.fill_pair-requires-clause-fills
fill_pair-requires-clause-fills g c =
    let r = c.requires.fills in
    (r.0, (fills_further (fills_as (c.is_pair_next.ensures c.if-not-is_pair_next.false).0) (fills_further c.fill_pair-fourth.ensures.goes_on (fills_as (c.is_pair_next-2.ensures c.if-not-is_pair_next-2.false).0))).to r.0 r.1)
