use Rattle.std.proofs.Common.{arith}
use Rattle.straight.proofs.StraightTries.{fills_further, fills_nearer}
use Rattle.straight.proofs.fresh_nodes.fill_leaf.Goals as goal

pub fill-next-requires-clause-fresh : goal.fill-next-requires-clause-fresh
fill-next-requires-clause-fresh g c = c.requires.fresh

pub fill-next-requires-clause-fills : goal.fill-next-requires-clause-fills
fill-next-requires-clause-fills g c = c.requires.fills

pub fill_more-next-requires-clause-fills : goal.fill_more-next-requires-clause-fills
fill_more-next-requires-clause-fills g c = let r = c.requires.fills in (r.0, c.fill-next.ensures.goes_on.to r.0 r.1)

pub fill_pairs-next-requires-clause-fills : goal.fill_pairs-next-requires-clause-fills
fill_pairs-next-requires-clause-fills g c = let r = c.requires.fills in (r.0, (fills_further c.fill-next.ensures.goes_on c.fill_more-next.ensures.goes_on).to r.0 r.1)

pub loop-next-init : goal.loop-next-init
loop-next-init g c = record {
  goes_on = fills_further c.fill-next.ensures.goes_on (fills_further c.fill_more-next.ensures.goes_on c.fill_pairs-next.ensures);
  moves = (let a = c.fill-next.ensures.moves in let b = c.fill_more-next.ensures.goes_on.later in let d = c.fill_pairs-next.ensures.later in omega (arith, a, b, d));
}

pub fill-next-requires-in-Some-clause-fills : goal.fill-next-requires-in-Some-clause-fills
fill-next-requires-in-Some-clause-fills g c = let r = c.requires.fills in (r.0, rw c.in-Some.is at (c.loop-next.invariant.goes_on.to r.0 r.1))

pub loop-next-preserved : goal.loop-next-preserved
loop-next-preserved g c = record {
  goes_on = fills_further (rw c.in-Some.is at c.loop-next.invariant.goes_on) c.fill-next-in-Some.ensures.goes_on;
  moves = (let a = c.loop-next.invariant.moves in let b = c.fill-next-in-Some.ensures.moves in omega (arith, a, b));
}

pub loop-next-smaller : goal.loop-next-smaller
loop-next-smaller g c = rw c.in-Some.is (fills_nearer c.fill-next-in-Some.ensures.goes_on c.fill-next-in-Some.ensures.moves)

pub returns-clause-goes_on : goal.returns-clause-goes_on
returns-clause-goes_on g c = rw c.in_default.is at c.loop-next.invariant.goes_on
