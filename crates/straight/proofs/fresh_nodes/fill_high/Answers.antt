use Rattle.std.proofs.Common.{◌≡◌, ◌<◌, arith}
use Rattle.histories.specs.Common.{Settled, High}
use Rattle.edits.specs.Pieces.{word_of}
use Rattle.edits.proofs.Lemmas.{high_behind_value, key_behind_value}
use Rattle.straight.proofs.StraightTries.{fills_as}
use Rattle.straight.proofs.fresh_nodes.fill_high.Given.{Over}
use Rattle.straight.proofs.fresh_nodes.fill_high.Goals.{Else-high-eq0, Then-high-eq0}
use Rattle.straight.proofs.fresh_nodes.fill_high.Goals as goal

-- there is no high half to be filled, or there is one
is_none : (g : Over) (c : Then-high-eq0 g) → word_of c.args.node.piece.now (Settled (High c.args.slot)) ≡ 0
is_none g c = let a = c.requires.value in let b = c.if-high-eq0.true in omega (arith, a, b)

is_some : (g : Over) (c : Else-high-eq0 g) → 0 < word_of c.args.node.piece.now (Settled (High c.args.slot))
is_some g c = let a = c.requires.value in let b = c.if-high-eq0.false in omega (arith, a, b)

pub returns-then-high-eq0 : goal.returns-then-high-eq0
returns-then-high-eq0 g c = fills_as (key_behind_value c.args.node.piece.now c.args.slot (is_none g (goal.at.returns-then-high-eq0 g c).Then-high-eq0))

pub put-requires-clause-fills : goal.put-requires-clause-fills
put-requires-clause-fills g c = let r = c.requires.fills in
    (r.0, rw (high_behind_value c.args.node.piece.now c.args.slot (is_some g (goal.at.put-requires-clause-fills g c).Else-high-eq0)) at r.1)

pub returns : goal.returns
returns g c = rw (high_behind_value c.args.node.piece.now c.args.slot (is_some g (goal.at.returns g c).Else-high-eq0)) c.put.ensures.goes_on
