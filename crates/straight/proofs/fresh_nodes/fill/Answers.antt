use Rattle.straight.proofs.StraightUpdate.{filled_next}
use Rattle.straight.proofs.fresh_nodes.fill.Goals as goal

pub fill_word-requires-clause-fresh : goal.fill_word-requires-clause-fresh
fill_word-requires-clause-fresh g c = c.requires.fresh

pub fill_word-requires-clause-fills : goal.fill_word-requires-clause-fills
fill_word-requires-clause-fills g c = c.requires.fills

pub returns-clause-goes_on : goal.returns-clause-goes_on
returns-clause-goes_on g c = rw c.behind.ensures c.fill_word.ensures.goes_on

pub returns-clause-filled : goal.returns-clause-filled
returns-clause-filled g c = filled_next c.args.node.piece.now c.args.part c.behind.result c.behind.ensures
