use Rattle.straight.proofs.fresh_nodes.fill_word.Goals as goal

pub put-requires-clause-fresh : goal.put-requires-clause-fresh
put-requires-clause-fresh g c = c.requires.fresh

pub put-requires-clause-value : goal.put-requires-clause-value
put-requires-clause-value g c = c.word-value.ensures

pub put-requires-clause-fills : goal.put-requires-clause-fills
put-requires-clause-fills g c = c.requires.fills
