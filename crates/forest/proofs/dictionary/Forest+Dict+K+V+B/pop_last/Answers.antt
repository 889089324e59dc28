use Rattle.forest.proofs.dictionary.Forest+Dict+K+V+B.pop_last.Goals as goal

pub returns : goal.returns
returns g c = rw (← c.told_pair.ensures) c.edit.ensures
