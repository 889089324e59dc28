use Rattle.ordered_map.specs.TreeWords.{leaf_nodes}
use Rattle.ordered_map.proofs.LeafLists.{spells_shows}
use Rattle.ordered_map.proofs.reader.spelled.Goals as goal

pub returns-in-None-clause-none : goal.returns-in-None-clause-none
returns-in-None-clause-none c m x = (rw c.in-None.is at c.in_ok-leaves.ensures.none) (leaf_nodes x.tree) (spells_shows c.args.words.now m x)
