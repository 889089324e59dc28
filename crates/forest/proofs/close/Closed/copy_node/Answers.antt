use Rattle.histories.specs.Common.{word_at}
use Rattle.forest.proofs.Copies.{copied_more, copied_word}
use Rattle.forest.proofs.close.Closed.copy_node.Goals as goal

pub loop-number-preserved : goal.loop-number-preserved
loop-number-preserved g c = copied_word (word_at c.args.self.now) c.args.self.now.layout _ _ c.args.node.0 _ c.requires.inside c.loop-number.invariant (rw (← c.map_word.ensures) c.copy.ensures)

pub returns-clause-copied : goal.returns-clause-copied
returns-clause-copied g c = copied_more (word_at c.args.self.now) c.args.self.now.layout _ _ _ c.loop-number-test.false c.loop-number.invariant

pub returns-clause-layout : goal.returns-clause-layout
returns-clause-layout g c = c.loop-number.invariant.layout
