use Rattle.std.specs.Prelude.{take}
use Rattle.dict.specs.Translated.{ArePairsOf}
use Rattle.dict.proofs.translation.pairs_of.Given as goal

abbrev pub invariant-loop-both : goal.invariant-loop-both
invariant-loop-both g l = ArePairsOf g.K.WordKey.is_valid g.K.WordKey.word_of g.V.WordValue.is_valid g.V.WordValue.word_of (take l.both-index l.words) l.pairs.items
