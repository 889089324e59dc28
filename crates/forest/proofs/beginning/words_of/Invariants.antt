use Rattle.std.specs.Prelude.{◌≡◌, map, take}
use Rattle.std.specs.List.{All}
use Rattle.ordered_map.specs.Replies.{word_pair}
use Rattle.dict.specs.Words.{IsValidPair}
use Rattle.forest.proofs.beginning.words_of.Given as goal

abbrev pub invariant-loop-key : goal.invariant-loop-key
invariant-loop-key g l = record {
  words : l.words.items ≡ map (word_pair g.K.WordKey.word_of g.V.WordValue.word_of) (take l.key-index l.pairs);
  valid : All (IsValidPair g.K.WordKey.is_valid g.V.WordValue.is_valid) (take l.key-index l.pairs);
}
