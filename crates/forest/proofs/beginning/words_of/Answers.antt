use Rattle.std.proofs.Common.{◌^◌, ℕ, [], ◌∷◌, ◌++◌, map, sym, ◌∙◌, ap, subst, arith}
use Rattle.std.proofs.lemmas.List.{take_all}
use Rattle.ordered_map.specs.OrderedMap.{AllBelow, pair}
use Rattle.ordered_map.specs.Replies.{word_pair}
use Rattle.dict.specs.Typed.{AreTyped}
use Rattle.dict.specs.Words.{IsValidPair, IsWordOf}
use Rattle.forest.proofs.InWords.{words_more, valid_more, words_below, words_typed}
use Rattle.forest.proofs.beginning.words_of.Goals as goal

pub loop-key-preserved : goal.loop-key-preserved
loop-key-preserved g c =
    let item = c.loop-key-item.result in
    let words = c.loop-key.words.items in
    record {
      words = words_more g.K.WordKey.is_valid g.K.WordKey.word_of g.V.WordValue.is_valid g.V.WordValue.word_of c.args.pairs.now c.loop-key.key-index item words c.push.new.self.items (omega (arith, c.loop-key-test.true)) c.loop-key.invariant.words
          (c.in_ok-push.ensures.items ∙ ap (λ (k : ℕ). words ++ pair k c.number_of.result ∷ []) c.word.ensures ∙ ap (λ (v : ℕ). words ++ pair (g.K.WordKey.word_of item.0) v ∷ []) c.number_of.ensures
          ∙ ap (λ q. words ++ word_pair g.K.WordKey.word_of g.V.WordValue.word_of q ∷ []) c.loop-key-item.is);
      valid = valid_more g.K.WordKey.is_valid g.K.WordKey.word_of g.V.WordValue.is_valid g.V.WordValue.word_of c.args.pairs.now c.loop-key.key-index item (omega (arith, c.loop-key-test.true)) c.loop-key.invariant.valid
          (subst (IsValidPair g.K.WordKey.is_valid g.V.WordValue.is_valid) c.loop-key-item.is (c.valid.ensures, c.valid-in-loop-key.ensures));
    }

pub returns-clause-words : goal.returns-clause-words
returns-clause-words g c = c.loop-key.invariant.words ∙ ap (map (word_pair g.K.WordKey.word_of g.V.WordValue.word_of)) (take_all c.loop-key.key-index c.args.pairs.now (omega (arith, c.loop-key-test.false)))

pub returns-clause-keys : goal.returns-clause-keys
returns-clause-keys g c = subst (AllBelow (2 ^ 64)) (sym c.loop-key.invariant.words) (words_below g.K.WordKey.is_valid g.K.WordKey.word_of g.V.WordValue.is_valid g.V.WordValue.word_of g.met.K.WordKey.fits _ c.loop-key.invariant.valid)

pub returns-clause-typed : goal.returns-clause-typed
returns-clause-typed g c = subst (AreTyped (IsWordOf g.K.WordKey.is_valid g.K.WordKey.word_of) (IsWordOf g.V.WordValue.is_valid g.V.WordValue.word_of)) (sym c.loop-key.invariant.words) (words_typed g.K.WordKey.is_valid g.K.WordKey.word_of g.V.WordValue.is_valid g.V.WordValue.word_of _ c.loop-key.invariant.valid)
