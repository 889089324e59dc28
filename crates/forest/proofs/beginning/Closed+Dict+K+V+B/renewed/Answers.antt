use Rattle.std.proofs.Common.{◌*◌, List, IfErr, map, ◌∙◌, ap, subst}
use Rattle.std.proofs.lemmas.Result.{IfOk-weaker}
use Rattle.histories.specs.Common.{value}
use Rattle.ordered_map.specs.declared.pair.Pair.{Pair}
use Rattle.ordered_map.specs.Replies.{word_pair}
use Rattle.ordered_map.proofs.Lemmas.{one_spelling}
use Rattle.forest.specs.Beginnings.{BeginsWithPairs, IsRefusalOfPairs}
use Rattle.tables.specs.TableRule.{history_of}
use Rattle.forest.proofs.beginning.Closed+Dict+K+V+B.renewed.Goals as goal

pub returns-clause-refused : goal.returns-clause-refused
returns-clause-refused g c = λ lay passes closed m spelled.
    let words = map (word_pair g.K.WordKey.word_of g.V.WordValue.word_of) in
    subst (λ (ps : List Pair). IfErr c.of_pairs.result (IsRefusalOfPairs (g.B.Balance.trie g.B.FixedBalance.the) (c.args.limits.passes * c.args.limits.nodes) ps))
    (ap words c.deref.ensures.value ∙ one_spelling lay (value (history_of closed.planting closed.rows)) (words c.in_ok-pairs.pairs.items) m (c.in_ok-pairs.ensures.pairs lay passes closed) spelled)
    c.of_pairs.ensures.refused

pub returns-clause-begins : goal.returns-clause-begins
returns-clause-begins g c = λ lay passes closed.
    let words = map (word_pair g.K.WordKey.word_of g.V.WordValue.word_of) in
    IfOk-weaker c.of_pairs.result _ _ (λ r begun. (words c.in_ok-pairs.pairs.items, c.in_ok-pairs.ensures.pairs lay passes closed, subst (λ (ps : List Pair). BeginsWithPairs r.0 ps) (ap words c.deref.ensures.value) begun)) c.of_pairs.ensures.begins
