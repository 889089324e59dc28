use Rattle.std.proofs.Common.{Bool, subst, sym, ◌∙◌}
use Rattle.dict.specs.Typed.{TypedAllows}
use Rattle.dict.specs.Words.{IsWordOf}
use Rattle.forest.specs.LookUps.{HasRestedIn}
use Rattle.forest.proofs.LookUps.{only_rests, rests_then}
use Rattle.forest.proofs.rests.Forest+Dict+K+V+Lasts+B.rest.Goals as goal

pub returns-then-in_trie-clause-rested : goal.returns-then-in_trie-clause-rested
returns-then-in_trie-clause-rested g c =
    let allows = (TypedAllows (IsWordOf g.K.WordKey.is_valid g.K.WordKey.word_of) (IsWordOf g.V.WordValue.is_valid g.V.WordValue.word_of)) in
    let trie = (g.B.Balance.trie g.B.FixedBalance.the) in
    let old = c.args.pass.now in
    let mid = c.begin_rest.new.pass in
    let looked = c.look_up_next.new.pass in
    let new = c.end_rest.new.pass in
    rests_then trie allows old looked new (c.look_up_next.ensures.share ∙ c.begin_rest.ensures.share)
    (rests_then trie allows old mid looked c.begin_rest.ensures.share (only_rests trie allows old mid c.begin_rest.ensures.rested) (subst (λ (b : Bool). HasRestedIn b allows mid looked) (sym c.if-in_trie.true ∙ c.in_trie.ensures) c.look_up_next.ensures.rested))
    (only_rests trie allows looked new c.end_rest.ensures.rested)

pub returns-clause-rested : goal.returns-clause-rested
returns-clause-rested g c =
    let allows = (TypedAllows (IsWordOf g.K.WordKey.is_valid g.K.WordKey.word_of) (IsWordOf g.V.WordValue.is_valid g.V.WordValue.word_of)) in
    let trie = (g.B.Balance.trie g.B.FixedBalance.the) in
    let old = c.args.pass.now in
    let mid = c.begin_rest.new.pass in
    let new = c.end_rest-2.new.pass in
    rests_then trie allows old mid new c.begin_rest.ensures.share (only_rests trie allows old mid c.begin_rest.ensures.rested) (only_rests trie allows mid new c.end_rest-2.ensures.rested)
