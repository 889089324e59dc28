use Rattle.std.proofs.Common.{true}
use Rattle.dict.specs.Typed.{TypedAllows}
use Rattle.dict.specs.Words.{IsWordOf}
use Rattle.forest.proofs.LookUps.{only_rests, rests_then}
use Rattle.forest.proofs.look_up.Forest+Dict+K+V+Lasts+B.look_at_next.Goals as goal

pub returns-in-Some-clause-rested : goal.returns-in-Some-clause-rested
returns-in-Some-clause-rested g c =
    let allows = (TypedAllows (IsWordOf g.K.WordKey.is_valid g.K.WordKey.word_of) (IsWordOf g.V.WordValue.is_valid g.V.WordValue.word_of)) in
    let old = c.args.pass.now in
    let mid = c.next_leaf.new.pass in
    rests_then true allows old mid c.look_up.new.pass c.next_leaf.ensures.share (only_rests true allows old mid c.next_leaf.ensures.rested) c.look_up.ensures.rested

pub returns-in_default-clause-rested : goal.returns-in_default-clause-rested
returns-in_default-clause-rested g c = only_rests true (TypedAllows (IsWordOf g.K.WordKey.is_valid g.K.WordKey.word_of) (IsWordOf g.V.WordValue.is_valid g.V.WordValue.word_of)) c.args.pass.now c.next_leaf.new.pass c.next_leaf.ensures.rested
