use Rattle.std.proofs.Common.{◌≡◌, true}
use Rattle.dict.specs.Typed.{TypedAllows}
use Rattle.dict.specs.Words.{IsWordOf}
use Rattle.tables.specs.Passes.{IsOf}
use Rattle.forest.specs.LookUps.{HasRestedIn}
use Rattle.forest.proofs.look_up.Forest+Dict+K+V+Lasts+B.look_up_next.Given as goal

abbrev pub invariant-loop : goal.invariant-loop
invariant-loop g l = record {
  of_forest : IsOf l.self l.pass;
  share : l.pass.share ≡ l.fn.pass.share;
  rested : HasRestedIn true (TypedAllows (IsWordOf g.K.WordKey.is_valid g.K.WordKey.word_of) (IsWordOf g.V.WordValue.is_valid g.V.WordValue.word_of)) l.fn.pass l.pass;
}
