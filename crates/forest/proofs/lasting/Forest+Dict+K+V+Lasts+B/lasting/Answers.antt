use Rattle.std.proofs.Common.{rules, sym, subst}
use Rattle.histories.specs.Common.{Opened, IsRun}
use Rattle.planting.specs.Plantings.{PlantingView, opening_for}
use Rattle.dict.specs.Typed.{TypedAllows}
use Rattle.dict.specs.Words.{IsWordOf}
use Rattle.forest.proofs.Crowds.{new_in_turns_are_of}
use Rattle.forest.proofs.Passes.{begins_sound}
use Rattle.forest.proofs.lasting.Forest+Dict+K+V+Lasts+B.lasting.Goals as goal

pub with_turns-requires-clause-run : goal.with_turns-requires-clause-run
with_turns-requires-clause-run g c =
    let allows = TypedAllows (IsWordOf g.K.WordKey.is_valid g.K.WordKey.word_of) (IsWordOf g.V.WordValue.is_valid g.V.WordValue.word_of) in
    subst (λ (b : PlantingView). IsRun allows c.in-Ok.layout (Opened (opening_for b))) (sym c.none-planting.ensures) (begins_sound allows c.in-Ok.layout)

pub returns-in-Ok-with_turns-clause-begins : goal.returns-in-Ok-with_turns-clause-begins
returns-in-Ok-with_turns-clause-begins g c = record {
  lay = c.in-Ok.layout;
  is_layout = search rules;
  opens = c.in-Ok-with_turns.ensures.opens;
  empty = search rules;
  tries = c.in-Ok-with_turns.ensures.kept.1;
}

pub returns-in-Ok-with_turns-clause-passes : goal.returns-in-Ok-with_turns-clause-passes
returns-in-Ok-with_turns-clause-passes g c = new_in_turns_are_of _ c.in-Ok-with_turns.opened.0 c.in-Ok-with_turns.opened.1.items c.in-Ok-with_turns.ensures.opens.new
