use Rattle.std.proofs.Common.{true, ◌∙◌}
use Rattle.dict.specs.Typed.{TypedAllows}
use Rattle.dict.specs.Words.{IsWordOf}
use Rattle.forest.proofs.LookUps.{rests_then}
use Rattle.forest.proofs.look_up.Forest+Dict+K+V+Lasts+B.look_up_next.Goals as goal

pub loop-init : goal.loop-init
loop-init g c = let x = c.look_at_next.ensures in record { of_forest = x.pass; share = x.share; rested = x.rested }

pub loop-preserved : goal.loop-preserved
loop-preserved g c =
    let inv = c.loop.invariant in
    let x = c.look_at_next-in-loop.ensures in record {
      of_forest = x.pass;
      share = x.share ∙ inv.share;
      rested = rests_then true (TypedAllows (IsWordOf g.K.WordKey.is_valid g.K.WordKey.word_of) (IsWordOf g.V.WordValue.is_valid g.V.WordValue.word_of)) c.args.pass.now c.loop.pass c.look_at_next-in-loop.new.pass inv.share inv.rested x.rested;
    }
