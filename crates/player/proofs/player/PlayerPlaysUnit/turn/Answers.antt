use Rattle.std.proofs.Common.{arith, ap, refl, subst}
use Rattle.player.specs.Player.{PlayerView}
use Rattle.player.specs.Plays.{TellsTurn}
use Rattle.player.proofs.Followed.{one_more}
use Rattle.player.proofs.player.PlayerPlaysUnit.turn.Goals as goal

pub returns-clause-turned : goal.returns-clause-turned
returns-clause-turned c = λ start p x.
    (c.make.new.self, c.in_ok-make.field-0.0, subst (λ (o : PlayerView). TellsTurn o c.make.new.self c.args.client.0 c.in_ok-make.field-0.0 c.in_ok-make.field-0.1) x c.in_ok-make.ensures.turn, refl)

pub returns-clause-passes : goal.returns-clause-passes
returns-clause-passes c = ap (λ script. script.layout.passes) c.in_ok-make.ensures.turn.turn.script

pub returns-clause-nearer : goal.returns-clause-nearer
returns-clause-nearer c =
    let few = c.make.ensures.few in
    let more = one_more _ _ _ _ c.in_ok-make.ensures.turn.turn in
    omega (arith, few, more)
