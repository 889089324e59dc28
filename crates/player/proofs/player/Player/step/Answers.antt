use Rattle.player.proofs.player.Player.step.Goals as goal

pub returns-clause-turn : goal.returns-clause-turn
returns-clause-turn c = c.in_ok-make.ensures.turn.turn
