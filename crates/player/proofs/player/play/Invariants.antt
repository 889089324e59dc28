use Rattle.std.proofs.Common.{◌≡◌, map, take, reverse}
use Rattle.record.specs.Turns.{clients}
use Rattle.player.specs.Player.{script_view}
use Rattle.player.proofs.player.play.Given as goal

abbrev pub invariant-loop-turn : goal.invariant-loop-turn
invariant-loop-turn l = record {
  script : l.player.script ≡ script_view l.script;
  turns : clients l.player.lines ≡ reverse (map (λ p. p.0) (take l.turn-index l.turns));
}
