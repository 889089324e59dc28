use Rattle.std.proofs.Common.{◌≡◌}
use Rattle.player.specs.Player.{script_view}
use Rattle.exploring.proofs.playing.play_on.Given as goal

abbrev pub invariant-loop-stretch : goal.invariant-loop-stretch
invariant-loop-stretch l = l.player.script ≡ script_view l.script

abbrev pub invariant-loop-client : goal.invariant-loop-client
invariant-loop-client l = l.player.script ≡ script_view l.script
