use Rattle.std.proofs.Common.{◌≡◌, ◌≤◌}
use Rattle.player.specs.Followed.{HasFollowed, wanted_of}
use Rattle.player.specs.Player.{PlayerView}
use Rattle.player.proofs.Followed.{IsPartDone}
use Rattle.player.proofs.orders.obey.Given as goal

abbrev pub invariant-loop-order : goal.invariant-loop-order
invariant-loop-order g l = record {
  passes : g.P.Plays.passes l.player ≡ g.P.Plays.passes l.fn.player;
  few : l.left ≤ wanted_of l.order;
  so_far : (start : _) (p : PlayerView) → g.P.Plays.behind start l.fn.player l.fn.to p → HasFollowed p (IsPartDone p.script.calls l.order p.lines l.left) (g.P.Plays.behind start l.player l.to);
}

abbrev pub decreases-loop-order : goal.decreases-loop-order
decreases-loop-order g l = g.P.Plays.left l.player
