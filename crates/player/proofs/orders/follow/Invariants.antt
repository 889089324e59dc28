use Rattle.std.proofs.Common.{◌≡◌, drop}
use Rattle.player.specs.Followed.{HasFollowed}
use Rattle.player.specs.Player.{PlayerView}
use Rattle.player.proofs.Followed.{IsBetweenOrders}
use Rattle.player.proofs.orders.follow.Given as goal

abbrev pub invariant-loop-order : goal.invariant-loop-order
invariant-loop-order g l = record {
  passes : g.P.Plays.passes l.player ≡ g.P.Plays.passes l.fn.player;
  so_far : (start : _) (p : PlayerView) → g.P.Plays.behind start l.fn.player l.fn.to p → HasFollowed p (IsBetweenOrders p.script.calls l.orders p.lines (drop l.order-index l.orders)) (g.P.Plays.behind start l.player l.to);
}
