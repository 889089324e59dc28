use Rattle.std.proofs.Common.{◌≡◌, ◌+◌, length, vec_len}
use Rattle.judge.specs.Graph.{Spreads, HasRoomLeft, KeepsLinks, count_unset}
use Rattle.judge.proofs.Chains.{steps_left}
use Rattle.judge.proofs.graph.Graph.follow.Given as goal

abbrev pub invariant-loop-at : goal.invariant-loop-at
invariant-loop-at l = record {
  spreads : Spreads l.self l.from l.at;
  room : HasRoomLeft l.self;
  count : vec_len l.self.fresh + count_unset l.self.reached.items ≡ vec_len l.fn.self.fresh + count_unset l.fn.self.reached.items;
  size : length l.self.reached.items ≡ length l.fn.self.reached.items;
  keeps : KeepsLinks l.fn.self l.self;
}

abbrev pub decreases-loop-at : goal.decreases-loop-at
decreases-loop-at l = steps_left l.at
