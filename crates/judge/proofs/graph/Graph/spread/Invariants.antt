use Rattle.std.proofs.Common.{◌≡◌, ◌+◌, length, vec_len, None}
use Rattle.judge.specs.Graph.{Spreads, HasRoomLeft, KeepsLinks, count_unset}
use Rattle.judge.proofs.graph.Graph.spread.Given as goal

abbrev pub invariant-loop-from : goal.invariant-loop-from
invariant-loop-from l = record {
  sizes : length l.self.newest.items ≡ length l.self.reached.items;
  spreads : Spreads l.self 0 None;
  room : HasRoomLeft l.self;
  size : length l.self.reached.items ≡ length l.fn.self.reached.items;
  keeps : KeepsLinks l.fn.self l.self;
}

abbrev pub decreases-loop-from : goal.decreases-loop-from
decreases-loop-from l = vec_len l.self.fresh + count_unset l.self.reached.items
