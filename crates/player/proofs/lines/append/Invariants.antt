use Rattle.std.proofs.Common.{◌≡◌, ◌≤◌, ◌++◌}
use Rattle.arrayvec.specs.ArrayVec.{array_vec_len}
use Rattle.player.specs.Lines.{room_left}
use Rattle.player.proofs.lines.append.Given as goal

abbrev pub invariant-loop-line : goal.invariant-loop-line
invariant-loop-line l = record {
  lines : l.list.items ++ l.turn.items ≡ l.fn.list.items ++ l.fn.turn.items;
  room : array_vec_len l.turn ≤ room_left l.list;
}

abbrev pub decreases-loop-line : goal.decreases-loop-line
decreases-loop-line l = array_vec_len l.turn
