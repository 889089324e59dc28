use Rattle.std.proofs.Common.{◌≡◌, ◌+◌, ◌≤◌}
use Rattle.straight.specs.StraightWalk.{Walker, WalkerHasHead}
use Rattle.tables.specs.Traces.{kept_of, seat_steps, shared_nodes}
use Rattle.straight.specs.CallKinds.{calls}
use Rattle.straight.specs.Hands.{hand_slots, names}
use Rattle.tables.specs.Slotted.{node_begins}
use Rattle.template.specs.Common.{walk_left}
use Rattle.template.specs.Walk.Places.{LoadsHead}
use Rattle.template.specs.Walk.Steps.{room}
use Rattle.straight.proofs.walk.descend_by_keys.Given as goal

abbrev pub invariant-loop-way : goal.invariant-loop-way
invariant-loop-way g l = record {
  here : (l.seat.table_id ≡ l.fn.seat.table_id) × (l.seat.me.1 ≡ l.fn.seat.me.1) × (kept_of l.seat.me.0.passes ≡ kept_of l.fn.seat.me.0.passes);
  loads : LoadsHead l.place.at;
  start : l.place.start ≡ node_begins (hand_slots l.fn.hand) l.place.trail.node;
  nearer : walk_left l.place.at (room l.way (shared_nodes (names l.fn.hand))) ≤ walk_left l.fn.first.at (room l.way (shared_nodes (names l.fn.hand)));
  steps : seat_steps l.seat.me.0.passes + walk_left l.place.at (room l.way (shared_nodes (names l.fn.hand))) ≤ seat_steps l.fn.seat.me.0.passes + walk_left l.fn.first.at (room l.way (shared_nodes (names l.fn.hand)));
  told : (w : Walker (calls g.S.Shape g.M.Machine g.M.CallMachine.left_dealt (names l.fn.hand) l.fn.hand.number))
      → WalkerHasHead w l.fn.seat.me.0.passes l.way l.goal l.fn.first l.fn.head
      → WalkerHasHead w l.seat.me.0.passes l.way l.goal l.place l.word;
}

abbrev pub decreases-loop-way : goal.decreases-loop-way
decreases-loop-way g l = walk_left l.place.at (room l.way (shared_nodes (names l.fn.hand)))
