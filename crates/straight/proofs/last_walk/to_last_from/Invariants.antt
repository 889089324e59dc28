use Rattle.histories.specs.Common.{Right}
use Rattle.template.specs.Common.{End}
use Rattle.std.proofs.Common.{◌≡◌, ◌+◌, ◌≤◌, suc}
use Rattle.histories.specs.Common.{LoadSettled, Settled, Head, node}
use Rattle.straight.specs.StraightWalk.{Walker, WalkerWaits, WalkerIsAt}
use Rattle.tables.specs.Traces.{kept_of, seat_steps, shared_nodes}
use Rattle.straight.specs.CallKinds.{calls}
use Rattle.straight.specs.Hands.{hand_slots, names}
use Rattle.tables.specs.Slotted.{node_begins}
use Rattle.template.specs.Common.{load, walk_left}
use Rattle.template.specs.Walk.Places.{way_at, LoadsHead}
use Rattle.template.specs.Walk.Steps.{room}
use Rattle.straight.proofs.last_walk.to_last_from.Given as goal

abbrev pub invariant-loop-side : goal.invariant-loop-side
invariant-loop-side g l = record {
  here : (l.seat.table_id ≡ l.fn.seat.table_id) × (l.seat.me.1 ≡ l.fn.seat.me.1) × (kept_of l.seat.me.0.passes ≡ kept_of l.fn.seat.me.0.passes);
  loads : LoadsHead l.place.at;
  start : l.place.start ≡ node_begins (hand_slots l.fn.hand) l.place.trail.node;
  steps : seat_steps l.seat.me.0.passes + suc (walk_left l.place.at (room l.way (shared_nodes (names l.fn.hand)))) ≤ seat_steps l.fn.seat.me.0.passes + suc (walk_left l.fn.first.at (room l.way (shared_nodes (names l.fn.hand))));
  waits : (w : Walker (calls g.S.Shape g.M.Machine g.M.CallMachine.left_dealt (names l.fn.hand) l.fn.hand.number))
      → WalkerIsAt w l.fn.seat.me.0.passes l.way (End Right) l.fn.first
      → WalkerWaits w l.seat.me.0.passes (way_at l.way (End Right) l.place.trail l.place.at) l.place.turns (load LoadSettled (node l.place.trail.node.0 (Settled Head)));
}

abbrev pub decreases-loop-side : goal.decreases-loop-side
decreases-loop-side g l = walk_left l.place.at (room l.way (shared_nodes (names l.fn.hand)))
