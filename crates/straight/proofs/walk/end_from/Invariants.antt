use Rattle.std.proofs.Common.{◌≡◌, ◌+◌, ◌-◌, ◌≤◌}
use Rattle.histories.specs.Common.{LoadSettled, Settled, Key, node, slot_no}
use Rattle.order.specs.declared.last_turns.LastTurns.{LastTurns}
use Rattle.straight.specs.StraightWalk.{Walker, WalkerIsTold, WalkerWaits}
use Rattle.tables.specs.Traces.{kept_of, seat_steps}
use Rattle.straight.specs.CallKinds.{calls}
use Rattle.straight.specs.Hands.{names}
use Rattle.template.specs.Common.{load}
use Rattle.template.specs.Walk.Places.{way_at}
use Rattle.template.specs.declared.walk.WalkAt.TheVariants.{More, Pair}
use Rattle.straight.proofs.walk.end_from.Given as goal

abbrev pub invariant-loop-hand : goal.invariant-loop-hand
invariant-loop-hand g l = record {
  here : (l.seat.table_id ≡ l.fn.seat.table_id) × (l.seat.me.1 ≡ l.fn.seat.me.1) × (kept_of l.seat.me.0.passes ≡ kept_of l.fn.seat.me.0.passes);
  steps : seat_steps l.seat.me.0.passes ≤ seat_steps l.fn.seat.me.0.passes + slot_no l.slot;
  waits : (w : Walker (calls g.S.Shape g.M.Machine g.M.CallMachine.left_dealt (names l.fn.hand) l.fn.hand.number)) (turn : LastTurns)
      → WalkerIsTold w l.fn.seat.me.0.passes (way_at l.fn.way l.fn.goal l.fn.trail (More l.fn.head)) turn l.fn.more
      → WalkerWaits w l.seat.me.0.passes (way_at l.fn.way l.fn.goal l.fn.trail (Pair l.fn.head l.fn.more l.slot)) turn (load LoadSettled (node l.fn.trail.node.0 (Settled (Key l.slot))));
}

abbrev pub decreases-loop-hand : goal.decreases-loop-hand
decreases-loop-hand g l = 3 - slot_no l.slot
