use Rattle.std.proofs.Common.{◌≡◌, ◌+◌, ◌≤◌}
use Rattle.order.specs.Near.{near_left}
use Rattle.straight.specs.CallKinds.{calls}
use Rattle.straight.specs.Hands.{names}
use Rattle.straight.specs.StraightReads.{Reader, ReaderSearches}
use Rattle.tables.specs.Traces.{kept_of, seat_steps}
use Rattle.straight.proofs.ordered_read.search.Given as goal

abbrev pub invariant-loop-next : goal.invariant-loop-next
invariant-loop-next g l = record {
  here : (l.seat.table_id ≡ l.fn.seat.table_id) × (l.seat.me.1 ≡ l.fn.seat.me.1) × (kept_of l.seat.me.0.passes ≡ kept_of l.fn.seat.me.0.passes);
  steps : seat_steps l.seat.me.0.passes + near_left l.current.at ≤ seat_steps l.fn.seat.me.0.passes + near_left l.fn.near.at;
  waits : (r : Reader (calls g.S.Shape g.M.Machine g.M.CallMachine.left_dealt (names l.fn.hand) l.fn.hand.number) g.R.Read.means)
      → ReaderSearches r l.fn.seat.me.0.passes l.fn.run l.fn.near l.fn.children l.fn.fork
      → ReaderSearches r l.seat.me.0.passes l.fn.run l.current l.fn.children l.fn.fork;
}

abbrev pub decreases-loop-next : goal.decreases-loop-next
decreases-loop-next g l = near_left l.current.at
