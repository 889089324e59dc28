use Rattle.std.proofs.Common.{◌≡◌, ◌+◌}
use Rattle.straight.specs.StraightVlx.{HasGoneAlong, LoadsFirstInfo, Validator}
use Rattle.tables.specs.Traces.{kept_of, seat_steps}
use Rattle.straight.specs.CallKinds.{calls}
use Rattle.straight.specs.Hands.{names}
use Rattle.straight.proofs.vlx.validate.Given as goal

abbrev pub invariant-loop-snap : goal.invariant-loop-snap
invariant-loop-snap g l = record {
  here : (l.seat.table_id ≡ l.fn.seat.table_id) × (l.seat.me.1 ≡ l.fn.seat.me.1) × (kept_of l.seat.me.0.passes ≡ kept_of l.fn.seat.me.0.passes);
  at : l.asked ≡ l.snap-index;
  steps : seat_steps l.seat.me.0.passes ≡ seat_steps l.fn.seat.me.0.passes + l.asked;
  gone : (v : Validator (calls g.S.Shape g.M.Machine g.M.CallMachine.left_dealt (names l.fn.hand) l.fn.hand.number) l.snaps) → LoadsFirstInfo v l.fn.seat.me.0.passes → HasGoneAlong v l.seat.me.0.passes l.asked;
}
