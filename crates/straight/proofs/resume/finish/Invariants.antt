use Rattle.std.proofs.Common.{◌≡◌, ◌+◌, ◌≤◌}
use Rattle.straight.specs.Hosts.{HostedStands}
use Rattle.straight.specs.StraightUpdate.{Updater}
use Rattle.tables.specs.Traces.{kept_of, seat_steps, shared_nodes, weight}
use Rattle.straight.specs.CallKinds.{calls}
use Rattle.straight.specs.Hands.{names}
use Rattle.edits.specs.Steps.{update_left}
use Rattle.straight.proofs.resume.finish.Given as goal

abbrev pub invariant-loop-turn : goal.invariant-loop-turn
invariant-loop-turn g l = record {
  here : (l.seat.table_id ≡ l.fn.seat.table_id) × (l.seat.me.1 ≡ l.fn.seat.me.1) × (kept_of l.seat.me.0.passes ≡ kept_of l.fn.seat.me.0.passes);
  stands : (u : Updater (calls g.S.Shape g.M.Machine g.M.CallMachine.left_dealt (names l.hand) l.hand.number) g.E.Edit.means)
      → HostedStands u l.fn.seat.me.0.passes l.fn.machine l.fn.turn
      → HostedStands u l.seat.me.0.passes l.machine l.turn;
  steps : seat_steps l.seat.me.0.passes + weight l.turn (update_left g.E.Edit.means l.machine (shared_nodes (names l.hand))) ≤ seat_steps l.fn.seat.me.0.passes + weight l.fn.turn (update_left g.E.Edit.means l.fn.machine (shared_nodes (names l.hand)));
}

abbrev pub decreases-loop-turn : goal.decreases-loop-turn
decreases-loop-turn g l = weight l.turn (update_left g.E.Edit.means l.machine (shared_nodes (names l.hand)))
