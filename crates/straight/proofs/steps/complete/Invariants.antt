use Rattle.std.proofs.Common.{◌≡◌, ◌≤◌, ◌+◌}
use Rattle.straight.specs.CallKinds.{calls}
use Rattle.tables.specs.Slotted.{names_of_table}
use Rattle.straight.specs.Hosts.{Host, HostedStands, inner_machine}
use Rattle.tables.specs.Traces.{kept_of, seat_steps, shared_nodes, weight}
use Rattle.straight.proofs.steps.complete.Given as goal

abbrev pub invariant-loop-turn : goal.invariant-loop-turn
invariant-loop-turn g l = record {
  here : (l.seat.table_id ≡ l.fn.seat.table_id) × (l.seat.me.1 ≡ l.fn.seat.me.1) × (kept_of l.seat.me.0.passes ≡ kept_of l.fn.seat.me.0.passes);
  stands : (k : Host (calls g.S.Shape g.M.Machine g.M.CallMachine.left_dealt (names_of_table l.words.table.shared.key) l.number) (inner_machine g.T.Shape g.N.Machine)) → HostedStands k l.fn.seat.me.0.passes l.fn.machine l.fn.turn → HostedStands k l.seat.me.0.passes l.machine l.turn;
  steps : seat_steps l.seat.me.0.passes + weight l.turn (g.N.Machine.left l.machine (shared_nodes (names_of_table l.words.table.shared.key))) ≤ seat_steps l.fn.seat.me.0.passes + weight l.fn.turn (g.N.Machine.left l.fn.machine (shared_nodes (names_of_table l.words.table.shared.key)));
}

abbrev pub decreases-loop-turn : goal.decreases-loop-turn
decreases-loop-turn g l = weight l.turn (g.N.Machine.left l.machine (shared_nodes (names_of_table l.words.table.shared.key)))
