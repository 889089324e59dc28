use Rattle.std.proofs.Common.{◌<◌, Some}
use Rattle.histories.specs.Common.{Settled, Head}
use Rattle.straight.specs.Leads.{steps_made}
use Rattle.straight.specs.StraightUpdate.{FillGoesOn, fills_then}
use Rattle.straight.proofs.fresh_nodes.fill_leaf.Given as goal

abbrev pub invariant-loop-next : goal.invariant-loop-next
invariant-loop-next g l = record {
  goes_on : FillGoesOn g.S.Shape g.M.Machine g.M.CallMachine.left_dealt g.E.Edit.means l.fn.hand l.fn.node.found.now l.fn.run l.fn.node.nth l.fn.node.piece.now l.fn.seat (Some (Settled Head)) l.seat l.next;
  moves : steps_made l.fn.seat < steps_made l.seat;
}

abbrev pub decreases-loop-next : goal.decreases-loop-next
decreases-loop-next g l = fills_then l.fn.node.piece.now l.next
