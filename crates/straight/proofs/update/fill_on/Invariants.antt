use Rattle.std.proofs.Common.{Ok}
use Rattle.straight.specs.StraightUpdate.{TryGoesOn}
use Rattle.tables.specs.Traces.{shared_nodes}
use Rattle.straight.specs.Hands.{names}
use Rattle.edits.specs.Next.{left_then}
use Rattle.straight.proofs.update.fill_on.Given as goal

abbrev pub invariant-loop-now : goal.invariant-loop-now
invariant-loop-now g l = record {
  goes_on : TryGoesOn g.S.Shape g.M.Machine g.M.CallMachine.left_dealt g.E.Edit.means l.hand l.found l.fn.seat l.fn.run l.fn.next l.seat l.run (Ok l.now);
}

abbrev pub decreases-loop-now : goal.decreases-loop-now
decreases-loop-now g l = left_then g.E.Edit.means l.run l.found (Ok l.now) (shared_nodes (names l.hand))
