use Rattle.std.proofs.Common.{Ok}
use Rattle.straight.specs.StraightReads.{ReadGoesOn}
use Rattle.tables.specs.Traces.{shared_nodes}
use Rattle.straight.specs.Hands.{names}
use Rattle.template.specs.Balance.{nodes_by}
use Rattle.order.specs.Places.{placed}
use Rattle.order.specs.Steps.{read_left}
use Rattle.straight.proofs.ordered_read.rest_by_turns.Given as goal

abbrev pub invariant-loop-next : goal.invariant-loop-next
invariant-loop-next g l = record {
  goes_on : ReadGoesOn g.S.Shape g.M.Machine g.M.CallMachine.left_dealt g.R.Read.means l.hand 0 l.fn.seat l.fn.run (Ok l.fn.next) l.seat l.run (Ok l.next);
}

abbrev pub decreases-loop-next : goal.decreases-loop-next
decreases-loop-next g l = read_left g.R.Read.means (placed l.run l.next) (nodes_by l.run.trie (shared_nodes (names l.hand)))
