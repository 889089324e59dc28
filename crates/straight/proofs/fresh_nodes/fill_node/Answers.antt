use Rattle.edits.proofs.Lemmas.{weighs_next}
use Rattle.tables.specs.Traces.{shared_nodes}
use Rattle.straight.specs.Hands.{names}
use Rattle.straight.proofs.Hosts.{hosted_word}
use Rattle.straight.proofs.StraightUpdate.{fills_end, node_steps}
use Rattle.straight.proofs.fresh_nodes.fill_node.Goals as goal

pub node_start-start-requires-clause-node : goal.node_start-start-requires-clause-node
node_start-start-requires-clause-node g c = let r = c.requires.tries in rw c.at.ensures (hosted_word r.0 _ g.met.M.Machine.lawful _ _ r.1)

pub fill_words-requires-clause-fresh : goal.fill_words-requires-clause-fresh
fill_words-requires-clause-fresh g c = (rw c.at.ensures at c.node_start-start.ensures.start, c.piece-piece.ensures)

pub fill_words-requires-clause-fills : goal.fill_words-requires-clause-fills
fill_words-requires-clause-fills g c = c.requires.tries

pub returns-clause-goes_on : goal.returns-clause-goes_on
returns-clause-goes_on g c = let all = c.fill_words.ensures.goes_on in record {
  table = all.table;
  to = λ u x.
      let y = all.to u x in
      fills_end u _ c.args.run.now c.filled.new.self c.args.found.now c.args.nth y.0 y.1 c.filled.result c.filled.ensures.same c.filled.ensures.tries c.filled.ensures.spends (λ b h run try z. c.filled.ensures.turn u.call b h y.0 run try z y.2) y.3;
  later = all.later;
  steps = node_steps _ _ _ _ _ _ (rw (c.piece-piece.ensures) at all.steps) (weighs_next g.E.Edit.means c.filled.new.self c.args.found.now c.filled.result _ _ (c.filled.ensures.nearer (shared_nodes (names c.args.hand))));
}
