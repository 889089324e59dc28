use Rattle.std.proofs.Common.{◌≡◌, ◌+◌, ◌*◌, length}
use Rattle.judge.specs.Graph.{IsGraph, links_of}
use Rattle.judge.specs.Naming.{opening_links}
use Rattle.judge.proofs.naming.Naming.new.Given as goal

abbrev pub invariant-loop-node : goal.invariant-loop-node
invariant-loop-node l = record {
  graph : IsGraph l.graph;
  size : length l.graph.reached.items ≡ 2 * l.nodes + l.scxs;
  links : links_of l.graph ≡ opening_links l.nodes l.node;
}
