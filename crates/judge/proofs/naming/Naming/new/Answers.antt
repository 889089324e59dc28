use Rattle.std.proofs.Common.{◌≡◌, ◌∙◌, ap, arith}
use Rattle.arena.specs.Layout.{all_nodes, all_scx, opening_nodes}
use Rattle.histories.proofs.Lemmas.{some_open}
use Rattle.judge.specs.Naming.{named_links, opening_links}
use Rattle.judge.proofs.naming.Naming.new.Goals as goal

pub returns : goal.returns
unfolding named_links
returns c =
    let lay = c.args.layout.now in
    let some = some_open lay in
    let inv = c.loop-node.invariant in
    let nodes : c.from-nodes.result ≡ all_nodes lay = c.from-nodes.ensures ∙ c.all_nodes.ensures.nodes in
    let scxs : c.from-scxs.result ≡ all_scx lay = c.from-scxs.ensures ∙ c.all_scx.ensures.scx in
    let done : c.loop-node.node ≡ opening_nodes lay = omega (c.loop-node-test.false, c.loop-node.auto.node-end, c.opening-node-end.ensures, arith) in
    record {
      naming = record {
        graph = inv.graph;
        size = inv.size;
        some_nodes = omega (nodes, some, arith);
        few_nodes = omega (c.from-nodes.ensures, c.all_nodes.ensures.fits, arith);
        few_scxs = omega (c.from-scxs.ensures, c.all_scx.ensures.fits, arith);
      };
      nodes = nodes;
      scxs = scxs;
      links = inv.links ∙ ap (opening_links c.from-nodes.result) done ∙ ap (λ n. opening_links n (opening_nodes lay)) nodes;
    }
