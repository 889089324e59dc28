use Rattle.std.proofs.Common.{refl}
use Rattle.audit.proofs.Unstarted.{unstarted}
use Rattle.audit.proofs.steps.Steps.new.Goals as goal

pub returns-clause-remembered : goal.returns-clause-remembered
returns-clause-remembered c calls = unstarted c.args.layout.now calls _ c.new-2.result c.all_scx.result c.all_nodes.result c.in_ok-new.ensures.layout c.in_ok-new.ensures.start refl c.all_scx.ensures.scx c.all_nodes.ensures.nodes (c.in_ok-vec.ensures.items_if_clones_equal (λ y e. e)) (c.in_ok-vec-2.ensures.items_if_clones_equal (λ y e. e)) (c.in_ok-vec-3.ensures.items_if_clones_equal (λ y e. e)) c.new-2.ensures.look c.new-2.ensures.freeze c.new-2.ensures.snapshots
