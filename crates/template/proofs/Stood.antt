-- Nodes that have been in the tree.
use Rattle.std.specs.Prelude.{ℕ, ◌<◌}
use Rattle.histories.specs.Common.{Layout, History, all_nodes}
use Rattle.template.specs.Common.{IsOpened, WasInTree, IsMapRun}
use Rattle.ordered_map.proofs.Lemmas.{tree_inside}
use Rattle.ordered_map.proofs.MapLemmas.{run_since, stood_in_field}

-- a node that has been in the tree is in the table
pub stood_inside : (lay : Layout) (h : History) (n : ℕ) → IsMapRun lay h → WasInTree h n → n < all_nodes lay
stood_inside lay h n run x = tree_inside lay x.moment x.tree (run_since lay h x.moment run x.within).1.lawful x.is_tree n x.has

-- and an LLX may look at it
pub opened_if_stood : (lay : Layout) (h : History) (n : ℕ) → IsMapRun lay h → WasInTree h n → IsOpened lay h n
opened_if_stood lay h n run x = record { in_field = stood_in_field lay h n run x; inside = stood_inside lay h n run x }
