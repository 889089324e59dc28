-- How deep the nodes are that an ordered read reaches.
use Rattle.std.proofs.Common.{◌≡◌, ℕ, ◌+◌, ◌<◌, ◌≤◌, Bool, true, false, length, sym, ◌∙◌, ap, arith}
use Rattle.arena.specs.declared.head.Head.{Head as HeadParts}
use Rattle.arena.specs.declared.limits.Mode.TheVariants.{Trie as TrieMode}
use Rattle.histories.specs.Common.{Layout, Mode, Tree as TreeMode, Records, Settled, Head as HeadWord, Left, head_of, node, child, History, value, taken_nodes}
use Rattle.arena.proofs.Lemmas.{ends_self}
use Rattle.template.specs.Common.{WasInTree, IsMapRun, is_leaf, level}
use Rattle.ordered_map.proofs.Lemmas.{was_now, SameSettled, settled_leaf, settled_level}
use Rattle.ordered_map.proofs.MapLemmas.{child_stood, levels_rise, run_since, stood_depth, stood_settled, tree_not_final}
use Rattle.ordered_map.specs.Paths.{depth}
use Rattle.template.specs.Balance.{map_mode, nodes_by}
use Rattle.order.specs.Laws.Kept.{taken_nodes_grow}
use Rattle.order.specs.Paths.{HeadFits}

-- where more nodes are taken nodes may be as deep
deeper : (mode : Mode) (few many : ℕ) → few ≤ many → depth mode few ≤ depth mode many
deeper TreeMode few many i = omega (arith, i)
deeper TrieMode few many i = omega arith
deeper Records few many i = omega (arith, i)

-- not deeper than what stands for the taken nodes in a map that is a trie, or is not
pub depth_by : (lay : Layout) (trie : Bool) (taken nodes : ℕ) → lay.mode ≡ map_mode trie → taken ≤ nodes → depth lay.mode taken ≤ 2 + nodes_by trie nodes
depth_by lay false taken nodes mode few = rw mode (omega (arith, few))
depth_by lay true taken nodes mode few = rw mode (omega arith)

-- the children of a fork that has been in the tree are not deeper than the taken nodes allow
pub fork_depth : (lay : Layout) (h : History) (n : ℕ) → IsMapRun lay h → WasInTree h n → is_leaf (value h) n ≡ false → level (value h) n + 1 < depth lay.mode (length (taken_nodes h))
fork_depth lay h n g x fork =
    let k : History = x.moment in
    let run : IsMapRun lay k = run_since lay h k g x.within in
    let here : WasInTree k n = was_now k x.tree n x.is_tree x.has in
    let same : SameSettled (value k) (value h) n = stood_settled lay h k n g x.within here in
    let fork_then : is_leaf (value k) n ≡ false = sym (settled_leaf (value k) (value h) n same) ∙ fork in
    let rises : level (value k) n < level (value k) (value k (child n Left)) = levels_rise lay k n Left run here fork_then in
    let below : WasInTree k (value k (child n Left)) = child_stood lay k k n Left run (ends_self k) here (tree_not_final lay k x.tree n run x.is_tree x.has) fork_then in
    let deep : level (value k) (value k (child n Left)) < depth lay.mode (length (taken_nodes k)) = stood_depth lay k (value k (child n Left)) run below in
    let more : depth lay.mode (length (taken_nodes k)) ≤ depth lay.mode (length (taken_nodes h)) = deeper lay.mode _ _ (taken_nodes_grow h k x.within) in
    let same_level : level (value h) n ≡ level (value k) n = settled_level (value k) (value h) n same in
    omega (arith, rises, deep, more, same_level)

-- so a head of such a node fits this many taken nodes
pub head_fits : (lay : Layout) (h : History) (n nodes : ℕ) (head : HeadParts) → IsMapRun lay h → WasInTree h n → head_of (value h (node n (Settled HeadWord))) ≡ head → depth lay.mode (length (taken_nodes h)) ≤ 2 + nodes → HeadFits head nodes
head_fits lay h n nodes head g x e few = (
  (let d : level (value h) n < depth lay.mode (length (taken_nodes h)) = stood_depth lay h n g x in let l : level (value h) n ≡ head.level = ap (λ (w : HeadParts). w.level) e in omega (arith, d, l, few)),
  λ fork. (let d : level (value h) n + 1 < depth lay.mode (length (taken_nodes h)) = fork_depth lay h n g x (ap (λ (w : HeadParts). w.leaf) e ∙ fork) in let l : level (value h) n ≡ head.level = ap (λ (w : HeadParts). w.level) e in omega (arith, d, l, few)),
)
