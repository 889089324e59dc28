-- Nodes of the tree, or of the trie, at a moment of a call: node 2, the children of a fork, what
-- the call has passed.
use Rattle.std.proofs.Common.{◌≡◌, ℕ, false, inl, inr, List, [], ◌∷◌, ◌++◌, refl, sym, ◌∙◌, subst}
use Rattle.std.specs.Prelude.{All}
use Rattle.std.proofs.lemmas.List.Elements.{All-append, All-cons, All-head, All-nil, All-tail, All-weaker}
use Rattle.histories.specs.Common.{Layout, Side, History, Extends, value, child, log, is_final, Call}
use Rattle.arena.proofs.Lemmas.{ends_self, ends_trans}
use Rattle.ordered_map.specs.Paths.{StoodSince, WasInTree}
use Rattle.ordered_map.specs.Runs.{IsMapRun}
use Rattle.ordered_map.specs.Spelled.{Spells}
use Rattle.ordered_map.specs.TreeWords.{Tree, Leaf, Fork, leaf_nodes, Has, is_leaf}
use Rattle.ordered_map.proofs.Lemmas.{settled_leaf}
use Rattle.ordered_map.proofs.MapLemmas.{run_spells, stood_settled, tree_remains, walked_since}
use Rattle.order.proofs.Lemmas.{has_below}
use Rattle.template.specs.Trails.{WasPassed}
use Rattle.template.proofs.Lemmas.{own_since}
use Rattle.touching.specs.Kinds.{IsInTree}
use Rattle.touching.specs.Touches.{WasSo}
use Rattle.touching.proofs.Present.{in_tree_kind}
use Rattle.touching.proofs.Walks.{passed_so}

-- it was in the tree at a moment of the call
abbrev pub WasThere : Call → History → ℕ → Type 0
WasThere c h n = WasSo (λ lay. IsInTree) c h n

-- Node 2

leaves_in : (t : Tree) → All (λ n. Has t n) (leaf_nodes t)
leaves_in (Leaf n) = All-cons (λ m. n ≡ m) n [] refl (All-nil (λ m. n ≡ m))
leaves_in (Fork n a b) = All-append (λ m. Has (Fork n a b) m) (leaf_nodes a) (leaf_nodes b)
    (All-weaker (λ m. Has a m) (λ m. Has (Fork n a b) m) (λ m h. inr (inl h)) (leaf_nodes a) (leaves_in a))
    (All-weaker (λ m. Has b m) (λ m. Has (Fork n a b) m) (λ m h. inr (inr h)) (leaf_nodes b) (leaves_in b))

all_last : (P : ℕ → Type 0) (xs : List ℕ) (a b : ℕ) → All P (xs ++ a ∷ b ∷ []) → P b
all_last P [] a b x = All-head P b [] (All-tail P a (b ∷ []) x)
all_last P (y ∷ ys) a b x = all_last P ys a b (All-tail P y (ys ++ a ∷ b ∷ []) x)

-- it is the last leaf at each moment
pub two_now : (lay : Layout) (h : History) → IsMapRun lay h → IsInTree h 2
two_now lay h run =
    let s : Spells lay (value h) (run_spells lay h run).0 = (run_spells lay h run).1 in
    record { tree = s.tree; is_tree = s.is_tree; has = all_last (λ n. Has s.tree n) s.others s.one 2 (subst (All (λ n. Has s.tree n)) s.last (leaves_in s.tree)) }

pub two_there : (c : Call) (h : History) → IsMapRun c.layout h → Extends h c.start → WasThere c h 2
two_there c h run since = record { moment = h; within = ends_self h; since = since; was = two_now c.layout h run }

-- The children of a fork

module _ (lay : Layout) (h : History) (n : ℕ) (run : IsMapRun lay h) (stood : WasInTree h n) (not_final : is_final (log lay h) n ≡ false) (fork : is_leaf (value h) n ≡ false) where
  -- a fork that has been in the tree and is not final is there
  pub fork_now : IsInTree h n
  fork_now = let s : Spells lay (value h) (run_spells lay h run).0 = (run_spells lay h run).1 in record { tree = s.tree; is_tree = s.is_tree; has = tree_remains lay h s.tree n run stood (inr fork) not_final s.is_tree }

  -- and so are its children
  pub child_now : (side : Side) → IsInTree h (value h (child n side))
  child_now side = let x : IsInTree h n = fork_now in record { tree = x.tree; is_tree = x.is_tree; has = has_below (value h) x.tree _ _ n side x.is_tree.shows x.has fork }

-- of what has been in the tree it is settled whether it is a fork
pub fork_then : (lay : Layout) (h m : History) (n : ℕ) → IsMapRun lay h → Extends h m → WasInTree m n → is_leaf (value h) n ≡ false → is_leaf (value m) n ≡ false
fork_then lay h m n run within stood fork = sym (settled_leaf (value m) (value h) n (stood_settled lay h m n run within stood)) ∙ fork

-- What the call has passed

pub passed_there : (c : Call) (h : History) (k n : ℕ) → IsMapRun c.layout h → WasPassed c h k n → WasThere c h n
passed_there c h k n run x = passed_so (λ lay. IsInTree) in_tree_kind c c.start h run k n (ends_self c.start) x

-- by then it has begun
pub passed_since : (c : Call) (h : History) (k n : ℕ) → WasPassed c h k n → Extends h c.start
passed_since c h k n x =
    let s : StoodSince h x.first n = walked_since c.layout h x.first k n x.passed in
    ends_trans h s.0.moment c.start s.0.within (ends_trans s.0.moment x.first c.start s.1 (own_since c x.first x.own))
