-- What calls of a map know of the nodes to which they come.
use Rattle.std.proofs.Common.{◌⊎◌, ℕ, inl, inr, sym, subst}
use Rattle.histories.specs.Common.{Layout, History, Opened, ◌⊳◌, Extends, Call}
use Rattle.arena.proofs.Lemmas.{ends_trans}
use Rattle.ordered_map.specs.Paths.{StoodSince}
use Rattle.ordered_map.specs.Runs.{IsMapRun}
use Rattle.ordered_map.proofs.MapLemmas.{run_since, tree_not_final}
use Rattle.touching.specs.Kinds.{IsInTree, IsNotFinal}
use Rattle.touching.specs.Touches.{WasSo}

-- what is so of each node of the tree
abbrev pub HasTree : (Layout → History → ℕ → Type 0) → Type 0
HasTree P = (lay : Layout) (h : History) (n : ℕ) → IsMapRun lay h → IsInTree h n → P lay h n

module _ (P : Layout → History → ℕ → Type 0) (in_tree : HasTree P) (c : Call) (h : History) (run : IsMapRun c.layout h) where
  -- what stood since a moment of the call was so at one
  pub stood_so : (start : History) (n : ℕ) → Extends start c.start → StoodSince h start n → WasSo P c h n
  stood_so start n e x = record {
    moment = x.0.moment;
    within = x.0.within;
    since = ends_trans x.0.moment start c.start x.1 e;
    was = in_tree c.layout x.0.moment n (run_since c.layout h x.0.moment run x.0.within) record { tree = x.0.tree; is_tree = x.0.is_tree; has = x.0.has };
  }

-- it is just that
pub in_tree_kind : HasTree (λ lay. IsInTree)
in_tree_kind lay h n run x = x

-- and so not final
pub there_not_final : (lay : Layout) (h : History) (n : ℕ) → IsMapRun lay h → IsInTree h n → IsNotFinal lay h n
there_not_final lay h n run x = tree_not_final lay h x.tree n run x.is_tree x.has

-- Of two moments of a history one is not before the other
pub one_first : (h a b : History) → Extends h a → Extends h b → Extends a b ⊎ Extends b a
one_first (Opened o) a b x y = inl (subst (λ k. Extends k b) (sym x) y)
one_first (r ⊳ h) a b (inl x) y = inl (subst (λ k. Extends k b) (sym x) y)
one_first (r ⊳ h) a b (inr x) (inl y) = inr (subst (λ k. Extends k a) (sym y) (inr x))
one_first (r ⊳ h) a b (inr x) (inr y) = one_first h a b x y
