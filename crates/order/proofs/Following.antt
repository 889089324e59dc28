-- Words show one tree.
use Rattle.std.proofs.Common.{◌≡◌, ℕ, true, false, sym, ◌∙◌}
use Rattle.histories.specs.Common.{Word, History, value}
use Rattle.template.specs.Common.{IsTree, Tree, is_leaf}
use Rattle.ordered_map.proofs.Lemmas.{same_tree}

pub no_leaf : (f : Word → ℕ) (n : ℕ) (P : Type 0) → is_leaf f n ≡ true → is_leaf f n ≡ false → P
no_leaf f n P a b = absurd (let x : true ≡ false = sym a ∙ b in cc)

pub one_tree : (h : History) (t u : Tree) → IsTree (value h) t → IsTree (value h) u → t ≡ u
one_tree h t u a b = same_tree (value h) t u _ _ _ _ a.shows b.shows (a.is ∙ sym b.is)
