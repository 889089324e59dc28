-- What may be said of a node of a map after a history.
use Rattle.std.specs.Prelude.{◌≡◌, ℕ, false}
use Rattle.histories.specs.Common.{Layout, History, value, log, is_final}
use Rattle.ordered_map.specs.Spelled.{IsTree}
use Rattle.ordered_map.specs.TreeWords.{Tree, Has}

-- it is in the tree, or in the trie
pub record IsInTree (h : History) (n : ℕ) : Type 0 where
  pub tree : Tree
  pub is_tree : IsTree (value h) tree
  pub has : Has tree n

-- it is not final
abbrev pub IsNotFinal : Layout → History → ℕ → Type 0
IsNotFinal lay h n = is_final (log lay h) n ≡ false
