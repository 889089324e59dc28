-- How deep the leaves of a trie are.
use Rattle.std.specs.Prelude.{ℕ, suc, max, ◌≤◌}
use Rattle.regnubas.specs.History.{value}
use Rattle.regnubas.specs.Passes.{PassView, run_of}
use Rattle.regnubas.specs.Spelled.{IsTree}
use Rattle.regnubas.specs.TreeWords.{Tree, Leaf, Fork}

-- how many fields below its top the deepest leaf of the tree is
abbrev pub height : Tree → ℕ
height (Leaf n) = 0
height (Fork n a b) = suc (max (height a) (height b))

-- no leaf of the trie that the words spell is more than 66 fields below the root, as far as the
-- pass knows the run
abbrev pub IsLow : PassView → Type 0
IsLow p = (t : Tree) → IsTree (value (run_of p)) t → height t ≤ 66
