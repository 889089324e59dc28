-- What is read of a leaf whose key is looked up.
use Rattle.std.specs.Prelude.{◌≡◌, ℕ, true}
use Rattle.histories.specs.Common.{History, value, node, first_key}
use Rattle.prims.specs.Laws.InTheWay.{HasBeen}
use Rattle.ordered_map.specs.TreeWords.{class, is_leaf}

-- At moments of h that are not before m it has been read that the node is a leaf of pairs of the
-- map, and that k is its first key.
pub record WasLeafOf (h m : History) (n k : ℕ) : Type 0 where
  pub head : HasBeen h m (λ g. (is_leaf (value g) n ≡ true) × (class (value g) n ≡ 0))
  pub key : HasBeen h m (λ g. value g (node n first_key) ≡ k)
