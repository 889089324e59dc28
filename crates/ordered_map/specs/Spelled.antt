-- What map the words spell: they show an ordered tree, whose leaves hold the pairs.
use Rattle.std.specs.Prelude.{◌≡◌, ℕ, ◌*◌, ◌^◌, ◌<◌, List, [], ◌∷◌, ◌++◌, All}
use Rattle.histories.specs.Common.{Word, Layout, all_nodes}
use Rattle.ordered_map.specs.declared.pair.Pair.{Pair}
use Rattle.ordered_map.specs.OrderedMap.{IsRising}
use Rattle.ordered_map.specs.TreeWords.{class, Tree, root, Shows, Has, pairs, leaf_nodes}

-- the words show this tree from node 0
pub record IsTree (f : Word → ℕ) (t : Tree) : Type 0 where
  pub shows : Shows f 0 (3 * 2 ^ 64) t
  pub is : root t ≡ 0

-- The words spell this map. From node 0 they show an ordered tree of nodes of the table, whose
-- levels rise. All its leaves but two are of class 0, and hold the map's pairs by rising key; the
-- last is node 2, of class 2, and the one before is of class 1.
pub record Spells (lay : Layout) (f : Word → ℕ) (m : List Pair) : Type 0 where
  pub tree : Tree
  pub is_tree : IsTree f tree
  pub inside : (n : ℕ) → Has tree n → n < all_nodes lay
  pub pairs : pairs f tree ≡ m
  pub rising : IsRising m
  pub others : List ℕ
  pub one : ℕ
  pub last : leaf_nodes tree ≡ others ++ one ∷ 2 ∷ []
  pub low : All (λ n. class f n ≡ 0) others
  pub class_one : class f one ≡ 1
  pub class_two : class f 2 ≡ 2
