-- Where a search for the next key on a side of k has come to, in the tree that the words show.
use Rattle.std.specs.Prelude.{◌≡◌, ℕ, ◌^◌, ◌<◌, Option, Some, None}
use Rattle.histories.specs.Common.{NodeNo, Side, History, value}
use Rattle.template.specs.Common.{Pair, held_from, AllBelow, IsRising, end_pair, neighbour, IsTree, Tree, root, Shows, opposite}
use Rattle.ordered_map.proofs.Lemmas.{items, low_pair, or_else}
use Rattle.order.specs.Found.{more_at, place_key, place_pair}
use Rattle.order.specs.declared.load.LeafPlace.{LeafPlace}

-- the part of the tree whose root is the node n
pub record IsPartAt (h : History) (n : ℕ) : Type 0 where
  pub tree : Tree
  pub low : ℕ
  pub high : ℕ
  pub shows : Shows (value h) low high tree
  pub is : root tree ≡ n

-- in the whole tree the search finds this, where what is above all keys counts too
pub record Finds (h : History) (side : Side) (k : ℕ) (found : Option Pair) : Type 0 where
  pub tree : Tree
  pub is_tree : IsTree (value h) tree
  pub finds : neighbour side k (items (value h) tree) ≡ found

-- that is what it finds below the node n, which is on the path of k; or else this
pub record IsSearched (h : History) (side : Side) (k n : ℕ) (rest : Option Pair) : Type 0 where
  pub part : IsPartAt h n
  pub finds : Finds h side k (or_else (neighbour side k (items (value h) part.tree)) rest)

-- this is the near end of what is beside the path, below the node n; where no node is, there is
-- none
abbrev pub IsBeside : History → Side → Option NodeNo → Option Pair → Type 0
IsBeside h side None rest = rest ≡ None
IsBeside h side (Some n) rest = (part : IsPartAt h n.0) × (rest ≡ end_pair (opposite side) (items (value h) part.tree))

-- what it finds is the near end of what is below the node n
pub record IsEndBelow (h : History) (side : Side) (k n : ℕ) : Type 0 where
  pub part : IsPartAt h n
  pub finds : Finds h side k (end_pair (opposite side) (items (value h) part.tree))

-- It is what it finds from this place of a leaf on; or else this.
pub record IsSearchedIn (h : History) (side : Side) (k : ℕ) (p : LeafPlace) (rest : Option Pair) : Type 0 where
  pub more : more_at h p.node.0 ≡ p.more
  pub small : AllBelow (2 ^ 64) (held_from (value h) p.node.0 p.slot)
  pub rises : IsRising (held_from (value h) p.node.0 p.slot)
  pub finds : Finds h side k (or_else (neighbour side k (held_from (value h) p.node.0 p.slot)) rest)

-- it is the pair at this place
pub record IsAnswer (h : History) (side : Side) (k : ℕ) (p : LeafPlace) : Type 0 where
  pub small : place_key h p < 2 ^ 64
  pub finds : Finds h side k (Some (place_pair h p))

-- it is none that the map has
pub record FindsNone (h : History) (side : Side) (k : ℕ) : Type 0 where
  pub found : Option Pair
  pub none : low_pair found ≡ None
  pub finds : Finds h side k found
