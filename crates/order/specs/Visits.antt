-- How far the visits of a range have come, in the tree that the words show.
use Rattle.std.specs.Prelude.{◌≡◌, ◌≢◌, ◌⊎◌, ℕ, ◌+◌, ◌-◌, ◌<◌, ◌≤◌, List, [], ◌∷◌, ◌++◌, length}
use Rattle.histories.specs.Common.{Layout, NodeNo, History, value}
use Rattle.template.specs.Common.{Pair, held_from, AllBelow, between, range, IsTree, Spells, Tree}
use Rattle.ordered_map.specs.TreeWords.{pairs}
use Rattle.order.specs.Found.{place_key, more_at, pairs_behind}
use Rattle.order.specs.Laws.Search.{IsPartAt}
use Rattle.order.specs.declared.load.LeafPlace.{LeafPlace}

-- the keys that are asked for, and how many pairs at most
pub record Bounds : Type 0 where
  pub low : ℕ
  pub high : ℕ
  pub most : ℕ

-- the pairs within the bounds below the root of a part
abbrev pub part_pairs : History → Bounds → Tree → List Pair
part_pairs h w t = between w.low w.high (pairs (value h) t)

-- The nodes that wait to be visited, the next one first, are roots of parts of the tree, and within
-- the bounds these hold the pairs `ps`. Each is above the lower bound, and all but the last below
-- the upper one.
abbrev pub AreWaiting : History → Bounds → List NodeNo → List Pair → Type 0
AreWaiting h w [] ps = ps ≡ []
AreWaiting h w (n ∷ ns) ps = (part : IsPartAt h n.0) × (rest : List Pair) × AreWaiting h w ns rest × (ps ≡ part_pairs h w part.tree ++ rest) × (w.low < part.low) × (ns ≢ [] → part.high ≤ w.high)

-- The visits are at the node n, with these pairs taken, these nodes waiting, and `leaves` leaves
-- left to be visited. The pairs of the tree within the bounds are those taken, those below n, and
-- those of the nodes that wait. At most one leaf was visited without a pair being taken of it.
pub record IsVisiting (h : History) (w : Bounds) (n : ℕ) (taken : List Pair) (waiting : List NodeNo) (leaves : ℕ) : Type 0 where
  pub tree : Tree
  pub is_tree : IsTree (value h) tree
  pub part : IsPartAt h n
  pub rest : List Pair
  pub waits : AreWaiting h w waiting rest
  pub finds : between w.low w.high (pairs (value h) tree) ≡ taken ++ (part_pairs h w part.tree ++ rest)
  pub few : w.most + 1 ≤ leaves + length taken
  pub behind : leaves ≢ w.most + 2 → w.low < part.low
  pub below : waiting ≢ [] → part.high ≤ w.high

-- Such visits are at a place of a leaf of class 0. If a leaf is visited and no pair of it is
-- taken, no node waits, or it is the first one.
pub record IsVisitingIn (h : History) (w : Bounds) (p : LeafPlace) (taken : List Pair) (waiting : List NodeNo) (leaves : ℕ) : Type 0 where
  pub tree : Tree
  pub is_tree : IsTree (value h) tree
  pub more : more_at h p.node.0 ≡ p.more
  pub rest : List Pair
  pub waits : AreWaiting h w waiting rest
  pub finds : between w.low w.high (pairs (value h) tree) ≡ taken ++ (between w.low w.high (held_from (value h) p.node.0 p.slot) ++ rest)
  pub few : waiting ≢ [] → w.most + 1 ≤ leaves + length taken
  pub behind : (w.low < place_key h p) ⊎ (waiting ≢ [] → w.most + 1 ≤ leaves - 1 + length taken)
  pub below : waiting ≢ [] → AllBelow (w.high + 1) (held_from (value h) p.node.0 p.slot)

-- they are past the pair at that place
pub record HasVisitedIn (h : History) (w : Bounds) (p : LeafPlace) (taken : List Pair) (waiting : List NodeNo) (leaves : ℕ) : Type 0 where
  pub tree : Tree
  pub is_tree : IsTree (value h) tree
  pub more : more_at h p.node.0 ≡ p.more
  pub rest : List Pair
  pub waits : AreWaiting h w waiting rest
  pub finds : between w.low w.high (pairs (value h) tree) ≡ taken ++ (between w.low w.high (pairs_behind h p) ++ rest)
  pub few : waiting ≢ [] → w.most + 1 ≤ leaves - 1 + length taken
  pub below : waiting ≢ [] → AllBelow (w.high + 1) (pairs_behind h p)

-- a leaf is visited: its pairs within the bounds were taken
pub record HasVisited (h : History) (w : Bounds) (taken : List Pair) (waiting : List NodeNo) (leaves : ℕ) : Type 0 where
  pub tree : Tree
  pub is_tree : IsTree (value h) tree
  pub rest : List Pair
  pub waits : AreWaiting h w waiting rest
  pub finds : between w.low w.high (pairs (value h) tree) ≡ taken ++ rest
  pub few : waiting ≢ [] → w.most + 1 ≤ leaves + length taken

-- the map that the words spell has these as the first pairs within the bounds
abbrev pub IsRangeAt : Layout → History → Bounds → List Pair → Type 0
IsRangeAt lay h w answer = (m : List Pair) → Spells lay (value h) m → range w.low w.high w.most m ≡ answer
