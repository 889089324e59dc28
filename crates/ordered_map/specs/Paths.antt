-- Which nodes a search for a key passes, and which are in the tree, now or at a moment before;
-- and what a search may answer.
use Rattle.std.specs.Prelude.{◌≡◌, ℕ, ◌+◌, ◌-◌, ◌^◌, if◌then◌else◌, ◌==◌, List, Option}
use Rattle.histories.specs.Common.{Side, Left, Right, Mode, Layout, History, value, Extends, child}
use Rattle.arena.specs.declared.limits.Mode.TheVariants.{Trie}
use Rattle.ordered_map.specs.declared.pair.Pair.{Pair}
use Rattle.ordered_map.specs.OrderedMap.{get, end_pair}
use Rattle.ordered_map.specs.TreeWords.{Tree, Has, Passes}
use Rattle.ordered_map.specs.Spelled.{IsTree, Spells}

-- how many levels there are at most where this many nodes are taken: in a tree two more, in a trie
-- one for each bit of a key and three more
abbrev pub depth : Mode → ℕ → ℕ
depth Trie nodes = 67
depth _ nodes = 2 + nodes

-- after the history n is in the tree, on the search path of k
pub record IsOnPath (h : History) (k n : ℕ) : Type 0 where
  pub tree : Tree
  pub is_tree : IsTree (value h) tree
  pub passes : Passes (value h) k tree n

-- n was on the search path of k, in the tree, at a moment of the history
abbrev pub WasOnPath : History → ℕ → ℕ → Type 0
WasOnPath h k n = (m : History) × Extends h m × IsOnPath m k n

-- n was on the search path of k, in the tree, at a moment that is not before `start`
abbrev pub Passed : History → History → ℕ → ℕ → Type 0
Passed h start k n = (m : History) × Extends h m × Extends m start × IsOnPath m k n

-- n was in the tree at a moment of the history
pub record WasInTree (h : History) (n : ℕ) : Type 0 where
  pub moment : History
  pub within : Extends h moment
  pub tree : Tree
  pub is_tree : IsTree (value moment) tree
  pub has : Has tree n

-- n was in the tree at a moment that is not before `start`
abbrev pub StoodSince : History → History → ℕ → Type 0
StoodSince h start n = (x : WasInTree h n) × Extends x.moment start

-- n was in the tree at a moment of the history, and its field on this side named m then
pub record HasHadChild (h : History) (n : ℕ) (side : Side) (m : ℕ) : Type 0 where
  pub moment : History
  pub within : Extends h moment
  pub stood : WasInTree moment n
  pub held : value moment (child n side) ≡ m

-- at a moment of the history that is not before `start` the words spell a map that gives this value
-- of k
pub record IsAnswerAt (lay : Layout) (h start : History) (k : ℕ) (answer : Option ℕ) : Type 0 where
  pub moment : History
  pub within : Extends h moment
  pub since : Extends moment start
  pub map : List Pair
  pub spelled : Spells lay (value moment) map
  pub gives : get k map ≡ answer

-- the key at this end of all keys that may be
abbrev pub end_key : Side → ℕ
end_key Left = 0
end_key Right = 2 ^ 64 - 1

-- to which side the search for it goes at a fork of this class: above all keys to the left
abbrev pub end_turn : Side → ℕ → Side
end_turn side class = if class == 0 then side else Left

-- at a moment of the history that is not before `start` the words spell a map at whose end on this
-- side is this pair; if there is none, the map is empty
pub record IsEndAt (side : Side) (lay : Layout) (h start : History) (answer : Option Pair) : Type 0 where
  pub moment : History
  pub within : Extends h moment
  pub since : Extends moment start
  pub map : List Pair
  pub spelled : Spells lay (value moment) map
  pub is : end_pair side map ≡ answer
