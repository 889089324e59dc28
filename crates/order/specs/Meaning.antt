-- What an ordered read says to the machine that makes it.
use Rattle.std.specs.Prelude.{ℕ, List}
use Rattle.histories.specs.Common.{NodeNo, Slot, History}
use Rattle.ordered_map.specs.OrderedMap.{MapCall, MapReply}
use Rattle.order.specs.declared.load.LeafPlace.{LeafPlace}
use Rattle.order.specs.declared.read.Children.{Children}

-- What a read with answers `A` is. Where the read is, is stated for the words of a moment at
-- which all infos are as they were found.
pub record ReadMeaning (R A : Type 0) : Type 1 where
  -- which call of the map it is
  pub call : R → MapCall
  -- what it has found, as a reply of the map, and what an answer says
  pub found : R → MapReply
  pub told : A → MapReply
  -- the keys and numbers of such a call are not too large
  pub suits : MapCall → Type 0
  -- such a call has something to find: else it answers at once
  pub asks : MapCall → Type 0
  -- the nodes that wait to be visited, the next one first
  pub waiting : R → List NodeNo
  -- in which slot it begins in a leaf that has that many pairs after its first
  pub starts : R → ℕ → Slot
  -- it is at this node
  pub IsAt : R → History → ℕ → Type 0
  -- it is at this fork, with these children to be visited
  pub IsAtFork : R → History → ℕ → Children → Type 0
  -- it is at this place of a leaf, past the pairs before it
  pub IsIn : R → History → LeafPlace → Type 0
  -- it takes the pair with this key
  pub Takes : R → ℕ → Type 0
  -- how many steps a try of such a call may ask for, where no more nodes than these are taken
  pub try_left : MapCall → ℕ → ℕ
  -- and how many after the path on which it is
  pub behind : R → ℕ → ℕ
