-- A search for the pair beside a key, as an ordered read.
use Rattle.std.specs.Prelude.{◌≡◌, ◌⊎◌, ℕ, ◌+◌, ◌*◌, ◌^◌, ◌<◌, Bool, true, false, if◌then◌else◌, ◌==◌, nat_lt, nat_le, List, [], ◌∷◌, length, Option, Some, None}
use Rattle.arena.specs.declared.head.Head.{Head as HeadParts}
use Rattle.histories.specs.Common.{NodeNo, Side, Slot, First, marked, History, value, Call}
use Rattle.arena.specs.declared.word.Side.TheVariants as sides
use Rattle.template.specs.Common.{Snap, Pair as MapPair, end_slot, MapCall, Neighbour as NeighbourOf, pair_or_none, IsOnPath, opposite, toward, IsOwnMoment}
use Rattle.order.specs.Found.{AreThere, place_key, place_pair}
use Rattle.order.specs.Loads.{first_in_leaf}
use Rattle.order.specs.Meaning.{ReadMeaning}
use Rattle.order.specs.Laws.Search.{FindsNone, IsAnswer, IsBeside, IsEndBelow, IsSearched, IsSearchedIn}
use Rattle.order.specs.Reads.{HasStood, Whenever}
use Rattle.order.specs.declared.load.LeafPlace.{LeafPlace}
use Rattle.order.specs.declared.load.ReadLoad.{ReadLoad}
use Rattle.order.specs.declared.load.ReadLoad.TheVariants.{Head, More, Pair, Value}
use Rattle.order.specs.declared.neighbour.Neighbour.{Neighbour}
use Rattle.order.specs.declared.neighbour.Route.{Route}
use Rattle.order.specs.declared.neighbour.Route.TheVariants.{Above, Along, Within, Beyond}
use Rattle.order.specs.declared.read.Children.{Children}
use Rattle.order.specs.declared.read.Children.TheVariants.{Left, Right, Both}
use Rattle.order.specs.declared.read.ReadNext.{ReadNext}
use Rattle.order.specs.declared.read.ReadNext.TheVariants.{Load, Validate}

-- whether it loads the key of a fork with this head
abbrev pub asks_on_route : Route → HeadParts → Bool
asks_on_route Beyond head = false
asks_on_route _ head = head.class == 0

-- what it loads first of a leaf of class 0: how many pairs that has, but for the first pair alone
-- of the leaf on the right of the path
abbrev pub leaf_load : Side → Route → NodeNo → ReadLoad
leaf_load sides.Right Beyond n = Pair (first_in_leaf n 0)
leaf_load _ _ n = More n

-- at which place it begins there: beside the path at the near end
abbrev pub start_slot : Side → Route → ℕ → Slot
start_slot side Beyond more = end_slot (opposite side) more
start_slot side _ more = First

-- whether the pair with this key at its leaf is the answer
abbrev pub is_answer : Side → Route → ℕ → ℕ → Bool
is_answer side Beyond k key = true
is_answer sides.Left _ k key = false
is_answer sides.Right _ k key = nat_lt k key

-- whether no key of its leaf from this one on may be that of the answer
abbrev pub is_past : Side → ℕ → ℕ → Bool
is_past sides.Left k key = nat_le k key
is_past sides.Right k key = false

-- to which side the path of k turns at a fork of class 0 with this key
abbrev pub turn_by : ℕ → ℕ → Side
turn_by k key = if nat_lt k key then sides.Left else sides.Right

-- the child on this side alone
abbrev pub alone : Side → Children
alone sides.Left = Left
alone sides.Right = Right

-- which children of a fork are to be visited where the path of the key turns to this side: with a
-- turn away from the side on which it searches both
abbrev pub children_toward : Side → Side → Children
children_toward sides.Left sides.Left = Left
children_toward sides.Right sides.Right = Right
children_toward _ _ = Both

-- and so on any part of its way: beside the path the near one
abbrev pub children_on : Side → Route → Side → Children
children_on side Beyond turn = alone (opposite side)
children_on side _ turn = children_toward side turn

-- which of these two children is left aside, if one is, and to which it goes
abbrev pub ways : Side → Children → NodeNo → NodeNo → Option NodeNo × NodeNo
ways side Left left right = (None, left)
ways side Right left right = (None, right)
ways sides.Left Both left right = (Some left, right)
ways sides.Right Both left right = (Some right, left)

-- which part of the way is after a fork of which this child is left aside, or none
abbrev pub route_below : Route → Option NodeNo → Route
route_below Above aside = Along aside
route_below (Along beside) (Some aside) = Along (Some aside)
route_below route _ = route

-- and after a key in a slot of a leaf, which is not past: on the left it may be that of the answer
abbrev pub route_at : Side → Route → Slot → ℕ → Route
route_at sides.Right route slot key = route
route_at sides.Left Beyond slot key = Beyond
route_at sides.Left _ slot key = Within slot key

-- and at a leaf above all keys: on the right of that there is no pair
abbrev pub route_above : Side → Route → Route
route_above sides.Left route = route
route_above sides.Right route = Beyond

-- the place of a slot of this leaf
abbrev pub slot_place : NodeNo → Slot → LeafPlace
slot_place n slot = record { node = n; more = 0; slot = slot }

-- what it does after the keys of this leaf
abbrev pub after_leaf : Route → NodeNo → ReadNext
after_leaf (Within slot key) n = Load (Value (slot_place n slot) key)
after_leaf (Along (Some beside)) n = Load (Head 0 beside)
after_leaf _ n = Validate

-- the keys of such a call are words
abbrev pub IsSmallNeighbour : MapCall → Type 0
IsSmallNeighbour (NeighbourOf side key) = key < 2 ^ 64
IsSmallNeighbour _ = ⊥

-- the node from which it goes on beside the path of its key waits
abbrev pub beside_path : Route → List NodeNo
beside_path (Along (Some beside)) = beside ∷ []
beside_path _ = []

-- where the search stands on this part of its way: at the first fork it looks before it stands
-- there
abbrev pub IsOnRoute : Side → Route → History → ℕ → ℕ → Type 0
IsOnRoute side (Along beside) b k n = (rest : Option MapPair) × IsBeside b side beside rest × IsSearched b side k n rest
IsOnRoute side Beyond b k n = IsEndBelow b side k n
IsOnRoute side _ b k n = ⊥

-- And so it stands at a fork, to go on to these children. The first fork is the root, or the path
-- has turned away from the side there.
abbrev pub LooksOnRoute : Side → Route → History → ℕ → ℕ → Children → Type 0
LooksOnRoute side Above b k n children = (children ≡ children_toward side (toward (value b) n k)) × ((n ≡ 0) ⊎ (toward (value b) n k ≡ opposite side)) × (value b (marked n) ≡ 0 → IsOnPath b k n)
LooksOnRoute side (Along beside) b k n children = (children ≡ children_toward side (toward (value b) n k)) × IsOnRoute side (Along beside) b k n
LooksOnRoute side (Within slot key) b k n children = ⊥
LooksOnRoute side Beyond b k n children = (children ≡ alone (opposite side)) × IsEndBelow b side k n

-- what is left in a leaf for the search on this part of its way, but for the keys that follow: what
-- is beside the path, or the pair in this slot, which has this key
abbrev pub IsRest : Side → Route → History → NodeNo → Option MapPair → Type 0
IsRest side (Along beside) b n rest = IsBeside b side beside rest
IsRest side (Within slot key) b n rest = (rest ≡ Some (place_pair b (slot_place n slot))) × (place_key b (slot_place n slot) ≡ key) × (key < 2 ^ 64)
IsRest side _ b n rest = ⊥

-- where it stands at a place of a leaf
abbrev pub IsInLeaf : Side → Route → History → ℕ → LeafPlace → Type 0
IsInLeaf side Beyond b k p = IsAnswer b side k p
IsInLeaf side route b k p = (rest : Option MapPair) × IsRest side route b p.node rest × IsSearchedIn b side k p rest

-- what it knows of the answer after the keys of this leaf
abbrev pub IsLeft : Side → Route → History → ℕ → NodeNo → Type 0
IsLeft side (Along (Some beside)) b k n = IsEndBelow b side k beside.0
IsLeft side (Within slot key) b k n = IsAnswer b side k (slot_place n slot) × (place_key b (slot_place n slot) ≡ key)
IsLeft side _ b k n = FindsNone b side k

pub record Leaves (r : Neighbour) (n : NodeNo) (snaps : List Snap) (c : Call) (h : History) : Type 0 where
  pub stood : HasStood c h n.0
  pub own : IsOwnMoment c h
  pub some : 0 < length snaps
  pub waits : AreThere c h (beside_path r.route)
  pub left : Whenever c.layout h snaps (λ b. IsLeft r.side r.route b r.key n)

-- how many steps a try may ask for, where no more nodes than these are taken
abbrev pub neighbour_try_left : ℕ → ℕ
neighbour_try_left nodes = 137 * (2 + nodes)

-- the second path is still to go, from below a fork on; or the value of a pair that was passed
abbrev pub second_path_left : Route → ℕ → ℕ
second_path_left Beyond nodes = 0
second_path_left (Within slot key) nodes = 12
second_path_left _ nodes = 67 * (1 + nodes)

abbrev pub neighbour_means : ReadMeaning Neighbour (Option MapPair)
neighbour_means = record {
  call = λ r. NeighbourOf r.side r.key;
  found = λ r. pair_or_none r.found;
  told = pair_or_none;
  suits = IsSmallNeighbour;
  asks = λ call. Unit {0};
  waiting = λ r. beside_path r.route;
  starts = λ r more. start_slot r.side r.route more;
  IsAt = λ r b n. IsOnRoute r.side r.route b r.key n;
  IsAtFork = λ r b n children. LooksOnRoute r.side r.route b r.key n children;
  IsIn = λ r b p. IsInLeaf r.side r.route b r.key p;
  Takes = λ r key. r.route ≡ Beyond;
  try_left = λ call nodes. neighbour_try_left nodes;
  behind = λ r nodes. second_path_left r.route nodes;
}
