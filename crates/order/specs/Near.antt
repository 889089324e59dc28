-- A search in one leaf for the pair beside a key, at a moment at which the leaf was on the path of
-- that key.
use Rattle.std.specs.Prelude.{◌≡◌, ℕ, ◌-◌, ◌^◌, ◌<◌, Option, Some, None}
use Rattle.histories.specs.Common.{Settled, SettledPart, Slot, Word, slot_no, node, History, value, Extends, Call}
use Rattle.arena.specs.declared.word.SettledPart.TheVariants as parts
use Rattle.template.specs.Common.{Pair as MapPair, neighbour, IsOwnMoment}
use Rattle.ordered_map.specs.Paths.{StoodSince}
use Rattle.ordered_map.proofs.Lemmas.{or_else}
use Rattle.order.specs.Found.{pairs_behind, place_key, place_low, place_pair}
use Rattle.order.specs.Laws.Search.{Finds, IsAnswer, IsSearchedIn}
use Rattle.order.specs.declared.load.LeafPlace.{LeafPlace}
use Rattle.order.specs.declared.near.NearAt.{NearAt}
use Rattle.order.specs.declared.near.NearAt.TheVariants.{Key, Value, High}
use Rattle.order.specs.declared.near.NearNext.{NearNext}
use Rattle.order.specs.declared.near.NearNext.TheVariants.{Load, Found, Nothing}
use Rattle.order.specs.declared.near.NearRun.{NearRun}

-- the place of this slot in its leaf
abbrev pub near_place : NearRun → Slot → LeafPlace
near_place m slot = record { node = m.node; more = m.more; slot = slot }

-- which settled word of the leaf is loaded at this place
abbrev pub near_part : NearAt → SettledPart
near_part (Key slot last) = parts.Key slot
near_part (Value slot key) = parts.Value slot
near_part (High slot key low) = parts.High slot

-- and so the word itself
abbrev pub near_word : NearRun → Word
near_word m = node m.node.0 (Settled (near_part m.at))

-- what that word holds
abbrev pub near_value : NearRun → History → ℕ
near_value m h = value h (near_word m)

-- how many steps such a search may ask for
abbrev pub near_most : ℕ
near_most = 6

-- how many are left at this place
abbrev pub near_left : NearAt → ℕ
near_left (Key slot last) = 5 - slot_no slot
near_left (Value slot key) = 1
near_left (High slot key low) = 0

-- a pair with this key in this slot is what is left besides for the search, if it has passed one
abbrev pub IsPassed : NearRun → History → Option (Slot × ℕ) → Option MapPair → Type 0
IsPassed m b None rest = Unit {0}
IsPassed m b (Some last) rest = (rest ≡ Some (place_pair b (near_place m last.0))) × (place_key b (near_place m last.0) ≡ last.1) × (last.1 < 2 ^ 64)

-- what the search knows of that moment at this place
abbrev pub NearStands : NearRun → History → NearAt → Type 0
NearStands m b (Key slot last) = (rest : Option MapPair) × IsPassed m b last rest × IsSearchedIn b m.side m.key (near_place m slot) rest
NearStands m b (Value slot key) = IsAnswer b m.side m.key (near_place m slot) × (place_key b (near_place m slot) ≡ key)
NearStands m b (High slot key low) = IsAnswer b m.side m.key (near_place m slot) × (place_key b (near_place m slot) ≡ key) × (place_low b (near_place m slot) ≡ low)

-- it is past the key in this slot: it finds what it finds behind that, or else this
pub record FindsBehind (m : NearRun) (b : History) (slot : Slot) (rest : Option MapPair) : Type 0 where
  pub before : Option MapPair
  pub searched : IsSearchedIn b m.side m.key (near_place m slot) before
  pub finds : Finds b m.side m.key (or_else (neighbour m.side m.key (pairs_behind b (near_place m slot))) rest)

-- the same search stands at its next place, or has found this pair
abbrev pub NextStands : NearRun → History → NearNext → Type 0
NextStands m b (Load now) = (now ≡ record m { at = now.at }) × NearStands now b now.at
NextStands m b (Found found) = (found.key < 2 ^ 64) × Finds b m.side m.key (Some found)
NextStands m b Nothing = Unit {0}

-- fewer than n steps are left to it then
abbrev pub NextLess : NearNext → ℕ → Type 0
NextLess (Load now) n = near_left now.at < n
NextLess _ n = Unit {0}

-- The leaf of such a search was on the path of its key at a moment of the call that is not before
-- an own row: what it knows is of that moment.
pub record NearKnows (m : NearRun) (c : Call) (h : History) : Type 0 where
  pub moment : History
  pub within : Extends h moment
  pub first : History
  pub own : IsOwnMoment c first
  pub since : Extends moment first
  pub stood : StoodSince moment first m.node.0
  pub small : m.key < 2 ^ 64
  pub stands : NearStands m moment m.at
