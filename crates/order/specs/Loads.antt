-- The loads of an ordered read, and the places in a leaf.
use Rattle.std.specs.Prelude.{ℕ, Option, Some, None}
use Rattle.histories.specs.Common.{NodeNo, Settled, SettledPart, Slot, First, Word, History, value, node}
use Rattle.arena.specs.declared.word.SettledPart.TheVariants as parts
use Rattle.ordered_map.specs.Holding.{slot_behind}
use Rattle.order.specs.declared.load.LeafPlace.{LeafPlace}
use Rattle.order.specs.declared.load.ReadLoad.{ReadLoad}
use Rattle.order.specs.declared.load.ReadLoad.TheVariants.{Head, Key, More, Pair, Value, High}

-- the place of this slot in the leaf of another place, if there is one
abbrev pub place_in : LeafPlace → Option Slot → Option LeafPlace
place_in p None = None
place_in p (Some slot) = Some (record p { slot = slot })

-- the place after one, if that may be read
abbrev pub place_behind : LeafPlace → Option LeafPlace
place_behind p = place_in p (slot_behind p.more p.slot)

-- the first place of a leaf, if this many slots after the first may be read
abbrev pub first_in_leaf : NodeNo → ℕ → LeafPlace
first_in_leaf n more = record { node = n; more = more; slot = First }

-- the node a word of which is loaded
abbrev pub load_node : ReadLoad → NodeNo
load_node (Head above n) = n
load_node (Key level n) = n
load_node (More n) = n
load_node (Pair p) = p.node
load_node (Value p key) = p.node
load_node (High p key low) = p.node

-- which of its settled words that is
abbrev pub load_part : ReadLoad → SettledPart
load_part (Head above n) = parts.Head
load_part (Key level n) = parts.Key First
load_part (More n) = parts.More
load_part (Pair p) = parts.Key p.slot
load_part (Value p key) = parts.Value p.slot
load_part (High p key low) = parts.High p.slot

-- and so the word itself
abbrev pub load_word : ReadLoad → Word
load_word load = node (load_node load).0 (Settled (load_part load))

-- what that word holds
abbrev pub load_value : History → ReadLoad → ℕ
load_value h load = value h (load_word load)
