-- Nodes that lost tries took: what is said of their slots.
use Rattle.std.specs.Prelude.{◌≡◌, ◌<◌, ◌≤◌, ◌⊎◌, ℕ, [], Some, length, slice_get}
use Rattle.ordered_map.specs.declared.reply.Reply.{Reply}
use Rattle.ordered_map.specs.declared.reply.Reply.TheVariants.{Contended, Full}
use Rattle.resting.specs.Dead.{IsUnborn}
use Rattle.tables.specs.TableRule.{past_of}
use Rattle.upkeep.specs.declared.book.SlotUse.TheVariants.{Lost, Used}
use Rattle.upkeep.specs.declared.book.OwnSlot.{OwnSlot}
use Rattle.upkeep.specs.declared.book.OwnSlots.{OwnSlots}
use Rattle.tables.specs.declared.view.SeatedPass.{SeatedPass}

-- this slot is as it was; or it was in use, has one of these names, and is lost now
abbrev pub IsOrLoses : (Are : ℕ → Type 0) → OwnSlots → (i : ℕ) → OwnSlot → Type 0
IsOrLoses Are old i x = (slice_get old.slots.items i ≡ Some x) ⊎ ((slice_get old.slots.items i ≡ Some (record x { known = Used })) × (x.known ≡ Lost) × Are x.name)

-- They are the same slots, and those that are lost since had some of these names.
pub record LosesOnly (Are : ℕ → Type 0) (old new : OwnSlots) : Type 0 where
  pub kind : new.kind ≡ old.kind
  pub first : new.first ≡ old.first
  pub turn : new.turn ≡ old.turn
  pub end : new.end ≡ old.end
  pub dealt : new.dealt ≡ old.dealt
  pub count : length new.slots.items ≡ length old.slots.items
  pub slots : (i : ℕ) (x : OwnSlot) → slice_get new.slots.items i ≡ Some x → IsOrLoses Are old i x

-- the name is one from this one on, up to that one
abbrev pub IsFromTo : (from to n : ℕ) → Type 0
IsFromTo from to n = (from ≤ n) × (n < to)

-- so many nodes the pass has taken that were never in the tree or the trie: all from this one on, up
-- to that one
abbrev pub AreUnborn : SeatedPass → (from to : ℕ) → Type 0
AreUnborn p from to = (n : ℕ) → from ≤ n → n < to → IsUnborn p.layout p.number.0 (past_of p []) n

-- by such a reply a call was lost: its pass has entered nothing since it began
abbrev pub IsLostReply : {K V : Type 0} → Reply K V → Type 0
IsLostReply (Contended node scx) = Unit {0}
IsLostReply (Full full) = Unit {0}
IsLostReply _ = ⊥
