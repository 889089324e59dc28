-- What a pass knows of its own slots between two calls, and what it is to be right.
use Rattle.std.specs.Prelude.{◌≡◌, ◌≢◌, ◌+◌, ◌<◌, ◌≤◌, ℕ, List, [], ◌∷◌, Some, length, slice_get}
use Rattle.atomic_table.specs.declared.shared.Seat.{Seat}
use Rattle.histories.specs.Common.{Layout, Row, History, Extends, Word, IsWord, first_node, first_scx}
use Rattle.planting.specs.Plantings.{PlantingView}
use Rattle.resting.specs.Dead.{IsUnborn}
use Rattle.resting.specs.Records.{Record, record_of, the_node, the_scx}
use Rattle.slots.specs.Lasting.{IsOwnRecord, IsTaken, Lasting, slot_of}
use Rattle.tables.specs.LastingMemory.{record_at}
use Rattle.tables.specs.LastingNotes.{HasSeenAllRest, IsAmongThese, noted_as}
use Rattle.tables.specs.LastingRule.{LearnsWith}
use Rattle.tables.specs.LastingSlots.{slot_number}
use Rattle.tables.specs.Slotted.{names_of_table, slots_of_table}
use Rattle.tables.specs.TableRule.{history_of, past_of}
use Rattle.upkeep.specs.UpkeepSteps.{IsLastingSeat}
use Rattle.tables.specs.declared.memory.Noted.{Noted}
use Rattle.tables.specs.declared.memory.NoteView.{NoteView}
use Rattle.tables.specs.declared.memory.NoteView.TheVariants.{MarkedOrDead, DeadBy}
use Rattle.tables.specs.declared.memory.PassMemory.{PassMemory}
use Rattle.tables.specs.declared.memory.RecordNo.{RecordNo}
use Rattle.tables.specs.declared.memory.RecordNo.TheVariants.{Node as NodeRecord, Scx as ScxRecord}
use Rattle.upkeep.specs.declared.kind.RecordKind.{RecordKind}
use Rattle.upkeep.specs.declared.kind.RecordKind.TheVariants.{Node, Scx}
use Rattle.upkeep.specs.declared.book.SlotUse.{SlotUse}
use Rattle.upkeep.specs.declared.book.SlotUse.TheVariants.{Used, Found, Dying, Lost, Free}
use Rattle.upkeep.specs.declared.book.OwnSlot.{OwnSlot}
use Rattle.upkeep.specs.declared.book.OwnSlots.{OwnSlots}
use Rattle.tables.specs.declared.view.SeatedPass.{SeatedPass}
use Rattle.tables.specs.declared.view.SeatView.{SeatView}
use Rattle.tables.specs.declared.words.Words.{Words}

-- Records by kind and number

-- the number of a record of this kind: a name, or that of a slot
abbrev pub name_numbered : RecordKind → ℕ → RecordNo
name_numbered Node n = NodeRecord record { 0 = n }
name_numbered Scx n = ScxRecord record { 0 = n }

abbrev pub record_numbered : RecordKind → ℕ → Record
record_numbered kind n = record_at (name_numbered kind n)

-- the record is of this kind
abbrev pub IsRecordOfKind : RecordKind → Record → Type 0
IsRecordOfKind Node (the_node n) = Unit {0}
IsRecordOfKind Scx (the_scx s) = Unit {0}
IsRecordOfKind _ _ = ⊥

-- how many words such a record has
abbrev pub parts_of : RecordKind → ℕ
parts_of Node = 18
parts_of Scx = 14

-- the first own record of a pass, and how many it has
abbrev pub first_own : RecordKind → Layout → ℕ → ℕ
first_own Node lay o = first_node lay o
first_own Scx lay o = first_scx lay o

abbrev pub count_own : RecordKind → Layout → ℕ
count_own Node lay = lay.nodes
count_own Scx lay = lay.scx

-- so many names on, one has the same slot
abbrev pub turn_of : RecordKind → Lasting → ℕ
turn_of Node t = t.node_turn
turn_of Scx t = t.scx_turn

-- the pass's names below this one are dealt, or passed over
abbrev pub dealt_of : RecordKind → PassMemory → ℕ
dealt_of Node m = m.nodes_to
dealt_of Scx m = m.scx_to

-- A pass at its table

-- how the records of the table have slots
abbrev pub slots_in : {S : Type 0} → Words S → Lasting
slots_in words = slots_of_table words.table.shared.key

-- The table lasts, and has this layout; and the seat is at it, with the one pass p.
pub record IsAtLasting {S : Type 0} (words : Words S) (lay : Layout) (seat : Seat ℕ SeatView) (p : SeatedPass) : Type 0 where
  pub table : IsLastingSeat words lay seat
  pub alone : seat.me.0.passes ≡ p ∷ []
  pub names : p.layout ≡ names_of_table words.table.shared.key
  pub is_pass : p.number.0 < lay.passes

-- of rests, its own and those of others, it remembers the same, and as many names are dealt
pub record KeepsRests (m n : PassMemory) : Type 0 where
  pub rested : n.rested ≡ m.rested
  pub away : n.away ≡ m.away
  pub often : n.often ≡ m.often
  pub polls : n.polls ≡ m.polls
  pub nodes_to : n.nodes_to ≡ m.nodes_to
  pub scx_to : n.scx_to ≡ m.scx_to

-- The one pass of a seat has looked, and remembers what `after` makes of what it did, of the number
-- that it found, and of the run.
abbrev pub LearnsOf : (Layout → History → ℕ → Type 0) → (after : PassMemory → ℕ → List Row → PassMemory) → SeatView → ℕ → SeatView → Type 0
LearnsOf allows after v n w = (p : SeatedPass) × (v.passes ≡ p ∷ []) × LearnsWith allows (after p.memory n) v w

-- the pass p, which is q now, remembers what `after` makes of what it did and of the run
abbrev pub NowRemembers : (after : PassMemory → List Row → PassMemory) → SeatedPass → SeatedPass → Type 0
NowRemembers after p q = q.memory ≡ after p.memory q.known

-- what is remembered with one note more
abbrev pub memory_with_note : PassMemory → RecordNo → NoteView → PassMemory
memory_with_note m name note = record m { notes = noted_as name note ∷ m.notes }

-- What a pass remembers of names and of words of other slots than those it still does, and all that
-- it has noted.
pub record SparesOthers (t : Lasting) (Is : Record → Type 0) (m n : PassMemory) : Type 0 where
  pub notes : (x : Noted) → IsAmongThese x m.notes → IsAmongThese x n.notes
  pub holds : (x : RecordNo) → IsAmongThese x m.holds → ¬ Is (slot_of t (record_at x)) → IsAmongThese x n.holds
  pub empty : (x : RecordNo) → IsAmongThese x m.empty → ¬ Is (record_at x) → IsAmongThese x n.empty
  pub zeros : (w : Word) → IsAmongThese w m.zeros → ¬ Is (record_of w) → IsAmongThese w n.zeros

-- Own slots

-- the slot holds the name, which is the pass's own
pub record IsNameIn (t : Lasting) (o : ℕ) (m : PassMemory) (kind : RecordKind) (slot name : ℕ) : Type 0 where
  pub held : IsAmongThese (name_numbered kind name) m.holds
  pub own : IsOwnRecord t.lay o (record_numbered kind name)
  pub slot_is : slot_number t (name_numbered kind name) ≡ name_numbered kind slot

-- it was marked or dead at a moment that is not behind this one
pub record WasFound (planting : PlantingView) (m : PassMemory) (since : List Row) (kind : RecordKind) (name : ℕ) : Type 0 where
  pub rows : List Row
  pub noted : IsAmongThese (noted_as (name_numbered kind name) (MarkedOrDead rows)) m.notes
  pub before : Extends (history_of planting since) (history_of planting rows)

-- it was dead by a moment that is not behind this one
pub record WasDying (planting : PlantingView) (m : PassMemory) (since : List Row) (kind : RecordKind) (name : ℕ) : Type 0 where
  pub rows : List Row
  pub noted : IsAmongThese (noted_as (name_numbered kind name) (DeadBy rows)) m.notes
  pub before : Extends (history_of planting since) (history_of planting rows)

-- the slot holds nothing, and all of its words are 0
pub record IsCleanSlot (t : Lasting) (m : PassMemory) (kind : RecordKind) (slot : ℕ) : Type 0 where
  pub empty : IsAmongThese (name_numbered kind slot) m.empty
  pub zeros : (w : Word) → IsWord t.table w → record_of w ≡ record_numbered kind slot → IsAmongThese w m.zeros

-- What is known of the slot is so: what was found, or is dying, was so by the moment `since`, at
-- which a period began. Of what is lost more is said below.
abbrev pub IsKnownSo : Lasting → PlantingView → (o : ℕ) → PassMemory → (since : List Row) → RecordKind → (slot name : ℕ) → SlotUse → Type 0
IsKnownSo t planting o m since kind slot name Used = IsNameIn t o m kind slot name
IsKnownSo t planting o m since kind slot name Found = IsNameIn t o m kind slot name × WasFound planting m since kind name
IsKnownSo t planting o m since kind slot name Dying = IsNameIn t o m kind slot name × WasDying planting m since kind name
IsKnownSo t planting o m since kind slot name Lost = IsNameIn t o m kind slot name
IsKnownSo t planting o m since kind slot name Free = IsCleanSlot t m kind slot

-- so it is of the pass p
abbrev pub IsSlotSo : Lasting → SeatedPass → (since : List Row) → RecordKind → (slot : ℕ) → OwnSlot → Type 0
IsSlotSo t p since kind slot x = IsKnownSo t p.planting p.number.0 p.memory since kind slot x.name x.known

-- it is so of each slot from this one on, up to that one
abbrev pub AreSlotsSo : Lasting → SeatedPass → (since : List Row) → OwnSlots → (from to : ℕ) → Type 0
AreSlotsSo t p since own from to = (i : ℕ) (x : OwnSlot) → from ≤ i → i < to → slice_get own.slots.items i ≡ Some x → IsSlotSo t p since own.kind (own.first + i) x

-- they are all slots of the pass of this kind, and it says of its names what is so
pub record AreAllOwn (t : Lasting) (p : SeatedPass) (own : OwnSlots) : Type 0 where
  pub first : own.first ≡ first_own own.kind t.table p.number.0
  pub count : length own.slots.items ≡ count_own own.kind t.table
  pub turn : own.turn ≡ turn_of own.kind t
  pub end : own.end ≡ first_own own.kind t.lay p.number.0 + count_own own.kind t.lay
  pub dealt : own.dealt ≡ dealt_of own.kind p.memory

-- each slot that is lost was so before
abbrev pub LosesNoMore : (old new : OwnSlots) → Type 0
LosesNoMore old new = (i : ℕ) (x : OwnSlot) → slice_get new.slots.items i ≡ Some x → x.known ≡ Lost → slice_get old.slots.items i ≡ Some x

-- they are the same slots, and get the same names next, and no other is lost
pub record AreSameSlots (old new : OwnSlots) : Type 0 where
  pub kind : new.kind ≡ old.kind
  pub first : new.first ≡ old.first
  pub turn : new.turn ≡ old.turn
  pub end : new.end ≡ old.end
  pub dealt : new.dealt ≡ old.dealt
  pub count : length new.slots.items ≡ length old.slots.items
  pub lost : LosesNoMore old new

-- The own slots of the pass p, of one kind, are as it knows: what was found, or is dying, was so by
-- the moment `since`.
pub record IsBook (t : Lasting) (p : SeatedPass) (since : List Row) (own : OwnSlots) : Type 0 where
  pub all : AreAllOwn t p own
  pub slots : AreSlotsSo t p since own 0 (length own.slots.items)

-- it is a node that the pass o has taken by this moment, and that was never in the tree or the trie
abbrev pub IsLostBy : Layout → (o : ℕ) → History → RecordKind → (name : ℕ) → Type 0
IsLostBy lay o h Node name = IsUnborn lay o h name
IsLostBy lay o h Scx name = ⊥

-- so it is of each of these slots that is lost
abbrev pub AreLostBy : Layout → (o : ℕ) → History → OwnSlots → Type 0
AreLostBy lay o h own = (i : ℕ) (x : OwnSlot) → slice_get own.slots.items i ≡ Some x → x.known ≡ Lost → IsLostBy lay o h own.kind x.name

-- none of these slots is lost
abbrev pub HasNoneLost : OwnSlots → Type 0
HasNoneLost own = (i : ℕ) (x : OwnSlot) → slice_get own.slots.items i ≡ Some x → x.known ≢ Lost

-- the pass knows what it knew as it rested last
abbrev pub KnowsRest : SeatedPass → Type 0
KnowsRest p = Extends (past_of p []) (history_of p.planting p.memory.rested)

-- the pass has taken all names of its own of this kind that are below that one
abbrev pub HasTakenBelow : SeatedPass → RecordKind → (next : ℕ) → Type 0
HasTakenBelow p kind next = (n : ℕ) → IsOwnRecord p.layout p.number.0 (record_numbered kind n) → n < next → IsTaken (past_of p []) (record_numbered kind n)

-- A period has ended that began after the rows `since`.
pub record HasPeriodEnded (t : Lasting) (p : SeatedPass) (since : List Row) : Type 0 where
  pub seen : HasSeenAllRest t.lay p since
  pub known : Extends (past_of p []) (history_of p.planting since)

-- The pass p, which is q now, has done something with that slot alone.
pub record KeepsOthers (t : Lasting) (slot : Record) (p q : SeatedPass) : Type 0 where
  pub rests : KeepsRests p.memory q.memory
  pub others : SparesOthers t (λ r. r ≡ slot) p.memory q.memory

-- and this is known of it now
pub record KnowsNow (t : Lasting) (kind : RecordKind) (slot : ℕ) (x : OwnSlot) (p q : SeatedPass) : Type 0 where
  pub keeps : KeepsOthers t (record_numbered kind slot) p q
  pub so : IsSlotSo t q q.known kind slot x

-- and it holds nothing now, and all of its words are 0
pub record HasFreed (t : Lasting) (kind : RecordKind) (slot : ℕ) (p q : SeatedPass) : Type 0 where
  pub keeps : KeepsOthers t (record_numbered kind slot) p q
  pub clean : IsCleanSlot t q.memory kind slot

-- the pass p, which is q now, has a book that is right, and that of its other records still is
pub record HasTurnedBook (t : Lasting) (own : OwnSlots) (p q : SeatedPass) : Type 0 where
  pub rests : KeepsRests p.memory q.memory
  pub book : IsBook t q q.known own
  pub others : (other : OwnSlots) (since : List Row) → other.kind ≢ own.kind → IsBook t p since other → IsBook t q since other
