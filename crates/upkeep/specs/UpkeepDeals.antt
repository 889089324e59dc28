-- How free slots get names, and names that are left are given back.
use Rattle.std.specs.Prelude.{◌≡◌, ◌≢◌, ◌+◌, ◌-◌, ◌<◌, ◌⊎◌, ◌++◌, ◌%◌, ℕ, false, List, [], ◌∷◌, Some, length, slice_get}
use Rattle.histories.specs.Common.{Abort, Extends, Fill, History, IsRun, Lawful, Layout, Remaining, Row, log}
use Rattle.planting.specs.Plantings.{PlantingView}
use Rattle.prims.specs.Moments.{AreFinished}
use Rattle.prims.specs.Shares.{IsShare}
use Rattle.slots.specs.Lasting.{IsOwnName, Lasting}
use Rattle.tables.specs.LastingMemory.{record_at}
use Rattle.tables.specs.LastingNames.{memory_with_node, memory_with_scx, node_ahead, past_nodes, past_scxs, scx_ahead}
use Rattle.tables.specs.LastingRule.{GoesOnWith}
use Rattle.tables.specs.LastingSlots.{slot_number}
use Rattle.tables.specs.Passes.{Each}
use Rattle.tables.specs.Shares.{entries_of}
use Rattle.tables.specs.TableRule.{history_of, past_of}
use Rattle.upkeep.specs.UpkeepBook.{IsBook, IsCleanSlot, KnowsRest, LosesNoMore, dealt_of, name_numbered}
use Rattle.tables.specs.declared.memory.PassMemory.{PassMemory}
use Rattle.tables.specs.declared.memory.RecordNo.{RecordNo}
use Rattle.upkeep.specs.declared.book.SlotUse.TheVariants.{Free, Used}
use Rattle.upkeep.specs.declared.book.OwnSlot.{OwnSlot}
use Rattle.upkeep.specs.declared.book.OwnSlots.{OwnSlots}
use Rattle.upkeep.specs.declared.kind.RecordKind.{RecordKind}
use Rattle.upkeep.specs.declared.kind.RecordKind.TheVariants.{Node, Scx}
use Rattle.tables.specs.declared.view.SeatedPass.{SeatedPass}
use Rattle.tables.specs.declared.view.SeatView.{SeatView}

-- By kind

-- the name that is so many behind those that are dealt
abbrev pub ahead : RecordKind → PassMemory → (count : ℕ) → RecordNo
ahead Node m count = node_ahead m count
ahead Scx m count = scx_ahead m count

-- what is remembered once so many names are passed over, and the slot holds the next
abbrev pub memory_given : RecordKind → PassMemory → (count : ℕ) → RecordNo → List Row → PassMemory
memory_given Node m count slot rows = memory_with_node m count slot rows
memory_given Scx m count slot rows = memory_with_scx m count slot rows

-- these rows, and after them those by which so many names are passed over
abbrev pub past_names : RecordKind → (o from count : ℕ) → PlantingView → List Row → List Row
past_names Node o from count planting rows = past_nodes o from count planting rows
past_names Scx o from count planting rows = past_scxs o from count planting rows

-- the next name that a share gives, and how many it has left
abbrev pub next_of : RecordKind → Remaining → ℕ
next_of Node left = left.next_node
next_of Scx left = left.next_scx

abbrev pub many_left : RecordKind → Remaining → ℕ
many_left Node left = left.nodes
many_left Scx left = left.scx

-- the share with so many left from that name on
abbrev pub with_left : RecordKind → Remaining → (next count : ℕ) → Remaining
with_left Node left next count = record left { next_node = next; nodes = count }
with_left Scx left next count = record left { next_scx = next; scx = count }

-- A pass between two calls

-- The pass is there and between two calls, the run that it knows is lawful, and this is left of its
-- share.
pub record HasShareLeft (allows : Layout → History → ℕ → Type 0) (p : SeatedPass) (left : Remaining) : Type 0 where
  pub is_pass : p.number.0 < p.layout.passes
  pub run : IsRun allows p.layout (past_of p [])
  pub there : p.memory.away ≡ false
  pub share : IsShare p.layout (past_of p []) p.number.0 left left.next_node left.next_scx
  pub over : AreFinished p.layout p.number.0 0 (past_of p [])

-- The slot may get the name that is so many behind those that are dealt.
pub record MayGet (t : Lasting) (p : SeatedPass) (kind : RecordKind) (slot count : ℕ) : Type 0 where
  pub own : IsOwnName t p.number.0 (record_at (ahead kind p.memory count))
  pub slot_is : slot_number t (ahead kind p.memory count) ≡ name_numbered kind slot
  pub clean : IsCleanSlot t p.memory kind slot

-- the row is one of another pass, or one of no call, by which the pass passes over a name
abbrev pub IsOfNoCall : ℕ → Row → Type 0
IsOfNoCall o r = (r.pass.0 ≢ o) ⊎ ((r.call ≡ 0) × ((r.kind ≡ Fill) ⊎ (r.kind ≡ Abort)))

-- If all that the pass o had taken was finished after the rows `known`, it is after these, and the
-- pass has made no entry since.
abbrev pub EntersNone : Layout → (o : ℕ) → PlantingView → (known later : List Row) → Type 0
EntersNone lay o planting known later = Lawful lay (history_of planting later) → AreFinished lay o 0 (history_of planting known) → AreFinished lay o 0 (history_of planting later) × (entries_of o (log lay (history_of planting later)) ≡ entries_of o (log lay (history_of planting known)))

-- the pass, later on: others have gone on, and it has passed over names
pub record HasGoneOnDealing (p q : SeatedPass) : Type 0 where
  pub number : q.number ≡ p.number
  pub layout : q.layout ≡ p.layout
  pub planting : q.planting ≡ p.planting
  pub more : List Row
  pub of_no_call : Each (IsOfNoCall p.number.0) more
  pub known : q.known ≡ more ++ p.known
  pub none : EntersNone p.layout p.number.0 p.planting p.known q.known

-- the only pass of a seat has gone on so, and this holds of what it was and what it is
pub record DealsOn (so : SeatedPass → SeatedPass → Type 0) (v w : SeatView) : Type 0 where
  pub pass : SeatedPass
  pub later : SeatedPass
  pub was : v.passes ≡ pass ∷ []
  pub is : w.passes ≡ later ∷ []
  pub goes_on : HasGoneOnDealing pass later
  pub holds : so pass later

-- The only pass of a seat has come to know the run, and has passed over so many names, and the slot
-- holds the next.
abbrev pub LearnsPast : (Layout → History → ℕ → Type 0) → RecordKind → (slot count : ℕ) → SeatView → SeatView → Type 0
LearnsPast allows kind slot count v w = (p : SeatedPass) × (v.passes ≡ p ∷ []) × GoesOnWith allows (past_names kind p.number.0 (dealt_of kind p.memory) count) (memory_given kind p.memory count (name_numbered kind slot)) v w

-- The pass p, which is q now, had taken all names that were dealt, has passed over so many, and the
-- slot holds the next, which alone is left of its share.
pub record HasPassedTo (allows : Layout → History → ℕ → Type 0) (t : Lasting) (kind : RecordKind) (slot count : ℕ) (p q : SeatedPass) : Type 0 where
  pub memory : q.memory ≡ memory_given kind p.memory count (name_numbered kind slot) q.known
  pub left : (left : Remaining) → HasShareLeft allows p left → next_of kind left ≡ dealt_of kind p.memory → IsOwnName t p.number.0 (record_at (ahead kind p.memory count)) → p.layout ≡ t.lay → HasShareLeft allows q (with_left kind left (dealt_of kind p.memory + count) 1)

-- Books

-- of rests of others, and how often it has rested, it remembers the same, and of names of the other
-- kind as many are dealt
pub record KeepsPolls (kind : RecordKind) (m n : PassMemory) : Type 0 where
  pub away : n.away ≡ m.away
  pub often : n.often ≡ m.often
  pub polls : n.polls ≡ m.polls
  pub others : (other : RecordKind) → other ≢ kind → dealt_of other n ≡ dealt_of other m

-- they are the same slots, whatever names they get next, and no other is lost
pub record AreSlotsStill (old new : OwnSlots) : Type 0 where
  pub kind : new.kind ≡ old.kind
  pub first : new.first ≡ old.first
  pub turn : new.turn ≡ old.turn
  pub end : new.end ≡ old.end
  pub count : length new.slots.items ≡ length old.slots.items
  pub lost : LosesNoMore old new

-- this slot is free
abbrev pub IsFreeAt : OwnSlots → ℕ → Type 0
IsFreeAt own i = (x : OwnSlot) × (slice_get own.slots.items i ≡ Some x) × (x.known ≡ Free)

-- this slot is in use, and holds the name
abbrev pub IsNameAt : OwnSlots → (name i : ℕ) → Type 0
IsNameAt own name i = (x : OwnSlot) × (slice_get own.slots.items i ≡ Some x) × (x.known ≡ Used) × (x.name ≡ name)

-- the name that is so many behind those that are dealt is one of this slot
pub record HasNameFor (own : OwnSlots) (i count : ℕ) : Type 0 where
  pub slot_is : (own.dealt + count) % own.turn ≡ own.first + i
  pub inside : own.dealt + count < own.end

-- The pass p, which is q now, has given names to slots, or has given names back: of a share with all
-- names from this one on, which were dealt, now all from that one on are left.
pub record HasDealt (allows : Layout → History → ℕ → Type 0) (t : Lasting) (old new : OwnSlots) (from to : ℕ) (p q : SeatedPass) : Type 0 where
  pub keeps : KeepsPolls old.kind p.memory q.memory
  -- it may have rested meanwhile
  pub rested : KnowsRest p → KnowsRest q
  pub book : (since : List Row) → IsBook t p since old → IsBook t q since new
  pub others : (other : OwnSlots) (since : List Row) → other.kind ≢ old.kind → IsBook t p since other → IsBook t q since other
  pub left : (left : Remaining) → HasShareLeft allows p left → next_of old.kind left ≡ from → HasShareLeft allows q (with_left old.kind left to (new.dealt - to))
