-- What passes of a table that lasts remember from one call to the next, and when it is so.
use Rattle.std.specs.Prelude.{◌≡◌, ◌<◌, ◌⊎◌, ℕ, true, false, List, Option, Some, None, slice_index}
use Rattle.histories.specs.Common.{Layout, Fill, Step, Word, History, Extends, IsWord, IsTakenNode, place, log, is_final}
use Rattle.planting.specs.Plantings.{PlantingView}
use Rattle.ordered_map.specs.Runs.{IsMapRun}
use Rattle.touching.specs.Left.{HasLeft}
use Rattle.resting.specs.Dead.{IsDead, IsMarkedRecord, IsUnborn, WasDoneWith}
use Rattle.resting.specs.Periods.{IsRightNote, dead_by, out_of_reach}
use Rattle.resting.specs.Reach.{IsOutOfReach}
use Rattle.resting.specs.Records.{Record, record_of, the_node, the_scx}
use Rattle.resting.specs.Rests.{HasRestedAt}
use Rattle.slots.specs.Counts.{HasSeenRests, Tally}
use Rattle.slots.specs.Held.{Held, IsHeld}
use Rattle.slots.specs.Lasting.{IsOwnName, IsOwnRecord, IsUntaken, Lasting}
use Rattle.tables.specs.Passes.{Each}
use Rattle.tables.specs.TableRule.{history_of}
use Rattle.tables.specs.declared.memory.PassMemory.{PassMemory}
use Rattle.tables.specs.declared.memory.NoteView.{NoteView}
use Rattle.tables.specs.declared.memory.NoteView.TheVariants.{MarkedOrDead, DeadBy, OutOfReach, DoneWith}
use Rattle.tables.specs.declared.memory.Polled.{Polled}
use Rattle.tables.specs.declared.memory.RecordNo.{RecordNo}
use Rattle.tables.specs.declared.memory.RecordNo.TheVariants.{Node, Scx}
use Rattle.tables.specs.declared.view.SeatedPass.{SeatedPass}

-- the record of this number
abbrev pub record_at : RecordNo → Record
record_at (Node n) = the_node n.0
record_at (Scx s) = the_scx s.0

-- Where a table is: its words, its run, for each pass a moment at which it has rested, what each
-- slot holds, and how often each pass has rested and whether it is away.
pub record Present : Type 0 where
  pub words : List ℕ
  pub run : History
  pub last : ℕ → History
  pub held : Held
  pub tally : Tally

abbrev pub present : List ℕ → History → (ℕ → History) → Held → Tally → Present
present words run last held tally = record { words = words; run = run; last = last; held = held; tally = tally }

-- The node is final, has left, or was never put in as its pass rested. So it is not in the tree,
-- and never comes there any more.
abbrev pub IsOutForGood : Layout → History → (ℕ → History) → ℕ → Type 0
IsOutForGood lay h last n = (is_final (log lay h) n ≡ true) ⊎ (HasLeft h n ⊎ ((p : ℕ) × (p < lay.passes) × IsUnborn lay p (last p) n))

-- so it is with each node; of an SCX-record nothing is to be said
abbrev pub IsGoneRecord : Layout → History → (ℕ → History) → Record → Type 0
IsGoneRecord lay h last (the_node n) = IsOutForGood lay h last n
IsGoneRecord lay h last (the_scx s) = Unit {0}

-- each node that was taken is held, or gone
abbrev pub AreHeldOrGone : Lasting → Present → Type 0
AreHeldOrGone t now = (n : ℕ) → IsTakenNode now.run n → IsHeld t now.held (the_node n) ⊎ IsOutForGood t.lay now.run now.last n

-- at a moment when it was finished the SCX-record was done with that node
abbrev pub IsDoneWith : Layout → History → Record → ℕ → Type 0
IsDoneWith lay h (the_node n) j = Unit {0}
IsDoneWith lay h (the_scx s) j = WasDoneWith lay h s j

-- The pass's note of a record is right; and if it is dead, or out of reach, it is gone. A note of a
-- node's place says that the SCX-record was done with that node.
abbrev pub IsNoteSo : Layout → PlantingView → ℕ → Present → Record → NoteView → Type 0
IsNoteSo lay planting o now x (MarkedOrDead rows) = Extends now.run (history_of planting rows) × (IsMarkedRecord x (history_of planting rows) ⊎ ((IsDead lay o x (history_of planting rows) ⊎ IsOutOfReach lay now.run now.last x) × IsGoneRecord lay now.run now.last x))
IsNoteSo lay planting o now x (DeadBy rows) = IsRightNote lay o x now.run now.last (dead_by (history_of planting rows)) × IsGoneRecord lay now.run now.last x
IsNoteSo lay planting o now x OutOfReach = IsRightNote lay o x now.run now.last out_of_reach × IsGoneRecord lay now.run now.last x
IsNoteSo lay planting o now x (DoneWith j) = IsDoneWith lay now.run x j

-- by then the pass p had rested so often; or it has rested since
abbrev pub HasPolledSo : Present → ℕ → History → Option ℕ → Type 0
HasPolledSo now p m (Some seen) = HasSeenRests now.run now.last now.tally p m seen
HasPolledSo now p m None = Extends (now.last p) m

-- what was polled of a pass is right
abbrev pub IsPollSo : Layout → PlantingView → Present → Polled → Type 0
IsPollSo lay planting now poll = (poll.pass.0 < lay.passes) × HasPolledSo now poll.pass.0 (history_of planting poll.since) poll.waits

-- the slot that the name is of is the pass's own, as the name is, and holds it
abbrev pub IsHeldName : Lasting → ℕ → Present → RecordNo → Type 0
IsHeldName t o now name = IsOwnName t o (record_at name) × IsHeld t now.held (record_at name)

-- the slot is the pass's own, and holds nothing
abbrev pub IsEmptySlot : Lasting → ℕ → Present → RecordNo → Type 0
IsEmptySlot t o now slot = IsOwnRecord t.table o (record_at slot) × (now.held (record_at slot) ≡ None)

-- the word is one of such a slot, and is 0
pub record IsZeroWord (t : Lasting) (o : ℕ) (now : Present) (w : Word) : Type 0 where
  pub is_word : IsWord t.table w
  pub own : IsOwnRecord t.table o (record_of w)
  pub none : now.held (record_of w) ≡ None
  pub zero : slice_index now.words (place t.table w) ≡ 0

-- the name is one of those that the pass has dealt itself, or passed over
abbrev pub IsDealt : PassMemory → Record → Type 0
IsDealt m (the_node n) = n < m.nodes_to
IsDealt m (the_scx s) = s < m.scx_to

-- what the step fills is dealt
abbrev pub FillsDealt : PassMemory → Step → Type 0
FillsDealt m s = s.kind ≡ Fill → IsDealt m (record_of s.word)

-- what the pass remembers of names, of slots and of others is so
pub record RemembersNames (t : Lasting) (planting : PlantingView) (now : Present) (o : ℕ) (m : PassMemory) : Type 0 where
  -- its names that are dealt and untaken are held, and none is that is not dealt
  pub dealt : (x : Record) → IsOwnRecord t.lay o x → IsDealt m x → IsUntaken t.lay now.run x → IsHeld t now.held x
  pub later : (x : Record) → IsOwnRecord t.lay o x → ¬ IsDealt m x → ¬ IsHeld t now.held x
  pub notes : Each (λ n. IsNoteSo t.lay planting o now (record_at n.name) n.note) m.notes
  pub polls : Each (IsPollSo t.lay planting now) m.polls
  pub holds : Each (IsHeldName t o now) m.holds
  pub empty : Each (IsEmptySlot t o now) m.empty
  pub zeros : Each (IsZeroWord t o now) m.zeros

-- what the pass remembers is so
pub record RemembersWell (t : Lasting) (planting : PlantingView) (now : Present) (o : ℕ) (m : PassMemory) : Type 0 where
  pub away : m.away ≡ now.tally.away o
  pub often : m.often ≡ now.tally.count o
  -- it has rested last after those rows, while it is there
  pub rested : m.away ≡ false → now.last o ≡ history_of planting m.rested
  pub names : RemembersNames t planting now o m

-- so it is with each of these passes
abbrev pub RememberWell : Lasting → PlantingView → Present → List SeatedPass → Type 0
RememberWell t planting now ps = Each (λ p. RemembersWell t planting now p.number.0 p.memory) ps

-- what a pass has taken and was never put in stays so, if it rests
abbrev pub StaysUnborn : Layout → Type 0
StaysUnborn lay = (h : History) (p : ℕ) (rest : History) (n : ℕ) → p < lay.passes → IsMapRun lay h → HasRestedAt lay h p rest → IsUnborn lay p rest n → IsUnborn lay p h n
