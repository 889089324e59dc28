-- What a pass of a table that lasts comes to remember: of its rests and those of others, and of
-- names.
use Rattle.std.specs.Prelude.{◌≡◌, ◌≢◌, ◌<◌, ◌⊎◌, ◌*◌, ◌/◌, ◌%◌, ◌==◌, if◌then◌else◌, ℕ, suc, true, false, List, [], ◌∷◌, Option, Some, None}
use Rattle.histories.specs.Common.{Layout, Row, History, Extends, ScxNo, NodeNo}
use Rattle.planting.specs.Plantings.{PlantingView}
use Rattle.resting.specs.Dead.{IsUnborn, IsUnnamedScx}
use Rattle.resting.specs.Records.{Record, the_node, the_scx}
use Rattle.tables.specs.TableRule.{history_of}
use Rattle.tables.specs.declared.memory.PassMemory.{PassMemory}
use Rattle.tables.specs.declared.memory.Noted.{Noted}
use Rattle.tables.specs.declared.memory.NoteView.{NoteView}
use Rattle.tables.specs.declared.memory.NoteView.TheVariants.{MarkedOrDead, DeadBy, OutOfReach, DoneWith}
use Rattle.tables.specs.declared.memory.Polled.{Polled}
use Rattle.tables.specs.declared.memory.RecordNo.{RecordNo}
use Rattle.tables.specs.declared.memory.RecordNo.TheVariants.{Scx, Node}
use Rattle.tables.specs.declared.view.SeatedPass.{SeatedPass}

-- a note of a name
abbrev pub noted_as : RecordNo → NoteView → Noted
noted_as name note = record { name = name; note = note }

-- what is remembered of a rest after these rows
abbrev pub memory_rested : PassMemory → List Row → PassMemory
memory_rested m rows = record m { rested = rows; away = false; often = suc m.often }

-- what is remembered while the pass is away
abbrev pub memory_away : PassMemory → PassMemory
memory_away m = record m { away = true }

-- how often another pass had rested, by what its word was; nothing if it was away, and so rests
abbrev pub waits_of : ℕ → Option ℕ
waits_of n = if n % 2 == 0 then Some (n / 2) else None

-- what is remembered of a first look at the word of the pass q, that was n, after these rows
abbrev pub memory_looked : PassMemory → ℕ → ℕ → List Row → PassMemory
memory_looked m q n rows = record m { polls = record { pass = record { 0 = q }; since = rows; waits = waits_of n } ∷ m.polls }

-- what is remembered of a look at the word, that was n, of the pass of a poll that had rested so
-- often
abbrev pub memory_polled : PassMemory → Polled → (seen n : ℕ) → PassMemory
memory_polled m poll seen n = if n == 2 * seen then m else record m { polls = record poll { waits = None } ∷ m.polls }

-- x is one of these
abbrev pub IsAmongThese : {A : Type 0} → A → List A → Type 0
IsAmongThese x [] = ⊥
IsAmongThese x (y ∷ ys) = (x ≡ y) ⊎ IsAmongThese x ys

-- what a look has told of the pass q: it has rested since these rows
abbrev pub rested_poll : ℕ → List Row → Polled
rested_poll q rows = record { pass = record { 0 = q }; since = rows; waits = None }

-- The pass is there, and has rested since these rows, and it has polled that so has each other,
-- each since a moment of its own.
pub record HasSeenAllRest (lay : Layout) (p : SeatedPass) (rows : List Row) : Type 0 where
  pub there : p.memory.away ≡ false
  pub own : Extends (history_of p.planting p.memory.rested) (history_of p.planting rows)
  pub others : (q : ℕ) → q < lay.passes → q ≢ p.number.0 → (since : List Row) × IsAmongThese (rested_poll q since) p.memory.polls × Extends (history_of p.planting since) (history_of p.planting rows)

-- the note is of that moment, or of one before
abbrev pub IsBefore : PlantingView → History → NoteView → Type 0
IsBefore planting moment (MarkedOrDead rows) = Extends moment (history_of planting rows)
IsBefore planting moment (DeadBy rows) = Extends moment (history_of planting rows)
IsBefore planting moment OutOfReach = Unit {0}
IsBefore planting moment (DoneWith j) = Unit {0}

-- how a note goes on when all have rested: what was marked or dead is dead by now, and what was
-- dead is out of reach
abbrev pub further : List Row → NoteView → NoteView
further rows (MarkedOrDead old) = DeadBy rows
further rows (DeadBy old) = OutOfReach
further rows OutOfReach = OutOfReach
further rows (DoneWith j) = DoneWith j

-- these notes, and behind them the others
abbrev pub further_all : List Row → List Noted → List Noted → List Noted
further_all rows [] notes = notes
further_all rows (n ∷ ns) notes = record { name = n.name; note = further rows n.note } ∷ further_all rows ns notes

-- what is remembered once these notes have gone on
abbrev pub memory_noted : PassMemory → List Noted → List Row → PassMemory
memory_noted m chosen rows = record m { notes = further_all rows chosen m.notes }

-- what is remembered of a look at the mark of a name that is held, which was n, after these rows
abbrev pub memory_marked : PassMemory → RecordNo → (n : ℕ) → List Row → PassMemory
memory_marked m name n rows = if n == 0 then m else record m { notes = noted_as name (MarkedOrDead rows) ∷ m.notes }

-- what is remembered of a node that was out of the tree after these rows
abbrev pub memory_left : PassMemory → NodeNo → List Row → PassMemory
memory_left m n rows = record m { notes = noted_as (Node n) (MarkedOrDead rows) ∷ m.notes }

-- The name is the pass's own, taken as it rested: of a node that was never put in by then, or of a
-- finished SCX-record that no info had named.
abbrev pub IsUnneeded : Layout → ℕ → Record → History → Type 0
IsUnneeded lay o (the_node n) rest = IsUnborn lay o rest n
IsUnneeded lay o (the_scx s) rest = IsUnnamedScx lay o rest s

-- what is remembered of such a name: it is out of reach
abbrev pub memory_unused : PassMemory → RecordNo → PassMemory
memory_unused m name = record m { notes = noted_as name OutOfReach ∷ m.notes }

-- what is remembered of an SCX-record that was done with its node of this place, as a look at the
-- node's info told, which was n, or as the pass knew; nothing if the info named that SCX-record
abbrev pub memory_done : PassMemory → ScxNo → (j : ℕ) → PassMemory
memory_done m s j = record m { notes = noted_as (Scx s) (DoneWith j) ∷ m.notes }

abbrev pub memory_looked_at : PassMemory → ScxNo → (j n : ℕ) → PassMemory
memory_looked_at m s j n = if n == s.0 then m else memory_done m s j

-- and of one that is dead after these rows
abbrev pub memory_over : PassMemory → ScxNo → List Row → PassMemory
memory_over m s rows = record m { notes = noted_as (Scx s) (MarkedOrDead rows) ∷ m.notes }
