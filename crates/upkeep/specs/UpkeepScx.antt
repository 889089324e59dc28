-- When a pass sees that an SCX-record of its own is dead.
use Rattle.std.specs.Prelude.{◌≡◌, ◌<◌, ℕ, true, []}
use Rattle.arena.specs.ScxRecords.{count, count_of, plan_finalizes}
use Rattle.histories.specs.Common.{History, Layout, ScxWord, scx}
use Rattle.resting.specs.Dead.{WasDoneWith}
use Rattle.slots.specs.Lasting.{Lasting}
use Rattle.tables.specs.LastingNotes.{IsAmongThese, noted_as}
use Rattle.tables.specs.TableRule.{past_of}
use Rattle.upkeep.specs.UpkeepBook.{KeepsOthers, name_numbered, record_numbered}
use Rattle.upkeep.specs.UpkeepSteps.{HasLoadedWord, LearnsWord}
use Rattle.tables.specs.declared.memory.NoteView.TheVariants.{DoneWith}
use Rattle.tables.specs.declared.memory.PassMemory.{PassMemory}
use Rattle.upkeep.specs.declared.kind.RecordKind.TheVariants.{Scx}
use Rattle.tables.specs.declared.view.SeatedPass.{SeatedPass}
use Rattle.tables.specs.declared.view.SeatView.{SeatView}

-- the only pass of a seat has loaded this word of an SCX-record, which was n
abbrev pub LearnsPart : (Layout → History → ℕ → Type 0) → (s : ℕ) → ScxWord → SeatView → ℕ → SeatView → Type 0
LearnsPart allows s part = LearnsWord allows (scx s part)

-- the pass p, which is q now, has loaded it, and remembers what it did
abbrev pub HasLoaded : (s : ℕ) → ScxWord → ℕ → SeatedPass → SeatedPass → Type 0
HasLoaded s part = HasLoadedWord (scx s part)

-- it is noted that the SCX-record was done with its node of this place
abbrev pub IsDoneNoted : PassMemory → (s j : ℕ) → Type 0
IsDoneNoted m s j = IsAmongThese (noted_as (name_numbered Scx s) (DoneWith j)) m.notes

-- it is committed, by its state, and finalizes the node of this place, by its plan
abbrev pub IsRemoval : (state plan i : ℕ) → Type 0
IsRemoval state plan i = (state ≡ 1) × (i < count_of plan) × (plan_finalizes plan i ≡ true)

-- The pass p, which is q now, has found the SCX-record, of so many nodes, done with those before
-- this place; and it is done with those that it has removed.
pub record IsDoneTo (t : Lasting) (slot s number state plan j : ℕ) (p q : SeatedPass) : Type 0 where
  pub keeps : KeepsOthers t (record_numbered Scx slot) p q
  pub holds : q.memory.holds ≡ p.memory.holds
  pub nodes : count (past_of q []) s ≡ number
  pub done : (i : ℕ) → i < j → IsDoneNoted q.memory s i
  pub removed : (i : ℕ) → IsRemoval state plan i → WasDoneWith q.layout (past_of q []) s i
