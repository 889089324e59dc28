-- The calls of a machine, as the clauses of straight code see them.
use Rattle.std.specs.Prelude.{ℕ, Option}
use Rattle.histories.specs.Common.{Layout, Ghosts as Machine, Step, History, Call}
use Rattle.arena.specs.declared.machine.Shape.{Ghosts as Shape}
use Rattle.tables.specs.declared.memory.PassMemory.{PassMemory}

-- What is said of the calls of a machine: in which runs they are made, when it may get
-- something, when it waits for a step, what of it stays the same, when what it has left of a share
-- is dealt, and their layout and number.
pub record Calls (M : Type 0) : Type 1 where
  pub allows : Layout → History → ℕ → Type 0
  pub ready : M → Call → History → Option ℕ → Type 0
  pub waits : M → Call → History → Step → Type 0
  pub same : M → M → Type 0
  pub left_dealt : M → PassMemory → Type 0
  pub layout : Layout
  pub number : ℕ

-- the calls of a machine under a shape that have this layout and number
abbrev pub calls : {S M A : Type 0} → Shape S → Machine M S A → (M → PassMemory → Type 0) → Layout → ℕ → Calls M
calls s m left layout number = record { allows = s.allows; ready = m.ready; waits = m.waits; same = m.same; left_dealt = left; layout = layout; number = number }
