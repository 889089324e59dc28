-- What an audit remembers of the steps, for the answers of calls. Lines have the newest
-- first here.
use Rattle.std.specs.Prelude.{◌≡◌, ℕ, suc, ◌+◌, ◌<◌, ◌≤◌, ◌↔◌, List, length, slice_get, Option, Some, None, IsSome, true}
use Rattle.histories.specs.Common.{Layout, Kind, LoadInfo, Freeze, Row, IsInProgress, IsLastStep, History, Opened, ◌⊳◌, Extends, value, all_nodes, all_scx, log, last, is_final, info}
use Rattle.ordered_map.specs.Tries.{tries_begun, IsNewestTry}
use Rattle.record.specs.Common.{Call, CellList, Command, Vlx, cells_of, IsAsSnapped, next_command, linked, HasNodesLeft, HasScxLeft, history, begin, start}
use Rattle.record.specs.declared.record.Line.{Line}
use Rattle.judge.specs.Histories.{seen_history}
use Rattle.audit.specs.declared.memory.Memory.{Memory}
use Rattle.audit.specs.declared.memory.FoundInfo.{FoundInfo}
use Rattle.audit.specs.declared.memory.Snapshot.{Snapshot}
use Rattle.audit.specs.declared.memory.Tries.{Tries}
use Rattle.audit.specs.declared.steps.Steps.{Steps}

-- how many rows a history has
abbrev pub row_count : History → ℕ
row_count (Opened o) = 0
row_count (row ⊳ h) = suc (row_count h)

-- g is the moment of h after its first `rows` rows
pub record IsMomentAt (h : History) (rows : ℕ) (g : History) : Type 0 where
  pub within : Extends h g
  pub many : row_count g ≡ rows

-- after this many rows of h SCX-record s was in progress
abbrev pub WasRunningAt : History → ℕ → ℕ → Type 0
WasRunningAt h rows s = (g : History) × IsMomentAt h rows g × IsInProgress g s

-- what is kept of all steps is what the history h says
pub record AreStepsOf (lay : Layout) (h : History) (steps : Steps) : Type 0 where
  pub layout : steps.judge.layout ≡ lay
  pub is_seen : seen_history steps.judge ≡ h
  pub count : steps.count ≡ row_count h
  pub all_until : length steps.until.items ≡ all_scx lay
  -- of a finished SCX-record: how many rows of h there were while it was still in progress
  pub until : (s rows : ℕ) → slice_get steps.until.items s ≡ Some rows → 0 < rows → WasRunningAt h rows s
  pub all_finals : length steps.finals.items ≡ all_nodes lay
  -- of each node: since when it is final
  pub finals : (n rows : ℕ) → slice_get steps.finals.items n ≡ Some rows → (g : History) → Extends h g → (is_final (log lay g) n ≡ true) ↔ ((0 < rows) × (rows ≤ row_count g))
  pub finals_within : (n rows : ℕ) → slice_get steps.finals.items n ≡ Some rows → rows ≤ row_count h
  pub all_memories : length steps.memories.items ≡ lay.passes

-- the look is the last step of this kind that the pass c has made, with what it has found and the
-- last entry over the node then
pub record IsLookOf (lay : Layout) (h : History) (c : ℕ) (kind : Kind) (look : FoundInfo) : Type 0 where
  pub row : Row
  pub before : History
  pub newest : IsLastStep c h kind look.node.0 row before
  pub many : look.steps ≡ row_count (row ⊳ before)
  pub found : look.found ≡ value before (info look.node.0)
  pub last_entry : look.last ≡ last (log lay (row ⊳ before)) look.node.0

-- what is kept of a snapshot of node n is of the snapshot that the lines say, if they say one
abbrev pub IsSnapshotOf : Layout → History → ℕ → Option Snapshot → Option History → Type 0
IsSnapshotOf lay h n (Some kept) (Some moment) = IsMomentAt h kept.steps moment × (kept.last ≡ last (log lay moment) n)
IsSnapshotOf lay h n None None = Unit {0}
IsSnapshotOf lay h n _ _ = ⊥

-- the snapshots that are kept are those of these moments
abbrev pub AreSnapshotsOf : Layout → History → Memory → (ℕ → Option History) → Type 0
AreSnapshotsOf lay h memory linked = (n : ℕ) (kept : Option Snapshot) → slice_get memory.snapshots n ≡ Some kept → IsSnapshotOf lay h n kept (linked n)

-- Since the moment `start` client c has begun as many tries as are remembered, the newest of them
-- after the remembered number of rows.
pub record AreTriesSince (h start : History) (c : ℕ) (tries : Tries) : Type 0 where
  pub many : tries_begun c h ≡ tries_begun c start + tries.many
  pub newest : 0 < tries.many → (begin : History) × IsMomentAt h tries.before begin × Extends begin start × IsNewestTry c h begin

-- What is remembered of the start of a call of client c: the history was `start` then, `linked` are
-- the moments of the snapshots that the client keeps, and `next` is the call's command.
pub record IsBegunWith (lay : Layout) (h start : History) (linked : ℕ → Option History) (next : Option Command) (c : ℕ) (memory : Memory) : Type 0 where
  pub begun : memory.begun ≡ row_count start
  pub within : Extends h start
  pub nodes : HasNodesLeft lay c start memory.nodes
  pub scx : HasScxLeft lay c start memory.scx
  pub tries : AreTriesSince h start c memory.tries
  -- of each cell of a `vlx` that is said to be as its snapshot found it
  pub same : (cells : CellList) → next ≡ Some (Vlx cells) → (place n : ℕ) → slice_get (cells_of cells) place ≡ Some n → slice_get memory.same place ≡ Some true → IsAsSnapped lay start linked n

-- what is remembered of client c, whose call has begun in turn `begin`, if it has begun
pub record IsKept (lay : Layout) (h start : History) (linked : ℕ → Option History) (begin : Option ℕ) (next : Option Command) (c : ℕ) (memory : Memory) : Type 0 where
  pub begins : IsSome begin → IsBegunWith lay h start linked next c memory
  pub looks : (look : FoundInfo) → memory.look ≡ Some look → IsLookOf lay h c LoadInfo look
  pub freezes : (look : FoundInfo) → memory.freeze ≡ Some look → IsLookOf lay h c Freeze look
  pub snapshots : AreSnapshotsOf lay h memory linked

-- what is remembered of client c is what the lines say
abbrev pub IsMemoryOf : Layout → List Call → List Line → ℕ → Memory → Type 0
IsMemoryOf lay calls lines c memory = IsKept lay (history lay.mode lines) (start lay.mode lines c) (linked calls lay.mode lines c) (begin lines c) (next_command calls lines c) c memory

-- all that is remembered of the steps and of each client
pub record AreRemembered (lay : Layout) (calls : List Call) (lines : List Line) (all : Steps) : Type 0 where
  pub steps : AreStepsOf lay (history lay.mode lines) all
  pub memories : (c : ℕ) (memory : Memory) → slice_get all.memories.items c ≡ Some memory → IsMemoryOf lay calls lines c memory

-- all that is remembered, where the call of client c has begun, or begins now
pub record AreRememberedInCall (lay : Layout) (calls : List Call) (lines : List Line) (c : ℕ) (all : Steps) : Type 0 where
  pub remembered : AreRemembered lay calls lines all
  pub begun : (memory : Memory) → slice_get all.memories.items c ≡ Some memory → IsBegunWith lay (history lay.mode lines) (start lay.mode lines c) (linked calls lay.mode lines c) (next_command calls lines c) c memory
