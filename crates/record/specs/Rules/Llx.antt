-- The rules of `llx`.
use Rattle.std.specs.Prelude.{◌≡◌, ◌≢◌, ℕ, true, false, if◌then◌else◌, ◌==◌, Option}
use Rattle.histories.specs.Common.{Layout, Fill, History, HasFailed, log, is_final}
use Rattle.record.specs.declared.record.Answer.{Answer}
use Rattle.record.specs.declared.record.Answer.TheVariants.{Snapshot, Finalized, Fail}
use Rattle.record.specs.Answers.{IsSnapshotAt, IsPlacedCell}
use Rattle.record.specs.Rules.{Rules}
use Rattle.record.specs.Snapshots.{snapshot_of}

-- the answers of an LLX that has run: it says something, or fails
abbrev pub LlxAfterStep : Answer → Type 0
LlxAfterStep (Snapshot left right) = Unit {0}
LlxAfterStep Finalized = Unit {0}
LlxAfterStep (Fail node scx) = Unit {0}
LlxAfterStep _ = ⊥

-- an LLX renews or drops the client's snapshot of its cell
abbrev pub llx_linked : ℕ → Answer → History → ℕ → Option History → Option History
llx_linked cell answer now n old = if cell == n then snapshot_of answer now else old

-- what its answers say of the cell
abbrev pub LlxIsRight : ℕ → Layout → ℕ → History → History → (ℕ → Option History) → Answer → Type 0
-- these are its fields now, where it is not final
LlxIsRight cell lay c now start linked (Snapshot left right) = IsSnapshotAt lay now cell left.0 right.0
-- the cell is final now
LlxIsRight cell lay c now start linked Finalized = is_final (log lay now) cell ≡ true
-- another client's SCX-record was in the way
LlxIsRight cell lay c now start linked (Fail node scx) = (node.0 ≡ cell) × HasFailed lay c now start cell scx.0
LlxIsRight cell lay c now start linked _ = ⊥

-- at most 64 steps, none of them a fill; it takes nothing, never answers at once, and puts nothing
-- into the log
abbrev pub llx_rules : ℕ → Rules
llx_rules cell = record {
  most_steps = λ tries taken. 64;
  most_scx = λ tries. 0;
  nodes_each = 0;
  MayMake = λ kind. kind ≢ Fill;
  IsAtOnce = λ answer. ⊥;
  IsAfterStep = LlxAfterStep;
  enters = λ answer. false;
  linked_then = llx_linked cell;
  IsRight = λ lay tries. LlxIsRight cell lay;
  IsEntryFor = λ lay c before start linked e. ⊥;
  IsPlaced = λ lay calls lines reply. IsPlacedCell lay lines reply;
}
