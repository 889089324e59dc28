-- What has to be said of a command, one file a command.
pub mod Llx
pub mod Scx
pub mod Vlx
pub mod Set
pub mod Edit
pub mod Get
pub mod Neighbour
pub mod Range
pub mod Map
use Rattle.std.specs.Prelude.{ℕ, Bool, List, Option}
use Rattle.histories.specs.Common.{Layout, Kind, History, Entry as Entered}
use Rattle.script.specs.declared.call.Call.{Call}
use Rattle.record.specs.declared.record.Line.{Line}
use Rattle.record.specs.declared.record.Finished.{Finished}
use Rattle.record.specs.declared.record.Answer.{Answer}

-- what is said of one command, and of no other
pub record Rules : Type 1 where
  -- how many steps a call may make, by how many tries it may make and how many nodes are taken
  pub most_steps : ℕ → ℕ → ℕ
  -- how many SCX-records of its client's share it may take, by how often it may try, and how many
  -- nodes for each that it takes
  pub most_scx : ℕ → ℕ
  pub nodes_each : ℕ
  -- the kinds of step that it may make
  pub MayMake : Kind → Type 0
  -- the answers that it may give in place of a first step
  pub IsAtOnce : Answer → Type 0
  -- the answers that it may give after a step
  pub IsAfterStep : Answer → Type 0
  -- whether an answer says that an update of the call is in the log
  pub enters : Answer → Bool
  -- what an answer leaves of the client's snapshot of a cell: of this answer, at this moment, of
  -- this cell, and the snapshot kept before
  pub linked_then : Answer → History → ℕ → Option History → Option History
  -- what an answer of client c says, by how often its call may try, between the steps up to the
  -- call's start and those up to now, with the snapshots that the client keeps
  pub IsRight : Layout → ℕ → ℕ → History → History → (ℕ → Option History) → Answer → Type 0
  -- what an entry of client c does, between the steps up to the call's start and those just before
  -- the entry's, with the snapshots that the client keeps
  pub IsEntryFor : Layout → ℕ → History → History → (ℕ → Option History) → Entered → Type 0
  -- where the call of a reply took place, with the lines before the reply
  pub IsPlaced : Layout → List Call → List Line → Finished → Type 0

-- what a record says of one call of the map, and of no other, besides what the call may do whoever
-- makes it (`call_rules`) and what it answers; each as above
pub record MapRules : Type 1 where
  pub IsAtOnce : Answer → Type 0
  pub IsRight : Layout → ℕ → ℕ → History → History → (ℕ → Option History) → Answer → Type 0
