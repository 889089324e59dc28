-- What an audit of a record of a map remembers of it. Lines have the newest first here.
use Rattle.std.specs.Prelude.{◌≡◌, ℕ, List, ◌∷◌, Option, Some, slice_get}
use Rattle.arena.specs.Opening.{IsMap}
use Rattle.histories.specs.Common.{Layout, IsRun, History}
use Rattle.record.specs.Common.{Call, HasRisingLevels, TreeAllows, AreSpelled, history, next_command, Command}
use Rattle.record.specs.declared.record.Line.{Line}
use Rattle.record.specs.declared.record.Entry.{Entry}
use Rattle.linearization.specs.declared.places.Change.{Change}
use Rattle.linearization.specs.declared.places.Places.{Places}
use Rattle.linearization.specs.Places.{changes}
use Rattle.linearization.specs.Entries.{AreEntries}
use Rattle.audit.specs.Edits.{AreRememberedEdits, IsSuited}
use Rattle.audit.specs.declared.edits.BegunEdit.{BegunEdit}

-- each SCX-record that has begun makes an edit, levels rise, and the words spell the map so far
-- after each step; the edits that are remembered and the changes are those of the lines
pub record IsTreeSoFar (lay : Layout) (calls : List Call) (begun : List (Option BegunEdit)) (changed : List Change) (lines : List Line) : Type 0 where
  pub run : IsRun TreeAllows lay (history lay.mode lines)
  pub rising : HasRisingLevels (history lay.mode lines)
  pub spelled : AreSpelled lay calls lines
  pub edits : AreRememberedEdits lay (history lay.mode lines) begun
  pub entries : AreEntries calls lines changed

-- in a map's mode what is remembered is what the lines say
pub record IsMapSoFar (lay : Layout) (calls : List Call) (begun : List (Option BegunEdit)) (places : Places) (lines : List Line) : Type 0 where
  pub tree : IsMap lay.mode → IsTreeSoFar lay calls begun (changes places) lines

-- the change is that of the entry's SCX-record, as it is remembered, which has begun for the next
-- call of the entry's client
pub record IsChangeBegun (calls : List Call) (lines : List Line) (entry : Entry) (edits : List (Option BegunEdit)) (change : Change) : Type 0 where
  pub begun : BegunEdit
  pub known : slice_get edits entry.scx.0 ≡ Some (Some begun)
  pub own : next_command calls lines entry.client.0 ≡ Some begun.command
  pub is : change ≡ record { turn = entry.step; key = begun.key; value = begun.value }

-- such a change was added
pub record HasChangedBy (calls : List Call) (lines : List Line) (entry : Entry) (edits : List (Option BegunEdit)) (before after : List Change) : Type 0 where
  pub change : Change
  pub by : IsChangeBegun calls lines entry edits change
  pub added : after ≡ change ∷ before

-- the SCX-record has begun for a call with this command, as it is remembered, and fits it now
pub record IsReadyFor (edits : List (Option BegunEdit)) (h : History) (s : ℕ) (command : Command) : Type 0 where
  pub begun : BegunEdit
  pub known : slice_get edits s ≡ Some (Some begun)
  pub own : begun.command ≡ command
  pub suited : IsSuited h s begun
