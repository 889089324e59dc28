-- The rules of `scx`.
use Rattle.std.specs.Prelude.{◌≡◌, ℕ, Bool, true, false, if◌then◌else◌, ◌&&◌, Option, Some, None}
use Rattle.histories.specs.Common.{Layout, Freeze, History, Entry as Entered, has}
use Rattle.script.specs.Update.{update_cells, update_finalize, update_field, update_value}
use Rattle.record.specs.declared.record.Answer.{Answer}
use Rattle.record.specs.declared.record.Answer.TheVariants.{Done, Lost, Unlinked, Full}
use Rattle.script.specs.declared.command.CellUpdate.{CellUpdate}
use Rattle.record.specs.Answers.{AreUnchanged, IsInTheWay, HasRoom, is_done, IsPlacedCell}
use Rattle.record.specs.Rules.{Rules}
use Rattle.record.specs.Shares.{HasTooFew}
use Rattle.record.specs.Snapshots.{AreLinked, IsFirstUnlinked}
use Rattle.record.specs.Updates.{IsEntryOver}

-- an SCX may be refused before its first step
abbrev pub ScxAtOnce : Answer → Type 0
ScxAtOnce (Unlinked node) = Unit {0}
ScxAtOnce (Full what left) = Unit {0}
ScxAtOnce _ = ⊥

-- an SCX that has run is done or lost
abbrev pub ScxAfterStep : Answer → Type 0
ScxAfterStep Done = Unit {0}
ScxAfterStep (Lost node scx) = Unit {0}
ScxAfterStep _ = ⊥

-- whether this is the answer of an SCX that has run
abbrev pub has_run : Answer → Bool
has_run Done = true
has_run (Lost node scx) = true
has_run _ = false

-- an SCX that has run drops the client's snapshots of its cells
abbrev pub scx_linked : CellUpdate → Answer → History → ℕ → Option History → Option History
scx_linked update answer now n old =
    if has_run answer && has (update_cells update) n then None
    else old

-- what its answers say; of one that is done, its entry says all the rest
abbrev pub ScxIsRight : CellUpdate → Layout → ℕ → History → History → (ℕ → Option History) → Answer → Type 0
-- the first of its cells without a kept snapshot
ScxIsRight update lay c now start linked (Unlinked node) = IsFirstUnlinked linked (update_cells update) node.0
-- all snapshots are there, and the share has none left of this
ScxIsRight update lay c now start linked (Full what left) = AreLinked linked (update_cells update) × HasTooFew lay c now 1 what left
-- another client's SCX-record has reached this cell since its snapshot
ScxIsRight update lay c now start linked (Lost node scx) = AreLinked linked (update_cells update) × HasRoom lay c start × IsInTheWay lay c now start Freeze (update_cells update) node.0 scx.0 (λ moment. linked node.0 ≡ Some moment)
ScxIsRight update lay c now start linked Done = HasRoom lay c start
ScxIsRight update lay c now start linked _ = ⊥

-- its entry covers and finalizes the cells asked for and sets the field; just before it each of
-- them was as the client's snapshot found it
abbrev pub IsScxEntry : CellUpdate → Layout → ℕ → History → History → (ℕ → Option History) → Entered → Type 0
IsScxEntry update lay c before start linked e = IsEntryOver lay c before e (update_cells update) (update_finalize update) (update_field update) (update_value update) × AreUnchanged lay before linked (update_cells update)

-- at most 40 steps, of any kind; an SCX-record, and a node for it
abbrev pub scx_rules : CellUpdate → Rules
scx_rules update = record {
  most_steps = λ tries taken. 40;
  most_scx = λ tries. 1;
  nodes_each = 1;
  MayMake = λ kind. Unit {0};
  IsAtOnce = ScxAtOnce;
  IsAfterStep = ScxAfterStep;
  enters = is_done;
  linked_then = scx_linked update;
  IsRight = λ lay tries. ScxIsRight update lay;
  IsEntryFor = IsScxEntry update;
  IsPlaced = λ lay calls lines reply. IsPlacedCell lay lines reply;
}
