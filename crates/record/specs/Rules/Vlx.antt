-- The rules of `vlx`.
use Rattle.std.specs.Prelude.{◌≡◌, ℕ, false, length, Option, Some}
use Rattle.histories.specs.Common.{Layout, LoadInfo, History}
use Rattle.script.specs.Cells.{cells_of}
use Rattle.record.specs.declared.record.Answer.{Answer}
use Rattle.record.specs.declared.record.Answer.TheVariants.{Same, Changed, Unlinked}
use Rattle.record.specs.Answers.{IsAsSnapped, AreUnchanged, IsInTheWay, IsPlacedCell}
use Rattle.record.specs.Rules.{Rules}
use Rattle.record.specs.Snapshots.{AreLinked, IsBehindAll, IsFirstUnlinked}
use Rattle.script.specs.declared.cells.CellList.{CellList}

-- a VLX may be refused before its first step
abbrev pub VlxAtOnce : Answer → Type 0
VlxAtOnce (Unlinked node) = Unit {0}
VlxAtOnce _ = ⊥

-- a VLX that has run says whether its cells still are as found
abbrev pub VlxAfterStep : Answer → Type 0
VlxAfterStep Same = Unit {0}
VlxAfterStep (Changed node scx) = Unit {0}
VlxAfterStep _ = ⊥

-- a VLX leaves all the client's snapshots
abbrev pub vlx_linked : Answer → History → ℕ → Option History → Option History
vlx_linked answer now n old = old

-- what its answers say
abbrev pub VlxIsRight : CellList → Layout → ℕ → History → History → (ℕ → Option History) → Answer → Type 0
-- the first of its cells without a kept snapshot
VlxIsRight cells lay c now start linked (Unlinked node) = IsFirstUnlinked linked (cells_of cells) node.0
-- as the call began, each cell was as the client's snapshot found it
VlxIsRight cells lay c now start linked Same = AreUnchanged lay start linked (cells_of cells)
-- another client's SCX-record has reached this cell since its snapshot, which may have aborted; as
-- the call began, the cells before it were as their snapshots found them
VlxIsRight cells lay c now start linked (Changed node scx) = AreLinked linked (cells_of cells) × IsInTheWay lay c now start LoadInfo (cells_of cells) node.0 scx.0 (λ moment. linked node.0 ≡ Some moment) × IsBehindAll (IsAsSnapped lay start linked) (cells_of cells) node.0
VlxIsRight cells lay c now start linked _ = ⊥

-- at most one step a cell, each a load of its info; it takes nothing, and puts nothing into the log
abbrev pub vlx_rules : CellList → Rules
vlx_rules cells = record {
  most_steps = λ tries taken. length (cells_of cells);
  most_scx = λ tries. 0;
  nodes_each = 0;
  MayMake = λ kind. kind ≡ LoadInfo;
  IsAtOnce = VlxAtOnce;
  IsAfterStep = VlxAfterStep;
  enters = λ answer. false;
  linked_then = vlx_linked;
  IsRight = λ lay tries. VlxIsRight cells lay;
  IsEntryFor = λ lay c before start linked e. ⊥;
  IsPlaced = λ lay calls lines reply. IsPlacedCell lay lines reply;
}
