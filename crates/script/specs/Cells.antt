-- What a list of cells says.
use Rattle.std.specs.Prelude.{ℕ, List, [], take, Option, Some, None}
use Rattle.script.specs.declared.cells.CellList.{CellList}

-- the numbers of the cells, in their order
abbrev pub cells_of : CellList → List ℕ
cells_of c = take c.count c.list

-- the same of a list that may be missing
abbrev pub maybe_cells_of : Option CellList → List ℕ
maybe_cells_of None = []
maybe_cells_of (Some c) = cells_of c
