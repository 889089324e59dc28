-- What an update says.
use Rattle.std.specs.Prelude.{ℕ, List}
use Rattle.arena.specs.declared.word.Side.{Side}
use Rattle.script.specs.declared.command.CellUpdate.{CellUpdate}
use Rattle.script.specs.Cells.{cells_of, maybe_cells_of}

-- the cells that the update covers, in their order
abbrev pub update_cells : CellUpdate → List ℕ
update_cells u = cells_of u.cells

-- those of the cells that it finalizes
abbrev pub update_finalize : CellUpdate → List ℕ
update_finalize u = maybe_cells_of u.finalize

-- the field that gets the fresh cell
abbrev pub update_field : CellUpdate → ℕ × Side
update_field u = u.field

-- the value of the fresh cell
abbrev pub update_value : CellUpdate → ℕ
update_value u = u.value
