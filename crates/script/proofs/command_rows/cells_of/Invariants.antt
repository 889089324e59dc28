use Rattle.std.proofs.Common.{◌≡◌, All, decimal, map}
use Rattle.script.specs.Cells.{maybe_cells_of}
use Rattle.script.specs.Commands.{IsCell, texts}
use Rattle.script.proofs.command_rows.cells_of.Given as goal

abbrev pub invariant-loop-part : goal.invariant-loop-part
invariant-loop-part l =
    (texts l.yielded ≡ map decimal (maybe_cells_of l.cells)) × All IsCell (maybe_cells_of l.cells)
