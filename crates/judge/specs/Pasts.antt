-- The rows of a past.
use Rattle.std.specs.Prelude.{List, [], ◌∷◌}
use Rattle.arena.specs.declared.step.Row.{Row}
use Rattle.judge.specs.declared.past.RowList.{RowList}
use Rattle.judge.specs.declared.past.RowList.TheVariants.{Nothing, Newer'}

-- the rows, the newest first
abbrev pub rows_in : RowList → List Row
rows_in Nothing = []
rows_in (Newer' row marker before) = row ∷ rows_in before
