-- What a judge has seen: the table's layout and the rows, and the history that they make.
use Rattle.std.specs.Prelude.{List, [], ◌∷◌}
use Rattle.histories.specs.Common.{Mode, Layout, Row, History, Start, ◌⊳◌}
use Rattle.arena.specs.History.{rows_after}

-- a table's layout, and the rows made so far, the newest first
pub record Judged : Type 0 where
  pub layout : Layout
  pub rows : List Row

-- the history of rows, the newest of which is the first
abbrev pub history_of_rows : Mode → List Row → History
history_of_rows mode [] = Start mode
history_of_rows mode (r ∷ rows) = r ⊳ history_of_rows mode rows

-- the history that a judge has seen
abbrev pub seen_history : Judged → History
seen_history j = history_of_rows j.layout.mode j.rows

-- the history after these rows, the first of the list made first
abbrev pub history_after : Layout → List Row → History
history_after lay rows = rows_after (Start lay.mode) rows
