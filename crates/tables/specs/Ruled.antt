-- The rule of a table, whether its records come back or not.
use Rattle.std.specs.Prelude.{◌≡◌, ℕ, Option, Some, None}
use Rattle.atomic_table.specs.Table.{State}
use Rattle.arena.specs.Layout.{IsMap}
use Rattle.histories.specs.Common.{Layout, Mode, History, IsRun}
use Rattle.ordered_map.specs.Runs.{IsMapRun}
use Rattle.tables.specs.declared.rule.Site.{Site}
use Rattle.tables.specs.declared.rule.Turns.{Turns}
use Rattle.tables.specs.declared.view.SeatView.{SeatView}
use Rattle.tables.specs.LastingMemory.{StaysUnborn}
use Rattle.tables.specs.LastingOpening.{first_view}
use Rattle.tables.specs.LastingRule.{TableLasts}
use Rattle.tables.specs.Slotted.{in_turns, names_of_table, plot_at}
use Rattle.tables.specs.TableRule.{TableIsLawful, new_passes, seat_view}

-- A table whose records have places of their own has the words of a run; one whose records come
-- back has a window on it.
abbrev pub ruled_by : Option Turns → (Layout → History → ℕ → Type 0) → Site → State ℕ SeatView → Type 0
ruled_by None allows site s = TableIsLawful allows (plot_at site) s
ruled_by (Some t) allows site s = TableLasts allows (in_turns site.layout t) site.planting s

abbrev pub IsRuled : (Layout → History → ℕ → Type 0) → Site → State ℕ SeatView → Type 0
IsRuled allows site = ruled_by site.turns allows site

-- what its first seat knows, which has all passes
abbrev pub first_by : Option Turns → Site → SeatView
first_by None site = seat_view (new_passes (plot_at site) 0 site.layout.passes)
first_by (Some t) site = first_view (in_turns site.layout t) site.planting

abbrev pub first_of_table : Site → SeatView
first_of_table site = first_by site.turns site

-- where its records come back, the table is of a map, and so is each of its runs; and what a pass
-- has taken and was never put in stays so
abbrev pub MayLast : Mode → (Layout → History → ℕ → Type 0) → Site → Type 0
MayLast mode allows site = (t : Turns) → site.turns ≡ Some t → IsMap mode × ((h : History) → IsRun allows (names_of_table site) h → IsMapRun (names_of_table site) h) × StaysUnborn (names_of_table site)
