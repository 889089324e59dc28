-- How a table that lasts opens.
use Rattle.std.specs.Prelude.{◌≡◌, ◌<◌, ◌≤◌, ◌++◌, ◌+◌, ◌*◌, ℕ, zero, suc, false, List, [], ◌∷◌, length, slice_index}
use Rattle.histories.specs.Common.{Layout, Word, History, value, IsRun, IsWord, first_node, first_scx, table_size, place}
use Rattle.planting.specs.Plantings.{PlantingView}
use Rattle.ordered_map.specs.Runs.{IsMapRun}
use Rattle.slots.specs.Counts.{rests_place}
use Rattle.slots.specs.Lasting.{IsLasting, Lasting}
use Rattle.tables.specs.TableRule.{history_of, passes_with, seat_view}
use Rattle.tables.specs.LastingRule.{plot_in}
use Rattle.tables.specs.declared.view.SeatView.{SeatView}
use Rattle.tables.specs.declared.memory.PassMemory.{PassMemory}
use Rattle.tables.specs.declared.memory.RecordNo.{RecordNo}
use Rattle.tables.specs.declared.memory.RecordNo.TheVariants.{Node, Scx}

-- so many numbers of nodes from that one on, and of SCX-records
abbrev pub nodes_from : (from count : ℕ) → List RecordNo
nodes_from from zero = []
nodes_from from (suc count) = Node record { 0 = from } ∷ nodes_from (suc from) count

abbrev pub scx_from : (from count : ℕ) → List RecordNo
scx_from from zero = []
scx_from from (suc count) = Scx record { 0 = from } ∷ scx_from (suc from) count

-- what a pass remembers at the start: its names of the first lap are dealt, and held
abbrev pub first_memory : Lasting → ℕ → PassMemory
first_memory t c = record {
  rested = [];
  away = false;
  often = 0;
  nodes_to = first_node t.lay c + t.table.nodes;
  scx_to = first_scx t.lay c + t.table.scx;
  notes = [];
  polls = [];
  holds = nodes_from (first_node t.lay c) t.table.nodes ++ scx_from (first_scx t.lay c) t.table.scx;
  empty = [];
  zeros = [];
}

-- what the seat knows that has all passes
abbrev pub first_view : Lasting → PlantingView → SeatView
first_view t planting = seat_view (passes_with (first_memory t) (plot_in t planting) 0 t.lay.passes)

-- The words are those of the table as it opens, and behind them those in which rests are counted,
-- which are 0.
pub record OpensLasting (allows : Layout → History → ℕ → Type 0) (t : Lasting) (planting : PlantingView) (words : List ℕ) : Type 0 where
  pub lasting : IsLasting t
  pub map : IsMapRun t.lay (history_of planting [])
  pub run : IsRun allows t.lay (history_of planting [])
  pub room : table_size t.table + 8 * t.lay.passes ≤ length words
  pub holds : (w : Word) → IsWord t.table w → slice_index words (place t.table w) ≡ value (history_of planting []) w
  pub zeros : (o : ℕ) → o < t.lay.passes → slice_index words (rests_place t.table o) ≡ 0
