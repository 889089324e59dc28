-- Runs of the player's shape in a map's mode.
use Rattle.std.proofs.Common.{ℕ}
use Rattle.arena.specs.Opening.{IsMap}
use Rattle.histories.specs.Common.{Layout, Row, History, ◌⊳◌, IsRun}
use Rattle.histories.proofs.Lemmas.{lawful_tail, shaped_tail}
use Rattle.record.specs.Common.{IsMapRun}
use Rattle.player.specs.Allowed.{PlayedAllows}
use Rattle.player.proofs.Shapes.{as_edits}

-- a run without its newest row
pub run_before : (allows : Layout → History → ℕ → Type 0) (lay : Layout) (h : History) (r : Row) → IsRun allows lay (r ⊳ h) → IsRun allows lay h
run_before allows lay h r run = record { lawful = lawful_tail lay h r run.lawful; shaped = shaped_tail allows lay h r run.shaped }

-- a run is one of a map
pub map_run : (lay : Layout) (h : History) → IsMap lay.mode → IsRun PlayedAllows lay h → IsMapRun lay h
map_run lay h map run = (map, as_edits lay h map run)
