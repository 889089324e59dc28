-- What follows from several calls of a dictionary together: where no pass has made an entry, the
-- map is the same.
use Rattle.std.specs.Prelude.{◌≡◌, ◌<◌, ℕ, List, []}
use Rattle.arena.specs.declared.limits.Mode.TheVariants.{Trie}
use Rattle.histories.specs.Common.{Mode, Layout, Tree, Row, History, Opened, ◌⊳◌, value, Extends, Lawful, log, IsRun}
use Rattle.ordered_map.specs.declared.pair.Pair.{Pair}
use Rattle.ordered_map.specs.OrderedMap.{MapCall, MapEdit, MapReply}
use Rattle.ordered_map.specs.Runs.{IsMapRun, IsTreeRun, IsTrieRun, first_pairs}
use Rattle.ordered_map.specs.Spelled.{Spells}
use Rattle.planting.specs.Plantings.{PlantingView, nothing_planted, opening_for}
use Rattle.forest.specs.Dictionary.{IsChange}
use Rattle.tables.specs.Passes.{PassView, IsLaterView, run_of}
use Rattle.tables.specs.Shares.{entries_of}
use Rattle.tables.specs.TableRule.{history_of}

-- from the one moment to the later one pass c has made no entry
abbrev pub EntersNothing : Layout → ℕ → History → History → Type 0
EntersNothing lay c later before = entries_of c (log lay later) ≡ entries_of c (log lay before)

-- what a caller may conclude of a dictionary, whose calls say of a run what it allows
pub record VersionLaws (allows : Layout → History → ℕ → Type 0) : Type 0 where
  -- its run is one of the tree, as in `laws_hold`, or of a trie, as in `trie_laws_hold`
  pub runs : (lay : Layout) (h : History) → lay.mode ≡ Tree → IsRun allows lay h → IsTreeRun lay h
  pub trie_runs : (lay : Layout) (h : History) → lay.mode ≡ Trie → IsRun allows lay h → IsTrieRun lay h
  -- what a pass knows, and what a closed forest is left with, began with what was planted; where
  -- nothing was, with the empty map
  pub first : (planting : PlantingView) (rows : List Row) → first_pairs (history_of planting rows) ≡ first_pairs (Opened (opening_for planting))
  pub first_empty : (mode : Mode) → first_pairs (Opened (opening_for (nothing_planted mode))) ≡ []
  -- a call that has changed the map has made no entry after its own
  pub newest : (old new : PassView) (call : MapCall) (told : MapReply) (edit : MapEdit) → Lawful new.layout (run_of new) → IsLaterView old new
      → (c : IsChange old new call told edit) → EntersNothing new.layout new.number (run_of new) (c.row ⊳ c.before)
  -- a pass that has made no entry between two moments has made none from the first to a moment
  -- between them, nor from there to the second
  pub earlier : (lay : Layout) (c : ℕ) (h moment before : History) → Lawful lay h → Extends h moment → Extends moment before
      → EntersNothing lay c h before → EntersNothing lay c moment before
  pub later : (lay : Layout) (c : ℕ) (h moment before : History) → Lawful lay h → Extends h moment → Extends moment before
      → EntersNothing lay c h before → EntersNothing lay c h moment
  -- where no pass has made an entry between two moments of a run, the map is the same at both
  pub stays : (lay : Layout) (h moment before : History) → IsMapRun lay h → Extends h moment → Extends moment before
      → ((c : ℕ) → c < lay.passes → EntersNothing lay c moment before) → (m n : List Pair) → Spells lay (value before) m → Spells lay (value moment) n → n ≡ m
