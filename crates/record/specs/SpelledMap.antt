-- In a map's mode the words spell the map so far after every step.
use Rattle.std.specs.Prelude.{◌≡◌, ℕ, zero, suc, List, [], ◌∷◌, None}
use Rattle.arena.specs.declared.limits.Mode.TheVariants.{Trie}
use Rattle.histories.specs.Common.{Layout, value}
use Rattle.ordered_map.specs.Spelled.{IsTree, Spells}
use Rattle.ordered_map.specs.TreeWords.{Tree, Leaf, Fork}
pub use Rattle.ordered_map.specs.FillOrder.{HasStoodInField, HasRisingLevels}
use Rattle.script.specs.declared.call.Call.{Call}
use Rattle.record.specs.declared.record.Line.{Line}
use Rattle.record.specs.Turns.{history, entry_owed}
use Rattle.record.specs.MapRecord.{written_log, map_of}

-- each leaf of the tree is at most so many fields below its top
abbrev pub IsNoDeeper : ℕ → Tree → Type 0
IsNoDeeper most (Leaf n) = Unit {0}
IsNoDeeper zero (Fork n a b) = ⊥
IsNoDeeper (suc most) (Fork n a b) = IsNoDeeper most a × IsNoDeeper most b

-- the words after these lines spell the map of their entries
pub record IsSpelledAfter (lay : Layout) (calls : List Call) (lines : List Line) : Type 0 where
  pub spelled : Spells lay (value (history lay.mode lines)) (map_of calls (written_log lines))
  pub rising : HasRisingLevels (history lay.mode lines)
  -- each leaf of a trie is at most 66 fields below the root
  pub low : lay.mode ≡ Trie → (t : Tree) → IsTree (value (history lay.mode lines)) t → IsNoDeeper 66 t

-- at the start and line by line, but between an update that won and its entry: so after each step
-- the words spell the map so far
unfoldable pub AreSpelled : Layout → List Call → List Line → Type 0
AreSpelled lay calls [] = IsSpelledAfter lay calls []
AreSpelled lay calls (line ∷ lines) = AreSpelled lay calls lines × (entry_owed lay (line ∷ lines) ≡ None → IsSpelledAfter lay calls (line ∷ lines))
