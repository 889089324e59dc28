-- Histories of a map, the edits that their SCX-records make, and the map of their log.
use Rattle.std.specs.Prelude.{◌≡◌, ℕ, List, [], ◌∷◌}
use Rattle.histories.specs.Common.{Layout, Tree as TreeMode, Row, History, ◌⊳◌, value, Extends, Entry, IsRun, IsBegin}
use Rattle.arena.specs.Layout.{IsMap}
use Rattle.arena.specs.declared.limits.Mode.TheVariants.{Trie as TrieMode}
use Rattle.ordered_map.specs.declared.pair.Pair.{Pair}
use Rattle.ordered_map.specs.OrderedMap.{MapEdit, edit_key, edited, get}
pub use Rattle.ordered_map.specs.Planted.{first_pairs}
use Rattle.ordered_map.specs.TreeWords.{said}
use Rattle.ordered_map.specs.Spelled.{Spells}
use Rattle.ordered_map.specs.TreeShape.{MayEdit, TreeAllows, edit_leaf}

-- a lawful history of a map, in a tree or a trie, in which only edits of the map begin
abbrev pub IsMapRun : Layout → History → Type 0
IsMapRun lay h = IsMap lay.mode × IsRun TreeAllows lay h

-- a lawful history in tree mode, in which only edits of the map begin
abbrev pub IsTreeRun : Layout → History → Type 0
IsTreeRun lay h = (lay.mode ≡ TreeMode) × IsRun TreeAllows lay h

-- the same in trie mode
abbrev pub IsTrieRun : Layout → History → Type 0
IsTrieRun lay h = (lay.mode ≡ TrieMode) × IsRun TreeAllows lay h

-- s has begun, and may be said to make this edit, be it the only one or not
pub record Makes (lay : Layout) (h : History) (s : ℕ) (e : MapEdit) : Type 0 where
  pub row : Row
  pub before : History
  pub within : Extends h (row ⊳ before)
  pub begins : IsBegin before row s
  pub edit : MayEdit lay before s e

-- the map that these entries make of the first pairs, the newest coming first, where `edits` says
-- an edit of each SCX-record
abbrev pub map_of_log : (ℕ → MapEdit) → List Pair → List Entry → List Pair
map_of_log edits first [] = first
map_of_log edits first (e ∷ es) = edited (edits e.scx) (map_of_log edits first es)

-- The row makes this edit of s: it leaves the map that the edit leaves, and just before it the leaf
-- of the edit's key says what the map does.
pub record IsEditAt (lay : Layout) (h : History) (r : Row) (s : ℕ) (e : MapEdit) : Type 0 where
  pub makes : Makes lay h s e
  pub changes : (m : List Pair) → Spells lay (value h) m → Spells lay (value (r ⊳ h)) (edited e m)
  pub replies : (m : List Pair) → Spells lay (value h) m → get (edit_key e) m ≡ said (value h) (edit_key e) (edit_leaf h s e)
