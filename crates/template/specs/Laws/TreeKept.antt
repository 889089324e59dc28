-- What every run under the shape of the tree keeps: the words are a tree.
use Rattle.std.proofs.Common.{◌≡◌, List}
use Rattle.histories.specs.Common.{Tree as TreeMode, Layout, Row, History, Opening, Opened, ◌⊳◌, value, IsRun}
use Rattle.ordered_map.specs.declared.pair.Pair.{Pair}
use Rattle.ordered_map.proofs.MapLemmas.{run_spells, tree_run}
use Rattle.ordered_map.specs.Spelled.{Spells}
use Rattle.ordered_map.specs.TreeShape.{TreeAllows}

-- in tree mode the words spell a map
abbrev pub IsTreeThere : Layout → History → Type 0
IsTreeThere lay h = lay.mode ≡ TreeMode → (m : List Pair) × Spells lay (value h) m

-- they do so at the start
pub tree_opens : (lay : Layout) (o : Opening) → IsRun TreeAllows lay (Opened o) → IsTreeThere lay (Opened o)
tree_opens lay o run mode = run_spells lay (Opened o) (tree_run lay (Opened o) (mode, run))

-- and after every row of a run in which only edits of the tree begin
pub tree_stays : (lay : Layout) (h : History) (r : Row) → IsRun TreeAllows lay (r ⊳ h) → IsTreeThere lay h → IsTreeThere lay (r ⊳ h)
tree_stays lay h r run there mode = run_spells lay (r ⊳ h) (tree_run lay (r ⊳ h) (mode, run))
