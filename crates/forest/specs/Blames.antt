-- A blame list by its names.
use Rattle.std.specs.Prelude.{ℕ, List, [], ◌∷◌}
use Rattle.forest.specs.declared.blamed.BlameList.{BlameList}
use Rattle.forest.specs.declared.blamed.BlameList.TheVariants.{Nobody, One'}

-- the SCX-records that a blame list names, the last blamed first
abbrev pub names_in : BlameList → List ℕ
names_in Nobody = []
names_in (One' scx marker before) = scx.0 ∷ names_in before
