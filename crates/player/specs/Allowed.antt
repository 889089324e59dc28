-- Which SCX-records the calls of a script may begin: those that the shape of its mode allows.
use Rattle.std.specs.Prelude.{ℕ, ◌^◌, ◌<◌}
use Rattle.arena.specs.declared.limits.Mode.TheVariants.{Trie}
use Rattle.histories.specs.Common.{Mode, Records, Tree, Layout, History}
use Rattle.dict.specs.Typed.{TypedAllows}
use Rattle.dict.specs.Words.{IsNumber, IsWideNumber}
use Rattle.prims.specs.Cells.{AllowsAll}

-- a number that fits a word: the map of a script is a dictionary whose keys are such
abbrev pub IsSmall : ℕ → Type 0
IsSmall n = n < 2 ^ 64

-- one that fits two words, as the values of that dictionary do
abbrev pub FitsTwoWords : ℕ → Type 0
FitsTwoWords n = n < 2 ^ 128

-- which SCX-records may begin in this mode: in cells all, in a map those of its edits
abbrev pub AllowsIn : Mode → Layout → History → ℕ → Type 0
AllowsIn Records lay h s = AllowsAll lay h s
AllowsIn Tree lay h s = TypedAllows IsNumber IsWideNumber lay h s
AllowsIn Trie lay h s = TypedAllows IsNumber IsWideNumber lay h s

-- which SCX-records may begin in a player's run: those that the mode of its layout allows
abbrev pub PlayedAllows : Layout → History → ℕ → Type 0
PlayedAllows lay h s = AllowsIn lay.mode lay h s
