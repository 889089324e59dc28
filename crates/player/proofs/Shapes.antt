-- A player's run as one of cells or of a dictionary, under whose shapes machines run, and back.
use Rattle.std.proofs.Common.{◌≡◌, ℕ, Bool, true, false, refl, ◌∙◌, ap, subst, sym}
use Rattle.histories.specs.Common.{Mode, Records, Tree, Layout, History, IsRun}
use Rattle.arena.specs.Opening.{is_map, IsMap}
use Rattle.arena.specs.declared.limits.Mode.TheVariants.{Trie}
use Rattle.arena.proofs.Lemmas.{run_as}
use Rattle.template.specs.Common.{AllowsAll, TreeAllows}
use Rattle.dict.specs.Typed.{TypedAllows}
use Rattle.dict.specs.Laws.TypedMaps.{typed_run}
use Rattle.dict.specs.Words.{IsNumber, IsWideNumber}
use Rattle.player.specs.Allowed.{AllowsIn, PlayedAllows}
use Rattle.template.specs.Balance.{map_mode}

-- cells ask nothing
pub as_cells : (lay : Layout) (h : History) → lay.mode ≡ Records → IsRun PlayedAllows lay h → IsRun AllowsAll lay h
as_cells lay h mode run = run_as PlayedAllows AllowsAll lay (λ k s a. tt) h run

-- in records mode nothing else is asked
pub as_played : (lay : Layout) (h : History) → lay.mode ≡ Records → IsRun AllowsAll lay h → IsRun PlayedAllows lay h
as_played lay h mode run = run_as AllowsAll PlayedAllows lay (λ k s a. subst (λ (m : Mode). AllowsIn m lay k s) (sym mode) tt) h run

-- a map is not cells
pub of_cells : (mode : Mode) → false ≡ is_map mode → mode ≡ Records
of_cells Records e = refl
of_cells Tree e = cc
of_cells Trie e = cc

-- a tree and a trie are maps
pub of_map : (mode : Mode) (trie : Bool) → mode ≡ map_mode trie → IsMap mode
of_map mode trie e = ap is_map e ∙ there trie
  where
    there : (trie : Bool) → IsMap (map_mode trie)
    there false = refl
    there true = refl

-- of a map what a dictionary of numbers asks, and back
pub as_numbers : (lay : Layout) (h : History) → IsMap lay.mode → IsRun PlayedAllows lay h → IsRun (TypedAllows IsNumber IsWideNumber) lay h
as_numbers lay h map run = run_as PlayedAllows (TypedAllows IsNumber IsWideNumber) lay (λ k s a. go lay.mode map k s a) h run
  where
    go : (m : Mode) → IsMap m → (k : History) (s : ℕ) → AllowsIn m lay k s → TypedAllows IsNumber IsWideNumber lay k s
    go Tree i k s a = a
    go Trie i k s a = a
    go Records i k s a = cc

pub as_played_numbers : (lay : Layout) (h : History) → IsMap lay.mode → IsRun (TypedAllows IsNumber IsWideNumber) lay h → IsRun PlayedAllows lay h
as_played_numbers lay h map run = run_as (TypedAllows IsNumber IsWideNumber) PlayedAllows lay (λ k s a. go lay.mode map k s a) h run
  where
    go : (m : Mode) → IsMap m → (k : History) (s : ℕ) → TypedAllows IsNumber IsWideNumber lay k s → AllowsIn m lay k s
    go Tree i k s a = a
    go Trie i k s a = a
    go Records i k s a = cc

-- so its SCX-records make edits of the map
pub as_edits : (lay : Layout) (h : History) → IsMap lay.mode → IsRun PlayedAllows lay h → IsRun TreeAllows lay h
as_edits lay h map run = typed_run IsNumber IsWideNumber lay h (as_numbers lay h map run)
