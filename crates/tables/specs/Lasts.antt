-- Which tables' records may come back.
use Rattle.std.proofs.Common.{◌≡◌, ◌∙◌, ℕ, Bool, Some, None, ap, refl, sym}
use Rattle.arena.specs.Layout.{IsMap}
use Rattle.template.specs.Balance.{map_mode}
use Rattle.histories.specs.Common.{Layout, Mode, History}
use Rattle.dict.specs.Laws.Begins.{dict_mode}
use Rattle.dict.specs.Laws.TypedMaps.{typed_run}
use Rattle.dict.specs.Typed.{TypedAllows}
use Rattle.resting.proofs.Lemmas.{unborn_since}
use Rattle.tables.specs.Ruled.{MayLast}
use Rattle.tables.specs.Slotted.{names_of_table, slots_by, slots_of_table}
use Rattle.tables.specs.declared.rule.Site.{Site}

-- of a table whose records have places of their own nothing is asked
pub never_lasts : (mode : Mode) (allows : Layout → History → ℕ → Type 0) (site : Site) → site.turns ≡ None → MayLast mode allows site
never_lasts mode allows site once t e = absurd (let y : Some t ≡ None = sym e ∙ once in cc)

-- a table of a dictionary may last
pub dict_may_last : (keys values : ℕ → Type 0) (trie : Bool) (site : Site) → site.layout.mode ≡ map_mode trie → MayLast (map_mode trie) (TypedAllows keys values) site
dict_may_last keys values trie site mode t e = (
  dict_mode (map_mode trie) trie refl,
  λ h run. (dict_mode (names_of_table site).mode trie (names_mode ∙ mode), typed_run keys values (names_of_table site) h run),
  λ h o rest n is_pass run rested unborn. unborn_since (names_of_table site) h o rest n is_pass run rested unborn,
)
  where
    names_mode : (names_of_table site).mode ≡ site.layout.mode
    names_mode = ap (λ s. (slots_by site.layout s).lay.mode) e
