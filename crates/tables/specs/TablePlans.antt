-- Where the words of a table are, as the code that makes steps on them knows it.
use Rattle.std.specs.Prelude.{◌≡◌, ◌<◌, ◌≤◌, ◌-◌, ◌^◌, ℕ, Bool, true, false, Option, Some, None}
use Rattle.atomic_table.specs.Seated.{TableId}
use Rattle.histories.specs.Common.{Layout, Mode, Word, IsWord, table_size}
use Rattle.slots.specs.Lasting.{table_place}
use Rattle.tables.specs.Slotted.{names_of_table, slots_of_table}
use Rattle.tables.specs.declared.rule.Site.{Site}
use Rattle.tables.specs.declared.rule.Turns.{Turns}
use Rattle.tables.specs.declared.table_plan.TablePlan.{TablePlan}

-- by these bits a name says its slot, where records come back
abbrev pub HasMasks : Bool → Option Turns → TablePlan → Type 0
HasMasks false turns plan = turns ≡ None
HasMasks true None plan = ⊥
HasMasks true (Some t) plan = (t.node_bits ≤ 26) × (plan.node_mask ≡ 2 ^ t.node_bits - 1) × (plan.scx_mask ≡ 2 ^ t.scx_bits - 1)

-- The words of the table lie as the plan says, and there is room for each word of each name; its
-- records come back if it is said to last.
pub record IsTableOf (mode : Mode) (lasts : Bool) (id : TableId) (site : Site) (plan : TablePlan) : Type 0 where
  pub mode_is : plan.layout.mode ≡ mode
  pub layout : site.layout ≡ plan.layout
  pub masks : HasMasks lasts site.turns plan
  pub inside : (w : Word) → IsWord (names_of_table site) w → table_place (slots_of_table site) w < id.words
  pub few : id.words < 2 ^ 40

-- a word of a record that has a name is at this place, which is one of so many
pub record IsPlaceOf (site : Site) (words : ℕ) (word : Word) (at : ℕ) : Type 0 where
  pub is_word : IsWord (names_of_table site) word
  pub is_place : at ≡ table_place (slots_of_table site) word
  pub inside : at < words

-- The words of the table lie as the layout says, and none of its records comes back.
pub record IsTableOnce (id : TableId) (site : Site) (lay : Layout) : Type 0 where
  pub layout : site.layout ≡ lay
  pub turns : site.turns ≡ None
  pub words : id.words ≡ table_size lay
