-- Tables whose records come back: by how many bits of its name a record has a slot, how many words
-- there are, and what a pass has at first.
use Rattle.std.specs.Prelude.{◌≡◌, ◌+◌, ◌*◌, ◌^◌, ◌<◌, ◌≤◌, ℕ, List, length, slice_get, Some}
use Rattle.arena.specs.Limits.{IsLayoutOf}
use Rattle.arena.specs.Opening.{node_size}
use Rattle.arena.specs.declared.limits.Limits.{Limits}
use Rattle.arena.specs.declared.limits.Mode.{Mode}
use Rattle.histories.specs.Common.{Layout, Remaining, all_nodes, all_scx, first_node, first_scx, table_size}
use Rattle.planting.specs.Plantings.{nothing_planted}
use Rattle.slots.specs.Lasting.{Lasting}
use Rattle.tables.specs.Passes.{Ground, PassView, new_pass}
use Rattle.tables.specs.Slotted.{in_turns}
use Rattle.tables.specs.declared.rule.Turns.{Turns}

-- So many bits of a name may say the slot: each node of the table has a slot of its own by them, and
-- so has each SCX-record. A slot has more names than a pass has in a table in which none comes back,
-- and no name is too high for a word.
pub record MayTakeTurns (lay : Layout) (t : Turns) : Type 0 where
  pub nodes : all_nodes lay ≤ 2 ^ t.node_bits
  pub scx : all_scx lay ≤ 2 ^ t.scx_bits
  pub node_bits : t.node_bits ≤ 26
  pub scx_bits : t.scx_bits ≤ 29
  pub node_names : t.laps * 2 ^ t.node_bits ≤ 2 ^ 49
  pub scx_names : t.laps * 2 ^ t.scx_bits ≤ 2 ^ 49
  pub many : 2 ^ 20 ≤ t.laps

-- So many words are enough: for each slot that a name may say, be it beyond the table's; and behind
-- the table's for eight of each pass.
pub record HasWordsFor (lay : Layout) (t : Turns) (words : ℕ) : Type 0 where
  pub nodes : node_size lay.mode * 2 ^ t.node_bits ≤ words
  pub scx : node_size lay.mode * all_nodes lay + 14 * 2 ^ t.scx_bits ≤ words
  pub rests : table_size lay + 8 * lay.passes ≤ words
  pub few : words < 2 ^ 40

-- what a pass has at first: its names of the first lap
abbrev pub first_share : Lasting → ℕ → Remaining
first_share t c = record { next_node = first_node t.lay c; nodes = t.table.nodes; next_scx = first_scx t.lay c; scx = t.table.scx }

-- pass c of the forest before its first step: it has those names and knows nothing
abbrev pub new_pass_in : Lasting → Ground → ℕ → PassView
new_pass_in t f c = record (new_pass f c) { share = first_share t c }

-- these are all passes of the forest, in order, before their first steps
pub record AreNewIn (t : Lasting) (f : Ground) (passes : List PassView) : Type 0 where
  pub count : length passes ≡ f.layout.passes
  pub each : (j : ℕ) (d : PassView) → slice_get passes j ≡ Some d → d ≡ new_pass_in t f j

-- the forest is of a table of this layout whose records come back, and has a pass for each client
pub record OpensInTurns (lay : Layout) (f : Ground) (passes : List PassView) : Type 0 where
  pub turns : Turns
  pub may : MayTakeTurns lay turns
  pub layout : f.layout ≡ (in_turns lay turns).lay
  pub new : AreNewIn (in_turns lay turns) f passes

-- A dictionary begins empty within these limits, for this mode, of a table whose records come back,
-- and each of its calls makes one try.
pub record BeginsLasting (limits : Limits) (mode : Mode) (f : Ground) (passes : List PassView) : Type 0 where
  pub lay : Layout
  pub is_layout : IsLayoutOf limits mode lay
  pub opens : OpensInTurns lay f passes
  pub empty : f.planting ≡ nothing_planted mode
  pub tries : f.tries ≡ 1
