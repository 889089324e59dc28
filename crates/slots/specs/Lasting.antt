-- A table that lasts: its slots are taken again and again, under a new name each time.
use Rattle.std.proofs.Common.{◌≡◌, ◌≢◌, ◌<◌, ◌≤◌, ◌⊎◌, ◌+◌, ◌*◌, ◌%◌, ◌^◌, ℕ, refl, arith}
use Rattle.arena.specs.Opening.{node_size}
use Rattle.arena.specs.declared.limits.Mode.{Mode}
use Rattle.arena.specs.declared.limits.Mode.TheVariants.{Tree, Trie, Records}
use Rattle.histories.specs.Common.{Layout, Word, Node, Scx, History, all_nodes, all_scx, opening_nodes, nodes_at_start, place, node, scx, IsOwnNode, IsOwnScx, IsTakenNode, IsTakenScx}
use Rattle.resting.specs.Records.{Record, the_node, the_scx}

-- A table that lasts. Its words lie as in `table`, its records bear names of `lay`, and a name has
-- the slot of the name that is `node_turn` numbers before it, or `scx_turn`: so there are `laps`
-- laps more than one.
pub record Lasting : Type 0 where
  pub table : Layout
  pub lay : Layout
  pub node_turn : ℕ
  pub scx_turn : ℕ
  pub laps : ℕ

-- The two layouts are alike, but that each pass owns as many names more as there are in `laps`
-- laps; and all nodes, and all SCX-records, have slots of their own.
pub record IsLasting (t : Lasting) : Type 0 where
  pub mode : t.lay.mode ≡ t.table.mode
  pub passes : t.lay.passes ≡ t.table.passes
  pub planted : t.lay.planted ≡ t.table.planted
  pub nodes : t.lay.nodes ≡ t.table.nodes + t.laps * t.node_turn
  pub scx : t.lay.scx ≡ t.table.scx + t.laps * t.scx_turn
  pub node_room : all_nodes t.table ≤ t.node_turn
  pub scx_room : all_scx t.table ≤ t.scx_turn

-- a node has 18 words, or more
pub many_words : (mode : Mode) (nodes : ℕ) → 18 * nodes ≤ node_size mode * nodes
many_words Tree nodes = omega arith
many_words Trie nodes = omega arith
many_words Records nodes = omega arith

-- the layout of a table, but for these numbers of names for each pass
abbrev pub with_shares : (lay : Layout) (nodes scx : ℕ) → nodes ≤ 2 ^ 50 → scx ≤ 2 ^ 50 → Layout
with_shares lay nodes scx few_nodes few_scx = record lay {
  nodes = nodes;
  scx = scx;
  node_words = node_size lay.mode * (nodes_at_start lay.mode lay.planted + lay.passes * nodes);
  words = node_size lay.mode * (nodes_at_start lay.mode lay.planted + lay.passes * nodes) + 14 * (1 + lay.passes * scx);
  nodes_fit = few_nodes;
  scx_fit = few_scx;
  counted = refl;
  many = many_words lay.mode (nodes_at_start lay.mode lay.planted + lay.passes * nodes);
  all_counted = refl;
}

-- a record of the layout
abbrev pub IsRecord : Layout → Record → Type 0
IsRecord lay (the_node n) = n < all_nodes lay
IsRecord lay (the_scx s) = s < all_scx lay

-- it was there from the start: an opening node, or the dummy
abbrev pub IsFirstRecord : Layout → Record → Type 0
IsFirstRecord lay (the_node n) = n < opening_nodes lay
IsFirstRecord lay (the_scx s) = s ≡ 0

-- somebody has taken it
abbrev pub IsTaken : History → Record → Type 0
IsTaken h (the_node n) = IsTakenNode h n
IsTaken h (the_scx s) = IsTakenScx h s

-- it was not there from the start, and nobody has taken it
abbrev pub IsUntaken : Layout → History → Record → Type 0
IsUntaken lay h (the_node n) = (opening_nodes lay ≤ n) × ¬ IsTakenNode h n
IsUntaken lay h (the_scx s) = (s ≢ 0) × ¬ IsTakenScx h s

-- the slot of a record, by its name: if that is ever used, a record of the table
abbrev pub slot_of : Lasting → Record → Record
slot_of t (the_node n) = the_node (n % t.node_turn)
slot_of t (the_scx s) = the_scx (s % t.scx_turn)

-- the word of the record's slot
abbrev pub slot_word : Lasting → Word → Word
slot_word t (Node n part) = node (n.0 % t.node_turn) part
slot_word t (Scx s part) = scx (s.0 % t.scx_turn) part

-- where the word is in the table
abbrev pub table_place : Lasting → Word → ℕ
table_place t w = place t.table (slot_word t w)

-- the record is the pass's own
abbrev pub IsOwnRecord : Layout → ℕ → Record → Type 0
IsOwnRecord lay o (the_node n) = IsOwnNode lay o n
IsOwnRecord lay o (the_scx s) = IsOwnScx lay o s

-- the name is the pass's own, and so is its slot: the other names of the pass are never used
abbrev pub IsOwnName : Lasting → ℕ → Record → Type 0
IsOwnName t o x = IsOwnRecord t.lay o x × IsOwnRecord t.table o (slot_of t x)

-- the record may be in this slot: what was there from the start, and a pass's own in its own slot
pub record IsNameOf (t : Lasting) (slot x : Record) : Type 0 where
  pub slot_is : slot_of t x ≡ slot
  pub name : IsFirstRecord t.lay x ⊎ ((o : ℕ) × (o < t.lay.passes) × IsOwnName t o x)

-- a table that lasts: that of this layout, with so many laps more than one, of so many numbers
abbrev pub lasting : (table : Layout) (node_turn scx_turn laps : ℕ) → table.nodes + laps * node_turn ≤ 2 ^ 50 → table.scx + laps * scx_turn ≤ 2 ^ 50 → Lasting
lasting table node_turn scx_turn laps few_nodes few_scx = record {
  table = table;
  lay = with_shares table (table.nodes + laps * node_turn) (table.scx + laps * scx_turn) few_nodes few_scx;
  node_turn = node_turn;
  scx_turn = scx_turn;
  laps = laps;
}
