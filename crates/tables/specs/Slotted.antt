-- Where a table has the words of the records that its run names.
use Rattle.std.specs.Prelude.{◌+◌, ◌*◌, ◌^◌, ◌%◌, ℕ, Option, Some, None, min}
use Rattle.std.proofs.Math.Nat.{min-le_right}
use Rattle.arena.specs.Layout.{node_start, scx_start}
use Rattle.histories.specs.Common.{Layout, NodeNo, ScxNo, Word, Node, Scx, all_nodes, all_scx}
use Rattle.slots.specs.Lasting.{Lasting, with_shares}
use Rattle.tables.specs.declared.rule.Plot.{Plot}
use Rattle.tables.specs.declared.rule.Site.{Site}
use Rattle.tables.specs.declared.rule.Turns.{Turns}

-- a table in which each record has a place of its own, by its number
abbrev pub in_place : Layout → Lasting
in_place lay = record { table = lay; lay = lay; node_turn = all_nodes lay; scx_turn = all_scx lay; laps = 0 }

-- so many names has a pass of which so many have slots of their own, with so many laps more
abbrev pub names_for : (slots laps turn : ℕ) → ℕ
names_for slots laps turn = min (slots + laps * turn) (2 ^ 50)

-- a table whose slots are taken in turns
abbrev pub in_turns : Layout → Turns → Lasting
in_turns lay t = record {
  table = lay;
  lay = with_shares lay (names_for lay.nodes t.laps (2 ^ t.node_bits)) (names_for lay.scx t.laps (2 ^ t.scx_bits)) (min-le_right _ _) (min-le_right _ _);
  node_turn = 2 ^ t.node_bits;
  scx_turn = 2 ^ t.scx_bits;
  laps = t.laps;
}

-- how the records of a table have slots: in turns, if it is told how they come back
abbrev pub slots_by : Layout → Option Turns → Lasting
slots_by lay None = in_place lay
slots_by lay (Some t) = in_turns lay t

abbrev pub slots_of_table : Site → Lasting
slots_of_table site = slots_by site.layout site.turns

-- the layout of their names: that of the runs of its calls
abbrev pub names_of_table : Site → Layout
names_of_table site = (slots_of_table site).lay

-- that layout, and what is planted
abbrev pub plot_at : Site → Plot
plot_at site = record { layout = names_of_table site; planting = site.planting }

-- where the words of a node begin in its slot, and those of an SCX-record
abbrev pub node_begins : Lasting → NodeNo → ℕ
node_begins t n = node_start t.table record { 0 = n.0 % t.node_turn }

abbrev pub scx_begins : Lasting → ScxNo → ℕ
scx_begins t s = scx_start t.table record { 0 = s.0 % t.scx_turn }

-- where those of the record begin that has this word
abbrev pub word_begins : Lasting → Word → ℕ
word_begins t (Node n part) = node_begins t n
word_begins t (Scx s part) = scx_begins t s
