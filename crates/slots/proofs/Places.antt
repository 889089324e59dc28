-- No two words of a table have one place, and each has one of the table's.
use Rattle.std.proofs.Common.{◌≡◌, ℕ, ◌+◌, ◌*◌, ◌<◌, refl, sym, ◌∙◌, arith}
use Rattle.arena.specs.Opening.{node_size}
use Rattle.arena.specs.Words.{node_place, scx_place, IsScxWord}
use Rattle.arena.specs.declared.limits.Mode.{Mode}
use Rattle.arena.specs.declared.limits.Mode.TheVariants.{Tree, Trie, Records}
use Rattle.histories.specs.Common.{Layout, Word, Node, Scx, all_nodes, all_scx, place, table_size, IsWord}

-- the place of a word in a table of this mode and of so many nodes
abbrev place_in : Mode → ℕ → Word → ℕ
place_in mode nodes (Node n part) = node_size mode * n.0 + node_place part
place_in mode nodes (Scx s part) = node_size mode * nodes + 14 * s.0 + scx_place part

-- the table has it
abbrev IsWordIn : ℕ → ℕ → Word → Type 0
IsWordIn nodes scxs (Node n part) = n.0 < nodes
IsWordIn nodes scxs (Scx s part) = (s.0 < scxs) × IsScxWord part

inside_in : (mode : Mode) (nodes scxs : ℕ) (w : Word) → IsWordIn nodes scxs w → place_in mode nodes w < node_size mode * nodes + 14 * scxs
inside_in Tree nodes scxs w i = grind arith
inside_in Trie nodes scxs w i = grind arith
inside_in Records nodes scxs w i = grind arith

apart_in : (mode : Mode) (nodes scxs : ℕ) (u w : Word) → IsWordIn nodes scxs u → IsWordIn nodes scxs w → place_in mode nodes u ≡ place_in mode nodes w → u ≡ w
apart_in Tree nodes scxs u w i j e = grind arith
apart_in Trie nodes scxs u w i j e = grind arith
apart_in Records nodes scxs u w i j e = grind arith

in_table : (lay : Layout) (w : Word) → IsWord lay w → IsWordIn (all_nodes lay) (all_scx lay) w
in_table lay (Node n part) i = i
in_table lay (Scx s part) i = i

at_place : (lay : Layout) (w : Word) → place lay w ≡ place_in lay.mode (all_nodes lay) w
at_place lay (Node n part) = refl
at_place lay (Scx s part) = refl

pub place_inside : (lay : Layout) (w : Word) → IsWord lay w → place lay w < table_size lay
place_inside lay w i = rw (at_place lay w) (inside_in lay.mode (all_nodes lay) (all_scx lay) w (in_table lay w i))

pub place_apart : (lay : Layout) (u w : Word) → IsWord lay u → IsWord lay w → place lay u ≡ place lay w → u ≡ w
place_apart lay u w i j e = apart_in lay.mode (all_nodes lay) (all_scx lay) u w (in_table lay u i) (in_table lay w j) (sym (at_place lay u) ∙ e ∙ at_place lay w)
