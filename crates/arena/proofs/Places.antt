-- No two words of a table have one place, whatever the table is for.
use Rattle.std.proofs.Common.{rules, ◌≡◌, ℕ, ◌+◌, ◌*◌, ◌<◌}
use Rattle.arena.specs.declared.layout.Layout.{Layout}
use Rattle.arena.specs.declared.limits.Mode.{Mode}
use Rattle.arena.specs.declared.limits.Mode.TheVariants.{Tree, Trie, Records}
use Rattle.arena.specs.declared.number.NodeNo.{NodeNo}
use Rattle.arena.specs.declared.word.NodeWord.{NodeWord}
use Rattle.arena.specs.declared.word.Word.{Word}
use Rattle.arena.specs.declared.word.Word.TheVariants.{Node, Scx}
use Rattle.arena.specs.Layout.{all_nodes, table_size, place, IsWord}
use Rattle.arena.specs.Opening.{node_size}
use Rattle.arena.specs.Words.{node_place, scx_place}

pub nodes_apart : (mode : Mode) (n m : NodeNo) (p q : NodeWord) → node_size mode * m.0 + node_place q ≡ node_size mode * n.0 + node_place p → Node m q ≡ Node n p
nodes_apart Tree n m p q e = search rules
nodes_apart Trie n m p q e = search rules
nodes_apart Records n m p q e = search rules

-- and all words of SCX-records are behind them
pub scx_behind : (mode : Mode) (n all rest : ℕ) (p : NodeWord) → n < all → node_size mode * all + rest ≡ node_size mode * n + node_place p → ⊥
scx_behind Tree n all rest p i e = search rules
scx_behind Trie n all rest p i e = search rules
scx_behind Records n all rest p i e = search rules

pub places_apart : (lay : Layout) (w other : Word) → IsWord lay w → IsWord lay other → place lay other ≡ place lay w → other ≡ w
places_apart lay (Node n p) (Node m q) i j e = nodes_apart lay.mode n m p q e
places_apart lay (Node n p) (Scx s q) i j e = absurd (scx_behind lay.mode n.0 (all_nodes lay) (14 * s.0 + scx_place q) p i (search (rules, e)))
places_apart lay (Scx s p) (Node m q) i j e = absurd (scx_behind lay.mode m.0 (all_nodes lay) (14 * s.0 + scx_place p) q j (search (rules, e)))
places_apart lay (Scx s p) (Scx r q) i j e = search (rules, e)

-- and each is inside
pub place_inside : (lay : Layout) (w : Word) → IsWord lay w → place lay w < table_size lay
place_inside lay (Node n p) i = search rules
place_inside lay (Scx s p) i = search rules
