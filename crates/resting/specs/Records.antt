-- What may come back: nodes and SCX-records alike.
use Rattle.std.specs.Prelude.{ℕ}
use Rattle.histories.specs.Common.{Word, Node, Scx}

-- a node or an SCX-record, by its number
pub data Record : Type 0 where
  the_node : ℕ → Record
  the_scx : ℕ → Record

-- the record that has the word
abbrev pub record_of : Word → Record
record_of (Node n part) = the_node n.0
record_of (Scx s part) = the_scx s.0
