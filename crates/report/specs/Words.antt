-- Words of the table as text.
use Rattle.std.specs.Prelude.{ℕ, ◌<◌, ◌^◌, List, ◌++◌, codes, decimal}
use Rattle.arena.specs.Words.{IsScxWord}
use Rattle.arena.specs.declared.word.Side.TheVariants.{Left, Right}
use Rattle.arena.specs.declared.word.NodeWord.{NodeWord}
use Rattle.arena.specs.declared.word.NodeWord.TheVariants.{Settled, Child, Info, Marked}
use Rattle.arena.specs.declared.word.SettledPart.TheVariants.{Head, More, Key, Value, High}
use Rattle.arena.specs.declared.word.Slot.TheVariants.{First, Second, Third, Fourth}
use Rattle.arena.specs.declared.word.ScxWord.{ScxWord}
use Rattle.arena.specs.declared.word.ScxWord.TheVariants.{State, AllFrozen, Plan, New, Old, Member, Seen, Call}
use Rattle.arena.specs.declared.word.Word.{Word}
use Rattle.arena.specs.declared.word.Word.TheVariants.{Node, Scx}
use Rattle.report.specs.Versions.{HasPart}
use Rattle.report.specs.declared.version.Version.{Version}

-- a word's name within its node
abbrev pub node_part : NodeWord → List ℕ
node_part (Settled Head) = codes "head"
node_part (Settled More) = codes "more"
node_part (Settled (Key First)) = codes "key"
node_part (Settled (Key Second)) = codes "key1"
node_part (Settled (Key Third)) = codes "key2"
node_part (Settled (Key Fourth)) = codes "key3"
node_part (Settled (Value First)) = codes "value"
node_part (Settled (Value Second)) = codes "value1"
node_part (Settled (Value Third)) = codes "value2"
node_part (Settled (Value Fourth)) = codes "value3"
node_part (Settled (High First)) = codes "high"
node_part (Settled (High Second)) = codes "high1"
node_part (Settled (High Third)) = codes "high2"
node_part (Settled (High Fourth)) = codes "high3"
node_part (Child Left) = codes "left"
node_part (Child Right) = codes "right"
node_part Info = codes "info"
node_part Marked = codes "marked"

-- a word's name within its SCX-record
abbrev pub scx_part : ScxWord → List ℕ
scx_part State = codes "state"
scx_part AllFrozen = codes "allfrozen"
scx_part Plan = codes "plan"
scx_part New = codes "new"
scx_part Old = codes "old"
scx_part (Member place) = codes "v" ++ decimal place
scx_part (Seen place) = codes "i" ++ decimal place
scx_part Call = codes "call"

-- a word of the table as text: its record's number, then its name within that
abbrev pub word_text : Word → List ℕ
word_text (Node n part) = codes "n" ++ (decimal n.0 ++ (codes "." ++ node_part part))
word_text (Scx s part) = codes "s" ++ (decimal s.0 ++ (codes "." ++ scx_part part))

-- a word that a table may have: its record's number has 64 bits, a node has the words of the
-- version, and an SCX-record has four members
abbrev pub IsSpelled : Version → Word → Type 0
IsSpelled version (Node n part) = (n.0 < 2 ^ 64) × HasPart version part
IsSpelled version (Scx s part) = (s.0 < 2 ^ 64) × IsScxWord part
