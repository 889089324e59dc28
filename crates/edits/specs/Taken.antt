-- What an update fills of its share.
use Rattle.std.specs.Prelude.{◌≡◌, ◌<◌, ℕ}
use Rattle.histories.specs.Common.{Fill, NodeWord, ScxWord, Step, Remaining, node, scx}

-- the step fills no node and no SCX-record but those taken before what is left
pub record FillsTaken (left : Remaining) (s : Step) : Type 0 where
  pub nodes : (n : ℕ) (part : NodeWord) → s.kind ≡ Fill → s.word ≡ node n part → n < left.next_node
  pub records : (t : ℕ) (part : ScxWord) → s.kind ≡ Fill → s.word ≡ scx t part → t < left.next_scx
