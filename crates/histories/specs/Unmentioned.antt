-- Nodes that no word mentions.
use Rattle.std.specs.Prelude.{ℕ}
use Rattle.arena.specs.declared.word.Side.{Side}
use Rattle.arena.specs.declared.word.ScxWord.{ScxWord}
use Rattle.arena.specs.Words.{scx, child}
use Rattle.arena.specs.History.{History, HasHeld}
use Rattle.arena.specs.Fills.{NamesNode}

-- no field and no SCX-record has ever named the node
pub record IsUnmentioned (h : History) (n : ℕ) : Type 0 where
  pub in_no_field : (m : ℕ) (side : Side) → ¬ HasHeld h (child m side) n
  pub in_no_scx : (s : ℕ) (part : ScxWord) → NamesNode part → ¬ HasHeld h (scx s part) n
