-- What the word `head` of a node of the tree packs.
use Rattle.std.specs.Prelude.{ℕ, ◌+◌, ◌*◌, ◌/◌, ◌%◌, ◌^◌, ◌<◌, ◌==◌}
use Rattle.arena.specs.declared.head.Head.{Head}
use Rattle.arena.specs.ScxRecords.{bit}

-- what a word says as a head: its class in the two lowest bits, above them whether it is a leaf,
-- and its level in the rest
abbrev pub head_of : ℕ → Head
head_of w = record { level = w / 8; leaf = w / 4 % 2 == 1; class = w % 4 }

-- the word of a head
abbrev pub head_word : Head → ℕ
head_word head = 8 * head.level + 4 * bit head.leaf + head.class

-- a head that a word can hold
pub record FitsWord (head : Head) : Type 0 where
  pub level : head.level < 2 ^ 61
  pub class : head.class < 4
