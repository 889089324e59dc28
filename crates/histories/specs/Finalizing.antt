-- Which SCX-record finalizes a node.
use Rattle.std.specs.Prelude.{◌≡◌, ℕ, ◌<◌, true}
use Rattle.arena.specs.declared.word.ScxWord.TheVariants.{AllFrozen}
use Rattle.arena.specs.Words.{scx}
use Rattle.arena.specs.History.{History, value}
use Rattle.arena.specs.ScxRecords.{count, member, scx_finalizes}

-- n is one of the nodes that s covers and is to finalize
pub record IsRemoved (h : History) (s n : ℕ) : Type 0 where
  pub index : ℕ
  pub within : index < count h s
  pub is : member h s index ≡ n
  pub removed : scx_finalizes h s index ≡ true

-- s finalizes n and nothing can stop it: its `allfrozen` is set, so it is never aborted
pub record IsFinalizing (h : History) (n s : ℕ) : Type 0 where
  pub flag : value h (scx s AllFrozen) ≡ 1
  pub removed : IsRemoved h s n
