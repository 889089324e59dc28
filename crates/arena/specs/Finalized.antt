-- Which nodes are finalized.
use Rattle.std.specs.Prelude.{◌≡◌, ℕ, ◌<◌, true}
use Rattle.arena.specs.Words.{state}
use Rattle.arena.specs.History.{History, value}
use Rattle.arena.specs.ScxRecords.{member, count, scx_finalizes}

-- the node is finalized: a committed SCX-record has it among those that it finalizes
pub record IsFinalized (h : History) (n : ℕ) : Type 0 where
  pub scx : ℕ
  pub committed : value h (state scx) ≡ 1
  pub index : ℕ
  pub within : index < count h scx
  pub is : member h scx index ≡ n
  pub removed : scx_finalizes h scx index ≡ true
