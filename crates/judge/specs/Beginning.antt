-- What may begin, in parts.
use Rattle.std.specs.Prelude.{◌≡◌, ◌≢◌, ℕ, ◌<◌}
use Rattle.histories.specs.Common.{Layout, all_nodes, state, info, marked, History, value, member, seen}

-- the first nodes of s, as many as `count`, are other nodes of the table each, what they were
-- frozen for is finished, and those that are still as seen are not marked
pub record AreReady (lay : Layout) (h : History) (s count : ℕ) : Type 0 where
  pub inside : (j : ℕ) → j < count → member h s j < all_nodes lay
  pub distinct : (j k : ℕ) → j < count → k < count → j ≢ k → member h s j ≢ member h s k
  pub at_rest : (j : ℕ) → j < count → value h (state (seen h s j)) ≢ 0
  pub unmarked : (j : ℕ) → j < count → value h (info (member h s j)) ≡ seen h s j → value h (marked (member h s j)) ≡ 0
