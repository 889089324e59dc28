-- What has left the tree, or the trie.
use Rattle.std.specs.Prelude.{◌≡◌, ◌<◌, ◌⊎◌, ℕ, true}
use Rattle.histories.specs.Common.{Layout, History, value, info, count, member, log, is_final}
use Rattle.ordered_map.specs.Paths.{WasInTree}
use Rattle.touching.specs.Kinds.{IsInTree}
use Rattle.touching.specs.Rests.{IsLetGo}

-- the node has been there, and is not
pub record HasLeft (h : History) (n : ℕ) : Type 0 where
  pub stood : WasInTree h n
  pub out : ¬ IsInTree h n

-- only nodes name the SCX-record that are final, or have left
abbrev pub IsNamedByLeft : Layout → History → ℕ → Type 0
IsNamedByLeft lay h s = (n : ℕ) → value h (info n) ≡ s → (is_final (log lay h) n ≡ true) ⊎ HasLeft h n

-- each node that the SCX-record covers is let go, or has left
abbrev pub AreLetGoOrLeft : History → ℕ → Type 0
AreLetGoOrLeft h s = (j : ℕ) → j < count h s → IsLetGo h s j ⊎ HasLeft h (member h s j)
