-- Walks of a trie that come to a fork which their key does not share: no pair below has the key,
-- and the walk may go on all the same.
use Rattle.std.specs.Prelude.{◌≡◌, ◌≢◌, ◌⊎◌, ℕ, true, false, None}
use Rattle.arena.specs.declared.limits.Mode.TheVariants.{Trie as TrieMode}
use Rattle.histories.specs.Common.{Layout, Word, info, state, History, value, Extends}
use Rattle.ordered_map.specs.TreeWords.{class, is_leaf, said}
use Rattle.ordered_map.specs.Paths.{Passed, StoodSince, IsAnswerAt}
use Rattle.ordered_map.specs.Bits.{Shares}

-- the node n and what is below it are apart from the key k: a fork of class 0 does not share it, a
-- leaf does not have it
pub record IsApart (f : Word → ℕ) (n k : ℕ) : Type 0 where
  pub fork : is_leaf f n ≡ false → (class f n ≡ 0) × ¬ Shares f n k
  pub leaf : is_leaf f n ≡ true → said f k n ≡ None

-- at a moment that is not before `start` node 2 named another SCX-record than this
abbrev pub IsUnguarded : History → History → ℕ → Type 0
IsUnguarded h start guard = (m : History) × Extends h m × Extends m start × (value m (info 2) ≢ guard)

-- where an SCX-record was finished by then, n was on the path of k since, or node 2 named another
abbrev pub IsGuardedOn : History → History → ℕ → ℕ → Type 0
IsGuardedOn h start k n = (guard : ℕ) → value start (state guard) ≢ 0 → Passed h start k n ⊎ IsUnguarded h start guard

-- A walk to k in a trie has strayed, and has come to n: at a moment since `start` the map had no
-- such key, and n, which was in the trie since then, is apart from it. A fork that was put above
-- another is what has led it astray: that covers node 2.
pub record HasStrayed (lay : Layout) (h start : History) (k n : ℕ) : Type 0 where
  pub trie : lay.mode ≡ TrieMode
  pub absent : IsAnswerAt lay h start k None
  pub stood : StoodSince h start n
  pub guarded : IsGuardedOn h start k n
  pub apart : IsApart (value h) n k

-- A walk to k by the steps of a tree's has come to n: n was on its path, or it has strayed.
abbrev pub HasWalked : Layout → History → History → ℕ → ℕ → Type 0
HasWalked lay h start k n = Passed h start k n ⊎ HasStrayed lay h start k n
