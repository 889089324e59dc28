-- A key that something below a fork of a trie is not apart from stays at the fork, and its search
-- turns to where that is.
use Rattle.std.proofs.Common.{◌≡◌, ◌≢◌, ℕ, ◌^◌, ◌<◌, ◌≤◌, true, false, ◌⊎◌, inl, inr, refl, sym, ◌∙◌, arith, lt-ltb, le-ltb}
use native.Mathlib.Decide.{ℕ_discrete}
use Rattle.histories.specs.Common.{Layout, Side, Left, Right, Word, History, value}
use Rattle.arena.specs.declared.limits.Mode.TheVariants.{Trie as TrieMode}
use Rattle.ordered_map.specs.Bits.{side_from, side_to, Shares}
use Rattle.ordered_map.specs.Paths.{HasHadChild}
use Rattle.ordered_map.specs.Runs.{IsMapRun}
use Rattle.ordered_map.specs.Strays.{IsApart}
use Rattle.ordered_map.specs.TrieShape.{Stays}
use Rattle.ordered_map.specs.TreeWords.{class, is_leaf, rank, toward}
use Rattle.ordered_map.proofs.Parted.{IsOnSide}
use Rattle.ordered_map.proofs.Spanned.{low_from, low_to}
use Rattle.ordered_map.proofs.Strayed.{apart_below, apart_outside, shares_or_not}
use Rattle.ordered_map.proofs.Trees.{split_at}

module _ (lay : Layout) (h : History) (k n : ℕ) (side : Side) (m : ℕ) (small : k < 2 ^ 64) (trie : lay.mode ≡ TrieMode) (g : IsMapRun lay h) (fork : is_leaf (value h) n ≡ false) (x : HasHadChild h n side m) (left : class (value h) n ≢ 0 → side ≡ Left) (near : ¬ IsApart (value h) m k) where
  abbrev f : Word → ℕ
  f = value h

  -- the fork is not apart from it either
  pub near_too : ¬ IsApart (value h) n k
  near_too a = near (apart_below lay h k n side m trie g fork x a)

  pub near_stays : Stays lay (value h) k n
  near_stays = inr (fork, λ low. go low (shares_or_not f n k))
    where
      go : class f n ≡ 0 → Shares f n k ⊎ ¬ Shares f n k → Shares f n k
      go low (inl s) = s
      go low (inr d) = absurd (near_too record { fork = λ _. (low, d); leaf = λ q. absurd (let z : true ≡ false = sym q ∙ fork in cc) })

  on_side : class f n ≡ 0 → IsOnSide f n side k
  on_side low = go (split_at k (side_from f n side)) (split_at k (side_to f n side))
    where
      never : ¬ IsOnSide f n side k → IsOnSide f n side k
      never d = absurd (near (apart_outside lay h k n side m trie g fork x low d))

      go : (k < side_from f n side) ⊎ (side_from f n side ≤ k) → (k < side_to f n side) ⊎ (side_to f n side ≤ k) → IsOnSide f n side k
      go (inl l) _ = never (λ s. let a = s.0 in omega (arith, l, a))
      go (inr l) (inl u) = (l, u)
      go (inr l) (inr u) = never (λ s. let a = s.1 in omega (arith, u, a))

  pub near_turn : toward (value h) n k ≡ side
  near_turn = go (ℕ_discrete (class f n) 0)
    where
      turn : class f n ≡ 0 → (z : Side) → IsOnSide f n z k → toward f n k ≡ z
      turn low Left s = let to = low_to f n low in rw (lt-ltb k (rank f n) (omega (arith, to, low, s))) refl
      turn low Right s = let from = low_from f n low in rw (le-ltb k (rank f n) (omega (arith, from, low, s))) refl

      go : Dec (class f n ≡ 0) → toward f n k ≡ side
      go (yes low) = turn low side (on_side low)
      go (no high) = rw (lt-ltb k (rank f n) (omega (arith, high, small))) (sym (left high))
