-- What an edit of a trie puts in below a fork at which its key stays, in the place of what that has
-- named on the key's side, fits there.
use Rattle.std.proofs.Common.{◌≡◌, ◌≢◌, ℕ, ◌^◌, ◌<◌, false, refl, ap, arith, lt-ltb, subst}
use native.Mathlib.Decide.{ℕ_discrete}
use Rattle.histories.specs.Common.{Layout, Side, Left, Word, child, History, value}
use Rattle.arena.specs.declared.limits.Mode.TheVariants.{Trie as TrieMode}
use Rattle.ordered_map.specs.OrderedMap.{MapEdit, edit_key}
use Rattle.ordered_map.specs.Bits.{Shares, IsParted, Keeps, IsTrieFork}
use Rattle.ordered_map.specs.Edits.{IsSwapBy, IsSplitBy, IsCopyOf}
use Rattle.ordered_map.specs.Paths.{WasInTree, HasHadChild}
use Rattle.ordered_map.specs.Runs.{IsMapRun}
use Rattle.ordered_map.specs.TreeWords.{class, is_leaf, level, rank, toward, opposite}
use Rattle.ordered_map.specs.TrieShape.{Stays, FitsTrie, IsAboveBy, HasTrieLevels}
use Rattle.ordered_map.proofs.Children.{IsBeside, parent_stood, had_stood, had_deeper, had_beside, had_low, had_high, had_keeps}
use Rattle.ordered_map.proofs.EndLeaf.{stood_holds}
use Rattle.ordered_map.proofs.FreshForks.{fits_swap, fits_split, fits_first, fits_join, fits_above}
use Rattle.ordered_map.proofs.MapRuns.{stood_blank}
use Rattle.ordered_map.proofs.Parted.{IsOnSide, PartsFrom}
use Rattle.ordered_map.proofs.Strayed.{stays_fork, stays_on_side}
use Rattle.ordered_map.proofs.TrieRuns.{stood_parted}

-- on which side of a fork above all keys a key of the map is
left_of : (f : Word → ℕ) (k n : ℕ) → k < 2 ^ 64 → class f n ≢ 0 → toward f n k ≡ Left
left_of f k n small high = rw (lt-ltb k (rank f n) (omega (arith, small, high))) refl

module _ (lay : Layout) (h : History) (trie : lay.mode ≡ TrieMode) (g : IsMapRun lay h) (e : MapEdit) (small : edit_key e < 2 ^ 64) (p : ℕ) (stays : Stays lay (value h) (edit_key e) p) where
  abbrev f : Word → ℕ
  f = value h

  abbrev side : Side
  side = toward f p (edit_key e)

  fork : is_leaf f p ≡ false
  fork = stays_fork lay f (edit_key e) p trie stays

  on : IsOnSide f p side (edit_key e)
  on = stays_on_side lay f (edit_key e) p small trie stays

  a_fork : (n : ℕ) → WasInTree h n → IsTrieFork f n
  a_fork n x = stood_parted lay h n trie g x

  module _ (l : ℕ) (x : HasHadChild h p side l) where
    parted : IsParted f p
    parted = (a_fork p (parent_stood h p side l x) fork).0

    keeps : Keeps f p side l
    keeps = had_keeps lay h p side l g x fork trie

    stood : WasInTree h l
    stood = had_stood lay h p side l g x fork

    -- above all keys it is the leaf of class 1 below the root
    first_only : class f l ≢ 0 → (class f p ≡ 2) × (class f l ≡ 1)
    first_only high =
        let above : class f p ≢ 0 = λ z. high (had_low lay h p side l g x fork z) in
        let under : rank f l < rank f p = subst (λ s. IsBeside f s p l) (left_of f (edit_key e) p small above) (had_beside lay h p side l g x fork) in
        let top = parted.top above in
        let blank = stood_blank lay h p g (parent_stood h p side l x) above in
        (omega (arith, high, under, top, blank), omega (arith, high, under, top, blank))

  -- a leaf in the place of another
  pub swap_fits : (l c : ℕ) → HasHadChild h p (toward (value h) p (edit_key e)) l → IsSwapBy (value h) e l c → FitsTrie (value h) p (toward (value h) p (edit_key e)) c
  swap_fits l c x s = fits_swap f p side e l c (parted l x) (keeps l x) on s

  -- a fork over two in the place of a full leaf, or of that of class 1
  pub split_fits : (l c x y : ℕ) → HasHadChild h p (toward (value h) p (edit_key e)) l → IsSplitBy (value h) e l c x y → HasTrieLevels (value h) e l c x y → FitsTrie (value h) p (toward (value h) p (edit_key e)) c
  split_fits l c x y had s levels = go (ℕ_discrete (class f l) 0)
    where
      go : Dec (class f l ≡ 0) → FitsTrie f p side c
      go (yes low) =
          let q = levels.parts low in
          fits_split f p side e l c x y q.first q.last (parted l had) (keeps l had) on s low (stood_holds lay h l g (stood l had) s.leaf low).2 levels.first (levels.last low) q.is_first q.is_last q.parts
      go (no high) =
          let only = first_only l had high in
          let above = levels.high high in
          fits_first f p side e l c x y (parted l had) only.0 s only.1 above.0 levels.first above.1

  -- a fork above a fork that the key does not share
  pub above_fits : (u c x : ℕ) (at : Side) → HasHadChild h p (toward (value h) p (edit_key e)) u → ¬ Shares (value h) u (edit_key e) → IsAboveBy (value h) e u c x at → PartsFrom (value h) u c (edit_key e) → level (value h) x ≡ 66 → FitsTrie (value h) p (toward (value h) p (edit_key e)) c
  above_fits u c x at had out s parts deep = fits_above f p side e u c x at (parted u had) (keeps u had) (a_fork u (stood u had)) out on s parts deep

  -- a copy of z, which has been beside the key below q, in the place of q
  pub join_fits : (q z c : ℕ) → HasHadChild h p (toward (value h) p (edit_key e)) q → is_leaf (value h) q ≡ false → HasHadChild h q (opposite (toward (value h) q (edit_key e))) z → IsCopyOf (value h) c z → (is_leaf (value h) z ≡ false → (to : Side) → HasHadChild h z to (value h (child c to))) → FitsTrie (value h) p (toward (value h) p (edit_key e)) c
  join_fits q z c had inner beside copy fields = fits_join f p side q at z c inner (keeps q had) order (had_keeps lay h q at z g beside inner trie) copy below (had_deeper lay h p side q g had fork) (had_deeper lay h q at z g beside inner)
    where
      at : Side
      at = opposite (toward f q (edit_key e))

      order : class f q ≢ 0 → class f z ≢ 0
      order high = had_high lay h q at z g beside inner (ap opposite (left_of f (edit_key e) q small high)) high

      below : is_leaf f z ≡ false → IsParted f z × ((to : Side) → Keeps f z to (f (child c to)) × (level f z < level f (f (child c to))))
      below d = (
        (a_fork z (had_stood lay h q at z g beside inner) d).0,
        λ to. (had_keeps lay h z to (f (child c to)) g (fields d to) d trie, had_deeper lay h z to (f (child c to)) g (fields d to) d),
      )
