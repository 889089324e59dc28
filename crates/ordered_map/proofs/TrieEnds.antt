-- The leaf at an end of a trie, when what covers node 2 wins; and that a fork of a trie is on the
-- path of each key that it shares.
use Rattle.std.proofs.Common.{◌≡◌, ◌≢◌, ℕ, ◌^◌, ◌<◌, ◌≤◌, true, false, inl, inr, List, refl, sym, arith, subst}
use native.Mathlib.Decide.{ℕ_discrete}
use Rattle.histories.specs.Common.{Layout, Side, Left, Right, Word, Row, child, state, History, ◌⊳◌, value, IsMember, IsWin, count, member, seen}
use Rattle.arena.specs.declared.limits.Mode.TheVariants.{Trie as TrieMode}
use Rattle.arena.proofs.Lemmas.{ends_self}
use Rattle.histories.proofs.Lemmas.{win_not_final}
use Rattle.ordered_map.specs.declared.pair.Pair.{Pair}
use Rattle.ordered_map.specs.OrderedMap.{end_pair}
use Rattle.ordered_map.specs.Bits.{Shares, Keeps}
use Rattle.ordered_map.specs.Paths.{IsOnPath, Passed, StoodSince, WasInTree, end_key}
use Rattle.ordered_map.specs.Runs.{IsMapRun}
use Rattle.ordered_map.specs.Spelled.{Spells}
use Rattle.ordered_map.specs.TrieShape.{Stays}
use Rattle.ordered_map.specs.TreeWords.{Tree, Leaf, Fork, Shows, Has, Passes, class, is_leaf, rank, toward, end_said, IsBlankAboveKeys}
use Rattle.ordered_map.proofs.Trees.{EndsLow, part_of}
use Rattle.ordered_map.proofs.Spanned.{AreForks, child_shares, last_left, low_from, low_to, node_from, same_stays}
use Rattle.ordered_map.proofs.Children.{fork_low, run_low}
use Rattle.ordered_map.proofs.EndLeaf.{spelled_end}
use Rattle.ordered_map.proofs.Guarded.{HasComeBy, guarded_win}
use Rattle.ordered_map.proofs.MapRuns.{stood_blank, stood_settled}
use Rattle.ordered_map.proofs.Meanings.{run_since, wins_of}
use Rattle.ordered_map.proofs.Past.{path_next}
use Rattle.ordered_map.proofs.Stood.{was_now}
use Rattle.ordered_map.proofs.Strayed.{stays_fork, stays_shares}
use Rattle.ordered_map.proofs.TrieRuns.{stood_parted}

-- Paths

module _ (f : Word → ℕ) (k n : ℕ) (small : k < 2 ^ 64) (fork : is_leaf f n ≡ false) (share : Shares f n k) (blank : IsBlankAboveKeys f n) where
  -- a fork of a trie is on the path of a key that it shares
  shared_path : (t : Tree) (lo hi : ℕ) → Shows f lo hi t → EndsLow f t → AreForks f t → Has t n → Passes f k t n
  shared_path (Leaf m) lo hi s w all h = h
  shared_path (Fork m a b) lo hi s w all (inl e) = inl e
  shared_path (Fork m a b) lo hi s w all (inr (inl q)) = inr (inl (go (ℕ_discrete (class f m) 0), shared_path a lo (rank f m) s.1 w.1 (λ j h. all j (inr (inl h))) q))
    where
      go : Dec (class f m ≡ 0) → k < rank f m
      go (yes zero) =
          let x = child_shares f m Left a lo (rank f m) n k s.1 (last_left f m lo hi a b s (w.0 zero)) (λ j h. all j (inr (inl h))) (subst (Keeps f m Left) s.0.left ((all m (inl refl) s.0.fork).1 Left)) q fork share in
          let to = low_to f m zero in
          omega (arith, x, to, zero)
      go (no high) = omega (arith, high, small)
  shared_path (Fork m a b) lo hi s w all (inr (inr q)) = inr (inr (go (ℕ_discrete (class f m) 0), shared_path b (rank f m) hi s.2 w.2 (λ j h. all j (inr (inr h))) q))
    where
      from : rank f m ≤ rank f n
      from = node_from f b (rank f m) hi n s.2 q

      -- above all keys there is no fork on the right
      none : class f m ≢ 0 → Dec (class f n ≡ 0) → ⊥
      none high (yes low) = let l = fork_low f b (rank f m) hi n s.2 w.2 q fork low in omega (arith, high, from, l)
      none high (no d) =
          let deep = (part_of f b (rank f m) hi n s.2 q).deeper in
          let over = s.0.high in
          let top = (all m (inl refl) s.0.fork).0.top high in
          let own = (all n (inr (inr q)) fork).0.top d in
          let key = blank d in
          omega (arith, from, deep, over, top, own, key, d)

      go : Dec (class f m ≡ 0) → rank f m ≤ k
      go (yes zero) =
          let x = child_shares f m Right b (rank f m) hi n k s.2 (w.0 zero) (λ j h. all j (inr (inr h))) (subst (Keeps f m Right) s.0.right ((all m (inl refl) s.0.fork).1 Right)) q fork share in
          let at = low_from f m zero in
          omega (arith, x, at, zero)
      go (no high) = absurd (none high (ℕ_discrete (class f n) 0))

-- so each that was in the trie, and at which a key stays, was on its path then
pub stays_passed : (lay : Layout) (h start : History) (k n : ℕ) → k < 2 ^ 64 → lay.mode ≡ TrieMode → IsMapRun lay h → StoodSince h start n → Stays lay (value h) k n → Passed h start k n
stays_passed lay h start k n small trie g (x, since) stay = (m, x.within, since, record { tree = x.tree; is_tree = x.is_tree; passes = shared_path (value m) k n small (stays_fork lay (value m) k n trie then) (stays_shares lay (value m) k n small trie then) (stood_blank lay m n run was) x.tree _ _ x.is_tree.shows (run_low lay m x.tree run x.is_tree) (λ j q. stood_parted lay m j trie run (was_now m x.tree j x.is_tree q)) x.has })
  where
    m : History
    m = x.moment

    run : IsMapRun lay m
    run = run_since lay h m g x.within

    was : WasInTree m n
    was = was_now m x.tree n x.is_tree x.has

    then : Stays lay (value m) k n
    then = same_stays (value h) (value m) lay k n (λ part i. sym (stood_settled lay h m n g x.within was part i)) stay

-- Ends

-- Just before an SCX-record wins that covers node 2 and a fork to which a walk to an end has come,
-- below which there is a leaf on the way, that leaf says which pair is at that end of the map.
pub guarded_end : (side : Side) (lay : Layout) (h start : History) (row : Row) (s j p : ℕ) (ps : List Pair) → IsMapRun lay (row ⊳ h) → IsWin h row s → j < count h s → member h s j ≡ 2 → IsMember h s p → value start (state (seen h s j)) ≢ 0 → HasComeBy h start (end_key side) p (seen h s j) s → is_leaf (value h) p ≡ false
    → is_leaf (value h) (value h (child p (toward (value h) p (end_key side)))) ≡ true → Spells lay (value h) ps → end_pair side ps ≡ end_said side (value h) (value h (child p (toward (value h) p (end_key side))))
guarded_end side lay h start row s j p ps g won few two covers done come fork leaf spelled = spelled_end side lay h (value h (child p (toward (value h) p (end_key side)))) ps run spelled (path_next h (end_key side) p on fork) leaf
  where
    run : IsMapRun lay h
    run = run_since lay (row ⊳ h) h g (inr (ends_self h))

    on : IsOnPath h (end_key side) p
    on = guarded_win lay h start row s j (end_key side) p g won few two done come fork (win_not_final lay h row s p g.1.lawful (wins_of lay h row s g.1.lawful won) covers)
