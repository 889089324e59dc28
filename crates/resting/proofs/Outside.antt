-- Whether a node is in the tree or the trie, and whether it has ever been there, can be told of a
-- run. So what is a pass's own, was taken as it rested, and is out since is marked, has left
-- unmarked, or was never there; and it stays out.
use Rattle.std.proofs.Common.{◌≡◌, ◌<◌, ◌⊎◌, ℕ, inl, inr, ⊎_elim, sym, ◌∙◌, subst}
use native.Mathlib.Decide.{ℕ_discrete}
use Rattle.histories.specs.Common.{Layout, History, Opened, ◌⊳◌, Extends, value, marked, IsTakenNode}
use Rattle.arena.proofs.Lemmas.{ends_self, ends_trans}
use Rattle.ordered_map.specs.Paths.{WasInTree}
use Rattle.ordered_map.specs.Runs.{IsMapRun}
use Rattle.ordered_map.specs.Spelled.{IsTree, Spells}
use Rattle.ordered_map.specs.TreeWords.{Tree, Leaf, Fork, Has}
use Rattle.ordered_map.proofs.Lemmas.{same_tree}
use Rattle.ordered_map.proofs.MapLemmas.{run_since, run_spells}
use Rattle.touching.specs.Kinds.{IsInTree}
use Rattle.touching.specs.Left.{HasLeft}
use Rattle.touching.proofs.Lemmas.{is_was, left_since, was_since}
use Rattle.resting.specs.Dead.{HasLeftUnmarked, IsMarkedNode, IsOut, IsUnborn}
use Rattle.resting.specs.Reach.{IsOutOfReach}
use Rattle.resting.specs.Records.{the_node}
use Rattle.resting.specs.Rests.{AreSince, HasRestedAt, HaveRestedAt}
use Rattle.resting.proofs.Resting.{rested_within}
use Rattle.resting.proofs.Rows.{taken_node_since}
use Rattle.resting.proofs.StaysUnborn.{unborn_out, unborn_since}
use Rattle.resting.proofs.Touched.{left_out}

has_or_not : (t : Tree) (n : ℕ) → Dec (Has t n)
has_or_not (Leaf m) n = ℕ_discrete m n
has_or_not (Fork m a b) n = go (ℕ_discrete m n) (has_or_not a n) (has_or_not b n)
  where
    go : Dec (m ≡ n) → Dec (Has a n) → Dec (Has b n) → Dec (Has (Fork m a b) n)
    go (yes e) x y = yes (inl e)
    go (no d) (yes x) y = yes (inr (inl x))
    go (no d) (no x) (yes y) = yes (inr (inr y))
    go (no d) (no x) (no y) = no (λ z. ⊎_elim d (λ q. ⊎_elim x y q) z)

-- the words of a run spell one tree
there_or_not : (lay : Layout) (h : History) (n : ℕ) → IsMapRun lay h → Dec (IsInTree h n)
there_or_not lay h n run = go (has_or_not spelled.tree n)
  where
    spelled : Spells lay (value h) (run_spells lay h run).0
    spelled = (run_spells lay h run).1

    go : Dec (Has spelled.tree n) → Dec (IsInTree h n)
    go (yes x) = yes record { tree = spelled.tree; is_tree = spelled.is_tree; has = x }
    go (no d) = no (λ y. d (subst (λ u. Has u n) (same_tree (value h) y.tree spelled.tree _ _ _ _ y.is_tree.shows spelled.is_tree.shows (y.is_tree.is ∙ sym spelled.is_tree.is)) y.has))

-- of a moment that is h
is_there : (h : History) (n : ℕ) (w : WasInTree h n) → w.moment ≡ h → IsInTree h n
is_there h n w e = record { tree = w.tree; is_tree = subst (λ k. IsTree (value k) w.tree) e w.is_tree; has = w.has }

pub stood_or_not : (lay : Layout) (h : History) (n : ℕ) → IsMapRun lay h → Dec (WasInTree h n)
stood_or_not lay (Opened o) n run = go (there_or_not lay (Opened o) n run)
  where
    go : Dec (IsInTree (Opened o) n) → Dec (WasInTree (Opened o) n)
    go (yes x) = yes (is_was (Opened o) n x)
    go (no d) = no (λ w. d (is_there (Opened o) n w w.within))
stood_or_not lay (r ⊳ h) n run = go (there_or_not lay (r ⊳ h) n run) (stood_or_not lay h n (run_since lay (r ⊳ h) h run (inr (ends_self h))))
  where
    neither : ¬ IsInTree (r ⊳ h) n → ¬ WasInTree h n → (w : WasInTree (r ⊳ h) n) → Extends (r ⊳ h) w.moment → ⊥
    neither d c w (inl e) = d (is_there (r ⊳ h) n w e)
    neither d c w (inr e) = c record { moment = w.moment; within = e; tree = w.tree; is_tree = w.is_tree; has = w.has }

    go : Dec (IsInTree (r ⊳ h) n) → Dec (WasInTree h n) → Dec (WasInTree (r ⊳ h) n)
    go (yes x) y = yes (is_was (r ⊳ h) n x)
    go (no d) (yes y) = yes (was_since (r ⊳ h) h n (inr (ends_self h)) y)
    go (no d) (no c) = no (λ w. neither d c w w.within)

module _ (lay : Layout) (p : ℕ) (rest t : History) (n : ℕ) (x : IsOut lay p rest t n) where
  -- what was never there by then was not as the pass rested
  unborn_then : ¬ WasInTree t n → IsUnborn lay p rest n
  unborn_then d = record { own = x.own; taken = x.taken; never = λ w. d (was_since t rest n x.since w) }

  left_then : WasInTree t n → HasLeft t n
  left_then w = record { stood = w; out = x.out }

  taken_then : IsTakenNode t n
  taken_then = taken_node_since t rest n x.since x.taken

  -- it is one of three
  pub out_sorts : IsMapRun lay t → IsMarkedNode t n ⊎ (HasLeftUnmarked t n ⊎ IsUnborn lay p rest n)
  out_sorts run = go (stood_or_not lay t n run) (ℕ_discrete (value t (marked n)) 0)
    where
      go : Dec (WasInTree t n) → Dec (value t (marked n) ≡ 0) → IsMarkedNode t n ⊎ (HasLeftUnmarked t n ⊎ IsUnborn lay p rest n)
      go (no d) m = inr (inr (unborn_then d))
      go (yes w) (yes e) = inr (inl record { taken = taken_then; left = left_then w; mark = e })
      go (yes w) (no c) = inl record { taken = taken_then; mark = c }

  module _ (h : History) (run : IsMapRun lay h) (is_pass : p < lay.passes) (within : Extends h t) (rested : HasRestedAt lay h p rest) where
    abbrev run_then : IsMapRun lay t
    run_then = run_since lay h t run within

    pub out_stays : IsOut lay p rest h n
    out_stays = record { own = x.own; taken = x.taken; since = ends_trans h t rest within x.since; out = go (stood_or_not lay t n run_then) }
      where
        go : Dec (WasInTree t n) → ¬ IsInTree h n
        go (yes w) = (left_since lay h t n run within (left_then w)).out
        go (no d) = λ y. (unborn_since lay h p rest n is_pass run rested (unborn_then d)).never (is_was h n y)

    -- with no mark it is out of reach once all have rested since
    pub out_unmarked : (last : ℕ → History) → HaveRestedAt lay h last → AreSince lay last t → value t (marked n) ≡ 0 → IsOutOfReach lay h last (the_node n)
    out_unmarked last all since mark = go (stood_or_not lay t n run_then)
      where
        later : Extends (last p) rest
        later = ends_trans (last p) t rest (since p is_pass) x.since

        go : Dec (WasInTree t n) → IsOutOfReach lay h last (the_node n)
        go (yes w) = left_out lay h last t since n record { taken = taken_then; left = left_then w; mark = mark }
        go (no d) = let e = (all p is_pass).within in unborn_out lay h last p n is_pass (unborn_since lay (last p) p rest n is_pass (run_since lay h (last p) run e) (rested_within lay h (last p) p rest e later rested) (unborn_then d))
