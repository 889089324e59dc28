-- What is in the tree now, or has been reached by an SCX-record in progress, has been in the tree.
use Rattle.std.proofs.Common.{◌≡◌, ◌≢◌, ◌<◌, ◌⊎◌, ℕ, inl, inr, sym, ◌∙◌, subst, arith}
use Rattle.histories.specs.Common.{Layout, Member, Plan, History, ◌⊳◌, Extends, HasHeld, value, state, info, count, count_of, member, field, field_index, old, descriptor, IsNamedScx, IsInProgress, HasWon}
use Rattle.arena.proofs.Lemmas.{ends_self, ends_trans}
use Rattle.histories.proofs.Lemmas.{About, Facts, UpdateWins, facts, first_frozen, lawful_since, scx_since, update_flagged, update_in_progress, update_is_first}
use Rattle.ordered_map.specs.Paths.{WasInTree}
use Rattle.ordered_map.specs.Runs.{IsMapRun}
use Rattle.ordered_map.proofs.Lemmas.{wins_of}
use Rattle.ordered_map.proofs.MapLemmas.{run_since}
use Rattle.touching.specs.Kinds.{IsInTree}
use Rattle.touching.specs.Touches.{HasReached}
use Rattle.touching.proofs.Leaving.{was_since}
use Rattle.touching.proofs.Left.{HasWonAt, won_at}
use Rattle.touching.proofs.Reaching.{index_now, reached_there}

pub is_was : (h : History) (n : ℕ) → IsInTree h n → WasInTree h n
is_was h n x = record { moment = h; within = ends_self h; tree = x.tree; is_tree = x.is_tree; has = x.has }

-- what an SCX-record in progress has reached has been in the tree
module _ (lay : Layout) (m : History) (s n : ℕ) (run : IsMapRun lay m) (going : IsInProgress m s) (reached : HasReached m s n) where
  abbrev f : Facts lay m
  f = facts lay m run.1.lawful

  real : s ≢ 0
  real e = let d = f.dummy in let w : value m (state 0) ≡ 0 = rw e at going.unfinished in omega arith

  -- if it has won, just before that
  by_win : HasWonAt m s → WasInTree m n
  by_win y = was_since m g n within (is_was g n (reached_there lay g run_g s record { unfinished = update_in_progress fg w; named = named } (update_is_first fg w) n then))
    where
      g : History
      g = y.before

      within : Extends m g
      within = ends_trans m (y.row ⊳ g) g y.within (inr (ends_self g))

      run_g : IsMapRun lay g
      run_g = run_since lay m g run within

      fg : Facts lay g
      fg = facts lay g run_g.1.lawful

      w : UpdateWins g y.row s
      w = wins_of lay g y.row s (lawful_since lay m (y.row ⊳ g) run.1.lawful y.within) y.wins

      named : IsNamedScx g s
      named = (member g s 0, (update_flagged fg w).frozen 0 (update_flagged fg w).some)

      place : reached.index < count g s
      place = subst (λ p. reached.index < count_of p) (scx_since lay m g s run.1.lawful within real named Plan tt) reached.within

      then : HasReached g s n
      then = record { index = reached.index; within = place; is = sym (scx_since lay m g s run.1.lawful within real named (Member reached.index) tt) ∙ reached.is; earlier = λ i few. (update_flagged fg w).frozen i (omega (arith, few, place)) }

  pub reached_stood : WasInTree m n
  reached_stood = go (about.steady (inr (held, going.unfinished)))
    where
      first : HasHeld m (info (member m s 0)) s
      first = first_frozen m s going.named.0 going.named.1 (f.cell s going.named.0 real going.named.1)

      about : About lay (descriptor m s) m s
      about = f.about s (member m s 0) real first

      held : HasHeld m (info (member m s (field_index m s))) s
      held = subst (λ i. HasHeld m (info (member m s i)) s) (sym (index_now lay m run s going)) first

      go : (value m (field m s) ≡ old m s) ⊎ HasWon m s → WasInTree m n
      go (inl e) = is_was m n (reached_there lay m run s going (λ x. about.moved x e) n reached)
      go (inr x) = by_win (won_at m s x)
