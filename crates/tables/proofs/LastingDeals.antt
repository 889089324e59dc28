-- To split a seat and to join two keeps the rule of a table that lasts.
use Rattle.std.proofs.Common.{◌≡◌, ◌≢◌, ◌++◌, ℕ, List, [], ◌∷◌, length, set, refl, sym, ◌∙◌, subst, ⊎_elim}
use mathlib.Core.Option.{some}
use lib.ListN.{get_elem?}
use Rattle.atomic_table.specs.Table.{State, Splits, Joins}
use Rattle.atomic_table.proofs.Lists.{at_set}
use Rattle.histories.specs.Common.{Layout, History}
use Rattle.planting.specs.Plantings.{PlantingView}
use Rattle.slots.specs.Lasting.{Lasting}
use Rattle.tables.specs.TableRule.{Owns, first_of, first_of_seat, history_of, joined_seat, rest_of, rest_of_seat, seat_view}
use Rattle.tables.specs.LastingMemory.{Present, RememberWell, present}
use Rattle.tables.specs.LastingRule.{TableLasts, plot_in}
use Rattle.tables.specs.declared.view.SeatView.{SeatView}
use Rattle.tables.specs.declared.view.SeatedPass.{SeatedPass}
use Rattle.tables.proofs.Deals.{absent_of, merged, merged_else, moved, moved_here, owned_apart, owned_both, owned_by, snoc_at}

remember_both : (t : Lasting) (planting : PlantingView) (now : Present) (ps qs : List SeatedPass) → RememberWell t planting now ps → RememberWell t planting now qs → RememberWell t planting now (ps ++ qs)
remember_both t planting now [] qs a b = b
remember_both t planting now (p ∷ ps) qs a b = (a.0, remember_both t planting now ps qs a.1 b)

-- a seat with no pass
abbrev nobody : SeatView
nobody = seat_view []

module _ (allows : Layout → History → ℕ → Type 0) (t : Lasting) (planting : PlantingView) where
  -- the rule holds of other views where it holds of all of them
  reseated : (s : State ℕ SeatView) (views : List SeatView) (kept : TableLasts allows t planting s) (owner : ℕ → ℕ) → ((id : ℕ) (v : SeatView) → get_elem? views id ≡ some v → Owns (plot_in t planting) kept.run.rows owner id v.passes × RememberWell t planting (present s.words (history_of planting kept.run.rows) kept.run.last kept.run.held kept.run.tally) v.passes) → TableLasts allows t planting record { words = s.words; homes = s.homes; views = views }
  reseated s views kept owner all = record {
    run = kept.run;
    owner = owner;
    passes = λ id v e. (all id v e).0;
    memories = λ id v e. (all id v e).1;
  }

  pub lasting_joins : (id other : ℕ) (v w : SeatView) → Joins (TableLasts allows t planting) id v other w (joined_seat v w) (seat_view [])
  lasting_joins id other v w s kept at ne at_other = reseated s (set (set s.views id both) other nobody) kept new (λ j u e. ⊎_elim
      (λ (z : (j ≡ other) × (nobody ≡ u)). subst (Kept j) z.1 (tt, tt))
      (λ (z : (j ≢ other) × (get_elem? (set s.views id both) j ≡ some u)). ⊎_elim
      (λ (here : (j ≡ id) × (both ≡ u)). subst (Kept j) here.1 (subst (λ i. Kept i both) (sym here.0) mine))
      (λ (away : (j ≢ id) × (get_elem? s.views j ≡ some u)). (
        owned_by (plot_in t planting) kept.run.rows kept.owner new j j (λ x is. merged_else kept.owner id other x (λ q. z.0 (sym is ∙ q)) ∙ is) u.passes (kept.passes j u away.1),
        kept.memories j u away.1,
      ))
      (at_set s.views id j both u z.1))
      (at_set (set s.views id both) other j nobody u e))
    where
      both : SeatView
      both = joined_seat v w

      new : ℕ → ℕ
      new = merged kept.owner id other

      Kept : ℕ → SeatView → Type 0
      Kept j u = Owns (plot_in t planting) kept.run.rows new j u.passes × RememberWell t planting (present s.words (history_of planting kept.run.rows) kept.run.last kept.run.held kept.run.tally) u.passes

      there : get_elem? s.views other ≡ some w
      there = ⊎_elim (λ (z : (other ≡ id) × (both ≡ w)). absurd (ne z.0)) (λ (z : (other ≢ id) × (get_elem? s.views other ≡ some w)). z.1) (at_set s.views id other both w at_other)

      mine : Kept id both
      mine = (
        owned_both (plot_in t planting) kept.run.rows kept.owner id other (λ e. ne (sym e)) v.passes w.passes (kept.passes id v at) (kept.passes other w there),
        remember_both t planting (present s.words (history_of planting kept.run.rows) kept.run.last kept.run.held kept.run.tally) v.passes w.passes (kept.memories id v at) (kept.memories other w there),
      )

  splits_list : (id : ℕ) (v : SeatView) (ps : List SeatedPass) → v.passes ≡ ps → Splits (TableLasts allows t planting) id v (seat_view (rest_of ps)) (seat_view (first_of ps))
  splits_list id v [] is s kept at = reseated s (set s.views id nobody ++ nobody ∷ []) kept kept.owner (λ j u e. ⊎_elim
      (λ (z : get_elem? (set s.views id nobody) j ≡ some u). ⊎_elim
      (λ (here : (j ≡ id) × (nobody ≡ u)). subst (Kept j) here.1 (tt, tt))
      (λ (away : (j ≢ id) × (get_elem? s.views j ≡ some u)). (kept.passes j u away.1, kept.memories j u away.1))
      (at_set s.views id j nobody u z))
      (λ (z : (j ≡ length (set s.views id nobody)) × (nobody ≡ u)). subst (Kept j) z.1 (tt, tt))
      (snoc_at (set s.views id nobody) nobody u j e))
    where
      Kept : ℕ → SeatView → Type 0
      Kept j u = Owns (plot_in t planting) kept.run.rows kept.owner j u.passes × RememberWell t planting (present s.words (history_of planting kept.run.rows) kept.run.last kept.run.held kept.run.tally) u.passes
  splits_list id v (p ∷ ps) is s kept at = reseated s (old ++ first ∷ []) kept new (λ j u e. ⊎_elim
      (λ (z : get_elem? old j ≡ some u). ⊎_elim
      (λ (here : (j ≡ id) × (rest ≡ u)). subst (Kept j) here.1 (subst (λ i. Kept i rest) (sym here.0) (owned_apart (plot_in t planting) kept.run.rows kept.owner p.number.0 (length old) id ps own.3 own.4, well.1)))
      (λ (away : (j ≢ id) × (get_elem? s.views j ≡ some u)). (
        owned_apart (plot_in t planting) kept.run.rows kept.owner p.number.0 (length old) j u.passes (absent_of (plot_in t planting) kept.run.rows kept.owner p.number.0 j (λ x. away.0 (sym x ∙ own.0)) u.passes (kept.passes j u away.1)) (kept.passes j u away.1),
        kept.memories j u away.1,
      ))
      (at_set s.views id j rest u z))
      (λ (z : (j ≡ length old) × (first ≡ u)). subst (Kept j) z.1 (subst (λ i. Kept i first) (sym z.0) ((moved_here kept.owner p.number.0 (length old), own.1, own.2, tt, tt), (well.0, tt))))
      (snoc_at old first u j e))
    where
      rest : SeatView
      rest = seat_view ps

      first : SeatView
      first = seat_view (p ∷ [])

      old : List SeatView
      old = set s.views id rest

      new : ℕ → ℕ
      new = moved kept.owner p.number.0 (length old)

      Kept : ℕ → SeatView → Type 0
      Kept j u = Owns (plot_in t planting) kept.run.rows new j u.passes × RememberWell t planting (present s.words (history_of planting kept.run.rows) kept.run.last kept.run.held kept.run.tally) u.passes

      own : Owns (plot_in t planting) kept.run.rows kept.owner id (p ∷ ps)
      own = subst (λ qs. Owns (plot_in t planting) kept.run.rows kept.owner id qs) is (kept.passes id v at)

      well : RememberWell t planting (present s.words (history_of planting kept.run.rows) kept.run.last kept.run.held kept.run.tally) (p ∷ ps)
      well = subst (RememberWell t planting (present s.words (history_of planting kept.run.rows) kept.run.last kept.run.held kept.run.tally)) is (kept.memories id v at)

  pub lasting_splits : (id : ℕ) (v : SeatView) → Splits (TableLasts allows t planting) id v (rest_of_seat v) (first_of_seat v)
  lasting_splits id v = splits_list id v v.passes refl
