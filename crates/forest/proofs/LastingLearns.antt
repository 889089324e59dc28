-- All passes of a seat come to know the run, which keeps the rule of a table that lasts.
use Rattle.std.proofs.Common.{◌≡◌, ℕ, List, [], ◌∷◌, slice_set, refl, sym, subst}
use Rattle.atomic_table.specs.Table.{Allows, Me, keeps}
use Rattle.histories.specs.Common.{History, Layout, Row}
use Rattle.planting.specs.Plantings.{PlantingView}
use Rattle.slots.specs.Lasting.{Lasting}
use Rattle.forest.specs.LastingMeets.{AllLearn, AreBehind, all_aware}
use Rattle.tables.specs.LastingMemory.{Present, RememberWell, present}
use Rattle.tables.specs.LastingRule.{TableLasts, plot_in}
use Rattle.tables.specs.TableRule.{Absent, Owns, history_of, seat_view}
use Rattle.tables.specs.declared.rule.Plot.{Plot}
use Rattle.tables.specs.declared.view.SeatView.{SeatView}
use Rattle.tables.specs.declared.view.SeatedPass.{SeatedPass}
use Rattle.tables.proofs.LastingKept.{views_kept}
use Rattle.tables.proofs.LastingSeats.{set_self}

absent_aware : (n : ℕ) (rows : List Row) (ps : List SeatedPass) → Absent n ps → Absent n (all_aware rows ps)
absent_aware n rows [] x = tt
absent_aware n rows (p ∷ ps) x = (x.0, absent_aware n rows ps x.1)

-- they are of their seat still
owns_aware_all : (plot : Plot) (rows : List Row) (owner : ℕ → ℕ) (id : ℕ) (ps : List SeatedPass) → Owns plot rows owner id ps → Owns plot rows owner id (all_aware rows ps)
owns_aware_all plot rows owner id [] x = tt
owns_aware_all plot rows owner id (p ∷ ps) x = (x.0, x.1, ([], refl, tt), absent_aware p.number.0 rows ps x.3, owns_aware_all plot rows owner id ps x.4)

-- what they remember is what it was
recall_aware : (t : Lasting) (planting : PlantingView) (now : Present) (rows : List Row) (ps : List SeatedPass) → RememberWell t planting now ps → RememberWell t planting now (all_aware rows ps)
recall_aware t planting now rows [] x = tt
recall_aware t planting now rows (p ∷ ps) x = (x.0, recall_aware t planting now rows ps x.1)

-- each knew a beginning of the run
owned_all_behind : (plot : Plot) (rows : List Row) (owner : ℕ → ℕ) (id : ℕ) (ps : List SeatedPass) → Owns plot rows owner id ps → AreBehind plot rows ps
owned_all_behind plot rows owner id [] x = tt
owned_all_behind plot rows owner id (p ∷ ps) x = (x.1, x.2, x.3, owned_all_behind plot rows owner id ps x.4)

pub lasting_learns : (allows : Layout → History → ℕ → Type 0) (t : Lasting) (planting : PlantingView) (slots id : ℕ) (me : Me ℕ SeatView) (at : ℕ) → Allows (TableLasts allows t planting) slots id me at (λ n. n) (λ n w. AllLearn allows me.0 w.0 × (w.1 ≡ me.1))
lasting_learns allows t planting slots id me at s kept sized fits small =
    let plot : Plot = plot_in t planting in
    let rows : List Row = kept.run.rows in
    let now : Present = present s.words (history_of planting rows) kept.run.last kept.run.held kept.run.tally in
    let w : SeatView = seat_view (all_aware rows me.0.passes) in
    let own : Owns plot rows kept.owner id me.0.passes = kept.passes id me.0 fits in (
      w,
      keeps,
      tt,
      subst (λ (words : List ℕ). TableLasts allows t planting record { words = words; homes = s.homes; views = slice_set s.views id w }) (sym (set_self s.words at)) record {
        run = kept.run;
        owner = kept.owner;
        passes = views_kept (λ j u. Owns plot rows kept.owner j u.passes) (λ j u. Owns plot rows kept.owner j u.passes) s.views id w (owns_aware_all plot rows kept.owner id me.0.passes own) (λ j u other fit y. y) kept.passes;
        memories = views_kept (λ j u. RememberWell t planting now u.passes) (λ j u. RememberWell t planting now u.passes) s.views id w (recall_aware t planting now rows me.0.passes (kept.memories id me.0 fits)) (λ j u other fit y. y) kept.memories;
      },
      ((record { plot = plot; rows = rows; run = kept.run.sound; behind = owned_all_behind plot rows kept.owner id me.0.passes own }, refl), refl),
    )
