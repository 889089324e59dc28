-- What is known of the one pass of a seat, under the rule of a table that lasts.
use Rattle.std.proofs.Common.{◌≡◌, ◌≢◌, ℕ, zero, suc, List, [], ◌∷◌, ◌++◌, slice_index, slice_set, inr, refl, sym, ◌∙◌, ap, subst, ◌<◌}
use mathlib.Core.Option.{some}
use lib.ListN.{get_elem?}
use Rattle.atomic_table.specs.Table.{State}
use Rattle.histories.specs.Common.{Layout, Row, History, Extends, Lawful, IsRun, Remaining}
use Rattle.arena.proofs.Lemmas.{ends_self}
use Rattle.planting.specs.Plantings.{PlantingView}
use Rattle.histories.proofs.Lemmas.{lawful_tail}
use Rattle.prims.specs.Moments.{AreFinished}
use Rattle.prims.specs.Shares.{IsShare}
use Rattle.prims.proofs.Lemmas.{share_by_others}
use Rattle.resting.specs.Rests.{IsAway}
use Rattle.resting.proofs.Lemmas.{away_more, away_now, rested_away}
use Rattle.slots.specs.Lasting.{Lasting}
use Rattle.tables.specs.TableRule.{ByOthers, Owns, history_of, past_of, seated_pass}
use Rattle.tables.specs.LastingMemory.{Present, RememberWell, RemembersWell, present}
use Rattle.tables.specs.LastingRule.{HasLearnt, TableLasts, plot_in}
use Rattle.tables.specs.declared.view.SeatView.{SeatView}
use Rattle.tables.specs.declared.memory.PassMemory.{PassMemory}
use Rattle.tables.specs.declared.rule.Plot.{Plot}
use Rattle.tables.specs.declared.view.SeatedPass.{SeatedPass}

-- a load leaves the words as they are
pub set_self : (words : List ℕ) (at : ℕ) → slice_set words at (slice_index words at) ≡ words
set_self [] at = refl
set_self (n ∷ ns) zero = refl
set_self (n ∷ ns) (suc at) = ap (λ (l : List ℕ). n ∷ l) (set_self ns at)

-- rows of others leave finished what a pass has taken
away_behind : (lay : Layout) (planting : PlantingView) (o : ℕ) (others known : List Row) → ByOthers o others → AreFinished lay o 0 (history_of planting known) → IsAway lay (history_of planting (others ++ known)) o (history_of planting known)
away_behind lay planting o [] known by over = away_now lay (history_of planting known) o over
away_behind lay planting o (r ∷ rs) known by over = away_more lay (history_of planting (rs ++ known)) r o (history_of planting known) by.0 (away_behind lay planting o rs known by.1 over)

pub finished_behind : (lay : Layout) (planting : PlantingView) (o : ℕ) (others known : List Row) → Lawful lay (history_of planting (others ++ known)) → ByOthers o others → AreFinished lay o 0 (history_of planting known) → AreFinished lay o 0 (history_of planting (others ++ known))
finished_behind lay planting o others known l by over =
    let away = away_behind lay planting o others known by over in
    (rested_away lay (history_of planting (others ++ known)) o (history_of planting known) (history_of planting (others ++ known)) l away (ends_self (history_of planting (others ++ known))) away.within).over

-- rows of others leave a share as it is
pub share_behind : (lay : Layout) (planting : PlantingView) (o : ℕ) (left : Remaining) (n s : ℕ) (others known : List Row) → o < lay.passes → Lawful lay (history_of planting (others ++ known)) → ByOthers o others → IsShare lay (history_of planting known) o left n s → IsShare lay (history_of planting (others ++ known)) o left n s
share_behind lay planting o left n s [] known is_pass l by x = x
share_behind lay planting o left n s (r ∷ rs) known is_pass l by x = share_by_others lay (history_of planting (rs ++ known)) r o left n s l is_pass by.0 (share_behind lay planting o left n s rs known is_pass (lawful_tail lay (history_of planting (rs ++ known)) r l) by.1 x)

module _ (allows : Layout → History → ℕ → Type 0) (t : Lasting) (planting : PlantingView) (s : State ℕ SeatView) (kept : TableLasts allows t planting s) (id : ℕ) (v : SeatView) (fits : get_elem? s.views id ≡ some v) (p : SeatedPass) (one : v.passes ≡ p ∷ []) where
  -- where the table is
  abbrev pub now : Present
  now = present s.words (history_of planting kept.run.rows) kept.run.last kept.run.held kept.run.tally

  pub own : Owns (plot_in t planting) kept.run.rows kept.owner id (p ∷ [])
  own = subst (λ ps. Owns (plot_in t planting) kept.run.rows kept.owner id ps) one (kept.passes id v fits)

  pub well : RemembersWell t planting now p.number.0 p.memory
  well = (subst (RememberWell t planting now) one (kept.memories id v fits)).0

  -- the run is what the pass knows, and rows of others
  pub here : past_of p own.2.0 ≡ history_of planting kept.run.rows
  here = ap (λ (g : Plot). history_of g.planting (own.2.0 ++ p.known)) own.1 ∙ ap (history_of planting) (sym own.2.1)

  pub lay_is : p.layout ≡ t.lay
  lay_is = ap (λ (g : Plot). g.layout) own.1

  pub before : IsRun allows p.layout (past_of p own.2.0)
  before = subst (λ l. IsRun allows l (past_of p own.2.0)) (sym lay_is) (subst (IsRun allows t.lay) (sym here) kept.run.sound)

  -- it is still between two calls
  pub over : AreFinished p.layout p.number.0 0 (past_of p []) → AreFinished t.lay p.number.0 0 (history_of planting kept.run.rows)
  over x = subst (AreFinished t.lay p.number.0 0) here (finished_behind t.lay p.planting p.number.0 own.2.0 p.known (subst (Lawful t.lay) (sym here) kept.run.sound.lawful) own.2.2 (subst (λ l. AreFinished l p.number.0 0 (past_of p [])) lay_is x))

  -- the pass when it knows the whole run, and remembers so much
  abbrev pub aware : PassMemory → SeatedPass
  aware memory = seated_pass p.number.0 p.layout p.planting memory kept.run.rows

  pub learnt : {after : List Row → PassMemory} {memory : PassMemory} → memory ≡ after kept.run.rows → HasLearnt allows after v.passes kept.run.rows (aware memory ∷ [])
  learnt same = record { pass = p; others = own.2.0; was = one; by_others = own.2.2; rows_are = own.2.1; run = before; is = ap (λ memory. aware memory ∷ []) same }

  -- it is of its seat, whatever it remembers
  pub owns_aware : (memory : PassMemory) → Owns (plot_in t planting) kept.run.rows kept.owner id (aware memory ∷ [])
  owns_aware memory = (own.0, own.1, ([], refl, tt), tt, tt)

  -- a pass of another seat is another
  pub apart : (j q : ℕ) → j ≢ id → kept.owner q ≡ j → q ≢ p.number.0
  apart j q other owned e = other (sym owned ∙ ap kept.owner e ∙ own.0)

  -- the run goes on from what the pass knows
  pub behind_known : Extends (history_of planting kept.run.rows) (history_of planting p.known)
  behind_known = subst (λ k. Extends (history_of planting k) (history_of planting p.known)) (sym own.2.1) (further own.2.0)
    where
      further : (others : List Row) → Extends (history_of planting (others ++ p.known)) (history_of planting p.known)
      further [] = ends_self (history_of planting p.known)
      further (r ∷ rs) = inr (further rs)

  -- its share is as it knows
  pub share_now : (left : Remaining) → p.number.0 < t.lay.passes → IsShare p.layout (past_of p []) p.number.0 left left.next_node left.next_scx → IsShare t.lay (history_of planting kept.run.rows) p.number.0 left left.next_node left.next_scx
  share_now left is_pass x = subst (λ l. IsShare t.lay (history_of planting l) p.number.0 left left.next_node left.next_scx) (sym own.2.1)
      (share_behind t.lay planting p.number.0 left left.next_node left.next_scx own.2.0 p.known is_pass (subst (λ l. Lawful t.lay (history_of planting l)) own.2.1 kept.run.sound.lawful) own.2.2
      (subst (λ (g : Plot). IsShare g.layout (history_of g.planting p.known) p.number.0 left left.next_node left.next_scx) own.1 x))
