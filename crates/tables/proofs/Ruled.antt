-- What keeps the rule of a table, whether its records come back or not.
use Rattle.std.proofs.Common.{◌≡◌, ◌<◌, ◌≤◌, ℕ, List, [], ◌∷◌, Option, Some, None, refl, sym, ◌∙◌, ap, subst}
use Rattle.std.proofs.Math.Nat.{lt_of_lt_of_le}
use Rattle.atomic_table.specs.Table.{Me, Allows, Joins, Splits, State}
use Rattle.arena.specs.Layout.{IsMap}
use Rattle.arena.proofs.Lemmas.{place_inside, places_apart}
use Rattle.histories.specs.Common.{Layout, Mode, Word, History, IsTold, place, table_size, word_after}
use Rattle.planting.specs.Plantings.{PlantingView}
use Rattle.tables.specs.LastingRule.{MayStepOn}
use Rattle.tables.specs.Ruled.{IsRuled, MayLast, first_by, first_of_table, ruled_by}
use Rattle.tables.specs.Slotted.{in_turns, plot_at, slots_by, slots_of_table}
use Rattle.tables.specs.TablePlans.{IsPlaceOf}
use Rattle.tables.specs.TableRule.{Made, MayStep, TableIsLawful, first_of_seat, joined_seat, new_passes, rest_of_seat, seat_view}
use Rattle.tables.specs.declared.rule.CallStep.{CallStep}
use Rattle.tables.specs.declared.rule.Plot.{Plot}
use Rattle.tables.specs.declared.rule.Site.{Site}
use Rattle.tables.specs.declared.rule.Turns.{Turns}
use Rattle.tables.specs.declared.view.SeatedPass.{SeatedPass}
use Rattle.tables.specs.declared.view.SeatView.{SeatView}
use Rattle.tables.proofs.Deals.{joins, splits}
use Rattle.tables.proofs.LastingDeals.{lasting_joins, lasting_splits}
use Rattle.tables.proofs.LastingMoves.{lasting_moves}
use Rattle.tables.proofs.Moves.{moves}
use Rattle.tables.proofs.Slotted.{slot_in_place}

module _ (allows : Layout → History → ℕ → Type 0) (site : Site) where
  pub ruled_splits : (id : ℕ) (v : SeatView) → Splits (IsRuled allows site) id v (rest_of_seat v) (first_of_seat v)
  ruled_splits = go site.turns
    where
      go : (t : Option Turns) (id : ℕ) (v : SeatView) → Splits (ruled_by t allows site) id v (rest_of_seat v) (first_of_seat v)
      go None = splits allows (plot_at site)
      go (Some t) = lasting_splits allows (in_turns site.layout t) site.planting

  pub ruled_joins : (id other : ℕ) (v w : SeatView) → Joins (IsRuled allows site) id v other w (joined_seat v w) (seat_view [])
  ruled_joins = go site.turns
    where
      go : (t : Option Turns) (id other : ℕ) (v w : SeatView) → Joins (ruled_by t allows site) id v other w (joined_seat v w) (seat_view [])
      go None = joins allows (plot_at site)
      go (Some t) = lasting_joins allows (in_turns site.layout t) site.planting

-- a table whose records have places of their own
module _ (allows : Layout → History → ℕ → Type 0) (site : Site) where
  -- what it is told as it is made, but for how its slots are taken again
  with_turns : Option Turns → Site
  with_turns t = record { layout = site.layout; planting = site.planting; turns = t }

  abbrev pub plain_plot : Plot
  plain_plot = record { layout = site.layout; planting = site.planting }

  -- what holds of the rule of its words holds of its rule, and the other way round
  pub ruled_to : (P : (State ℕ SeatView → Type 0) → Type 0) → site.turns ≡ None → P (TableIsLawful allows plain_plot) → P (IsRuled allows site)
  unfolding with_turns
  ruled_to P once = subst (λ (t : Option Turns). P (ruled_by t allows (with_turns t))) (sym once)

  pub ruled_from : (P : (State ℕ SeatView → Type 0) → Type 0) → site.turns ≡ None → P (IsRuled allows site) → P (TableIsLawful allows plain_plot)
  unfolding with_turns
  ruled_from P once = subst (λ (t : Option Turns). P (ruled_by t allows (with_turns t))) once

  pub ruled_allows : (slots id : ℕ) (me : Me ℕ SeatView) (at : ℕ) (f : ℕ → ℕ) (then : ℕ → Me ℕ SeatView → Type 0) → site.turns ≡ None → Allows (TableIsLawful allows plain_plot) slots id me at f then → Allows (IsRuled allows site) slots id me at f then
  ruled_allows slots id me at f then = ruled_to (λ holds. Allows holds slots id me at f then)

  -- as it opens, its first seat has all passes, which have all of their names dealt
  pub first_once : site.turns ≡ None → first_of_table site ≡ seat_view (new_passes plain_plot 0 site.layout.passes)
  unfolding with_turns
  first_once once = subst (λ (t : Option Turns). first_by t (with_turns t) ≡ seat_view (new_passes plain_plot 0 site.layout.passes)) (sym once) refl

-- the one pass of a seat is the one pass
first_or : SeatedPass → List SeatedPass → SeatedPass
first_or q [] = q
first_or q (p ∷ ps) = p

pub same_pass : (ps : List SeatedPass) (p q : SeatedPass) → ps ≡ p ∷ [] → ps ≡ q ∷ [] → q ≡ p
unfolding first_or
same_pass ps p q one other = ap (first_or p) (sym other ∙ one)

-- a step of the one pass of a seat, of a word that is there
module _ (allows : Layout → History → ℕ → Type 0) (mode : Mode) (slots id : ℕ) (me : Me ℕ SeatView) (said : CallStep) (at words : ℕ) (f told : ℕ → ℕ) (after : (n : ℕ) → f n ≡ word_after said.step.access n) (tells : (n : ℕ) → IsTold said.step.access n (told n)) (p : SeatedPass) (one : me.0.passes ≡ p ∷ []) (may : MayStep allows said p) where
  abbrev pub Moves : Site → Type 0
  Moves site = Allows (IsRuled allows site) slots id me at f (λ n w. Made allows said me.0.passes (told n) w.0.passes × (w.1 ≡ me.1))

  moves_in : (t : Option Turns) (lay : Layout) (planting : PlantingView) → (let site : Site = record { layout = lay; planting = planting; turns = t } in MayLast mode allows site → IsPlaceOf site words said.step.word at → (IsMap mode → MayStepOn allows said p) → Moves site)
  moves_in None lay planting last there on = let at_place : at ≡ place lay said.step.word = there.is_place ∙ ap (place lay) (slot_in_place lay said.step.word there.is_word) in moves allows record { layout = lay; planting = planting } slots id me said at f told there.is_word at_place (rw at_place (place_inside lay said.step.word there.is_word)) (λ w i e. places_apart lay said.step.word w there.is_word i (e ∙ at_place)) after tells p one may
  moves_in (Some t) lay planting last there on = let so = last t refl in lasting_moves allows (in_turns lay t) planting so.2 so.1 slots id me said at f told there.is_place after tells p one (on so.0)

  pub ruled_moves : (site : Site) → MayLast mode allows site → IsPlaceOf site words said.step.word at → (IsMap mode → MayStepOn allows said p) → Moves site
  ruled_moves site = moves_in site.turns site.layout site.planting
