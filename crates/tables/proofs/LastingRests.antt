-- A rest, and to be away, keep the rule of a table that lasts.
use Rattle.std.proofs.Common.{◌≡◌, ◌+◌, ◌*◌, ◌<◌, ℕ, suc, true≢false, eq-eqb, ne_eqb, List, [], ◌∷◌, slice_index, slice_set, inl, inr, ⊎_elim, refl, sym, ◌∙◌, ap, subst, arith}
use Rattle.std.proofs.lemmas.List.{get_or-set_other}
use Rattle.atomic_table.specs.Table.{Me, Allows, keeps}
use Rattle.histories.specs.Common.{Layout, Word, History, Extends, place, IsWord, IsTakenNode}
use Rattle.arena.proofs.Lemmas.{ends_self}
use Rattle.planting.specs.Plantings.{PlantingView}
use Rattle.prims.specs.Moments.{AreFinished}
use native.Mathlib.Decide.{ℕ_discrete}
use Rattle.resting.specs.Records.{the_node}
use Rattle.resting.specs.Rests.{HaveMovedOn, HaveRestedAt}
use Rattle.slots.specs.Counts.{CountsRests, after_leaving, after_rest, rests_place, with_rest}
use Rattle.slots.specs.Held.{Held, IsHeld}
use Rattle.slots.specs.Lasting.{Lasting}
use Rattle.slots.specs.Window.{IsWindow}
use Rattle.slots.proofs.Lemmas.{leaves, place_inside, rest_other, rest_same, rests_more, seen_leaves, seen_rests}
use Rattle.tables.specs.TableRule.{history_of, past_of, seat_view}
use Rattle.tables.specs.LastingMemory.{AreHeldOrGone, Present, RemembersNames, RemembersWell, StaysUnborn, present}
use Rattle.tables.specs.LastingNotes.{memory_away, memory_rested}
use Rattle.tables.specs.LastingRule.{LearnsWith, LearnsWith, TableLasts}
use Rattle.tables.specs.declared.view.SeatView.{SeatView}
use Rattle.tables.specs.declared.view.SeatedPass.{SeatedPass}
use Rattle.tables.proofs.LastingKept.{Later, gone_kept, names_kept, spared}
use Rattle.tables.proofs.LastingGhosts.{goes_on}
use Rattle.tables.proofs.LastingSeats.{aware, learnt, now, over, well}

-- the moments of the rests move on for a pass that rests now
pub moves_now : (t : Lasting) (h : History) (last : ℕ → History) (o : ℕ) → HaveRestedAt t.lay h last → HaveMovedOn t.lay h last (with_rest last o h)
moves_now t h last o rested = record { rested = rested; within = λ p i. within p i (ℕ_discrete p o); later = λ p i. later p i (ℕ_discrete p o) }
  where
    within : (p : ℕ) → p < t.lay.passes → Dec (p ≡ o) → Extends h (with_rest last o h p)
    within p i (yes e) = subst (Extends h) (sym (ap (with_rest last o h) e ∙ rest_same last o h)) (ends_self h)
    within p i (no d) = subst (Extends h) (sym (rest_other last o h p d)) (rested p i).within

    later : (p : ℕ) → p < t.lay.passes → Dec (p ≡ o) → Extends (with_rest last o h p) (last p)
    later p i (yes e) = subst (λ k. Extends k (last p)) (sym (ap (with_rest last o h) e ∙ rest_same last o h)) (rested p i).within
    later p i (no d) = subst (λ k. Extends k (last p)) (sym (rest_other last o h p d)) (ends_self (last p))

-- no word of a slot is that of the rests
others_stay : (t : Lasting) (words : List ℕ) (o v : ℕ) (u : Word) → IsWord t.table u → slice_index (slice_set words (rests_place t.table o) v) (place t.table u) ≡ slice_index words (place t.table u)
others_stay t words o v u i = get_or-set_other words (rests_place t.table o) (place t.table u) v 0 (λ q. let inside = place_inside t.table u i in omega (arith, q, inside))

-- what is gone stays so
pub all_gone : (t : Lasting) (planting : PlantingView) (a b : Present) → Later t a b → StaysUnborn t.lay → b.run ≡ a.run → b.held ≡ a.held → AreHeldOrGone t a → AreHeldOrGone t b
all_gone t planting a b later stays run same gone n taken = ⊎_elim (λ is. inl (subst (λ (k : Held). IsHeld t k (the_node n)) (sym same) is)) (λ g. inr (gone_kept t planting a b later stays n g)) (gone n (subst (λ k. IsTakenNode k n) run taken))

module _ (allows : Layout → History → ℕ → Type 0) (t : Lasting) (planting : PlantingView) (stays : StaysUnborn t.lay) (slots id : ℕ) (me : Me ℕ SeatView) (p : SeatedPass) (one : me.0.passes ≡ p ∷ []) (is_pass : p.number.0 < t.lay.passes) (finished : AreFinished p.layout p.number.0 0 (past_of p [])) where
  -- a pass that is between two calls stores that it rests, or that it is there again
  pub lasting_rests : Allows (TableLasts allows t planting) slots id me (rests_place t.table p.number.0) (λ _. 2 * suc p.memory.often) (λ n w. LearnsWith allows (memory_rested p.memory) me.0 w.0 × (w.1 ≡ me.1))
  lasting_rests s kept sized seat fits =
      let o : ℕ = p.number.0 in
      let h : History = history_of planting kept.run.rows in
      let before : Present = now allows t planting s kept id me.0 seat p one in
      let recalls : RemembersWell t planting before o p.memory = well allows t planting s kept id me.0 seat p one in
      let words : List ℕ = slice_set s.words (rests_place t.table o) (2 * suc p.memory.often) in
      let next : Present = present words h (with_rest kept.run.last o h) kept.run.held (after_rest kept.run.tally o) in
      let rested : IsWindow t words h (with_rest kept.run.last o h) kept.run.held × CountsRests t words h (after_rest kept.run.tally o) =
      subst (λ c. IsWindow t (slice_set s.words (rests_place t.table o) (2 * suc c)) h (with_rest kept.run.last o h) kept.run.held × CountsRests t (slice_set s.words (rests_place t.table o) (2 * suc c)) h (after_rest kept.run.tally o)) (sym recalls.often)
      (rests_more t s.words h kept.run.last kept.run.held kept.run.tally kept.run.window o kept.run.counts is_pass (over allows t planting s kept id me.0 seat p one finished)) in
      let later : Later t before next = record { run = rested.0.run; within = ends_self h; moved = moves_now t h kept.run.last o kept.run.window.rested; seen = λ q k n i y. seen_rests h kept.run.last kept.run.tally q k n y o } in
      let names : RemembersNames t planting next o p.memory = names_kept t planting before next later stays o p.memory (spared t planting before next later stays refl (λ u i none. others_stay t s.words o (2 * suc p.memory.often) u i) o) recalls.names in (
        seat_view (aware allows t planting s kept id me.0 seat p one (memory_rested p.memory kept.run.rows) ∷ []),
        keeps,
        tt,
        goes_on allows t planting stays s kept id me.0 seat p one (rests_place t.table o) words
            record { rows = kept.run.rows; last = with_rest kept.run.last o h; held = kept.run.held; tally = after_rest kept.run.tally o; sound = kept.run.sound; window = rested.0; counts = rested.1; gone = all_gone t planting before next later stays refl refl kept.run.gone }
            (memory_rested p.memory kept.run.rows) later
            (λ q d. (rw (ne_eqb q o d) refl, rw (ne_eqb q o d) refl))
            (λ q d z. rest_other kept.run.last o h q d)
            record {
              away = rw (eq-eqb o o refl) refl;
              often = rw (eq-eqb o o refl) (ap suc recalls.often);
              rested = λ z. rest_same kept.run.last o h;
              names = record { dealt = names.dealt; later = names.later; notes = names.notes; polls = names.polls; holds = names.holds; empty = names.empty; zeros = names.zeros };
            }
            (λ q d. spared t planting before next later stays refl (λ u i none. others_stay t s.words o (2 * suc p.memory.often) u i) q)
            (λ j d ps y. y),
        ((kept.run.rows, learnt allows t planting s kept id me.0 seat p one refl), refl),
      )

  -- or that it goes away
  pub lasting_leaves : Allows (TableLasts allows t planting) slots id me (rests_place t.table p.number.0) (λ _. 2 * p.memory.often + 1) (λ n w. LearnsWith allows (λ rows. memory_away p.memory) me.0 w.0 × (w.1 ≡ me.1))
  lasting_leaves s kept sized seat fits =
      let o : ℕ = p.number.0 in
      let h : History = history_of planting kept.run.rows in
      let before : Present = now allows t planting s kept id me.0 seat p one in
      let recalls : RemembersWell t planting before o p.memory = well allows t planting s kept id me.0 seat p one in
      let words : List ℕ = slice_set s.words (rests_place t.table o) (2 * p.memory.often + 1) in
      let next : Present = present words h kept.run.last kept.run.held (after_leaving kept.run.tally o) in
      let left : IsWindow t words h kept.run.last kept.run.held × CountsRests t words h (after_leaving kept.run.tally o) =
      subst (λ c. IsWindow t (slice_set s.words (rests_place t.table o) (2 * c + 1)) h kept.run.last kept.run.held × CountsRests t (slice_set s.words (rests_place t.table o) (2 * c + 1)) h (after_leaving kept.run.tally o)) (sym recalls.often)
      (leaves t s.words h kept.run.last kept.run.held kept.run.tally kept.run.window o kept.run.counts is_pass (over allows t planting s kept id me.0 seat p one finished)) in
      let later : Later t before next = record { run = left.0.run; within = ends_self h; moved = record { rested = left.0.rested; within = λ q i. (left.0.rested q i).within; later = λ q i. ends_self (kept.run.last q) }; seen = λ q k n i y. seen_leaves h kept.run.last kept.run.tally q k n y o } in
      let names : RemembersNames t planting next o p.memory = names_kept t planting before next later stays o p.memory (spared t planting before next later stays refl (λ u i none. others_stay t s.words o (2 * p.memory.often + 1) u i) o) recalls.names in (
        seat_view (aware allows t planting s kept id me.0 seat p one (memory_away p.memory) ∷ []),
        keeps,
        tt,
        goes_on allows t planting stays s kept id me.0 seat p one (rests_place t.table o) words
            record { rows = kept.run.rows; last = kept.run.last; held = kept.run.held; tally = after_leaving kept.run.tally o; sound = kept.run.sound; window = left.0; counts = left.1; gone = all_gone t planting before next later stays refl refl kept.run.gone }
            (memory_away p.memory) later
            (λ q d. (rw (ne_eqb q o d) refl, refl))
            (λ q d z. refl)
            record {
              away = rw (eq-eqb o o refl) refl;
              often = recalls.often;
              rested = λ z. absurd (true≢false z);
              names = record { dealt = names.dealt; later = names.later; notes = names.notes; polls = names.polls; holds = names.holds; empty = names.empty; zeros = names.zeros };
            }
            (λ q d. spared t planting before next later stays refl (λ u i none. others_stay t s.words o (2 * p.memory.often + 1) u i) q)
            (λ j d ps y. y),
        ((kept.run.rows, learnt allows t planting s kept id me.0 seat p one refl), refl),
      )
