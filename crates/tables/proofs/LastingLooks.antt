-- Looks at what others have counted keep the rule of a table that lasts.
use Rattle.std.proofs.Common.{◌≡◌, ◌+◌, ◌*◌, ◌/◌, ◌%◌, ◌<◌, ℕ, Bool, true, false, eq-eqb, ne_eqb, [], ◌∷◌, Some, None, slice_index, refl, sym, ◌∙◌, ap, subst, arith}
use mathlib.Core.Option.{some}
use lib.ListN.{get_elem?}
use native.Mathlib.Decide.{ℕ_discrete}
use Rattle.atomic_table.specs.Table.{State, Me, Act, Allows, Valid, carried_after, keeps, stepped}
use Rattle.histories.specs.Common.{Layout, History}
use Rattle.arena.specs.ScxRecords.{bit}
use Rattle.arena.proofs.Lemmas.{ends_self}
use Rattle.planting.specs.Plantings.{PlantingView}
use Rattle.slots.specs.Counts.{HasPolled, HasSeenRests, rests_place}
use Rattle.slots.specs.Lasting.{Lasting}
use Rattle.slots.proofs.Lemmas.{finds_away, polls, seen_now}
use Rattle.tables.specs.TableRule.{history_of, seat_view}
use Rattle.tables.specs.LastingMemory.{HasPolledSo, IsPollSo, Present, RemembersNames, RemembersWell, StaysUnborn, present}
use Rattle.tables.specs.LastingNotes.{IsAmongThese, memory_looked, memory_polled, waits_of}
use Rattle.tables.specs.LastingRule.{LearnsWith, TableLasts}
use Rattle.tables.specs.declared.view.SeatView.{SeatView}
use Rattle.tables.specs.declared.memory.Polled.{Polled}
use Rattle.tables.specs.declared.view.SeatedPass.{SeatedPass}
use Rattle.tables.proofs.LastingKept.{Later, names_kept, spared}
use Rattle.tables.proofs.LastingGhosts.{as_loaded, goes_on, in_each, later_moments, noted, seen_by}
use Rattle.tables.proofs.LastingRests.{all_gone}
use Rattle.tables.proofs.LastingSeats.{aware, learnt, now, well}

waits_even : (c : ℕ) → waits_of (2 * c + 0) ≡ Some c
waits_even c =
    let even : (2 * c + 0) % 2 ≡ 0 = omega arith in
    let half : (2 * c + 0) / 2 ≡ c = omega arith in
    rw even (ap Some half)

waits_odd : (c : ℕ) → waits_of (2 * c + 1) ≡ None
waits_odd c = let odd : (2 * c + 1) % 2 ≡ 1 = omega arith in rw odd refl

module _ (allows : Layout → History → ℕ → Type 0) (t : Lasting) (planting : PlantingView) (stays : StaysUnborn t.lay) (s : State ℕ SeatView) (kept : TableLasts allows t planting s) (id : ℕ) (v : SeatView) (fits : get_elem? s.views id ≡ some v) (p : SeatedPass) (one : v.passes ≡ p ∷ []) (at : ℕ) (q : ℕ) where
  abbrev before : Present
  before = now allows t planting s kept id v fits p one

  recalls : RemembersWell t planting before p.number.0 p.memory
  recalls = well allows t planting s kept id v fits p one

  -- what has been polled of q at a moment is remembered, by moments of rests that may have moved on
  module _ (since : History) (x : HasPolled t s.words (history_of planting kept.run.rows) kept.run.last kept.run.held kept.run.tally q since) (poll : Polled) (so : IsPollSo t.lay planting (present s.words (history_of planting kept.run.rows) x.next kept.run.held kept.run.tally) poll) where
    abbrev there : Present
    there = present s.words (history_of planting kept.run.rows) x.next kept.run.held kept.run.tally

    later : Later t before there
    later = later_moments t before x.next kept.run.held x.moved x.window

    rests : (k : ℕ) → kept.run.tally.away k ≡ false → x.next k ≡ kept.run.last k
    rests k here = go (ℕ_discrete k q)
      where
        go : Dec (k ≡ q) → x.next k ≡ kept.run.last k
        go (yes e) = subst (λ i. x.next i ≡ kept.run.last i) (sym e) (x.stays (subst (λ i. kept.run.tally.away i ≡ false) e here))
        go (no d) = x.others k d

    names : RemembersNames t planting there p.number.0 p.memory
    names = names_kept t planting before there later stays p.number.0 p.memory (spared t planting before there later stays refl (λ u i none. refl) p.number.0) recalls.names

    pub remembered : TableLasts allows t planting (seen_by allows t planting stays s kept id v fits p one at kept.run.rows record p.memory { polls = poll ∷ p.memory.polls })
    remembered = as_loaded allows t planting stays s kept id v fits p one at kept.run.rows record p.memory { polls = poll ∷ p.memory.polls } (goes_on allows t planting stays s kept id v fits p one at s.words
        record { rows = kept.run.rows; last = x.next; held = kept.run.held; tally = kept.run.tally; sound = kept.run.sound; window = x.window; counts = kept.run.counts; gone = all_gone t planting before there later stays refl refl kept.run.gone }
        record p.memory { polls = poll ∷ p.memory.polls } later (λ k d. (refl, refl)) (λ k d. rests k)
        record {
          away = recalls.away;
          often = recalls.often;
          rested = λ z. rests p.number.0 (sym recalls.away ∙ z) ∙ recalls.rested z;
          names = record { dealt = names.dealt; later = names.later; notes = names.notes; polls = (so, names.polls); holds = names.holds; empty = names.empty; zeros = names.zeros };
        }
        (λ k d. spared t planting before there later stays refl (λ u i none. refl) k)
        (λ j d ps y. y))

module _ (allows : Layout → History → ℕ → Type 0) (t : Lasting) (planting : PlantingView) (stays : StaysUnborn t.lay) (slots id : ℕ) (me : Me ℕ SeatView) (p : SeatedPass) (one : me.0.passes ≡ p ∷ []) where
  -- a first look at the word of the pass q
  pub lasting_looks : (q : ℕ) → q < t.lay.passes → Allows (TableLasts allows t planting) slots id me (rests_place t.table q) (λ n. n) (λ n w. LearnsWith allows (memory_looked p.memory q n) me.0 w.0 × (w.1 ≡ me.1))
  lasting_looks q i s kept sized fits small = (
    seat_view (aware allows t planting s kept id me.0 fits p one (memory_looked p.memory q found kept.run.rows) ∷ []),
    keeps,
    tt,
    go (kept.run.tally.away q) refl,
    ((kept.run.rows, learnt allows t planting s kept id me.0 fits p one refl), refl),
  )
    where
      h : History
      h = history_of planting kept.run.rows

      at : ℕ
      at = rests_place t.table q

      found : ℕ
      found = slice_index s.words at

      poll : Polled
      poll = record { pass = record { 0 = q }; since = kept.run.rows; waits = waits_of found }

      go : (b : Bool) → kept.run.tally.away q ≡ b → TableLasts allows t planting (seen_by allows t planting stays s kept id me.0 fits p one at kept.run.rows record p.memory { polls = poll ∷ p.memory.polls })
      go true e =
          let odd : found ≡ 2 * kept.run.tally.count q + 1 = kept.run.counts.holds q i ∙ ap (λ b. 2 * kept.run.tally.count q + bit b) e in
          let x = finds_away t s.words h kept.run.last kept.run.held kept.run.tally kept.run.window q (kept.run.tally.count q) kept.run.counts i odd in
          let none : waits_of found ≡ None = ap waits_of odd ∙ waits_odd (kept.run.tally.count q) in
          remembered allows t planting stays s kept id me.0 fits p one at q h x poll (i, subst (HasPolledSo (present s.words h x.next kept.run.held kept.run.tally) q h) (sym none) x.since)
      go false e =
          let even : found ≡ 2 * kept.run.tally.count q + 0 = kept.run.counts.holds q i ∙ ap (λ b. 2 * kept.run.tally.count q + bit b) e in
          let some_seen : waits_of found ≡ Some (kept.run.tally.count q) = ap waits_of even ∙ waits_even (kept.run.tally.count q) in
          let names = (well allows t planting s kept id me.0 fits p one).names in
          noted allows t planting stays s kept id me.0 fits p one at record p.memory { polls = poll ∷ p.memory.polls } refl refl refl record {
            dealt = names.dealt;
            later = names.later;
            notes = names.notes;
            polls = ((i, subst (HasPolledSo (present s.words h kept.run.last kept.run.held kept.run.tally) q h) (sym some_seen) (seen_now h kept.run.last kept.run.tally q h (ends_self h))), names.polls);
            holds = names.holds;
            empty = names.empty;
            zeros = names.zeros;
          }

  -- a later look at the word of a pass that had rested so often, by a poll
  pub lasting_polls : (poll : Polled) (seen : ℕ) → IsAmongThese poll p.memory.polls → poll.waits ≡ Some seen → Allows (TableLasts allows t planting) slots id me (rests_place t.table poll.pass.0) (λ n. n) (λ n w. LearnsWith allows (λ rows. memory_polled p.memory poll seen n) me.0 w.0 × (w.1 ≡ me.1))
  lasting_polls poll seen there waits s kept sized fits small = go (ℕ_discrete found (2 * seen))
    where
      h : History
      h = history_of planting kept.run.rows

      q : ℕ
      q = poll.pass.0

      at : ℕ
      at = rests_place t.table q

      found : ℕ
      found = slice_index s.words at

      recalls : RemembersWell t planting (now allows t planting s kept id me.0 fits p one) p.number.0 p.memory
      recalls = well allows t planting s kept id me.0 fits p one

      polled : IsPollSo t.lay planting (now allows t planting s kept id me.0 fits p one) poll
      polled = in_each (IsPollSo t.lay planting (now allows t planting s kept id me.0 fits p one)) poll p.memory.polls there recalls.names.polls

      since : History
      since = history_of planting poll.since

      often : HasSeenRests h kept.run.last kept.run.tally q since seen
      often = subst (HasPolledSo (now allows t planting s kept id me.0 fits p one) q since) waits polled.1

      go : Dec (found ≡ 2 * seen) → (w : SeatView) × (a : Act ℕ) × Valid s.homes me.1 a × TableLasts allows t planting (stepped s at found id me.1 w a) × (LearnsWith allows (λ rows. memory_polled p.memory poll seen found) me.0 w × (carried_after me.1 a ≡ me.1))
      go (yes e) = (
        seat_view (aware allows t planting s kept id me.0 fits p one p.memory ∷ []),
        keeps,
        tt,
        noted allows t planting stays s kept id me.0 fits p one at p.memory refl refl refl recalls.names,
        ((kept.run.rows, learnt allows t planting s kept id me.0 fits p one (rw (eq-eqb found (2 * seen) e) refl)), refl),
      )
      go (no d) =
          let x = polls t s.words h kept.run.last kept.run.held kept.run.tally kept.run.window q seen since kept.run.counts polled.0 often d in
          let more : Polled = record poll { waits = None } in (
            seat_view (aware allows t planting s kept id me.0 fits p one (record p.memory { polls = more ∷ p.memory.polls }) ∷ []),
            keeps,
            tt,
            remembered allows t planting stays s kept id me.0 fits p one at q since x more (polled.0, x.since),
            ((kept.run.rows, learnt allows t planting s kept id me.0 fits p one (rw (ne_eqb found (2 * seen) d) refl)), refl),
          )
