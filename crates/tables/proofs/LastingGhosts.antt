-- Moves that no word shows: a load, by which a pass comes to know the run, and remembers more.
use Rattle.std.proofs.Common.{◌≡◌, ◌≢◌, ℕ, false, List, [], ◌∷◌, slice_index, slice_set, inl, inr, refl, sym, ◌∙◌, ap, subst}
use mathlib.Core.Option.{some}
use lib.ListN.{get_elem?}
use Rattle.atomic_table.specs.Table.{State}
use Rattle.histories.specs.Common.{Layout, Row, History}
use Rattle.arena.proofs.Lemmas.{ends_self}
use Rattle.planting.specs.Plantings.{PlantingView}
use Rattle.resting.specs.Rests.{HaveMovedOn, HaveRestedAt}
use Rattle.slots.specs.Held.{Held}
use Rattle.slots.specs.Lasting.{Lasting}
use Rattle.slots.specs.Window.{IsWindow}
use Rattle.slots.proofs.Lemmas.{seen_moves}
use Rattle.tables.specs.Passes.{Each}
use Rattle.tables.specs.TableRule.{Owns, history_of, seat_view, seated_pass}
use Rattle.tables.specs.LastingMemory.{IsNoteSo, Present, RememberWell, RemembersNames, RemembersWell, StaysUnborn, present, record_at}
use Rattle.tables.specs.LastingNotes.{IsAmongThese}
use Rattle.tables.specs.LastingRule.{TableLasts, WordsLast, plot_in}
use Rattle.tables.specs.declared.view.SeatView.{SeatView}
use Rattle.tables.specs.declared.memory.Noted.{Noted}
use Rattle.tables.specs.declared.memory.PassMemory.{PassMemory}
use Rattle.tables.specs.declared.view.SeatedPass.{SeatedPass}
use Rattle.tables.proofs.LastingKept.{Later, Spares, remember_kept, remembers_kept, spared, views_kept}
use Rattle.tables.proofs.LastingSeats.{apart, now, own, set_self, well}

-- what is so of each, is so of one of them
pub in_each : {A : Type 0} (P : A → Type 0) (x : A) (xs : List A) → IsAmongThese x xs → Each P xs → P x
in_each P x [] i y = absurd i
in_each P x (z ∷ zs) (inl e) y = subst P (sym e) y.0
in_each P x (z ∷ zs) (inr i) y = in_each P x zs i y.1

-- the table with other moments of rests, and other slots, may be there later
pub later_moments : (t : Lasting) (a : Present) (next : ℕ → History) (held : Held) → HaveMovedOn t.lay a.run a.last next → IsWindow t a.words a.run next held → Later t a (present a.words a.run next held a.tally)
later_moments t a next held moved w = record { run = w.run; within = ends_self a.run; moved = moved; seen = λ p m n i y. seen_moves a.run a.last a.tally p m n y t next i moved }

-- they stay
pub moments_stay : (t : Lasting) (h : History) (last : ℕ → History) → HaveRestedAt t.lay h last → HaveMovedOn t.lay h last last
moments_stay t h last rested = record { rested = rested; within = λ o i. (rested o i).within; later = λ o i. ends_self (last o) }

module _ (allows : Layout → History → ℕ → Type 0) (t : Lasting) (planting : PlantingView) (stays : StaysUnborn t.lay) (s : State ℕ SeatView) (kept : TableLasts allows t planting s) (id : ℕ) (v : SeatView) (fits : get_elem? s.views id ≡ some v) (p : SeatedPass) (one : v.passes ≡ p ∷ []) (at : ℕ) where
  abbrev before : Present
  before = now allows t planting s kept id v fits p one

  -- what the table is after a load there, and what the pass remembers then
  abbrev pub seen_by : List Row → PassMemory → State ℕ SeatView
  seen_by rows after = record { words = slice_set s.words at (slice_index s.words at); homes = s.homes; views = slice_set s.views id (seat_view (seated_pass p.number.0 p.layout p.planting after rows ∷ [])) }

  module _ (words : List ℕ) (run : WordsLast allows t planting words) (after : PassMemory)
      (later : Later t before (present words (history_of planting run.rows) run.last run.held run.tally))
      (others_count : (q : ℕ) → q ≢ p.number.0 → (run.tally.away q ≡ kept.run.tally.away q) × (run.tally.count q ≡ kept.run.tally.count q))
      (rests : (q : ℕ) → q ≢ p.number.0 → kept.run.tally.away q ≡ false → run.last q ≡ kept.run.last q)
      (mine : RemembersWell t planting (present words (history_of planting run.rows) run.last run.held run.tally) p.number.0 after)
      (spares : (q : ℕ) → q ≢ p.number.0 → Spares t planting before (present words (history_of planting run.rows) run.last run.held run.tally) later stays q)
      (grows : (j : ℕ) → j ≢ id → (ps : List SeatedPass) → Owns (plot_in t planting) kept.run.rows kept.owner j ps → Owns (plot_in t planting) run.rows kept.owner j ps) where
    abbrev there : Present
    there = present words (history_of planting run.rows) run.last run.held run.tally

    abbrev w : SeatView
    w = seat_view (seated_pass p.number.0 p.layout p.planting after run.rows ∷ [])

    owned : Owns (plot_in t planting) kept.run.rows kept.owner id (p ∷ [])
    owned = own allows t planting s kept id v fits p one

    others : (q : ℕ) (n : PassMemory) → q ≢ p.number.0 → RemembersWell t planting before q n → RemembersWell t planting there q n
    others q n d y = remembers_kept t planting before there later stays q n (spares q d) (others_count q d).0 (others_count q d).1 (rests q d) y

    -- the pass knows the run by then, and remembers so much
    pub goes_on : TableLasts allows t planting record { words = words; homes = s.homes; views = slice_set s.views id w }
    goes_on = record {
      run = run;
      owner = kept.owner;
      passes = views_kept (λ j u. Owns (plot_in t planting) kept.run.rows kept.owner j u.passes) (λ j u. Owns (plot_in t planting) run.rows kept.owner j u.passes) s.views id w
          (owned.0, owned.1, ([], refl, tt), tt, tt) (λ j u other fit y. grows j other u.passes y) kept.passes;
      memories = views_kept (λ j u. RememberWell t planting before u.passes) (λ j u. RememberWell t planting there u.passes) s.views id w
          (mine, tt)
          (λ j u other fit y. remember_kept t planting before there (λ q. q ≢ p.number.0) others kept.run.rows kept.owner j (λ q is. apart allows t planting s kept id v fits p one j q other is) u.passes (kept.passes j u fit) y)
          kept.memories;
    }

  -- what a load shows of words is what they were
  pub as_loaded : (rows : List Row) (after : PassMemory) → TableLasts allows t planting record { words = s.words; homes = s.homes; views = slice_set s.views id (seat_view (seated_pass p.number.0 p.layout p.planting after rows ∷ [])) } → TableLasts allows t planting (seen_by rows after)
  as_loaded rows after x = subst (λ ws. TableLasts allows t planting record { words = ws; homes = s.homes; views = slice_set s.views id (seat_view (seated_pass p.number.0 p.layout p.planting after rows ∷ [])) }) (sym (set_self s.words at)) x

  recalls : RemembersWell t planting before p.number.0 p.memory
  recalls = well allows t planting s kept id v fits p one

  -- of names it remembers these notes, and else what it did
  pub with_notes : (notes : List Noted) → Each (λ n. IsNoteSo t.lay planting p.number.0 before (record_at n.name) n.note) notes → RemembersNames t planting before p.number.0 record p.memory { notes = notes }
  with_notes notes so = let names = recalls.names in record { dealt = names.dealt; later = names.later; notes = so; polls = names.polls; holds = names.holds; empty = names.empty; zeros = names.zeros }

  -- a pass remembers more, and nothing else goes on
  pub noted : (after : PassMemory) → after.rested ≡ p.memory.rested → after.away ≡ p.memory.away → after.often ≡ p.memory.often → RemembersNames t planting before p.number.0 after → TableLasts allows t planting (seen_by kept.run.rows after)
  noted after rested away often names =
      let moved = moments_stay t (history_of planting kept.run.rows) kept.run.last kept.run.window.rested in
      let later : Later t before before = later_moments t before kept.run.last kept.run.held moved kept.run.window in
      as_loaded kept.run.rows after (goes_on s.words kept.run after later (λ q d. (refl, refl)) (λ q d z. refl)
      record {
        away = away ∙ recalls.away;
        often = often ∙ recalls.often;
        rested = λ z. recalls.rested (sym away ∙ z) ∙ ap (history_of planting) (sym rested);
        names = names;
      }
      (λ q d. spared t planting before before later stays refl (λ u i none. refl) q)
      (λ j d ps y. y))
