-- What a pass sees of names keeps the rule of a table that lasts.
use Rattle.std.proofs.Common.{◌≡◌, ◌<◌, ◌⊎◌, ℕ, false, eq-eqb, ne_eqb, [], ◌∷◌, slice_index, inl, inr, refl, sym, ◌∙◌, ap, subst}
use native.Mathlib.Decide.{ℕ_discrete}
use Rattle.atomic_table.specs.Table.{Me, Act, Allows, Valid, carried_after, keeps, stepped}
use Rattle.histories.specs.Common.{Layout, History, NodeNo, value, node, marked, IsTakenNode, Word, Extends, IsWord}
use Rattle.arena.specs.declared.word.NodeWord.TheVariants.{Marked}
use Rattle.arena.proofs.Lemmas.{ends_self, ends_trans}
use Rattle.histories.proofs.Lemmas.{own_node_inside}
use Rattle.planting.specs.Plantings.{PlantingView}
use Rattle.resting.specs.Records.{Record, the_node, the_scx, record_of}
use Rattle.resting.specs.Reach.{IsOutOfReach}
use Rattle.ordered_map.specs.Runs.{IsMapRun}
use Rattle.resting.proofs.Lemmas.{out_sorts, out_stays, unborn_out, unnamed_out}
use Rattle.slots.specs.Lasting.{Lasting, table_place}
use Rattle.resting.specs.Dead.{HasLeftUnmarked, IsDead, IsMarkedNode, IsOut, IsUnborn}
use Rattle.slots.specs.Held.{IsHeld}
use Rattle.tables.specs.TableRule.{history_of, past_of, seat_view}
use Rattle.tables.specs.LastingMemory.{IsGoneRecord, IsHeldName, Present, RemembersWell, StaysUnborn, record_at}
use Rattle.tables.specs.LastingNotes.{IsAmongThese, IsUnneeded, memory_marked, memory_unused, noted_as, memory_left}
use Rattle.tables.specs.LastingRule.{LearnsWith, TableLasts, LoadsWord}
use Rattle.tables.specs.declared.view.SeatView.{SeatView}
use Rattle.tables.specs.declared.memory.PassMemory.{PassMemory}
use Rattle.tables.specs.declared.memory.NoteView.TheVariants.{MarkedOrDead}
use Rattle.tables.specs.declared.memory.RecordNo.{RecordNo}
use Rattle.tables.specs.declared.memory.RecordNo.TheVariants.{Node}
use Rattle.tables.specs.declared.rule.Plot.{Plot}
use Rattle.tables.specs.declared.view.SeatedPass.{SeatedPass}
use Rattle.tables.proofs.LastingGhosts.{in_each, noted, with_notes}
use Rattle.tables.proofs.LastingSeats.{aware, behind_known, learnt, now, own, well}
use Rattle.tables.proofs.LastingSlots.{taken_since}

-- what was of no use is out of reach, and gone
unused_out : (lay : Layout) (h : History) (last : ℕ → History) (o : ℕ) (x : Record) → o < lay.passes → IsUnneeded lay o x (last o) → IsOutOfReach lay h last x × IsGoneRecord lay h last x
unused_out lay h last o (the_node n) i x = (unborn_out lay h last o n i x, inr (inr (o, i, x)))
unused_out lay h last o (the_scx s) i x = (unnamed_out lay h last o s i x, tt)

module _ (allows : Layout → History → ℕ → Type 0) (t : Lasting) (planting : PlantingView) (stays : StaysUnborn t.lay) (slots id : ℕ) (me : Me ℕ SeatView) (p : SeatedPass) (one : me.0.passes ≡ p ∷ []) (is_pass : p.number.0 < t.lay.passes) where
  -- a look at the mark of a node that an own slot holds
  pub lasting_marks : (n : NodeNo) → IsAmongThese (Node n) p.memory.holds → IsTakenNode (past_of p []) n.0 → Allows (TableLasts allows t planting) slots id me (table_place t (node n.0 Marked)) (λ v. v) (λ v w. LearnsWith allows (memory_marked p.memory (Node n) v) me.0 w.0 × (w.1 ≡ me.1))
  lasting_marks n holds taken s kept sized fits small = go (ℕ_discrete found 0)
    where
      h : History
      h = history_of planting kept.run.rows

      at : ℕ
      at = table_place t (node n.0 Marked)

      found : ℕ
      found = slice_index s.words at

      before : Present
      before = now allows t planting s kept id me.0 fits p one

      recalls : RemembersWell t planting before p.number.0 p.memory
      recalls = well allows t planting s kept id me.0 fits p one

      mine : IsHeldName t p.number.0 before (Node n)
      mine = in_each (IsHeldName t p.number.0 before) (Node n) p.memory.holds holds recalls.names.holds

      shown : found ≡ value h (marked n.0)
      shown = kept.run.window.shows (node n.0 Marked) (own_node_inside t.lay p.number.0 n.0 is_pass mine.0.0) mine.1

      was_taken : IsTakenNode h n.0
      was_taken = taken_since h (history_of planting p.known) (the_node n.0) (behind_known allows t planting s kept id me.0 fits p one) (subst (λ (g : Plot). IsTakenNode (history_of g.planting p.known) n.0) (own allows t planting s kept id me.0 fits p one).1 taken)

      go : Dec (found ≡ 0) → (w : SeatView) × (a : Act ℕ) × Valid s.homes me.1 a × TableLasts allows t planting (stepped s at found id me.1 w a) × (LearnsWith allows (memory_marked p.memory (Node n) found) me.0 w × (carried_after me.1 a ≡ me.1))
      go (yes e) = (
        seat_view (aware allows t planting s kept id me.0 fits p one p.memory ∷ []),
        keeps,
        tt,
        noted allows t planting stays s kept id me.0 fits p one at p.memory refl refl refl recalls.names,
        ((kept.run.rows, learnt allows t planting s kept id me.0 fits p one (rw (eq-eqb found 0 e) refl)), refl),
      )
      go (no d) =
          let names = recalls.names in
          let after : PassMemory = record p.memory { notes = noted_as (Node n) (MarkedOrDead kept.run.rows) ∷ p.memory.notes } in (
            seat_view (aware allows t planting s kept id me.0 fits p one (after) ∷ []),
            keeps,
            tt,
            noted allows t planting stays s kept id me.0 fits p one at after refl refl refl
                (with_notes allows t planting stays s kept id me.0 fits p one at after.notes ((ends_self h, inl record { taken = was_taken; mark = λ z. d (shown ∙ z) }), names.notes)),
            ((kept.run.rows, learnt allows t planting s kept id me.0 fits p one (rw (ne_eqb found 0 d) refl)), refl),
          )

  -- a name that was of no use to the pass as it rested, at a load of any word
  pub lasting_unused : (at : ℕ) (name : RecordNo) → p.memory.away ≡ false → IsUnneeded p.layout p.number.0 (record_at name) (history_of p.planting p.memory.rested) → Allows (TableLasts allows t planting) slots id me at (λ n. n) (λ n w. LearnsWith allows (λ rows. memory_unused p.memory name) me.0 w.0 × (w.1 ≡ me.1))
  lasting_unused at name there unused s kept sized fits small =
      let before : Present = now allows t planting s kept id me.0 fits p one in
      let recalls : RemembersWell t planting before p.number.0 p.memory = well allows t planting s kept id me.0 fits p one in
      let names = recalls.names in
      let here : IsUnneeded t.lay p.number.0 (record_at name) (kept.run.last p.number.0) = subst (IsUnneeded t.lay p.number.0 (record_at name)) (sym (recalls.rested there)) (subst (λ (g : Plot). IsUnneeded g.layout p.number.0 (record_at name) (history_of g.planting p.memory.rested)) (own allows t planting s kept id me.0 fits p one).1 unused) in (
        seat_view (aware allows t planting s kept id me.0 fits p one (memory_unused p.memory name) ∷ []),
        keeps,
        tt,
        noted allows t planting stays s kept id me.0 fits p one at (memory_unused p.memory name) refl refl refl
            (with_notes allows t planting stays s kept id me.0 fits p one at (memory_unused p.memory name).notes (unused_out t.lay (history_of planting kept.run.rows) kept.run.last p.number.0 (record_at name) is_pass here, names.notes)),
        ((kept.run.rows, learnt allows t planting s kept id me.0 fits p one refl), refl),
      )

  -- a node of its own that the pass had taken as it rested, and that is out since, as it knows, at a
  -- load of any word
  pub lasting_left : (at : ℕ) (n : NodeNo) (m : History) → p.memory.away ≡ false → Extends (past_of p []) m → IsOut p.layout p.number.0 (history_of p.planting p.memory.rested) m n.0 → Allows (TableLasts allows t planting) slots id me at (λ v. v) (λ v w. LearnsWith allows (memory_left p.memory n) me.0 w.0 × (w.1 ≡ me.1))
  lasting_left at n m there by out s kept sized fits small = (
    seat_view (aware allows t planting s kept id me.0 fits p one (memory_left p.memory n kept.run.rows) ∷ []),
    keeps,
    tt,
    noted allows t planting stays s kept id me.0 fits p one at (memory_left p.memory n kept.run.rows) refl refl refl
        (with_notes allows t planting stays s kept id me.0 fits p one at (memory_left p.memory n kept.run.rows).notes ((ends_self h, go (out_sorts t.lay o rest h n.0 here run)), recalls.names.notes)),
    ((kept.run.rows, learnt allows t planting s kept id me.0 fits p one refl), refl),
  )
    where
      o : ℕ
      o = p.number.0

      h : History
      h = history_of planting kept.run.rows

      rest : History
      rest = kept.run.last o

      run : IsMapRun t.lay h
      run = kept.run.window.run

      before : Present
      before = now allows t planting s kept id me.0 fits p one

      recalls : RemembersWell t planting before o p.memory
      recalls = well allows t planting s kept id me.0 fits p one

      known_out : IsOut t.lay o rest m n.0
      known_out = subst (λ k. IsOut t.lay o k m n.0) (sym (recalls.rested there)) (subst (λ (g : Plot). IsOut g.layout o (history_of g.planting p.memory.rested) m n.0) (own allows t planting s kept id me.0 fits p one).1 out)

      later : Extends h m
      later = ends_trans h (history_of planting p.known) m (behind_known allows t planting s kept id me.0 fits p one) (subst (λ (g : Plot). Extends (history_of g.planting p.known) m) (own allows t planting s kept id me.0 fits p one).1 by)

      here : IsOut t.lay o rest h n.0
      here = out_stays t.lay o rest m n.0 known_out h run is_pass later (kept.run.window.rested o is_pass)

      go : IsMarkedNode h n.0 ⊎ (HasLeftUnmarked h n.0 ⊎ IsUnborn t.lay o rest n.0) → IsMarkedNode h n.0 ⊎ ((IsDead t.lay o (the_node n.0) h ⊎ IsOutOfReach t.lay h kept.run.last (the_node n.0)) × IsGoneRecord t.lay h kept.run.last (the_node n.0))
      go (inl d) = inl d
      go (inr (inl d)) = inr (inl (inr (inl d)), inr (inl d.left))
      go (inr (inr d)) = inr (inr (unborn_out t.lay h kept.run.last o n.0 is_pass d), inr (inr (o, is_pass, d)))

  -- a load of a word of a name that an own slot holds
  pub lasting_loads : (name : RecordNo) (u : Word) → IsAmongThese name p.memory.holds → record_of u ≡ record_at name → IsWord t.lay u → Allows (TableLasts allows t planting) slots id me (table_place t u) (λ v. v) (λ v w. LoadsWord allows p u v me.0 w.0 × (w.1 ≡ me.1))
  lasting_loads name u holds of_name inside s kept sized fits small =
      let before : Present = now allows t planting s kept id me.0 fits p one in
      let recalls : RemembersWell t planting before p.number.0 p.memory = well allows t planting s kept id me.0 fits p one in
      let mine : IsHeldName t p.number.0 before name = in_each (IsHeldName t p.number.0 before) name p.memory.holds holds recalls.names.holds in
      let shown : slice_index s.words (table_place t u) ≡ value (history_of planting kept.run.rows) u = kept.run.window.shows u inside (subst (IsHeld t kept.run.held) (sym of_name) mine.1) in (
        seat_view (aware allows t planting s kept id me.0 fits p one p.memory ∷ []),
        keeps,
        tt,
        noted allows t planting stays s kept id me.0 fits p one (table_place t u) p.memory refl refl refl recalls.names,
        (
          record {
            rows = kept.run.rows;
            learnt = learnt allows t planting s kept id me.0 fits p one refl;
            value = subst (λ (g : PlantingView). value (history_of g kept.run.rows) u ≡ slice_index s.words (table_place t u)) (sym (ap (λ (g : Plot). g.planting) (own allows t planting s kept id me.0 fits p one).1)) (sym shown);
          },
          refl,
        ),
      )
