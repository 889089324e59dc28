-- What a pass has noted of names goes on once all have rested.
use Rattle.std.proofs.Common.{◌≡◌, ◌≢◌, ◌<◌, ◌⊎◌, ℕ, true, List, [], ◌∷◌, inl, inr, refl, sym, ap, subst}
use native.Mathlib.Decide.{ℕ_discrete}
use Rattle.atomic_table.specs.Table.{Me, Allows, keeps}
use Rattle.histories.specs.Common.{Layout, Row, History, Extends, Lawful, log, is_final}
use Rattle.arena.proofs.Lemmas.{ends_trans}
use Rattle.planting.specs.Plantings.{PlantingView}
use Rattle.ordered_map.specs.Runs.{IsMapRun}
use Rattle.resting.specs.Dead.{IsDead, IsMarkedNode, IsMarkedRecord, IsRemovedNode}
use Rattle.resting.specs.Periods.{IsPeriod, IsRightNote, dead_by, marked_or_dead, out_of_reach}
use Rattle.resting.specs.Reach.{IsOutOfReach}
use Rattle.resting.specs.Records.{Record, the_node, the_scx}
use Rattle.resting.specs.Rests.{AreSince, HaveRestedAt}
use Rattle.slots.specs.Lasting.{Lasting}
use Rattle.tables.specs.Passes.{Each}
use Rattle.tables.specs.TableRule.{history_of, seat_view}
use Rattle.tables.specs.LastingMemory.{IsGoneRecord, IsNoteSo, IsPollSo, Present, RemembersWell, StaysUnborn, record_at}
use Rattle.tables.specs.LastingNotes.{HasSeenAllRest, IsBefore, IsAmongThese, further, further_all, memory_noted, rested_poll}
use Rattle.tables.specs.LastingRule.{LearnsWith, TableLasts}
use Rattle.tables.specs.declared.view.SeatView.{SeatView}
use Rattle.tables.specs.declared.memory.PassMemory.{PassMemory}
use Rattle.tables.specs.declared.memory.Noted.{Noted}
use Rattle.tables.specs.declared.memory.NoteView.{NoteView}
use Rattle.tables.specs.declared.memory.NoteView.TheVariants.{MarkedOrDead, DeadBy, OutOfReach, DoneWith}
use Rattle.tables.specs.declared.rule.Plot.{Plot}
use Rattle.tables.specs.declared.view.SeatedPass.{SeatedPass}
use Rattle.tables.proofs.LastingGhosts.{in_each, noted, with_notes}
use Rattle.tables.proofs.LastingSeats.{aware, learnt, now, own, well}

-- what is known of what is marked, and of periods
pub record Periods (lay : Layout) : Type 0 where
  pub marked : (t snapshot end : History) (n : ℕ) → Lawful lay end → IsMarkedNode t n → Extends snapshot t → IsPeriod lay snapshot end → IsRemovedNode end n
  pub finalized : (t : History) (n : ℕ) → Lawful lay t → IsRemovedNode t n → is_final (log lay t) n ≡ true
  pub period : (h : History) (last : ℕ → History) (snapshot : History) → Extends h snapshot → HaveRestedAt lay h last → AreSince lay last snapshot → IsPeriod lay snapshot h
  pub first : (p : ℕ) (x : Record) (h : History) (last : ℕ → History) (t snapshot : History) → Lawful lay h → Extends snapshot t → IsPeriod lay snapshot h → IsRightNote lay p x h last (marked_or_dead t) → IsRightNote lay p x h last (dead_by h)
  pub second : (p : ℕ) (x : Record) (h : History) (last : ℕ → History) (end snapshot : History) → IsMapRun lay h → p < lay.passes → HaveRestedAt lay h last → AreSince lay last snapshot → Extends snapshot end → IsRightNote lay p x h last (dead_by end) → IsRightNote lay p x h last out_of_reach

module _ (lay : Layout) (planting : PlantingView) (known : Periods lay) (o : ℕ) (is_pass : o < lay.passes) (rows : List Row) where
  module _ (a : Present) (is_run : a.run ≡ history_of planting rows) (run : IsMapRun lay a.run) (rested : HaveRestedAt lay a.run a.last) (snapshot : History) (within : Extends a.run snapshot) (since : AreSince lay a.last snapshot) where
    over : IsPeriod lay snapshot a.run
    over = known.period a.run a.last snapshot within rested since

    -- what was marked is gone by then
    marked_gone : (x : Record) (t : History) → Extends snapshot t → IsMarkedRecord x t → IsGoneRecord lay a.run a.last x
    marked_gone (the_node n) t after d = inl (known.finalized a.run n run.1.lawful (known.marked t snapshot a.run n run.1.lawful d after over))
    marked_gone (the_scx s) t after d = absurd d

    note_goes_on : (x : Record) (n : NoteView) → IsBefore planting snapshot n → IsNoteSo lay planting o a x n → IsNoteSo lay planting o a x (further rows n)
    note_goes_on x (MarkedOrDead old) after y = go y.1
      where
        t : History
        t = history_of planting old

        dead : IsMarkedRecord x t ⊎ (IsDead lay o x t ⊎ IsOutOfReach lay a.run a.last x) → IsRightNote lay o x a.run a.last (dead_by (history_of planting rows))
        dead z = subst (λ k. IsRightNote lay o x a.run a.last (dead_by k)) is_run (known.first o x a.run a.last t snapshot run.1.lawful after over (y.0, z))

        go : IsMarkedRecord x t ⊎ ((IsDead lay o x t ⊎ IsOutOfReach lay a.run a.last x) × IsGoneRecord lay a.run a.last x) → IsNoteSo lay planting o a x (DeadBy rows)
        go (inl d) = (dead (inl d), marked_gone x t after d)
        go (inr d) = (dead (inr d.0), d.1)
    note_goes_on x (DeadBy old) after y = (known.second o x a.run a.last (history_of planting old) snapshot run is_pass rested since after y.0, y.1)
    note_goes_on x OutOfReach after y = y
    note_goes_on x (DoneWith j) after y = y

    pub notes_go_on : (notes chosen : List Noted) → Each (λ n. IsNoteSo lay planting o a (record_at n.name) n.note) notes → Each (λ n. IsAmongThese n notes × IsBefore planting snapshot n.note) chosen → Each (λ n. IsNoteSo lay planting o a (record_at n.name) n.note) (further_all rows chosen notes)
    notes_go_on notes [] so chosen = so
    notes_go_on notes (c ∷ cs) so chosen = (note_goes_on (record_at c.name) c.note chosen.0.1 (in_each (λ n. IsNoteSo lay planting o a (record_at n.name) n.note) c notes chosen.0.0 so), notes_go_on notes cs so chosen.1)

-- a pass that has polled all others has rested itself, and so have they
rested_since : (t : Lasting) (planting : PlantingView) (a : Present) (m : PassMemory) (snapshot : List Row) → Each (IsPollSo t.lay planting a) m.polls → (o : ℕ) → Extends (a.last o) (history_of planting snapshot) → ((q : ℕ) → q < t.lay.passes → q ≢ o → (since : List Row) × IsAmongThese (rested_poll q since) m.polls × Extends (history_of planting since) (history_of planting snapshot)) → (q : ℕ) → q < t.lay.passes → Dec (q ≡ o) → Extends (a.last q) (history_of planting snapshot)
rested_since t planting a m snapshot polls o own_rest others q i (yes e) = subst (λ k. Extends (a.last k) (history_of planting snapshot)) (sym e) own_rest
rested_since t planting a m snapshot polls o own_rest others q i (no d) = let poll = others q i d in ends_trans (a.last q) (history_of planting poll.0) (history_of planting snapshot) (in_each (IsPollSo t.lay planting a) (rested_poll q poll.0) m.polls poll.1 polls).1 poll.2

module _ (allows : Layout → History → ℕ → Type 0) (t : Lasting) (planting : PlantingView) (stays : StaysUnborn t.lay) (known : Periods t.lay) (slots id : ℕ) (me : Me ℕ SeatView) (p : SeatedPass) (one : me.0.passes ≡ p ∷ []) where
  -- all have rested since the snapshot: these notes go on, at a load of any word
  pub lasting_notes : (at : ℕ) (snapshot : List Row) (chosen : List Noted) → p.number.0 < t.lay.passes → HasSeenAllRest t.lay p snapshot → Each (λ n. IsAmongThese n p.memory.notes × IsBefore p.planting (history_of p.planting snapshot) n.note) chosen → Allows (TableLasts allows t planting) slots id me at (λ n. n) (λ n w. LearnsWith allows (memory_noted p.memory chosen) me.0 w.0 × (w.1 ≡ me.1))
  lasting_notes at snapshot chosen is_pass all picked s kept sized fits small =
      let o : ℕ = p.number.0 in
      let before : Present = now allows t planting s kept id me.0 fits p one in
      let recalls : RemembersWell t planting before o p.memory = well allows t planting s kept id me.0 fits p one in
      let owned = own allows t planting s kept id me.0 fits p one in
      let same : p.planting ≡ planting = ap (λ (g : Plot). g.planting) owned.1 in
      let start : History = history_of planting snapshot in
      let own_rest : Extends (kept.run.last o) start = subst (λ k. Extends k start) (sym (recalls.rested all.there)) (subst (λ g. Extends (history_of g p.memory.rested) (history_of g snapshot)) same all.own) in
      let since : AreSince t.lay kept.run.last start = λ q i. rested_since t planting before p.memory snapshot recalls.names.polls o own_rest (λ k j d. let poll = all.others k j d in (poll.0, poll.1, subst (λ g. Extends (history_of g poll.0) (history_of g snapshot)) same poll.2)) q i (ℕ_discrete q o) in
      let names = recalls.names in (
        seat_view (aware allows t planting s kept id me.0 fits p one (memory_noted p.memory chosen kept.run.rows) ∷ []),
        keeps,
        tt,
        noted allows t planting stays s kept id me.0 fits p one at (memory_noted p.memory chosen kept.run.rows) refl refl refl
            (with_notes allows t planting stays s kept id me.0 fits p one at (memory_noted p.memory chosen kept.run.rows).notes (notes_go_on t.lay planting known o is_pass kept.run.rows before refl kept.run.window.run kept.run.window.rested start (ends_trans (history_of planting kept.run.rows) (kept.run.last o) start (kept.run.window.rested o is_pass).within own_rest) since p.memory.notes chosen names.notes (subst (λ g. Each (λ n. IsAmongThese n p.memory.notes × IsBefore g (history_of g snapshot) n.note) chosen) same picked))),
        ((kept.run.rows, learnt allows t planting s kept id me.0 fits p one refl), refl),
      )
