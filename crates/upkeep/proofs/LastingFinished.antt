-- What a pass sees of an SCX-record of its own that is finished, in a table that lasts.
use Rattle.std.proofs.Common.{◌≡◌, ◌≢◌, ◌<◌, ◌++◌, ℕ, true, false, eq-eqb, ne_eqb, List, [], ◌∷◌, slice_index, inl, inr, ⊎_elim, refl, sym, ◌∙◌, ap, subst, arith}
use mathlib.Core.Option.{some}
use lib.ListN.{get_elem?}
use native.Mathlib.Decide.{ℕ_discrete, dec_lt}
use Rattle.atomic_table.specs.Table.{State, Me, Act, Allows, Valid, carried_after, keeps, stepped}
use Rattle.histories.specs.Common.{Layout, Row, NodeWord, Settled, Child, Info, Marked, ScxWord, State as StateWord, AllFrozen, Plan, Member, History, Opened, ◌⊳◌, HasHeld, value, node, scx, info, marked, state, plan, count, count_of, member, field, field_index, side_of, same_word, opening_nodes, IsOwnScx, IsTakenNode, IsTakenScx, ScxNo, Lawful, log, is_final}
use Rattle.arena.proofs.Lemmas.{ends_self, ends_trans, held_at, held_more, node_apart, node_word_apart, opening_info, scx_apart, scx_word_apart, value_apart, value_quiet}
use Rattle.histories.proofs.Lemmas.{Change, Facts, FillsScx, FreezeWins, IsNodeFill, aborts, change, commits, facts, fills_node, fills_scx, freeze_in_progress, freeze_keeps_scx, freeze_stores, freezes, lawful_row, lawful_tail, marks, nothing, one_scx_owner, sets_frozen, updates}
use Rattle.planting.specs.Plantings.{PlantingView}
use Rattle.ordered_map.specs.Paths.{WasInTree}
use Rattle.ordered_map.specs.Runs.{IsMapRun}
use Rattle.ordered_map.proofs.MapLemmas.{run_since}
use Rattle.prims.specs.Moments.{AreFinished}
use Rattle.touching.specs.Left.{HasLeft, IsNamedByLeft}
use Rattle.touching.proofs.Lemmas.{reached_stood, taken_scx_since, was_since}
use Rattle.resting.specs.Dead.{IsLetGoScx, WasDoneWith}
use Rattle.resting.specs.Records.{the_node}
use Rattle.slots.specs.Held.{IsHeld}
use Rattle.slots.specs.Lasting.{Lasting, slot_of, table_place}
use Rattle.slots.proofs.Lemmas.{name_record, untaken_zero}
use Rattle.tables.specs.TableRule.{ByOthers, history_of, past_of, seat_view}
use Rattle.tables.specs.LastingMemory.{IsHeldName, IsNoteSo, IsOutForGood, Present, RemembersNames, RemembersWell, StaysUnborn, record_at}
use Rattle.tables.specs.LastingNotes.{IsAmongThese, memory_done, memory_looked_at, memory_over, noted_as}
use Rattle.tables.specs.LastingRule.{LearnsWith, TableLasts}
use Rattle.tables.specs.declared.view.SeatView.{SeatView}
use Rattle.tables.specs.declared.memory.Noted.{Noted}
use Rattle.tables.specs.declared.memory.NoteView.TheVariants.{DoneWith, MarkedOrDead}
use Rattle.tables.specs.declared.memory.RecordNo.TheVariants.{Scx}
use Rattle.tables.specs.declared.rule.Plot.{Plot}
use Rattle.tables.specs.declared.view.SeatedPass.{SeatedPass}
use Rattle.tables.proofs.LastingGhosts.{in_each, noted}
use Rattle.tables.proofs.LastingSeats.{aware, behind_known, learnt, now, over, own, well}
use Rattle.upkeep.proofs.LastingTrees.{taken_discrete}

-- Words of an SCX-record

-- no row of another pass is of a word that a pass fills
own_word : (lay : Layout) (h : History) (r : Row) (o s : ℕ) (part : ScxWord) → Lawful lay (r ⊳ h) → r.pass.0 ≢ o → IsOwnScx lay o s → ((q : ℕ) → same_word (scx q StateWord) (scx s part) ≡ false) → ((q : ℕ) → same_word (scx q AllFrozen) (scx s part) ≡ false) → value (r ⊳ h) (scx s part) ≡ value h (scx s part)
own_word lay h r o s part l other its_own no_state no_flag = go (change lay h r l)
  where
    filled : (q : ℕ) (w : ScxWord) → FillsScx lay h r q w → Dec (q ≡ s) → value (r ⊳ h) (scx s part) ≡ value h (scx s part)
    filled q w x (yes e) = absurd (other (one_scx_owner lay r.pass.0 o s (subst (IsOwnScx lay r.pass.0) e x.is_open.own) its_own))
    filled q w x (no d) = value_apart r h (scx q w) (scx s part) x.word (scx_apart q s w part d)

    go : Change lay h r → value (r ⊳ h) (scx s part) ≡ value h (scx s part)
    go (nothing k a) = value_quiet r h (lawful_row lay h r l).before a (scx s part)
    go (fills_node n w x) = value_apart r h (node n w) (scx s part) x.word refl
    go (fills_scx q w x) = filled q w x (ℕ_discrete q s)
    go (freezes q j w) = value_apart r h (info (member h q j)) (scx s part) w.freeze.word refl
    go (sets_frozen q k x) = value_apart r h (scx q AllFrozen) (scx s part) x.word (no_flag q)
    go (marks q j k x) = value_apart r h (marked (member h q j)) (scx s part) x.word refl
    go (updates q w) = value_apart r h (field h q) (scx s part) w.update.word refl
    go (commits q k x) = value_apart r h (scx q StateWord) (scx s part) x.word (no_state q)
    go (aborts q j k x) = value_apart r h (scx q StateWord) (scx s part) x.word (no_state q)

pub own_word_behind : (lay : Layout) (planting : PlantingView) (o s : ℕ) (part : ScxWord) (others known : List Row) → Lawful lay (history_of planting (others ++ known)) → ByOthers o others → IsOwnScx lay o s → ((q : ℕ) → same_word (scx q StateWord) (scx s part) ≡ false) → ((q : ℕ) → same_word (scx q AllFrozen) (scx s part) ≡ false) → value (history_of planting (others ++ known)) (scx s part) ≡ value (history_of planting known) (scx s part)
own_word_behind lay planting o s part [] known l by its_own no_state no_flag = refl
own_word_behind lay planting o s part (r ∷ rs) known l by its_own no_state no_flag =
    own_word lay (history_of planting (rs ++ known)) r o s part l by.0 its_own no_state no_flag
    ∙ own_word_behind lay planting o s part rs known (lawful_tail lay (history_of planting (rs ++ known)) r l) by.1 its_own no_state no_flag

-- Infos

-- a node that an SCX-record freezes was in the tree
frozen_stood : (lay : Layout) (h : History) (r : Row) (s j : ℕ) → IsMapRun lay (r ⊳ h) → FreezeWins lay h r s j → WasInTree (r ⊳ h) (member h s j)
frozen_stood lay h r s j run w = reached_stood lay (r ⊳ h) s (member h s j) run
    record { unfinished = freeze_keeps_scx f w s StateWord ∙ freeze_in_progress f w; named = (member h s j, held_at (r ⊳ h) (info (member h s j)) s (freeze_stores f w)) }
    record { index = j; within = subst (λ p. j < count_of p) (sym (freeze_keeps_scx f w s Plan)) w.freeze.within; is = same j; earlier = λ i few. subst (λ m. HasHeld (r ⊳ h) (info m) s) (sym (same i)) (held_more r h (info (member h s i)) s (w.freeze.earlier i few)) }
  where
    f : Facts lay h
    f = facts lay h (lawful_tail lay h r run.1.lawful)

    same : (i : ℕ) → member (r ⊳ h) s i ≡ member h s i
    same i = freeze_keeps_scx f w s (Member i)

-- so what was never in the tree has no info
unborn_info : (lay : Layout) (h : History) (n : ℕ) → IsMapRun lay h → ¬ WasInTree h n → value h (info n) ≡ 0
unborn_info lay (Opened o) n run never = opening_info o n
unborn_info lay (r ⊳ h) n run never = go (change lay h r run.1.lawful) ∙ unborn_info lay h n (run_since lay (r ⊳ h) h run (inr (ends_self h))) (λ x. never (was_since (r ⊳ h) h n (inr (ends_self h)) x))
  where
    filled : (m : ℕ) (part : NodeWord) → IsNodeFill part → r.word ≡ node m part → value (r ⊳ h) (info n) ≡ value h (info n)
    filled m (Settled q) i word = value_apart r h (node m (Settled q)) (info n) word (node_word_apart m n (Settled q) Info refl)
    filled m (Child side) i word = value_apart r h (node m (Child side)) (info n) word (node_word_apart m n (Child side) Info refl)
    filled m Info i word = absurd i
    filled m Marked i word = absurd i

    frozen : (s j : ℕ) → FreezeWins lay h r s j → Dec (member h s j ≡ n) → value (r ⊳ h) (info n) ≡ value h (info n)
    frozen s j w (yes e) = absurd (never (subst (WasInTree (r ⊳ h)) e (frozen_stood lay h r s j run w)))
    frozen s j w (no d) = value_apart r h (info (member h s j)) (info n) w.freeze.word (node_apart (member h s j) n Info Info d)

    go : Change lay h r → value (r ⊳ h) (info n) ≡ value h (info n)
    go (nothing k a) = value_quiet r h (lawful_row lay h r run.1.lawful).before a (info n)
    go (fills_node m part x) = filled m part x.fill x.word
    go (fills_scx s part x) = value_apart r h (scx s part) (info n) x.word refl
    go (freezes s j w) = frozen s j w (ℕ_discrete (member h s j) n)
    go (sets_frozen s k x) = value_apart r h (scx s AllFrozen) (info n) x.word refl
    go (marks s j k x) = value_apart r h (marked (member h s j)) (info n) x.word (node_word_apart (member h s j) n Marked Info refl)
    go (updates s w) = value_apart r h (field h s) (info n) w.update.word (node_word_apart (member h s (field_index h s)) n (Child (side_of (plan h s))) Info refl)
    go (commits s k x) = value_apart r h (state s) (info n) x.word refl
    go (aborts s j k x) = value_apart r h (state s) (info n) x.word refl

-- What the look at the place of a node's info tells, whoever is there: that of the node names
-- another SCX-record, or the node is gone.
module _ (allows : Layout → History → ℕ → Type 0) (t : Lasting) (planting : PlantingView) (stays : StaysUnborn t.lay) (st : State ℕ SeatView) (kept : TableLasts allows t planting st) (s j n : ℕ) (real : s ≢ 0) (finished : value (history_of planting kept.run.rows) (state s) ≢ 0) (is_member : member (history_of planting kept.run.rows) s j ≡ n) (other : slice_index st.words (table_place t (info n)) ≢ s) where
  abbrev h : History
  h = history_of planting kept.run.rows

  named_other : value (history_of planting kept.run.rows) (info n) ≢ s → WasDoneWith t.lay (history_of planting kept.run.rows) s j
  named_other d = (h, ends_self h, finished, inl (inr (λ e. d (ap (λ m. value h (info m)) (sym is_member) ∙ e))))

  when_held : IsHeld t kept.run.held (the_node n) → WasDoneWith t.lay (history_of planting kept.run.rows) s j
  when_held is = named_other (λ e. other (kept.run.window.shows (node n Info) (name_record t kept.run.window.lasting (slot_of t (the_node n)) (the_node n) (kept.run.window.names.own (slot_of t (the_node n)) (the_node n) is)) is ∙ e))

  when_gone : IsOutForGood t.lay (history_of planting kept.run.rows) kept.run.last n → WasDoneWith t.lay (history_of planting kept.run.rows) s j
  when_gone (inl final) = (h, ends_self h, finished, inr (inl (subst (λ m. is_final (log t.lay h) m ≡ true) (sym is_member) final)))
  when_gone (inr (inl left)) = (h, ends_self h, finished, inr (inr (subst (HasLeft h) (sym is_member) left)))
  when_gone (inr (inr z)) = named_other (λ e. real (sym e ∙ unborn_info t.lay h n kept.run.window.run (stays h z.0 (kept.run.last z.0) n z.1 kept.run.window.run (kept.run.window.rested z.0 z.1) z.2).never))

  pub done_with : WasDoneWith t.lay (history_of planting kept.run.rows) s j
  done_with = go (taken_discrete (history_of planting kept.run.rows) n) (dec_lt n (opening_nodes t.lay))
    where
      go : Dec (IsTakenNode (history_of planting kept.run.rows) n) → Dec (n < opening_nodes t.lay) → WasDoneWith t.lay (history_of planting kept.run.rows) s j
      go (yes taken) d = ⊎_elim when_held when_gone (kept.run.gone n taken)
      go (no free) (yes first) = when_held (kept.run.window.names.first (the_node n) first)
      go (no free) (no late) = named_other (λ e. real (sym e ∙ untaken_zero t.lay h (node n Info) kept.run.window.run (omega (arith, late), free)))

-- The notes

-- what is known of an SCX-record that was done with each of its nodes
abbrev pub Looks : Layout → Type 0
Looks lay = (h : History) (s : ℕ) → IsMapRun lay h → s ≢ 0 → ((j : ℕ) → j < count h s → WasDoneWith lay h s j) → IsNamedByLeft lay h s

module _ (allows : Layout → History → ℕ → Type 0) (t : Lasting) (planting : PlantingView) (stays : StaysUnborn t.lay) (slots id : ℕ) (me : Me ℕ SeatView) (p : SeatedPass) (one : me.0.passes ≡ p ∷ []) (s : ScxNo) (held : IsAmongThese (Scx s) p.memory.holds) (taken : IsTakenScx (past_of p []) s.0) (between : AreFinished p.layout p.number.0 0 (past_of p [])) where
  module _ (st : State ℕ SeatView) (kept : TableLasts allows t planting st) (fits : get_elem? st.views id ≡ some me.0) where
    abbrev before : Present
    before = now allows t planting st kept id me.0 fits p one

    recalls : RemembersWell t planting before p.number.0 p.memory
    recalls = well allows t planting st kept id me.0 fits p one

    mine : IsHeldName t p.number.0 before (Scx s)
    mine = in_each (IsHeldName t p.number.0 before) (Scx s) p.memory.holds held recalls.names.holds

    real : s.0 ≢ 0
    real e = let from = mine.0.0.from in omega (arith, from, e)

    was_taken : IsTakenScx (history_of planting kept.run.rows) s.0
    was_taken = taken_scx_since (history_of planting kept.run.rows) (history_of planting p.known) s.0 (behind_known allows t planting st kept id me.0 fits p one) (subst (λ (g : Plot). IsTakenScx (history_of g.planting p.known) s.0) (own allows t planting st kept id me.0 fits p one).1 taken)

    finished : value (history_of planting kept.run.rows) (state s.0) ≢ 0
    finished = over allows t planting st kept id me.0 fits p one between s.0 mine.0.0 real was_taken

    -- its plan and its nodes are as the pass knows
    word_kept : (part : ScxWord) → ((q : ℕ) → same_word (scx q StateWord) (scx s.0 part) ≡ false) → ((q : ℕ) → same_word (scx q AllFrozen) (scx s.0 part) ≡ false) → value (history_of planting kept.run.rows) (scx s.0 part) ≡ value (past_of p []) (scx s.0 part)
    word_kept part no_state no_flag =
        let owned = own allows t planting st kept id me.0 fits p one in
        ap (λ l. value (history_of planting l) (scx s.0 part)) owned.2.1
        ∙ own_word_behind t.lay planting p.number.0 s.0 part owned.2.0 p.known (subst (λ l. Lawful t.lay (history_of planting l)) owned.2.1 kept.run.sound.lawful) owned.2.2 mine.0.0 no_state no_flag
        ∙ ap (λ (g : Plot). value (history_of g.planting p.known) (scx s.0 part)) (sym owned.1)

    member_kept : (j : ℕ) → member (history_of planting kept.run.rows) s.0 j ≡ member (past_of p []) s.0 j
    member_kept j = word_kept (Member j) (λ q. scx_word_apart q s.0 StateWord (Member j) refl) (λ q. scx_word_apart q s.0 AllFrozen (Member j) refl)

    count_kept : count (history_of planting kept.run.rows) s.0 ≡ count (past_of p []) s.0
    count_kept = ap count_of (word_kept Plan (λ q. scx_word_apart q s.0 StateWord Plan refl) (λ q. scx_word_apart q s.0 AllFrozen Plan refl))

    -- one note more
    with_note : (n : Noted) → IsNoteSo t.lay planting p.number.0 before (record_at n.name) n.note → RemembersNames t planting before p.number.0 record p.memory { notes = n ∷ p.memory.notes }
    with_note n so = let names = recalls.names in record { dealt = names.dealt; later = names.later; notes = (so, names.notes); polls = names.polls; holds = names.holds; empty = names.empty; zeros = names.zeros }

  -- a look at the place of the info of its j-th node, whoever is there
  pub lasting_looked_at : (j n : ℕ) → member (past_of p []) s.0 j ≡ n → Allows (TableLasts allows t planting) slots id me (table_place t (info n)) (λ v. v) (λ v w. LearnsWith allows (λ rows. memory_looked_at p.memory s j v) me.0 w.0 × (w.1 ≡ me.1))
  lasting_looked_at j n is st kept sized fits small = go (ℕ_discrete found s.0)
    where
      at : ℕ
      at = table_place t (info n)

      found : ℕ
      found = slice_index st.words at

      go : Dec (found ≡ s.0) → (w : SeatView) × (a : Act ℕ) × Valid st.homes me.1 a × TableLasts allows t planting (stepped st at found id me.1 w a) × (LearnsWith allows (λ rows. memory_looked_at p.memory s j found) me.0 w × (carried_after me.1 a ≡ me.1))
      go (yes e) = (
        seat_view (aware allows t planting st kept id me.0 fits p one p.memory ∷ []),
        keeps,
        tt,
        noted allows t planting stays st kept id me.0 fits p one at p.memory refl refl refl (recalls st kept fits).names,
        ((kept.run.rows, learnt allows t planting st kept id me.0 fits p one (rw (eq-eqb found s.0 e) refl)), refl),
      )
      go (no d) = (
        seat_view (aware allows t planting st kept id me.0 fits p one (record p.memory { notes = noted_as (Scx s) (DoneWith j) ∷ p.memory.notes }) ∷ []),
        keeps,
        tt,
        noted allows t planting stays st kept id me.0 fits p one at record p.memory { notes = noted_as (Scx s) (DoneWith j) ∷ p.memory.notes } refl refl refl
            (with_note st kept fits (noted_as (Scx s) (DoneWith j)) (done_with allows t planting stays st kept s.0 j n (real st kept fits) (finished st kept fits) (member_kept st kept fits j ∙ is) d)),
        ((kept.run.rows, learnt allows t planting st kept id me.0 fits p one (rw (ne_eqb found s.0 d) refl)), refl),
      )

  -- what the pass knows to be so without a look, at a load of any word
  pub lasting_done : (at j : ℕ) → WasDoneWith p.layout (past_of p []) s.0 j → Allows (TableLasts allows t planting) slots id me at (λ v. v) (λ v w. LearnsWith allows (λ rows. memory_done p.memory s j) me.0 w.0 × (w.1 ≡ me.1))
  lasting_done at j x st kept sized fits small =
      let owned = own allows t planting st kept id me.0 fits p one in
      let y : WasDoneWith t.lay (history_of planting p.known) s.0 j = subst (λ (g : Plot). WasDoneWith g.layout (history_of g.planting p.known) s.0 j) owned.1 x in
      let so : WasDoneWith t.lay (history_of planting kept.run.rows) s.0 j = (y.0, ends_trans (history_of planting kept.run.rows) (history_of planting p.known) y.0 (behind_known allows t planting st kept id me.0 fits p one) y.1, y.2, y.3) in (
        seat_view (aware allows t planting st kept id me.0 fits p one (memory_done p.memory s j) ∷ []),
        keeps,
        tt,
        noted allows t planting stays st kept id me.0 fits p one at (memory_done p.memory s j) refl refl refl (with_note st kept fits (noted_as (Scx s) (DoneWith j)) so),
        ((kept.run.rows, learnt allows t planting st kept id me.0 fits p one refl), refl),
      )

  -- it is dead once it was done with each of its nodes, at a load of any word
  pub lasting_over : Looks t.lay → (at : ℕ) → ((j : ℕ) → j < count (past_of p []) s.0 → IsAmongThese (noted_as (Scx s) (DoneWith j)) p.memory.notes) → Allows (TableLasts allows t planting) slots id me at (λ v. v) (λ v w. LearnsWith allows (memory_over p.memory s) me.0 w.0 × (w.1 ≡ me.1))
  lasting_over looks at all st kept sized fits small =
      let h : History = history_of planting kept.run.rows in
      let done : (j : ℕ) → j < count h s.0 → WasDoneWith t.lay h s.0 j = λ j less. in_each (λ n. IsNoteSo t.lay planting p.number.0 (before st kept fits) (record_at n.name) n.note) (noted_as (Scx s) (DoneWith j)) p.memory.notes (all j (subst (λ c. j < c) (count_kept st kept fits) less)) (recalls st kept fits).names.notes in
      let dead : IsLetGoScx t.lay h s.0 = record { real = real st kept fits; taken = was_taken st kept fits; finished = finished st kept fits; named = looks h s.0 kept.run.window.run (real st kept fits) done } in (
        seat_view (aware allows t planting st kept id me.0 fits p one (memory_over p.memory s kept.run.rows) ∷ []),
        keeps,
        tt,
        noted allows t planting stays st kept id me.0 fits p one at (memory_over p.memory s kept.run.rows) refl refl refl (with_note st kept fits (noted_as (Scx s) (MarkedOrDead kept.run.rows)) (ends_self h, inr (inl dead, tt))),
        ((kept.run.rows, learnt allows t planting st kept id me.0 fits p one refl), refl),
      )
