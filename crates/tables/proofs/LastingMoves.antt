-- A step of a call keeps the rule of a table that lasts.
use Rattle.std.proofs.Common.{◌≡◌, ◌<◌, ◌⊎◌, ℕ, List, [], ◌∷◌, ◌++◌, None, slice_index, slice_set, inl, inr, ⊎_elim, refl, sym, ◌∙◌, ap, subst}
use Rattle.std.proofs.lemmas.List.{get_or-set_other}
use Rattle.atomic_table.specs.Table.{Me, Allows, keeps}
use Rattle.histories.specs.Common.{Layout, Word, Row, History, ◌⊳◌, Extends, value, word_after, table_size, place, IsWord, IsRun, IsTold, IsFillOfNode, IsTakenNode}
use Rattle.arena.proofs.Lemmas.{ends_self}
use Rattle.histories.proofs.Lemmas.{lawful_row}
use Rattle.planting.specs.Plantings.{PlantingView}
use Rattle.ordered_map.specs.Runs.{IsMapRun}
use Rattle.touching.specs.Steps.{IsMapStep}
use Rattle.resting.specs.Records.{record_of, the_node}
use Rattle.resting.specs.Rests.{IsRowSince}
use Rattle.slots.specs.Held.{IsHeld}
use Rattle.slots.specs.Lasting.{IsOwnRecord, IsUntaken, Lasting, table_place}
use Rattle.slots.specs.Window.{IsHeldStep, IsWindow}
use Rattle.slots.proofs.Lemmas.{counts_rows, counts_stores, empty_apart, seen_rows, steps, untaken_fills}
use Rattle.tables.specs.TableRule.{history_of, Made, Owns, past_of, row, seat_view, seated_pass}
use Rattle.tables.specs.LastingMemory.{AreHeldOrGone, IsOutForGood, Present, RememberWell, RemembersWell, StaysUnborn, present}
use Rattle.tables.specs.LastingRule.{MayStepOn, TableLasts, plot_in}
use Rattle.tables.specs.declared.view.SeatView.{SeatView}
use Rattle.tables.specs.declared.memory.PassMemory.{PassMemory}
use Rattle.tables.specs.declared.rule.CallStep.{CallStep}
use Rattle.tables.specs.declared.rule.Plot.{Plot}
use Rattle.tables.specs.declared.view.SeatedPass.{SeatedPass}
use Rattle.tables.proofs.Moves.{owns_more}
use Rattle.tables.proofs.LastingKept.{Later, gone_kept, remember_kept, remembers_kept, spared, views_kept}

-- the table with one row more, and a word that it has stored
row_later : (t : Lasting) (now : Present) (r : Row) (words : List ℕ) → IsWindow t words (r ⊳ now.run) now.last now.held → Later t now (present words (r ⊳ now.run) now.last now.held now.tally)
row_later t now r words w = record {
  run = w.run;
  within = inr (ends_self now.run);
  moved = record { rested = w.rested; within = λ o i. (w.rested o i).within; later = λ o i. ends_self (now.last o) };
  seen = λ p m n i y. seen_rows now.run now.last now.tally p m n y r;
}

row_gone : (t : Lasting) (planting : PlantingView) (now next : Present) (r : Row) → next.run ≡ r ⊳ now.run → next.held ≡ now.held → Later t now next → StaysUnborn t.lay → IsHeld t now.held (record_of r.word) → AreHeldOrGone t now → AreHeldOrGone t next
unfolding IsTakenNode
row_gone t planting now next r run same later stays held gone n taken = subst (λ k. IsHeld t k (the_node n) ⊎ IsOutForGood t.lay next.run next.last n) (sym same) (go (subst (λ k. IsTakenNode k n) run taken))
  where
    go : IsFillOfNode n r ⊎ IsTakenNode now.run n → IsHeld t now.held (the_node n) ⊎ IsOutForGood t.lay next.run next.last n
    go (inl f) = inl (subst (IsHeld t now.held) (ap record_of f.2) held)
    go (inr old) = ⊎_elim inl (λ g. inr (gone_kept t planting now next later stays n g)) (gone n old)

module _ (allows : Layout → History → ℕ → Type 0) (t : Lasting) (planting : PlantingView) (stays : StaysUnborn t.lay) (maps : (h : History) → IsRun allows t.lay h → IsMapRun t.lay h) (slots id : ℕ) (me : Me ℕ SeatView) (said : CallStep) (at : ℕ) (f told : ℕ → ℕ) (is : at ≡ table_place t said.step.word) (after : (n : ℕ) → f n ≡ word_after said.step.access n) (tells : (n : ℕ) → IsTold said.step.access n (told n)) where
  pub lasting_moves : (p : SeatedPass) → me.0.passes ≡ p ∷ [] → MayStepOn allows said p → Allows (TableLasts allows t planting) slots id me at f (λ n w. Made allows said me.0.passes (told n) w.0.passes × (w.1 ≡ me.1))
  lasting_moves p one may s kept sized seat fits =
      let now : Present = present s.words (history_of planting kept.run.rows) kept.run.last kept.run.held kept.run.tally in
      let own : Owns (plot_in t planting) kept.run.rows kept.owner id (p ∷ []) = subst (λ ps. Owns (plot_in t planting) kept.run.rows kept.owner id ps) one (kept.passes id me.0 seat) in
      let well : RemembersWell t planting now p.number.0 p.memory = (subst (RememberWell t planting now) one (kept.memories id me.0 seat)).0 in
      let h : History = history_of planting kept.run.rows in
      let others : List Row = own.2.0 in
      let e : past_of p others ≡ h = ap (λ (g : Plot). history_of g.planting (others ++ p.known)) own.1 ∙ ap (history_of planting) (sym own.2.1) in
      let lay_is : p.layout ≡ t.lay = ap (λ (g : Plot). g.layout) own.1 in
      let before : IsRun allows p.layout (past_of p others) = subst (λ l. IsRun allows l (past_of p others)) (sym lay_is) (subst (IsRun allows t.lay) (sym e) kept.run.sound) in
      let then : IsRun allows p.layout (row p.number.0 said (past_of p others) ⊳ past_of p others) = may.may others own.2.2 before in
      let r : Row = row p.number.0 said h in
      let sound : IsRun allows t.lay (r ⊳ h) = subst (λ k. IsRun allows t.lay (row p.number.0 said k ⊳ k)) e (subst (λ l. IsRun allows l (row p.number.0 said (past_of p others) ⊳ past_of p others)) lay_is then) in
      let call = may.of_call.call in
      let start : Extends call.start (kept.run.last p.number.0) = subst (Extends call.start) (sym (well.rested may.there)) (subst (λ (g : Plot). Extends call.start (history_of g.planting p.memory.rested)) own.1 may.of_call.since) in
      let step : IsMapStep call h r = subst (λ k. IsMapStep call k (row p.number.0 said k)) e (may.of_call.step others own.2.2 before) in
      let since : IsRowSince t.lay p.number.0 (kept.run.last p.number.0) h r = inl record { call = call; layout = may.of_call.layout ∙ lay_is; pass = may.of_call.pass; since = start; step = step } in
      let dealt : IsUntaken t.lay h (record_of said.step.word) → IsOwnRecord t.lay p.number.0 (record_of said.step.word) → IsHeld t kept.run.held (record_of said.step.word) =
      λ free its_own. well.names.dealt (record_of said.step.word) its_own
      (may.dealt (untaken_fills call h r step (subst (λ l. IsUntaken l h (record_of said.step.word)) (sym (may.of_call.layout ∙ lay_is)) free)))
      free in
      let made : IsHeldStep t s.words h kept.run.last kept.run.held r = steps t s.words h kept.run.last kept.run.held kept.run.window r (maps (r ⊳ h) sound) since dealt in
      let found : slice_index s.words at ≡ value h said.step.word = ap (slice_index s.words) is ∙ made.found in
      let stored : f (slice_index s.words at) ≡ r.after = after (slice_index s.words at) ∙ ap (word_after said.step.access) found in
      let words : List ℕ = slice_set s.words at (f (slice_index s.words at)) in
      let same : words ≡ slice_set s.words (table_place t r.word) r.after = ap (slice_set s.words at) stored ∙ ap (λ i. slice_set s.words i r.after) is in
      let window : IsWindow t words (r ⊳ h) kept.run.last kept.run.held = subst (λ ws. IsWindow t ws (r ⊳ h) kept.run.last kept.run.held) (sym same) made.after in
      let small : at < table_size t.table = subst (λ i. i < table_size t.table) (sym is) made.inside in
      let next : Present = present words (r ⊳ h) kept.run.last kept.run.held kept.run.tally in
      let later : Later t now next = row_later t now r words window in
      let left : (w : Word) → IsWord t.table w → kept.run.held (record_of w) ≡ None → slice_index words (place t.table w) ≡ slice_index s.words (place t.table w) =
      λ w i none. get_or-set_other s.words at (place t.table w) (f (slice_index s.words at)) 0 (λ q. empty_apart t kept.run.window.lasting kept.run.held kept.run.window.names w r.word i none (lawful_row t.lay h r sound.lawful).word made.held (sym (q ∙ is))) in
      let well_now : (q : ℕ) (n : PassMemory) → RemembersWell t planting now q n → RemembersWell t planting next q n =
      λ q n y. remembers_kept t planting now next later stays q n (spared t planting now next later stays refl left q) refl refl (λ z. refl) y in
      let mine : SeatedPass = seated_pass p.number.0 p.layout p.planting p.memory (row p.number.0 said (past_of p others) ∷ (others ++ p.known)) in
      let w : SeatView = seat_view (mine ∷ []) in
      let known : r ∷ kept.run.rows ≡ mine.known = ap (λ k. row p.number.0 said k ∷ kept.run.rows) (sym e) ∙ ap (λ (l : List Row). row p.number.0 said (past_of p others) ∷ l) own.2.1 in (
        w,
        keeps,
        tt,
        record {
          run = record {
            rows = r ∷ kept.run.rows;
            last = kept.run.last;
            held = kept.run.held;
            tally = kept.run.tally;
            sound = sound;
            window = window;
            counts = counts_rows t words h kept.run.tally (counts_stores t s.words h kept.run.tally kept.run.counts at (f (slice_index s.words at)) small) r sound.lawful (sym well.away ∙ may.there);
            gone = row_gone t planting now next r refl refl later stays made.held kept.run.gone;
          };
          owner = kept.owner;
          passes = views_kept (λ j v. Owns (plot_in t planting) kept.run.rows kept.owner j v.passes) (λ j v. Owns (plot_in t planting) (r ∷ kept.run.rows) kept.owner j v.passes) s.views id w
              (own.0, own.1, ([], known, tt), tt, tt)
              (λ j v other fit y. owns_more (plot_in t planting) kept.run.rows kept.owner j r (λ z. other (sym z ∙ own.0)) v.passes y)
              kept.passes;
          memories = views_kept (λ j v. RememberWell t planting now v.passes) (λ j v. RememberWell t planting next v.passes) s.views id w
              (well_now p.number.0 p.memory well, tt)
              (λ j v other fit y. remember_kept t planting now next (λ q. Unit {0}) (λ q n z x. well_now q n x) kept.run.rows kept.owner j (λ q z. tt) v.passes (kept.passes j v fit) y)
              kept.memories;
        },
        (
          record {
            pass = p;
            others = others;
            was = one;
            by_others = own.2.2;
            before = before;
            after = then;
            told = subst (λ n. IsTold said.step.access n (told (slice_index s.words at))) (found ∙ ap (λ k. value k said.step.word) (sym e)) (tells (slice_index s.words at));
            is = refl;
          },
          refl,
        ),
      )
