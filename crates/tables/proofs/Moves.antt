-- A step of any kind keeps the rule.
use Rattle.std.proofs.Common.{◌≡◌, ◌≢◌, ◌<◌, ℕ, Bool, true, false, List, [], ◌∷◌, ◌++◌, length, slice_index, slice_set, length-set, sym, ap, refl, ◌∙◌, subst, ⊎_elim, arith}
use Rattle.std.proofs.lemmas.List.{get_or-set_same, get_or-set_other}
use mathlib.Core.Option.{some}
use lib.ListN.{get_elem?}
use Rattle.atomic_table.specs.Table.{Me, Allows, keeps}
use Rattle.atomic_table.proofs.Lists.{at_set}
use Rattle.histories.specs.Common.{Layout, Word, Row, place, table_size, IsWord, node, same_word, word_after, Settled, Head, Lawful, Shaped, History, ◌⊳◌, value, IsRun, IsTold}
use Rattle.histories.proofs.Lemmas.{some_open}
use Rattle.arena.proofs.Lemmas.{word_same, word_apart, value_at, value_other}
use Rattle.tables.specs.declared.rule.CallStep.{CallStep}
use Rattle.tables.specs.declared.rule.Plot.{Plot}
use Rattle.tables.specs.declared.view.SeatedPass.{SeatedPass}
use Rattle.tables.specs.declared.view.SeatView.{SeatView}
use Rattle.tables.specs.TableRule.{history_of, past_of, seated_pass, seat_view, Owns, TableIsLawful, MayStep, Made, Looked, look, row}

-- a row of another seat leaves the passes of a seat where they are
pub owns_more : (plot : Plot) (run : List Row) (owner : ℕ → ℕ) (id : ℕ) (r : Row) → owner r.pass.0 ≢ id → (ps : List SeatedPass) → Owns plot run owner id ps → Owns plot (r ∷ run) owner id ps
owns_more plot run owner id r ne [] h = tt
owns_more plot run owner id r ne (p ∷ ps) h = (
  h.0,
  h.1,
  (r ∷ h.2.0, ap (λ (l : List Row). r ∷ l) h.2.1, ((λ e. ne (ap owner e ∙ h.0)), h.2.2)),
  h.3,
  owns_more plot run owner id r ne ps h.4,
)

-- a step on one word leaves the others, which have other places
pub holds_more : (lay : Layout) (words : List ℕ) (h : History) (r : Row) (at : ℕ) → at ≡ place lay r.word → at < length words → ((w : Word) → IsWord lay w → place lay w ≡ at → w ≡ r.word)
    → ((w : Word) → IsWord lay w → slice_index words (place lay w) ≡ value h w) → (w : Word) → IsWord lay w → slice_index (slice_set words at r.after) (place lay w) ≡ value (r ⊳ h) w
holds_more lay words h r at is inside apart holds w i = go (same_word r.word w) refl
  where
    go : (b : Bool) → same_word r.word w ≡ b → slice_index (slice_set words at r.after) (place lay w) ≡ value (r ⊳ h) w
    go true e = ap (slice_index (slice_set words at r.after)) (ap (place lay) (sym (word_same r.word w e)) ∙ sym is) ∙ get_or-set_same words at r.after 0 inside ∙ sym (value_at r h w (word_same r.word w e))
    go false e = get_or-set_other words at (place lay w) r.after 0 (λ q. word_apart r.word w e (apart w i q)) ∙ holds w i ∙ sym (value_other r h w e)

module _ (allows : Layout → History → ℕ → Type 0) (plot : Plot) (slots id : ℕ) (me : Me ℕ SeatView) (said : CallStep) (at : ℕ) (f told : ℕ → ℕ) (inside : IsWord plot.layout said.step.word) (is : at ≡ place plot.layout said.step.word) (small : at < table_size plot.layout) (apart : (w : Word) → IsWord plot.layout w → place plot.layout w ≡ at → w ≡ said.step.word) (after : (n : ℕ) → f n ≡ word_after said.step.access n) (tells : (n : ℕ) → IsTold said.step.access n (told n)) where
  pub moves : (p : SeatedPass) → me.0.passes ≡ p ∷ [] → MayStep allows said p → Allows (TableIsLawful allows plot) slots id me at f (λ n m. Made allows said me.0.passes (told n) m.0.passes × (m.1 ≡ me.1))
  moves p one may s kept sized seat fits =
      let own : Owns plot kept.run kept.owner id (p ∷ []) = subst (λ ps. Owns plot kept.run kept.owner id ps) one (kept.passes id me.0 seat) in
      let run : List Row = own.2.0 ++ p.known in
      let h : History = history_of plot.planting run in
      let same : past_of p own.2.0 ≡ h = ap (λ (g : Plot). history_of g.planting run) own.1 in
      let r : Row = row p.number.0 said h in
      let w : SeatView = seat_view (seated_pass p.number.0 p.layout p.planting p.memory (row p.number.0 said (past_of p own.2.0) ∷ run) ∷ []) in
      let sound : IsRun allows plot.layout h = subst (λ l. IsRun allows plot.layout (history_of plot.planting l)) own.2.1 kept.sound in
      let before : IsRun allows p.layout (past_of p own.2.0) = subst (λ (g : Plot). IsRun allows g.layout (history_of g.planting run)) (sym own.1) sound in
      let then = may own.2.0 own.2.2 before in
      let found : slice_index s.words at ≡ value h said.step.word = ap (slice_index s.words) is ∙ kept.holds said.step.word inside ∙ ap (λ l. value (history_of plot.planting l) said.step.word) own.2.1 in
      let stored : f (slice_index s.words at) ≡ r.after = after (slice_index s.words at) ∙ ap (word_after said.step.access) found in (
        w,
        keeps,
        tt,
        record {
          run = r ∷ run;
          size = length-set s.words at (f (slice_index s.words at)) ∙ kept.size;
          holds = rw stored (holds_more plot.layout s.words h r at is (rw kept.size small) apart (subst (λ l. (u : Word) → IsWord plot.layout u → slice_index s.words (place plot.layout u) ≡ value (history_of plot.planting l) u) own.2.1 kept.holds));
          sound = subst (λ (g : Plot). IsRun allows g.layout (row p.number.0 said (history_of g.planting run) ⊳ history_of g.planting run)) own.1 then;
          owner = kept.owner;
          passes = λ j v e. ⊎_elim
              (λ (t : (j ≡ id) × (w ≡ v)). subst (λ u. Owns plot (r ∷ run) kept.owner j u.passes) t.1 (subst (λ i. Owns plot (r ∷ run) kept.owner i w.passes) (sym t.0) (own.0, own.1, ([], ap (λ k. row p.number.0 said k ∷ run) (sym same), tt), tt, tt)))
              (λ (t : (j ≢ id) × (get_elem? s.views j ≡ some v)). owns_more plot run kept.owner j r (λ x. t.0 (sym x ∙ own.0)) v.passes (subst (λ l. Owns plot l kept.owner j v.passes) own.2.1 (kept.passes j v t.1)))
              (at_set s.views id j w v e);
        },
        (
          record {
            pass = p;
            others = own.2.0;
            was = one;
            by_others = own.2.2;
            before = before;
            after = then;
            told = subst (λ n. IsTold said.step.access n (told (slice_index s.words at))) (found ∙ ap (λ k. value k said.step.word) (sym same)) (tells (slice_index s.words at));
            is = refl;
          },
          refl,
        ),
      )

-- A look by the first of two passes

-- it is of a word of the table
pub head_inside : (lay : Layout) → IsWord lay (node 0 (Settled Head))
head_inside lay = let some = some_open lay in omega arith

-- it may always be made
pub look_lawful : (allows : Layout → History → ℕ → Type 0) (lay : Layout) (h : History) (c : ℕ) → c < lay.passes → IsRun allows lay h → IsRun allows lay (row c look h ⊳ h)
unfolding Lawful Shaped
look_lawful allows lay h c is_pass run = record {
  lawful = (run.lawful, record { before = refl; obeys = record { word = tt; same = refl }; pass = is_pass; word = head_inside lay });
  shaped = (run.shaped, λ s b. let k = b.kind in cc);
}

module _ (allows : Layout → History → ℕ → Type 0) (plot : Plot) (slots id : ℕ) (me : Me ℕ SeatView) (at : ℕ) (is : at ≡ place plot.layout (node 0 (Settled Head))) (small : at < table_size plot.layout) (apart : (w : Word) → IsWord plot.layout w → place plot.layout w ≡ at → w ≡ node 0 (Settled Head)) where
  pub looks : (p q : SeatedPass) → me.0.passes ≡ p ∷ q ∷ [] → p.number.0 < plot.layout.passes → Allows (TableIsLawful allows plot) slots id me at (λ n. n) (λ n m. Looked allows me.0.passes m.0.passes × (m.1 ≡ me.1))
  looks p q two is_pass s kept sized seat fits =
      let own : Owns plot kept.run kept.owner id (p ∷ q ∷ []) = subst (λ ps. Owns plot kept.run kept.owner id ps) two (kept.passes id me.0 seat) in
      let run : List Row = kept.run in
      let h : History = history_of plot.planting run in
      let r : Row = row p.number.0 look h in
      let mine : List Row = row p.number.0 look (history_of p.planting run) ∷ run in
      let w : SeatView = seat_view (q ∷ seated_pass p.number.0 p.layout p.planting p.memory mine ∷ []) in
      let found : slice_index s.words at ≡ value h (node 0 (Settled Head)) = ap (slice_index s.words) is ∙ kept.holds (node 0 (Settled Head)) (head_inside plot.layout) in
      let apart_passes : p.number.0 ≢ q.number.0 = λ e. own.3.0 (sym e) in
      let mine_is : mine ≡ r ∷ run = ap (λ (g : Plot). row p.number.0 look (history_of g.planting run) ∷ run) own.1 in (
        w,
        keeps,
        tt,
        record {
          run = r ∷ run;
          size = length-set s.words at (slice_index s.words at) ∙ kept.size;
          holds = rw found (holds_more plot.layout s.words h r at is (rw kept.size small) apart kept.holds);
          sound = look_lawful allows plot.layout h p.number.0 is_pass kept.sound;
          owner = kept.owner;
          passes = λ j v e. ⊎_elim
              (λ (t : (j ≡ id) × (w ≡ v)). subst (λ u. Owns plot (r ∷ run) kept.owner j u.passes) t.1 (subst (λ i. Owns plot (r ∷ run) kept.owner i w.passes) (sym t.0)
              (own.4.0, own.4.1, (r ∷ own.4.2.0, ap (λ (l : List Row). r ∷ l) own.4.2.1, (apart_passes, own.4.2.2)), (apart_passes, tt), (own.0, own.1, ([], sym mine_is, tt), tt, tt))))
              (λ (t : (j ≢ id) × (get_elem? s.views j ≡ some v)). owns_more plot run kept.owner j r (λ x. t.0 (sym x ∙ own.0)) v.passes (kept.passes j v t.1))
              (at_set s.views id j w v e);
        },
        (
          record {
            first = p;
            second = q;
            run = run;
            were = two;
            behind_first = own.2;
            behind_second = own.4.2;
            apart = apart_passes;
            same = own.4.1 ∙ sym own.1;
            before = subst (λ (g : Plot). IsRun allows g.layout (history_of g.planting run)) (sym own.1) kept.sound;
            after = subst (λ (g : Plot). IsRun allows g.layout (row p.number.0 look (history_of g.planting run) ⊳ history_of g.planting run)) (sym own.1) (look_lawful allows plot.layout h p.number.0 is_pass kept.sound);
            are = refl;
          },
          refl,
        ),
      )
