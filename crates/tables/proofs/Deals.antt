-- Dealing and joining passes keeps the rule.
use Rattle.std.proofs.Common.{◌≡◌, ◌≢◌, ◌<◌, ◌⊎◌, ℕ, zero, suc, List, [], ◌∷◌, ◌++◌, ◌==◌, length, if◌then◌else◌, set, sym, ap, refl, ◌∙◌, subst, ⊎_elim, inl, inr, arith, eq-eqb, ne_eqb, slice_index}
use mathlib.Core.Option.{some, some-injective, some-ne-none}
use lib.ListN.{get_elem?}
use Rattle.atomic_table.specs.Table.{State, Splits, Joins, opening}
use Rattle.atomic_table.proofs.Lists.{at_set}
use Rattle.histories.specs.Common.{Layout, Row, Word, place, table_size, IsWord, History, Opened, value, IsRun}
use Rattle.planting.specs.Plantings.{opening_for}
use Rattle.tables.specs.declared.memory.PassMemory.{PassMemory}
use Rattle.tables.specs.declared.rule.Plot.{Plot}
use Rattle.tables.specs.declared.view.SeatedPass.{SeatedPass}
use Rattle.tables.specs.declared.view.SeatView.{SeatView}
use Rattle.tables.specs.TableRule.{TableIsLawful, Owns, Absent, all_dealt, seat_view, new_passes, passes_with, rest_of_seat, first_of_seat, joined_seat, rest_of, first_of}

pub snoc_at : {A : Type 0} (l : List A) (a b : A) (j : ℕ) → get_elem? (l ++ a ∷ []) j ≡ some b → (get_elem? l j ≡ some b) ⊎ ((j ≡ length l) × (a ≡ b))
snoc_at [] a b zero e = inr (refl, some-injective a b e)
snoc_at [] a b (suc j) e = absurd (some-ne-none b (sym e))
snoc_at (x ∷ xs) a b zero e = inl e
snoc_at (x ∷ xs) a b (suc j) e = ⊎_elim (λ h. inl h) (λ t. inr (ap suc t.0, t.1)) (snoc_at xs a b j e)

-- the pass n has a new seat
pub moved : (ℕ → ℕ) → ℕ → ℕ → ℕ → ℕ
moved owner n to x = if x == n then to else owner x

pub moved_here : (owner : ℕ → ℕ) (n to : ℕ) → moved owner n to n ≡ to
unfolding moved
moved_here owner n to = rw (eq-eqb n n refl) refl

pub moved_else : (owner : ℕ → ℕ) (n to x : ℕ) → x ≢ n → moved owner n to x ≡ owner x
unfolding moved
moved_else owner n to x ne = rw (ne_eqb x n ne) refl

-- the passes of a seat have another
pub merged : (ℕ → ℕ) → ℕ → ℕ → ℕ → ℕ
merged owner id other x = if owner x == other then id else owner x

pub merged_here : (owner : ℕ → ℕ) (id other x : ℕ) → owner x ≡ other → merged owner id other x ≡ id
unfolding merged
merged_here owner id other x e = rw (eq-eqb (owner x) other e) refl

pub merged_else : (owner : ℕ → ℕ) (id other x : ℕ) → owner x ≢ other → merged owner id other x ≡ owner x
unfolding merged
merged_else owner id other x ne = rw (ne_eqb (owner x) other ne) refl

module _ (plot : Plot) (run : List Row) (owner : ℕ → ℕ) where
  pub absent_of : (n j : ℕ) → owner n ≢ j → (ps : List SeatedPass) → Owns plot run owner j ps → Absent n ps
  absent_of n j ne [] h = tt
  absent_of n j ne (p ∷ ps) h = ((λ e. ne (ap owner (sym e) ∙ h.0)), absent_of n j ne ps h.4)

  -- another owner function that agrees on these passes
  pub owned_by : (other : ℕ → ℕ) (j k : ℕ) → ((x : ℕ) → owner x ≡ j → other x ≡ k) → (ps : List SeatedPass) → Owns plot run owner j ps → Owns plot run other k ps
  owned_by other j k same [] h = tt
  owned_by other j k same (p ∷ ps) h = (same p.number.0 h.0, h.1, h.2, h.3, owned_by other j k same ps h.4)

  pub owned_apart : (n to j : ℕ) (ps : List SeatedPass) → Absent n ps → Owns plot run owner j ps → Owns plot run (moved owner n to) j ps
  owned_apart n to j [] a h = tt
  owned_apart n to j (p ∷ ps) a h = (moved_else owner n to p.number.0 a.0 ∙ h.0, h.1, h.2, h.3, owned_apart n to j ps a.1 h.4)

  absent_both : (n : ℕ) (ps qs : List SeatedPass) → Absent n ps → Absent n qs → Absent n (ps ++ qs)
  absent_both n [] qs a b = b
  absent_both n (p ∷ ps) qs a b = (a.0, absent_both n ps qs a.1 b)

  pub owned_both : (id other : ℕ) → id ≢ other → (ps qs : List SeatedPass) → Owns plot run owner id ps → Owns plot run owner other qs → Owns plot run (merged owner id other) id (ps ++ qs)
  owned_both id other ne [] qs h k = owned_by (merged owner id other) other id (λ x e. merged_here owner id other x e) qs k
  owned_both id other ne (p ∷ ps) qs h k = (
    merged_else owner id other p.number.0 (λ e. ne (sym h.0 ∙ e)) ∙ h.0,
    h.1,
    h.2,
    absent_both p.number.0 ps qs h.3 (absent_of p.number.0 other (λ e. ne (sym h.0 ∙ e)) qs k),
    owned_both id other ne ps qs h.4 k,
  )

-- passes that are new are apart, and their seat's own
absent_below : (memory : ℕ → PassMemory) (plot : Plot) (k from n : ℕ) → k < from → Absent k (passes_with memory plot from n)
absent_below memory plot k from zero h = tt
absent_below memory plot k from (suc n) h = ((λ e. omega (arith, e, h)), absent_below memory plot k (suc from) n (omega (arith, h)))

pub owns_new : (memory : ℕ → PassMemory) (plot : Plot) (from n : ℕ) → Owns plot [] (λ _. 0) 0 (passes_with memory plot from n)
owns_new memory plot from zero = tt
owns_new memory plot from (suc n) = (refl, refl, ([], refl, tt), absent_below memory plot from (suc from) n (omega arith), owns_new memory plot (suc from) n)

module _ (allows : Layout → History → ℕ → Type 0) (plot : Plot) where
  -- the rule holds of other views where it holds of all of them
  reseated : (s : State ℕ SeatView) (views : List SeatView) (kept : TableIsLawful allows plot s) (owner : ℕ → ℕ) → ((id : ℕ) (v : SeatView) → get_elem? views id ≡ some v → Owns plot kept.run owner id v.passes) → TableIsLawful allows plot (record { words = s.words; homes = s.homes; views = views })
  reseated s views kept owner passes = record { run = kept.run; size = kept.size; holds = kept.holds; sound = kept.sound; owner = owner; passes = passes }

  pub joins : (id other : ℕ) (v w : SeatView) → Joins (TableIsLawful allows plot) id v other w (joined_seat v w) (seat_view [])
  joins id other v w s kept at ne at_other =
      let run = kept.run in
      let owner = kept.owner in
      let fine : id ≢ other = λ e. ne (sym e) in
      let mine = kept.passes id v at in
      let theirs : Owns plot run owner other w.passes = ⊎_elim
      (λ (t : (other ≡ id) × (joined_seat v w ≡ w)). absurd (ne t.0))
      (λ (t : (other ≢ id) × (get_elem? s.views other ≡ some w)). kept.passes other w t.1)
      (at_set s.views id other (joined_seat v w) w at_other) in
      reseated s _ kept (merged owner id other) (λ j u e. ⊎_elim
      (λ (t : (j ≡ other) × (seat_view [] ≡ u)). subst (λ x. Owns plot run (merged owner id other) j x.passes) t.1 tt)
      (λ (t : (j ≢ other) × (get_elem? (set s.views id (joined_seat v w)) j ≡ some u)). ⊎_elim
      (λ (here : (j ≡ id) × (joined_seat v w ≡ u)). subst (λ x. Owns plot run (merged owner id other) j x.passes) here.1
      (subst (λ i. Owns plot run (merged owner id other) i (v.passes ++ w.passes)) (sym here.0) (owned_both plot run owner id other fine v.passes w.passes mine theirs)))
      (λ (away : (j ≢ id) × (get_elem? s.views j ≡ some u)). owned_by plot run owner (merged owner id other) j j
      (λ x is. merged_else owner id other x (λ e2. t.0 (sym is ∙ e2)) ∙ is) u.passes (kept.passes j u away.1))
      (at_set s.views id j (joined_seat v w) u t.1))
      (at_set (set s.views id (joined_seat v w)) other j (seat_view []) u e))

  splits_list : (id : ℕ) (v : SeatView) (ps : List SeatedPass) → v.passes ≡ ps → Splits (TableIsLawful allows plot) id v (seat_view (rest_of ps)) (seat_view (first_of ps))
  splits_list id v [] is s kept at = reseated s _ kept kept.owner (λ j u e. ⊎_elim
      (λ (t : get_elem? (set s.views id (seat_view [])) j ≡ some u). ⊎_elim
      (λ (here : (j ≡ id) × (seat_view [] ≡ u)). subst (λ x. Owns plot kept.run kept.owner j x.passes) here.1 tt)
      (λ (away : (j ≢ id) × (get_elem? s.views j ≡ some u)). kept.passes j u away.1)
      (at_set s.views id j (seat_view []) u t))
      (λ (t : (j ≡ length (set s.views id (seat_view []))) × (seat_view [] ≡ u)). subst (λ x. Owns plot kept.run kept.owner j x.passes) t.1 tt)
      (snoc_at (set s.views id (seat_view [])) (seat_view []) u j e))
  splits_list id v (p ∷ ps) is s kept at =
      let run = kept.run in
      let owner = kept.owner in
      let own : Owns plot run owner id (p ∷ ps) = subst (λ l. Owns plot run owner id l) is (kept.passes id v at) in
      let old : List SeatView = set s.views id (seat_view ps) in
      let new : ℕ → ℕ = moved owner p.number.0 (length old) in
      reseated s _ kept new (λ j u e. ⊎_elim
      (λ (t : get_elem? old j ≡ some u). ⊎_elim
      (λ (here : (j ≡ id) × (seat_view ps ≡ u)). subst (λ x. Owns plot run new j x.passes) here.1
      (subst (λ i. Owns plot run new i ps) (sym here.0) (owned_apart plot run owner p.number.0 (length old) id ps own.3 own.4)))
      (λ (away : (j ≢ id) × (get_elem? s.views j ≡ some u)). owned_apart plot run owner p.number.0 (length old) j u.passes
      (absent_of plot run owner p.number.0 j (λ x. away.0 (sym x ∙ own.0)) u.passes (kept.passes j u away.1)) (kept.passes j u away.1))
      (at_set s.views id j (seat_view ps) u t))
      (λ (t : (j ≡ length old) × (seat_view (p ∷ []) ≡ u)). subst (λ x. Owns plot run new j x.passes) t.1
      (subst (λ i. Owns plot run new i (p ∷ [])) (sym t.0) (moved_here owner p.number.0 (length old), own.1, own.2, tt, tt)))
      (snoc_at old (seat_view (p ∷ [])) u j e))

  pub splits : (id : ℕ) (v : SeatView) → Splits (TableIsLawful allows plot) id v (rest_of_seat v) (first_of_seat v)
  splits id v = splits_list id v v.passes refl

  -- the rule holds of words as they are at the start
  pub opens : (words : List ℕ) (n : ℕ) → length words ≡ table_size plot.layout → ((w : Word) → IsWord plot.layout w → slice_index words (place plot.layout w) ≡ (opening_for plot.planting).words w) → IsRun allows plot.layout (Opened (opening_for plot.planting)) → TableIsLawful allows plot (opening words [] (seat_view (new_passes plot 0 n)))
  unfolding value
  opens words n size holds sound = record {
    run = [];
    size = size;
    holds = holds;
    sound = sound;
    owner = λ _. 0;
    passes = λ j u e. ⊎_elim
        (λ (t : get_elem? {A = SeatView} [] j ≡ some u). absurd (some-ne-none u (sym t)))
        (λ (t : (j ≡ 0) × (seat_view (new_passes plot 0 n) ≡ u)). subst (λ x. Owns plot [] (λ _. 0) j x.passes) t.1 (subst (λ i. Owns plot [] (λ _. 0) i (new_passes plot 0 n)) (sym t.0) (owns_new (all_dealt plot.layout) plot 0 n)))
        (snoc_at [] (seat_view (new_passes plot 0 n)) u j e);
  }
