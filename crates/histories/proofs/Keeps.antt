-- A row that freezes nothing and wins nothing keeps the facts.
use Rattle.std.proofs.Common.{◌≡◌, ◌≢◌, ℕ, ◌<◌, ◌⊎◌, inl, inr, ⊎_elim, sym, ◌∙◌, arith, subst}
use native.Mathlib.Decide.{ℕ_discrete}
use Rattle.histories.specs.Common.{NodeWord, Child, ScxWord, AllFrozen, Plan, Layout, Row, node, scx, info, marked, state, History, ◌⊳◌, value}
use Rattle.histories.specs.Common.{HasHeld, side_of, plan, member, seen, IsNamed, IsNamedScx, HasWon, descriptor, count_in, field_in, IsStuck}
use Rattle.arena.proofs.Lemmas.{held_more, held_back}
use Rattle.histories.proofs.Changes.{IsNodeFill, IsScxFill}
use Rattle.histories.proofs.Facts.{IsLive, About, IsCell, IsFlagged, IsMarker, Holds, AllMarked, IsEnded, Facts, descriptor_same, won_more, member_named, some_is_real, flagged_about}

-- the row ends s: by a commit, or by an abort
abbrev pub Ends : History → ℕ → ℕ → Type 0
Ends h s v = ((v ≡ 1) × HasWon h s) ⊎ ((v ≡ 2) × IsStuck (descriptor h s) h s × ¬ HasWon h s)

-- the row marks n for an SCX-record in progress
pub record Marks (h : History) (n v : ℕ) : Type 0 where
  pub stored : v ≡ 1
  pub scx : ℕ
  pub marker : IsMarker (descriptor h scx) h scx n
  pub running : value h (state scx) ≡ 0

-- each word that matters stays, or changes in one of the known ways
pub record Kept (lay : Layout) (h : History) (r : Row) : Type 0 where
  pub won : (s : ℕ) → HasWon (r ⊳ h) s → HasWon h s
  pub settled : (s : ℕ) → s ≢ 0 → IsNamedScx h s → (a : ScxWord) → IsScxFill a → value (r ⊳ h) (scx s a) ≡ value h (scx s a)
  pub empty : value (r ⊳ h) (scx 0 Plan) ≡ value h (scx 0 Plan)
  pub info : (n : ℕ) → value (r ⊳ h) (info n) ≡ value h (info n)
  pub node : (n : ℕ) (part : NodeWord) → IsNodeFill part → IsNamed lay h n → value (r ⊳ h) (node n part) ≡ value h (node n part)
  pub state : (s : ℕ) → (value (r ⊳ h) (state s) ≡ value h (state s)) ⊎ Ends h s (value (r ⊳ h) (state s))
  pub flag : (s : ℕ) → (value (r ⊳ h) (scx s AllFrozen) ≡ value h (scx s AllFrozen)) ⊎ ((value (r ⊳ h) (scx s AllFrozen) ≡ 1) × IsFlagged (descriptor h s) h s)
  pub mark : (n : ℕ) → (value (r ⊳ h) (marked n) ≡ value h (marked n)) ⊎ Marks h n (value (r ⊳ h) (marked n))

module _ {lay : Layout} {h : History} {r : Row} (f : Facts lay h) (k : Kept lay h r) where
  -- the flag and the marks are never taken back
  pub flag_stays : (s : ℕ) → value h (scx s AllFrozen) ≡ 1 → value (r ⊳ h) (scx s AllFrozen) ≡ 1
  flag_stays s e = ⊎_elim (λ q. q ∙ e) (λ x. x.0) (k.flag s)

  pub mark_stays : (n : ℕ) → value h (marked n) ≡ 1 → value (r ⊳ h) (marked n) ≡ 1
  mark_stays n e = ⊎_elim (λ q. q ∙ e) (λ x. x.stored) (k.mark n)

  -- what is finished stays so
  pub stays_ended : (s : ℕ) → value (r ⊳ h) (state s) ≡ 0 → value h (state s) ≡ 0
  stays_ended s e = ⊎_elim
      (λ q. sym q ∙ e)
      (λ x. ⊎_elim (λ y. absurd (let z = y.0 in omega arith)) (λ y. absurd (let z = y.0 in omega arith)) x)
      (k.state s)

  -- a finished state never changes
  pub same_end : (s : ℕ) → value h (state s) ≢ 0 → value (r ⊳ h) (state s) ≡ value h (state s)
  same_end s d = ⊎_elim (λ q. q) (λ x. go x (f.ended s d)) (k.state s)
    where
      go : Ends h s (value (r ⊳ h) (state s)) → IsEnded h s (value h (state s)) → value (r ⊳ h) (state s) ≡ value h (state s)
      go (inl x) (inl y) = x.0 ∙ sym y.0
      go (inr x) (inr y) = x.0 ∙ sym y.0
      go (inl x) (inr y) = absurd (y.1 x.1)
      go (inr x) (inl y) = absurd (x.2 y.1)

  back : (n s : ℕ) → HasHeld (r ⊳ h) (info n) s → HasHeld h (info n) s
  back n s p = held_back r h _ s (k.info n) p

  same_descriptor : (s n : ℕ) → s ≢ 0 → HasHeld h (info n) s → descriptor (r ⊳ h) s ≡ descriptor h s
  same_descriptor s n z p = descriptor_same h (r ⊳ h) s (k.settled s z (n, p))

  flagged_descriptor : (s : ℕ) → IsFlagged (descriptor h s) h s → descriptor (r ⊳ h) s ≡ descriptor h s
  flagged_descriptor s x = same_descriptor s (member h s 0) (some_is_real f x.some) (x.frozen 0 x.some)

  ended_then : (s : ℕ) → value (r ⊳ h) (state s) ≢ 0 → IsEnded (r ⊳ h) s (value (r ⊳ h) (state s))
  ended_then s d = ⊎_elim (λ q. rw q (old (f.ended s (λ e. d (q ∙ e))))) new (k.state s)
    where
      old : IsEnded h s (value h (state s)) → IsEnded (r ⊳ h) s (value h (state s))
      old (inl x) = inl (x.0, won_more r h s x.1)
      old (inr x) = inr (x.0, λ w. x.1 (k.won s w))

      new : Ends h s (value (r ⊳ h) (state s)) → IsEnded (r ⊳ h) s (value (r ⊳ h) (state s))
      new (inl x) = inl (x.0, won_more r h s x.1)
      new (inr x) = inr (x.0, λ w. x.2 (k.won s w))

  flagged_then : (s : ℕ) → value (r ⊳ h) (scx s AllFrozen) ≢ 0 → IsFlagged (descriptor (r ⊳ h) s) (r ⊳ h) s
  flagged_then s d =
      let x : IsFlagged (descriptor h s) h s = ⊎_elim (λ q. f.flagged s (λ e. d (q ∙ e))) (λ y. y.1) (k.flag s) in
      let y : IsFlagged (descriptor h s) (r ⊳ h) s = record { some = x.some; frozen = λ j i. held_more r h _ s (x.frozen j i) } in
      subst (λ d. IsFlagged d (r ⊳ h) s) (sym (flagged_descriptor s x)) y

  finalizes_then : (s : ℕ) → value (r ⊳ h) (scx s AllFrozen) ≢ 0 → Holds (descriptor (r ⊳ h) s) (r ⊳ h) s
  finalizes_then s d = go (k.flag s)
    where
      then : IsFlagged (descriptor h s) h s → Holds (descriptor h s) h s → Holds (descriptor (r ⊳ h) s) (r ⊳ h) s
      then x g =
          let y : Holds (descriptor h s) (r ⊳ h) s = λ j i e. k.info _ ∙ g j i e in
          subst (λ d. Holds d (r ⊳ h) s) (sym (flagged_descriptor s x)) y

      first : IsFlagged (descriptor h s) h s → Dec (value h (state s) ≡ 0) → Holds (descriptor h s) h s
      first x (yes c) j i e = (flagged_about f x).holds j i (x.frozen j i) c
      first x (no c) j i e = ⊎_elim
          (λ w. f.finalizes s (λ z. let y = f.winner s w in omega arith) j i e)
          (λ y. absurd (y.unfrozen (x.frozen y.index y.within)))
          ((flagged_about f x).done c)

      go : (value (r ⊳ h) (scx s AllFrozen) ≡ value h (scx s AllFrozen)) ⊎ ((value (r ⊳ h) (scx s AllFrozen) ≡ 1) × IsFlagged (descriptor h s) h s) → Holds (descriptor (r ⊳ h) s) (r ⊳ h) s
      go (inl q) = let c : value h (scx s AllFrozen) ≢ 0 = λ e. d (q ∙ e) in then (f.flagged s c) (f.finalizes s c)
      go (inr x) = then x.1 (first x.1 (ℕ_discrete (value h (state s)) 0))

  won_descriptor : (s : ℕ) → value h (scx s AllFrozen) ≡ 1 → descriptor (r ⊳ h) s ≡ descriptor h s
  won_descriptor s e = flagged_descriptor s (f.flagged s (λ z. omega arith))

  marked_then : (n : ℕ) → value (r ⊳ h) (marked n) ≢ 0 → (s : ℕ) × IsMarker (descriptor (r ⊳ h) s) (r ⊳ h) s n
  marked_then n d =
      let m : (s : ℕ) × IsMarker (descriptor h s) h s n = ⊎_elim (λ q. f.marked n (λ e. d (q ∙ e))) (λ x. (x.scx, x.marker)) (k.mark n) in
      let y : IsMarker (descriptor h m.0) (r ⊳ h) m.0 n = record { flag = flag_stays m.0 m.1.flag; index = m.1.index; within = m.1.within; is = m.1.is; removed = m.1.removed; holds = k.info n ∙ m.1.holds } in
      (m.0, subst (λ d. IsMarker d (r ⊳ h) m.0 n) (sym (won_descriptor m.0 m.1.flag)) y)

  all_marked_then : (s : ℕ) → HasWon h s → AllMarked (descriptor (r ⊳ h) s) (r ⊳ h)
  all_marked_then s w =
      let y : AllMarked (descriptor h s) (r ⊳ h) = λ j i e. mark_stays _ (f.all_marked s w j i e) in
      subst (λ d. AllMarked d (r ⊳ h)) (sym (won_descriptor s (f.winner s w))) y

  cell_then : (s n : ℕ) → s ≢ 0 → HasHeld h (info n) s → IsCell (descriptor (r ⊳ h) s) (r ⊳ h) s n
  cell_then s n z p =
      let c : IsCell (descriptor h s) h s n = f.cell s n z p in
      let y : IsCell (descriptor h s) (r ⊳ h) s n = record { index = c.index; within = c.within; is = c.is; earlier = λ i x. held_more r h _ s (c.earlier i x) } in
      subst (λ d. IsCell d (r ⊳ h) s n) (sym (same_descriptor s n z p)) y

  about_then : (s n : ℕ) → s ≢ 0 → HasHeld h (info n) s → About lay (descriptor h s) h s → About lay (descriptor (r ⊳ h) s) (r ⊳ h) s
  about_then s n z p a = subst (λ d. About lay d (r ⊳ h) s) (sym (same_descriptor s n z p)) record {
    owned = a.owned;
    planned = a.planned;
    inside = a.inside;
    distinct = a.distinct;
    rest = λ j i e. a.rest j i (stays_ended _ e);
    holds = λ j i q e. k.info _ ∙ a.holds j i (back _ s q) (stays_ended s e);
    gone = λ j i q e. a.gone j i (back _ s q) (sym (k.info _) ∙ e);
    done = λ e. ⊎_elim (λ w. inl (won_more r h s w)) (λ x. inr record { index = x.index; within = x.within; earlier = λ i l. held_more r h _ s (x.earlier i l); unfrozen = λ q. x.unfrozen (back _ s q); passed = λ q. x.passed (sym (k.info _) ∙ q) }) (done e (k.state s));
    steady = λ l. ⊎_elim (λ e. inl (same_field ∙ e)) (λ w. inr (won_more r h s w)) (a.steady (live l));
    moved = λ w e. a.moved (k.won s w) (sym same_field ∙ e);
    fresh = λ l w q. a.fresh (live l) (λ v. w (won_more r h s v)) (held_back r h _ _ same_field q);
    had = λ q. held_more r h _ _ (a.had (back _ s q));
    clean = λ j i e. clean j i (sym (k.info _) ∙ e) (k.mark (member h s j));
  }
    where
      done : value (r ⊳ h) (state s) ≢ 0 → (value (r ⊳ h) (state s) ≡ value h (state s)) ⊎ Ends h s (value (r ⊳ h) (state s)) → HasWon h s ⊎ IsStuck (descriptor h s) h s
      done e (inl q) = a.done (λ x. e (q ∙ x))
      done e (inr (inl x)) = inl x.1
      done e (inr (inr x)) = inr x.1

      clean : (j : ℕ) → j < count_in (descriptor h s) → value h (info (member h s j)) ≡ seen h s j → (value (r ⊳ h) (marked (member h s j)) ≡ value h (marked (member h s j))) ⊎ Marks h (member h s j) (value (r ⊳ h) (marked (member h s j))) → value (r ⊳ h) (marked (member h s j)) ≡ 0
      clean j i e (inl q) = q ∙ a.clean j i e
      clean j i e (inr x) = absurd (a.rest j i (rw (sym x.marker.holds ∙ e) at x.running))

      same_field : value (r ⊳ h) (field_in (descriptor h s)) ≡ value h (field_in (descriptor h s))
      same_field = k.node _ (Child (side_of (plan h s))) tt (member_named lay h s n _ p)

      live : IsLive (descriptor h s) (r ⊳ h) s → IsLive (descriptor h s) h s
      live (inl e) = inl (sym (k.info _) ∙ e)
      live (inr q) = inr (back _ s q.0, stays_ended s q.1)

  pub keeps : Facts lay (r ⊳ h)
  keeps = record {
    dummy = same_end 0 (λ e. let x = f.dummy in omega arith) ∙ f.dummy;
    empty = k.empty ∙ f.empty;
    ended = ended_then;
    flag = λ s d. ⊎_elim (λ q. q ∙ f.flag s (λ e. d (q ∙ e))) (λ x. x.0) (k.flag s);
    flagged = flagged_then;
    winner = λ s w. flag_stays s (f.winner s (k.won s w));
    finalizes = finalizes_then;
    cell = λ s n z p. cell_then s n z (back n s p);
    about = λ s n z p. about_then s n z (back n s p) (f.about s n z (back n s p));
    mark = λ n d. ⊎_elim (λ q. q ∙ f.mark n (λ e. d (q ∙ e))) (λ x. x.stored) (k.mark n);
    marked = marked_then;
    all_marked = λ s w. all_marked_then s (k.won s w);
  }
