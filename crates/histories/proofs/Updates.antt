-- An updating exchange that wins keeps the facts.
use Rattle.std.proofs.Common.{◌≡◌, ◌≢◌, ℕ, Bool, true, false, ◌⊎◌, inl, inr, ⊎_elim, refl, sym, ◌∙◌, arith, subst}
use native.Mathlib.Decide.{ℕ_discrete}
use Rattle.histories.specs.Common.{Child, Info, Marked, ScxWord, State, AllFrozen, Plan, Word, Layout, Row, same_word, scx, info, marked, state, History}
use Rattle.histories.specs.Common.{◌⊳◌, value, HasHeld, side_of, plan, field_index, member, new, old, field, IsUpdate, IsWin, HasWon, descriptor, IsStuck}
use Rattle.arena.proofs.Lemmas.{value_at, value_apart, held_at, held_more, held_back, node_word_apart, word_same, word_refl}
use Rattle.histories.specs.Progress.{Froze}
use Rattle.histories.proofs.Changes.{UpdateWins}
use Rattle.histories.proofs.Facts.{IsLive, About, IsCell, IsFlagged, IsMarker, Holds, AllMarked, IsEnded, Facts, descriptor_same, won_more, won_split, flagged_about, child_node}

-- an SCX-record whose update finds `old` is in progress and holds its field's node
module _ {lay : Layout} {h : History} {r : Row} {s : ℕ} (f : Facts lay h) (v : r.before ≡ value h r.word) (y : IsUpdate h r s) (e : r.before ≡ old h s) where
  pub win_flagged : IsFlagged (descriptor h s) h s
  win_flagged = f.flagged s (λ e. let x = y.all_frozen in omega arith)

  pub win_about : About lay (descriptor h s) h s
  win_about = flagged_about f win_flagged

  win_found : value h (field h s) ≡ old h s
  win_found = rw y.word at (sym v) ∙ e

  win_is_first : ¬ HasWon h s
  win_is_first w = win_about.moved w win_found

  pub win_running : value h (state s) ≡ 0
  win_running = go (ℕ_discrete (value h (state s)) 0)
    where
      go : Dec (value h (state s) ≡ 0) → value h (state s) ≡ 0
      go (yes q) = q
      go (no d) = ⊎_elim (λ w. absurd (win_is_first w)) (λ x. absurd (x.unfrozen (win_flagged.frozen x.index x.within))) (win_about.done d)

  win_froze : Froze (descriptor h s) h s (field_index h s)
  win_froze = win_flagged.frozen (field_index h s) win_about.planned.field

  win_holds : value h (info (member h s (field_index h s))) ≡ s
  win_holds = win_about.holds (field_index h s) win_about.planned.field win_froze win_running

  win_fresh : ¬ HasHeld h (field h s) (new h s)
  win_fresh = win_about.fresh (inr (win_froze, win_running)) win_is_first

module _ {lay : Layout} {h : History} {r : Row} {u : ℕ} (f : Facts lay h) (w : UpdateWins h r u) where
  pub update_flagged : IsFlagged (descriptor h u) h u
  update_flagged = win_flagged f w.before w.update w.found

  pub update_about : About lay (descriptor h u) h u
  update_about = win_about f w.before w.update w.found

  pub update_in_progress : value h (state u) ≡ 0
  update_in_progress = win_running f w.before w.update w.found

  pub update_is_first : ¬ HasWon h u
  update_is_first = win_is_first f w.before w.update w.found

  pub update_holds : value h (info (member h u (field_index h u))) ≡ u
  update_holds = win_holds f w.before w.update w.found

  update_fresh : ¬ HasHeld h (field h u) (new h u)
  update_fresh = win_fresh f w.before w.update w.found

  pub update_finds : value h (field h u) ≡ old h u
  update_finds = win_found f w.before w.update w.found

  pub update_differs : new h u ≢ old h u
  update_differs e = update_fresh (held_at h _ _ (update_finds ∙ sym e))

  pub update_changes : r.before ≢ r.after
  update_changes e = update_differs (sym w.stored ∙ sym e ∙ w.found)

  pub update_win : IsWin h r u
  update_win = record { kind = w.kind; update = w.update; found = w.found; changed = update_changes }

  pub update_won : HasWon (r ⊳ h) u
  unfolding HasWon
  update_won = inl update_win

  -- the row is an update of one SCX-record only
  pub update_only : (s : ℕ) → IsWin h r s → s ≡ u
  update_only s x =
      let c : member h s (field_index h s) ≡ member h u (field_index h u) = child_node _ _ _ _ (sym x.update.word ∙ w.update.word) in
      sym (win_holds f w.before x.update x.found) ∙ rw c update_holds

  pub update_split : (s : ℕ) → HasWon (r ⊳ h) s → (s ≡ u) ⊎ HasWon h s
  update_split s x = ⊎_elim (λ y. inl (update_only s y)) (λ y. inr y) (won_split r h s x)

  pub update_keeps_scx : (s : ℕ) (c : ScxWord) → value (r ⊳ h) (scx s c) ≡ value h (scx s c)
  update_keeps_scx s c = value_apart r h (field h u) (scx s c) w.update.word refl

  pub update_keeps_info : (n : ℕ) → value (r ⊳ h) (info n) ≡ value h (info n)
  update_keeps_info n = value_apart r h (field h u) (info n) w.update.word (node_word_apart _ n (Child (side_of (plan h u))) Info refl)

  pub update_keeps_other : (w : Word) → same_word (field h u) w ≡ false → value (r ⊳ h) w ≡ value h w
  update_keeps_other x d = value_apart r h (field h u) x w.update.word d

  pub update_keeps_mark : (n : ℕ) → value (r ⊳ h) (marked n) ≡ value h (marked n)
  update_keeps_mark n = value_apart r h (field h u) (marked n) w.update.word (node_word_apart _ n (Child (side_of (plan h u))) Marked refl)

  pub update_descriptor : (s : ℕ) → descriptor (r ⊳ h) s ≡ descriptor h s
  update_descriptor s = descriptor_same h (r ⊳ h) s (λ c i. update_keeps_scx s c)

  pub update_held : (n s : ℕ) → HasHeld (r ⊳ h) (info n) s → HasHeld h (info n) s
  update_held n s p = held_back r h _ s (update_keeps_info n) p

  live_before : (s : ℕ) → IsLive (descriptor h s) (r ⊳ h) s → IsLive (descriptor h s) h s
  live_before s (inl e) = inl (sym (update_keeps_info _) ∙ e)
  live_before s (inr p) = inr (update_held _ s p.0, sym (update_keeps_scx s State) ∙ p.1)

  -- another cannot be live at this node
  not_live : (s : ℕ) → s ≢ u → About lay (descriptor h s) h s → member h u (field_index h u) ≡ member h s (field_index h s) → IsLive (descriptor h s) h s → ⊥
  not_live s d x q (inl e) = x.rest (field_index h s) x.planned.field (rw (sym update_holds ∙ rw (← q) at e) at update_in_progress)
  not_live s d x q (inr p) = d (sym (x.holds (field_index h s) x.planned.field p.0 p.1) ∙ rw q at update_holds)

  same_place : (s : ℕ) → same_word (field h u) (field h s) ≡ true → member h u (field_index h u) ≡ member h s (field_index h s)
  same_place s t = child_node _ _ _ _ (word_same (field h u) (field h s) t)

  about_then : (s : ℕ) → About lay (descriptor h s) h s → About lay (descriptor h s) (r ⊳ h) s
  about_then s x = record {
    owned = x.owned;
    planned = x.planned;
    inside = x.inside;
    distinct = x.distinct;
    rest = λ i l e. x.rest i l (sym (update_keeps_scx _ State) ∙ e);
    holds = λ i l p e. update_keeps_info _ ∙ x.holds i l (update_held _ s p) (sym (update_keeps_scx s State) ∙ e);
    gone = λ i l p e. x.gone i l (update_held _ s p) (sym (update_keeps_info _) ∙ e);
    done = λ e. ⊎_elim (λ y. inl (won_more r h s y)) (λ y. inr (stuck y)) (x.done (λ q. e (update_keeps_scx s State ∙ q)));
    steady = λ l. steady l (same_word (field h u) (field h s)) refl (ℕ_discrete s u);
    moved = λ y e. moved (update_split s y) e (same_word (field h u) (field h s)) refl;
    fresh = λ l y p. fresh l y p (same_word (field h u) (field h s)) refl (ℕ_discrete s u);
    had = λ p. held_more r h _ _ (x.had (update_held _ s p));
    clean = λ i l e. update_keeps_mark _ ∙ x.clean i l (sym (update_keeps_info _) ∙ e);
  }
    where
      stuck : IsStuck (descriptor h s) h s → IsStuck (descriptor h s) (r ⊳ h) s
      stuck y = record {
        index = y.index;
        within = y.within;
        earlier = λ i l. held_more r h _ s (y.earlier i l);
        unfrozen = λ q. y.unfrozen (update_held _ s q);
        passed = λ q. y.passed (sym (update_keeps_info _) ∙ q);
      }

      steady : IsLive (descriptor h s) (r ⊳ h) s → (t : Bool) → same_word (field h u) (field h s) ≡ t → Dec (s ≡ u) → (value (r ⊳ h) (field h s) ≡ old h s) ⊎ HasWon (r ⊳ h) s
      steady l false t d = ⊎_elim (λ e. inl (update_keeps_other _ t ∙ e)) (λ y. inr (won_more r h s y)) (x.steady (live_before s l))
      steady l true t (yes e) = inr (rw e update_won)
      steady l true t (no d) = absurd (not_live s d x (same_place s t) (live_before s l))

      frozen_at : (s ≡ u) ⊎ HasWon h s → Froze (descriptor h s) h s (field_index h s)
      frozen_at (inl e) = rw e (update_flagged.frozen (field_index h u) update_about.planned.field)
      frozen_at (inr y) = (f.flagged s (λ e. let z = f.winner s y in omega arith)).frozen (field_index h s) x.planned.field

      moved : (s ≡ u) ⊎ HasWon h s → value (r ⊳ h) (field h s) ≡ old h s → (t : Bool) → same_word (field h u) (field h s) ≡ t → ⊥
      moved o e true t =
          let q : field h u ≡ field h s = word_same (field h u) (field h s) t in
          let y : new h u ≡ old h s = sym w.stored ∙ sym (value_at r h (field h s) (w.update.word ∙ q)) ∙ e in
          update_fresh (rw (q, y) (x.had (frozen_at o)))
      moved (inl o) e false t = let y : true ≡ false = sym (word_refl (field h u)) ∙ rw o at t in cc
      moved (inr o) e false t = x.moved o (sym (update_keeps_other _ t) ∙ e)

      fresh : IsLive (descriptor h s) (r ⊳ h) s → ¬ HasWon (r ⊳ h) s → HasHeld (r ⊳ h) (field h s) (new h s) → (t : Bool) → same_word (field h u) (field h s) ≡ t → Dec (s ≡ u) → ⊥
      fresh l y p false t d = x.fresh (live_before s l) (λ q. y (won_more r h s q)) (held_back r h _ _ (update_keeps_other _ t) p)
      fresh l y p true t (yes e) = y (rw e update_won)
      fresh l y p true t (no d) = not_live s d x (same_place s t) (live_before s l)

  pub after_update : Facts lay (r ⊳ h)
  after_update = record {
    dummy = update_keeps_scx 0 State ∙ f.dummy;
    empty = update_keeps_scx 0 Plan ∙ f.empty;
    ended = λ s d. rw (update_keeps_scx s State) (ended s (λ e. d (update_keeps_scx s State ∙ e)) (f.ended s (λ e. d (update_keeps_scx s State ∙ e))));
    flag = λ s d. update_keeps_scx s AllFrozen ∙ f.flag s (λ e. d (update_keeps_scx s AllFrozen ∙ e));
    flagged = λ s e. flagged s (f.flagged s (λ q. e (update_keeps_scx s AllFrozen ∙ q)));
    winner = λ s x. update_keeps_scx s AllFrozen ∙ winner s (update_split s x);
    finalizes = λ s d. finalizes s (f.finalizes s (λ e. d (update_keeps_scx s AllFrozen ∙ e)));
    cell = λ s n d p. cell s n (f.cell s n d (update_held n s p));
    about = λ s n d p. subst (λ d. About lay d (r ⊳ h) s) (sym (update_descriptor s)) (about_then s (f.about s n d (update_held n s p)));
    mark = λ n d. update_keeps_mark n ∙ f.mark n (λ e. d (update_keeps_mark n ∙ e));
    marked = λ n d. marked_then n (f.marked n (λ e. d (update_keeps_mark n ∙ e)));
    all_marked = λ s x. subst (λ d. AllMarked d (r ⊳ h)) (sym (update_descriptor s)) (all_marked s (update_split s x));
  }
    where
      ended : (s : ℕ) → value h (state s) ≢ 0 → IsEnded h s (value h (state s)) → IsEnded (r ⊳ h) s (value h (state s))
      ended s d (inl x) = inl (x.0, won_more r h s x.1)
      ended s d (inr x) = inr (x.0, λ y. ⊎_elim (λ e. d (rw e update_in_progress)) x.1 (update_split s y))

      marked_then : (n : ℕ) → (s : ℕ) × IsMarker (descriptor h s) h s n → (s : ℕ) × IsMarker (descriptor (r ⊳ h) s) (r ⊳ h) s n
      marked_then n m =
          let y : IsMarker (descriptor h m.0) (r ⊳ h) m.0 n = record { flag = update_keeps_scx m.0 AllFrozen ∙ m.1.flag; index = m.1.index; within = m.1.within; is = m.1.is; removed = m.1.removed; holds = update_keeps_info n ∙ m.1.holds } in
          (m.0, subst (λ d. IsMarker d (r ⊳ h) m.0 n) (sym (update_descriptor m.0)) y)

      all_marked : (s : ℕ) → (s ≡ u) ⊎ HasWon h s → AllMarked (descriptor h s) (r ⊳ h)
      all_marked s (inr x) j i e = update_keeps_mark _ ∙ f.all_marked s x j i e
      all_marked s (inl q) j i e =
          let x : AllMarked (descriptor h s) h = rw q w.update.all_marked in
          update_keeps_mark _ ∙ x j i e

      winner : (s : ℕ) → (s ≡ u) ⊎ HasWon h s → value h (scx s AllFrozen) ≡ 1
      winner s (inl e) = rw e w.update.all_frozen
      winner s (inr x) = f.winner s x

      flagged : (s : ℕ) → IsFlagged (descriptor h s) h s → IsFlagged (descriptor (r ⊳ h) s) (r ⊳ h) s
      flagged s x =
          let y : IsFlagged (descriptor h s) (r ⊳ h) s = record { some = x.some; frozen = λ i l. held_more r h _ s (x.frozen i l) } in
          subst (λ d. IsFlagged d (r ⊳ h) s) (sym (update_descriptor s)) y

      finalizes : (s : ℕ) → Holds (descriptor h s) h s → Holds (descriptor (r ⊳ h) s) (r ⊳ h) s
      finalizes s x =
          let y : Holds (descriptor h s) (r ⊳ h) s = λ j i e. update_keeps_info _ ∙ x j i e in
          subst (λ d. Holds d (r ⊳ h) s) (sym (update_descriptor s)) y

      cell : (s n : ℕ) → IsCell (descriptor h s) h s n → IsCell (descriptor (r ⊳ h) s) (r ⊳ h) s n
      cell s n c =
          let y : IsCell (descriptor h s) (r ⊳ h) s n = record { index = c.index; within = c.within; is = c.is; earlier = λ i x. held_more r h _ s (c.earlier i x) } in
          subst (λ d. IsCell d (r ⊳ h) s n) (sym (update_descriptor s)) y
