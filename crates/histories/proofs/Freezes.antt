-- A freezing exchange that wins keeps the facts.
use Rattle.std.proofs.Common.{◌≡◌, ◌≢◌, ℕ, ◌<◌, true, ◌⊎◌, inl, inr, ⊎_elim, refl, sym, ◌∙◌, arith, zero, suc, subst}
use native.Mathlib.Decide.{ℕ_discrete}
use Rattle.histories.specs.Common.{Side, Child, Info, Marked, ScxWord, State, AllFrozen, Plan, Layout, Row, Freeze, Update, all_nodes, scx, info, marked, child, state, History, ◌⊳◌, value}
use Rattle.histories.specs.Common.{HasHeld, IsPlan, plan_finalizes, plan, count, field_index, member, seen, new, old, field, IsFrozen, MayBegin, HasWon, descriptor, count_in, IsStuck}
use Rattle.arena.proofs.Lemmas.{value_at, value_apart, held_at, held_more, held_split, held_back, node_word_apart, node_apart}
use Rattle.histories.proofs.Changes.{FreezeWins}
use Rattle.histories.proofs.Facts.{IsLive, IsOwned, About, IsCell, IsFlagged, IsMarker, Holds, AllMarked, IsEnded, Facts, descriptor_same, won_more, won_back, flagged_about}

-- the first node of an SCX-record that has frozen any is frozen
pub first_frozen : (h : History) (u n : ℕ) → HasHeld h (info n) u → IsCell (descriptor h u) h u n → IsFrozen h u 0
first_frozen h u n p c = go c.index c.is c.earlier
  where
    go : (i : ℕ) → member h u i ≡ n → ((k : ℕ) → k < i → HasHeld h (info (member h u k)) u) → HasHeld h (info (member h u 0)) u
    go zero e q = rw e p
    go (suc i) e q = q 0 (omega arith)

module _ {lay : Layout} {h : History} {r : Row} {u j : ℕ} (f : Facts lay h) (w : FreezeWins lay h r u j) where
  pub freeze_in_progress : value h (state u) ≡ 0
  freeze_in_progress = (w.freeze.may_win w.found).0

  pub freeze_real : u ≢ 0
  freeze_real e = let x : value h (state 0) ≡ 0 = rw e at freeze_in_progress in let y = f.dummy in omega arith

  pub freeze_finds : value h (info (member h u j)) ≡ seen h u j
  freeze_finds = rw w.freeze.word at (sym w.before) ∙ w.found

  -- it begins u, or u has frozen its first node before
  split : MayBegin lay h r.pass.0 u ⊎ IsFrozen h u 0
  split = go (ℕ_discrete j 0)
    where
      go : Dec (j ≡ 0) → MayBegin lay h r.pass.0 u ⊎ IsFrozen h u 0
      go (yes q) = inl ((w.freeze.may_win w.found).1 q)
      go (no q) = inr (w.freeze.earlier 0 (omega arith))

  before : IsFrozen h u 0 → About lay (descriptor h u) h u
  before p = f.about u _ freeze_real p

  pub freeze_is_new : ¬ IsFrozen h u j
  freeze_is_new p = (f.about u _ freeze_real p).gone j w.freeze.within p freeze_finds

  pub freeze_not_won : ¬ HasWon h u
  freeze_not_won x = freeze_is_new ((f.flagged u (λ e. let y = f.winner u x in omega arith)).frozen j w.freeze.within)

  owned : IsOwned lay (descriptor h u) u
  owned = ⊎_elim (λ m. record { pass = r.pass.0; is_pass = w.pass; scx = m.own; new = m.new_own }) (λ p. (before p).owned) split

  planned : IsPlan (plan h u)
  planned = ⊎_elim (λ m. m.planned) (λ p. (before p).planned) split

  inside : (i : ℕ) → i < count h u → member h u i < all_nodes lay
  inside = ⊎_elim (λ m. m.inside) (λ p. (before p).inside) split

  pub freeze_distinct : (i l : ℕ) → i < count h u → l < count h u → i ≢ l → member h u i ≢ member h u l
  freeze_distinct = ⊎_elim (λ m. m.distinct) (λ p. (before p).distinct) split

  pub freeze_rest : (i : ℕ) → i < count h u → value h (state (seen h u i)) ≢ 0
  freeze_rest = ⊎_elim (λ m. m.at_rest) (λ p. (before p).rest) split

  pub freeze_clean : (i : ℕ) → i < count h u → value h (info (member h u i)) ≡ seen h u i → value h (marked (member h u i)) ≡ 0
  freeze_clean = ⊎_elim (λ m. m.unmarked) (λ p. (before p).clean) split

  at_in : field_index h u < count h u
  at_in = planned.field

  pub freeze_keeps_scx : (s : ℕ) (c : ScxWord) → value (r ⊳ h) (scx s c) ≡ value h (scx s c)
  freeze_keeps_scx s c = value_apart r h (info (member h u j)) (scx s c) w.freeze.word refl

  pub freeze_keeps_field : (n : ℕ) (side : Side) → value (r ⊳ h) (child n side) ≡ value h (child n side)
  freeze_keeps_field n side = value_apart r h (info (member h u j)) (child n side) w.freeze.word (node_word_apart _ n Info (Child side) refl)

  pub freeze_keeps_mark : (n : ℕ) → value (r ⊳ h) (marked n) ≡ value h (marked n)
  freeze_keeps_mark n = value_apart r h (info (member h u j)) (marked n) w.freeze.word (node_word_apart _ n Info Marked refl)

  pub freeze_keeps_info : (n : ℕ) → member h u j ≢ n → value (r ⊳ h) (info n) ≡ value h (info n)
  freeze_keeps_info n d = value_apart r h (info (member h u j)) (info n) w.freeze.word (node_apart _ n Info Info d)

  pub freeze_stores : value (r ⊳ h) (info (member h u j)) ≡ u
  freeze_stores = value_at r h (info (member h u j)) w.freeze.word ∙ w.stored

  pub freeze_won : (s : ℕ) → HasWon (r ⊳ h) s → HasWon h s
  freeze_won = won_back r h (λ s x. let e : Freeze ≡ Update = sym w.kind ∙ x.kind in cc)

  pub freeze_descriptor : (s : ℕ) → descriptor (r ⊳ h) s ≡ descriptor h s
  freeze_descriptor s = descriptor_same h (r ⊳ h) s (λ c i. freeze_keeps_scx s c)

  -- what an info word has named now: u in this node, or what it had named before
  pub freeze_held : (n s : ℕ) → HasHeld (r ⊳ h) (info n) s → ((s ≡ u) × (member h u j ≡ n)) ⊎ HasHeld h (info n) s
  freeze_held n s p = go (ℕ_discrete (member h u j) n) (held_split r h (info n) s p)
    where
      go : Dec (member h u j ≡ n) → (value (r ⊳ h) (info n) ≡ s) ⊎ HasHeld h (info n) s → ((s ≡ u) × (member h u j ≡ n)) ⊎ HasHeld h (info n) s
      go d (inr q) = inr q
      go (yes e) (inl q) = inl (sym q ∙ rw e at freeze_stores, e)
      go (no d) (inl q) = inr (held_at h (info n) s (sym (freeze_keeps_info n d) ∙ q))

  other_held : (s n : ℕ) → s ≢ u → HasHeld (r ⊳ h) (info n) s → HasHeld h (info n) s
  other_held s n d p = ⊎_elim (λ e. absurd (d e.0)) (λ q. q) (freeze_held n s p)

  other_frozen : (i : ℕ) → i < count h u → i ≢ j → HasHeld (r ⊳ h) (info (member h u i)) u → IsFrozen h u i
  other_frozen i l d p = ⊎_elim (λ e. absurd (freeze_distinct i j l w.freeze.within d (sym e.1))) (λ q. q) (freeze_held _ u p)

  other_info : (i : ℕ) → i < count h u → i ≢ j → value (r ⊳ h) (info (member h u i)) ≡ value h (info (member h u i))
  other_info i l d = freeze_keeps_info _ (freeze_distinct j i w.freeze.within l (λ y. d (sym y)))

  -- u is in progress, so nothing has seen it as finished
  not_seen : (s i : ℕ) → value h (state (seen h s i)) ≢ 0 → seen h s i ≢ u
  not_seen s i d e = d (rw e freeze_in_progress)

  live_before : IsLive (descriptor h u) (r ⊳ h) u → IsLive (descriptor h u) h u
  live_before (inl e) = go (ℕ_discrete (field_index h u) j)
    where
      go : Dec (field_index h u ≡ j) → IsLive (descriptor h u) h u
      go (yes q) = absurd (not_seen u j (freeze_rest j w.freeze.within) (sym (rw q at e) ∙ freeze_stores))
      go (no q) = inl (sym (other_info (field_index h u) at_in q) ∙ e)
  live_before (inr p) = go (ℕ_discrete (field_index h u) j)
    where
      go : Dec (field_index h u ≡ j) → IsLive (descriptor h u) h u
      go (yes q) = inl (rw q freeze_finds)
      go (no q) = inr (other_frozen (field_index h u) at_in q p.0, freeze_in_progress)

  steady : IsLive (descriptor h u) h u → value h (field h u) ≡ old h u
  steady l = go split l
    where
      known : IsFrozen h u 0 → IsLive (descriptor h u) h u → value h (field h u) ≡ old h u
      known q l = ⊎_elim (λ e. e) (λ x. absurd (freeze_not_won x)) ((before q).steady l)

      go : MayBegin lay h r.pass.0 u ⊎ IsFrozen h u 0 → IsLive (descriptor h u) h u → value h (field h u) ≡ old h u
      go (inl m) (inl e) = m.shows e
      go (inl m) (inr p) = known (first_frozen h u _ p.0 (f.cell u _ freeze_real p.0)) (inr p)
      go (inr q) l = known q l

  fresh : IsLive (descriptor h u) h u → ¬ HasHeld h (field h u) (new h u)
  fresh l = go split
    where
      go : MayBegin lay h r.pass.0 u ⊎ IsFrozen h u 0 → ¬ HasHeld h (field h u) (new h u)
      go (inl m) = m.new_in_no_field _ _
      go (inr q) = (before q).fresh l freeze_not_won

  about_mine : About lay (descriptor h u) (r ⊳ h) u
  about_mine = record {
    owned = owned;
    planned = planned;
    inside = inside;
    distinct = freeze_distinct;
    rest = λ i l e. freeze_rest i l (sym (freeze_keeps_scx _ State) ∙ e);
    holds = λ i l p e. holds i l p (ℕ_discrete i j);
    gone = λ i l p e. gone i l p e (ℕ_discrete i j);
    done = λ d. absurd (d (freeze_keeps_scx u State ∙ freeze_in_progress));
    steady = λ l. inl (freeze_keeps_field _ _ ∙ steady (live_before l));
    moved = λ x. absurd (freeze_not_won (freeze_won u x));
    fresh = λ l x p. fresh (live_before l) (held_back r h _ _ (freeze_keeps_field _ _) p);
    had = λ p. had p (ℕ_discrete (field_index h u) j);
    clean = λ i l e. freeze_keeps_mark _ ∙ clean i l e (ℕ_discrete i j);
  }
    where
      holds : (i : ℕ) → i < count h u → HasHeld (r ⊳ h) (info (member h u i)) u → Dec (i ≡ j) → value (r ⊳ h) (info (member h u i)) ≡ u
      holds i l p (yes q) = rw q freeze_stores
      holds i l p (no q) =
          let o : IsFrozen h u i = other_frozen i l q p in
          other_info i l q ∙ (f.about u _ freeze_real o).holds i l o freeze_in_progress

      gone : (i : ℕ) → i < count h u → HasHeld (r ⊳ h) (info (member h u i)) u → value (r ⊳ h) (info (member h u i)) ≡ seen h u i → Dec (i ≡ j) → ⊥
      gone i l p e (yes q) = not_seen u i (freeze_rest i l) (sym e ∙ rw q freeze_stores)
      gone i l p e (no q) =
          let o : IsFrozen h u i = other_frozen i l q p in
          (f.about u _ freeze_real o).gone i l o (sym (other_info i l q) ∙ e)

      clean : (i : ℕ) → i < count h u → value (r ⊳ h) (info (member h u i)) ≡ seen h u i → Dec (i ≡ j) → value h (marked (member h u i)) ≡ 0
      clean i l e (yes q) = absurd (not_seen u i (freeze_rest i l) (sym e ∙ rw q freeze_stores))
      clean i l e (no q) = freeze_clean i l (sym (other_info i l q) ∙ e)

      had : HasHeld (r ⊳ h) (info (member h u (field_index h u))) u → Dec (field_index h u ≡ j) → HasHeld (r ⊳ h) (field h u) (old h u)
      had p (yes q) = held_more r h _ _ (held_at h _ _ (steady (inl (rw q freeze_finds))))
      had p (no q) = let o : IsFrozen h u (field_index h u) = other_frozen (field_index h u) at_in q p in held_more r h _ _ ((f.about u _ freeze_real o).had o)

  -- another that can never freeze one of its nodes still can not
  pub freeze_stuck : (s : ℕ) → s ≢ u → About lay (descriptor h s) h s → IsStuck (descriptor h s) h s → IsStuck (descriptor h s) (r ⊳ h) s
  freeze_stuck s d x y = record {
    index = y.index;
    within = y.within;
    earlier = λ i l. held_more r h _ s (y.earlier i l);
    unfrozen = λ q. y.unfrozen (other_held s _ d q);
    passed = λ q. passed q (ℕ_discrete (member h u j) (member h s y.index));
  }
    where
      passed : value (r ⊳ h) (info (member h s y.index)) ≡ seen h s y.index → Dec (member h u j ≡ member h s y.index) → ⊥
      passed e (no q) = y.passed (sym (freeze_keeps_info _ q) ∙ e)
      passed e (yes q) = not_seen s y.index (x.rest y.index y.within) (sym e ∙ rw q at freeze_stores)

  about_theirs : (s : ℕ) → s ≢ u → About lay (descriptor h s) h s → About lay (descriptor h s) (r ⊳ h) s
  about_theirs s d x = record {
    owned = x.owned;
    planned = x.planned;
    inside = x.inside;
    distinct = x.distinct;
    rest = λ i l e. x.rest i l (sym (freeze_keeps_scx _ State) ∙ e);
    holds = λ i l p e. holds i l (other_held s _ d p) (sym (freeze_keeps_scx s State) ∙ e) (here i);
    gone = λ i l p e. gone i l (other_held s _ d p) e (here i);
    done = λ e. ⊎_elim (λ y. inl (won_more r h s y)) (λ y. inr (freeze_stuck s d x y)) (x.done (λ q. e (freeze_keeps_scx s State ∙ q)));
    steady = λ l. ⊎_elim (λ e. inl (freeze_keeps_field _ _ ∙ e)) (λ y. inr (won_more r h s y)) (x.steady (live l (here (field_index h s))));
    moved = λ y e. x.moved (freeze_won s y) (sym (freeze_keeps_field _ _) ∙ e);
    fresh = λ l y p. x.fresh (live l (here (field_index h s))) (λ q. y (won_more r h s q)) (held_back r h _ _ (freeze_keeps_field _ _) p);
    had = λ p. held_more r h _ _ (x.had (other_held s _ d p));
    clean = λ i l e. freeze_keeps_mark _ ∙ clean i l e (here i);
  }
    where
      here : (i : ℕ) → Dec (member h u j ≡ member h s i)
      here i = ℕ_discrete (member h u j) (member h s i)

      holds : (i : ℕ) → i < count h s → IsFrozen h s i → value h (state s) ≡ 0 → Dec (member h u j ≡ member h s i) → value (r ⊳ h) (info (member h s i)) ≡ s
      holds i l p e (no q) = freeze_keeps_info _ q ∙ x.holds i l p e
      holds i l p e (yes q) =
          let y : seen h u j ≡ s = sym freeze_finds ∙ rw (← q) at (x.holds i l p e) in
          absurd (freeze_rest j w.freeze.within (rw y e))

      gone : (i : ℕ) → i < count h s → IsFrozen h s i → value (r ⊳ h) (info (member h s i)) ≡ seen h s i → Dec (member h u j ≡ member h s i) → ⊥
      gone i l p e (no q) = x.gone i l p (sym (freeze_keeps_info _ q) ∙ e)
      gone i l p e (yes q) = not_seen s i (x.rest i l) (sym e ∙ rw q at freeze_stores)

      clean : (i : ℕ) → i < count h s → value (r ⊳ h) (info (member h s i)) ≡ seen h s i → Dec (member h u j ≡ member h s i) → value h (marked (member h s i)) ≡ 0
      clean i l e (no q) = x.clean i l (sym (freeze_keeps_info _ q) ∙ e)
      clean i l e (yes q) = absurd (not_seen s i (x.rest i l) (sym e ∙ rw q at freeze_stores))

      live : IsLive (descriptor h s) (r ⊳ h) s → Dec (member h u j ≡ member h s (field_index h s)) → IsLive (descriptor h s) h s
      live (inl e) (no q) = inl (sym (freeze_keeps_info _ q) ∙ e)
      live (inl e) (yes q) = absurd (not_seen s (field_index h s) (x.rest (field_index h s) x.planned.field) (sym e ∙ rw q at freeze_stores))
      live (inr p) q = inr (other_held s _ d p.0, sym (freeze_keeps_scx s State) ∙ p.1)

  pub after_freeze : Facts lay (r ⊳ h)
  after_freeze = record {
    dummy = freeze_keeps_scx 0 State ∙ f.dummy;
    empty = freeze_keeps_scx 0 Plan ∙ f.empty;
    ended = λ s d. rw (freeze_keeps_scx s State) (ended s (f.ended s (λ e. d (freeze_keeps_scx s State ∙ e))));
    flag = λ s d. freeze_keeps_scx s AllFrozen ∙ f.flag s (λ e. d (freeze_keeps_scx s AllFrozen ∙ e));
    flagged = λ s e. flagged s (f.flagged s (λ q. e (freeze_keeps_scx s AllFrozen ∙ q)));
    winner = λ s x. freeze_keeps_scx s AllFrozen ∙ f.winner s (freeze_won s x);
    finalizes = λ s d. finalizes s (λ e. d (freeze_keeps_scx s AllFrozen ∙ e));
    cell = λ s n d p. cell s n d (freeze_held n s p);
    about = λ s n d p. about s n d (freeze_held n s p) (ℕ_discrete s u);
    mark = λ n d. freeze_keeps_mark n ∙ f.mark n (λ e. d (freeze_keeps_mark n ∙ e));
    marked = λ n d. marked_then n (λ e. d (freeze_keeps_mark n ∙ e)) (ℕ_discrete (member h u j) n);
    all_marked = λ s x. subst (λ d. AllMarked d (r ⊳ h)) (sym (freeze_descriptor s)) (λ j i e. freeze_keeps_mark _ ∙ f.all_marked s (freeze_won s x) j i e);
  }
    where
      ended : (s : ℕ) → IsEnded h s (value h (state s)) → IsEnded (r ⊳ h) s (value h (state s))
      ended s (inl x) = inl (x.0, won_more r h s x.1)
      ended s (inr x) = inr (x.0, λ y. x.1 (freeze_won s y))

      flagged : (s : ℕ) → IsFlagged (descriptor h s) h s → IsFlagged (descriptor (r ⊳ h) s) (r ⊳ h) s
      flagged s x =
          let y : IsFlagged (descriptor h s) (r ⊳ h) s = record { some = x.some; frozen = λ i l. held_more r h _ s (x.frozen i l) } in
          subst (λ d. IsFlagged d (r ⊳ h) s) (sym (freeze_descriptor s)) y

      -- a node that a finished SCX-record finalizes is marked, so none freezes it
      held_on : (s i : ℕ) → value h (scx s AllFrozen) ≢ 0 → i < count_in (descriptor h s) → plan_finalizes (plan h s) i ≡ true → member h u j ≢ member h s i
      held_on s i d l e q =
          let x : IsFlagged (descriptor h s) h s = f.flagged s d in
          let y : seen h u j ≡ s = sym freeze_finds ∙ rw (← q) at (f.finalizes s d i l e) in
          let z : value h (state s) ≢ 0 = rw y at (freeze_rest j w.freeze.within) in
          let c : value h (marked (member h u j)) ≡ 0 = freeze_clean j w.freeze.within freeze_finds in
          ⊎_elim
          (λ x. let a : value h (marked (member h u j)) ≡ 1 = rw (← q) at (f.all_marked s x i l e) in omega arith)
          (λ y. absurd (y.unfrozen (x.frozen y.index y.within)))
          ((flagged_about f x).done z)

      finalizes : (s : ℕ) → value h (scx s AllFrozen) ≢ 0 → Holds (descriptor (r ⊳ h) s) (r ⊳ h) s
      finalizes s d =
          let y : Holds (descriptor h s) (r ⊳ h) s = λ i l e. freeze_keeps_info _ (held_on s i d l e) ∙ f.finalizes s d i l e in
          subst (λ d. Holds d (r ⊳ h) s) (sym (freeze_descriptor s)) y

      marked_then : (n : ℕ) → value h (marked n) ≢ 0 → Dec (member h u j ≡ n) → (s : ℕ) × IsMarker (descriptor (r ⊳ h) s) (r ⊳ h) s n
      marked_then n d (yes q) = absurd (d (rw q at (freeze_clean j w.freeze.within freeze_finds)))
      marked_then n d (no q) =
          let m : (s : ℕ) × IsMarker (descriptor h s) h s n = f.marked n d in
          let y : IsMarker (descriptor h m.0) (r ⊳ h) m.0 n = record { flag = freeze_keeps_scx m.0 AllFrozen ∙ m.1.flag; index = m.1.index; within = m.1.within; is = m.1.is; removed = m.1.removed; holds = freeze_keeps_info n q ∙ m.1.holds } in
          (m.0, subst (λ d. IsMarker d (r ⊳ h) m.0 n) (sym (freeze_descriptor m.0)) y)

      cell : (s n : ℕ) → s ≢ 0 → ((s ≡ u) × (member h u j ≡ n)) ⊎ HasHeld h (info n) s → IsCell (descriptor (r ⊳ h) s) (r ⊳ h) s n
      cell s n d (inl e) =
          let y : IsCell (descriptor h u) (r ⊳ h) u n = record { index = j; within = w.freeze.within; is = e.1; earlier = λ i l. held_more r h _ u (w.freeze.earlier i l) } in
          subst (λ d. IsCell d (r ⊳ h) s n) (sym (freeze_descriptor s)) (rw e.0 y)
      cell s n d (inr p) =
          let c : IsCell (descriptor h s) h s n = f.cell s n d p in
          let y : IsCell (descriptor h s) (r ⊳ h) s n = record { index = c.index; within = c.within; is = c.is; earlier = λ i x. held_more r h _ s (c.earlier i x) } in
          subst (λ d. IsCell d (r ⊳ h) s n) (sym (freeze_descriptor s)) y

      about : (s n : ℕ) → s ≢ 0 → ((s ≡ u) × (member h u j ≡ n)) ⊎ HasHeld h (info n) s → Dec (s ≡ u) → About lay (descriptor (r ⊳ h) s) (r ⊳ h) s
      about s n d p (yes q) = subst (λ d. About lay d (r ⊳ h) s) (sym (freeze_descriptor s)) (rw q about_mine)
      about s n d (inl e) (no q) = absurd (q e.0)
      about s n d (inr p) (no q) = subst (λ d. About lay d (r ⊳ h) s) (sym (freeze_descriptor s)) (about_theirs s q (f.about s n d p))
