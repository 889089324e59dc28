-- A node that a walk has passed and that is final at the end: what finalized it was in the way of
-- the walk's call.
use Rattle.std.proofs.Common.{◌≡◌, ℕ, Bool, true, false, ◌||◌, inl, inr, refl, sym, ◌∙◌, ap, subst}
use Rattle.histories.specs.Common.{Layout, Row, State, History, Opened, ◌⊳◌, Extends, member, count, IsNamedScx, Lawful, WasInTheWay, log, has, is_final, finalized_from, IsRemoved}
use Rattle.histories.proofs.Lemmas.{Facts, IsFinalizedBy, Logs, UpdateWins, by_final, descriptor_stays, earlier, facts, facts_before, final_by, finalized_by_stays, is_removed_of, lawful_tail, logs, named_scx_more, one_finalizer, removed_stays, same, some_is_real, update_flagged, update_in_progress, update_keeps_scx, update_won, wins}

-- at the row at which it becomes final
module _ (lay : Layout) (h m : History) (r : Row) (n s : ℕ) (l : Lawful lay (r ⊳ h)) (e : Extends h m) (x : IsFinalizedBy (r ⊳ h) n s) where
  f : Facts lay h
  f = facts_before lay h r l

  one : (u : ℕ) → IsFinalizedBy (r ⊳ h) n u → u ≡ s
  one u y = one_finalizer (facts lay (r ⊳ h) l) y x

  now : (u : ℕ) → UpdateWins h r u → has (finalized_from h u 0 (count h u)) n ≡ true → WasInTheWay (r ⊳ h) m n s
  now u w q = subst (WasInTheWay (r ⊳ h) m n) (one u record { won = update_won f w; removed = c }) record {
    row = r;
    before = h;
    within = inl refl;
    since = e;
    running = record { unfinished = update_keeps_scx f w u State ∙ update_in_progress f w; named = named_scx_more r h u named };
    covers = record { index = c.index; within = c.within; is = c.is };
  }
    where
      named : IsNamedScx h u
      named = (member h u 0, (update_flagged f w).frozen 0 (update_flagged f w).some)

      c : IsRemoved (r ⊳ h) u n
      c = removed_stays h (r ⊳ h) n u (descriptor_stays lay h r u l (some_is_real f (update_flagged f w).some) named) (is_removed_of h u n q)

  step : ((u : ℕ) → IsFinalizedBy h n u → WasInTheWay h m n u) → WasInTheWay (r ⊳ h) m n s
  step before = go (is_final (log lay h) n) refl
    where
      old : is_final (log lay h) n ≡ true → WasInTheWay (r ⊳ h) m n s
      old q =
          let y : (u : ℕ) × IsFinalizedBy h n u = final_by lay h n (lawful_tail lay h r l) q in
          earlier r (subst (WasInTheWay h m n) (one y.0 (finalized_by_stays lay h r n y.0 l y.1)) (before y.0 y.1))

      here : Logs lay h r → is_final (log lay h) n ≡ false → WasInTheWay (r ⊳ h) m n s
      here (same q _) z = absurd (let y : true ≡ false = sym (by_final lay (r ⊳ h) n s l x) ∙ ap (λ es. is_final es n) q ∙ z in cc)
      here (wins u w q) z = split (has (finalized_from h u 0 (count h u)) n) refl (subst (λ es. is_final es n ≡ true) q (by_final lay (r ⊳ h) n s l x))
        where
          split : (t : Bool) → has (finalized_from h u 0 (count h u)) n ≡ t → t || is_final (log lay h) n ≡ true → WasInTheWay (r ⊳ h) m n s
          split true y _ = now u w y
          split false y d = absurd (let k : true ≡ false = sym d ∙ z in cc)

      go : (b : Bool) → is_final (log lay h) n ≡ b → WasInTheWay (r ⊳ h) m n s
      go true q = old q
      go false q = here (logs lay h r l) q

pub blame_finalizer : (lay : Layout) (h m : History) (n s : ℕ) → Lawful lay h → Extends h m → is_final (log lay m) n ≡ false → IsFinalizedBy h n s → WasInTheWay h m n s
blame_finalizer lay (Opened o) m n s l e z x = absurd (let q : true ≡ false = sym (by_final lay (Opened o) n s l x) ∙ ap (λ k. is_final (log lay k) n) (sym e) ∙ z in cc)
blame_finalizer lay (r ⊳ h) m n s l (inl e) z x = absurd (let q : true ≡ false = sym (by_final lay (r ⊳ h) n s l x) ∙ ap (λ k. is_final (log lay k) n) (sym e) ∙ z in cc)
blame_finalizer lay (r ⊳ h) m n s l (inr e) z x = step lay h m r n s l e x (λ u y. blame_finalizer lay h m n u (lawful_tail lay h r l) e z y)
