-- Whatever happens between two moments of a node, an SCX-record in progress that covers it was
-- in the way.
use Rattle.std.proofs.Common.{◌≡◌, ◌≢◌, ℕ, Bool, true, false, inl, inr, ⊎_elim, refl, sym, ◌∙◌, ap, subst, arith}
use native.Mathlib.Decide.{ℕ_discrete}
use Rattle.histories.specs.Common.{Layout, Word, State, AllFrozen, Row, same_word, info, marked, scx, state, History, Opened, ◌⊳◌, value, HasHeld, Extends, member, Lawful, IsMember, WasInTheWay, descriptor}
use Rattle.arena.proofs.Lemmas.{value_apart, value_other, held_at, held_now, held_more, word_same}
use Rattle.histories.proofs.Changes.{lawful_tail}
use Rattle.histories.proofs.Facts.{IsCell, Facts, some_is_real}
use Rattle.histories.proofs.Keeps.{Marks}
use Rattle.histories.proofs.Freezes.{freeze_in_progress, freeze_keeps_scx, freeze_keeps_info, freeze_keeps_mark, freeze_stores, freeze_real}
use Rattle.histories.proofs.Updates.{update_keeps_info, update_keeps_mark}
use Rattle.histories.proofs.Always.{Effect, quiet, freeze, update, effect, facts, facts_before}
use Rattle.histories.proofs.Moments.{sealed}

-- what was in the way before a row was so after it
pub earlier : {h m : History} {n s : ℕ} (r : Row) → WasInTheWay h m n s → WasInTheWay (r ⊳ h) m n s
earlier r x = record { row = x.row; before = x.before; within = inr x.within; since = x.since; running = x.running; covers = x.covers }

-- a node that s has frozen is one that it covers
pub member_of : (h : History) (s n : ℕ) → IsCell (descriptor h s) h s n → IsMember h s n
member_of h s n c = record { index = c.index; within = c.within; is = c.is }

-- the info of the node is no longer what it was
pub blame_info : (lay : Layout) (h m : History) (n : ℕ) → Lawful lay h → Extends h m → value h (info n) ≢ value m (info n) → WasInTheWay h m n (value h (info n))
blame_info lay (Opened o) m n l e d = absurd (d (ap (λ k. value k (info n)) (sym e)))
blame_info lay (r ⊳ h) m n l (inl e) d = absurd (d (ap (λ k. value k (info n)) (sym e)))
blame_info lay (r ⊳ h) m n l (inr e) d = go (effect lay h r l) (blame_info lay h m n (lawful_tail lay h r l) e)
  where
    f : Facts lay h
    f = facts_before lay h r l

    before : value (r ⊳ h) (info n) ≡ value h (info n) → (value h (info n) ≢ value m (info n) → WasInTheWay h m n (value h (info n))) → WasInTheWay (r ⊳ h) m n (value (r ⊳ h) (info n))
    before q more = subst (λ s. WasInTheWay (r ⊳ h) m n s) (sym q) (earlier r (more (λ x. d (q ∙ x))))

    go : Effect lay h r → (value h (info n) ≢ value m (info n) → WasInTheWay h m n (value h (info n))) → WasInTheWay (r ⊳ h) m n (value (r ⊳ h) (info n))
    go (quiet k) more = before (k.info n) more
    go (update u w) more = before (update_keeps_info f w n) more
    go (freeze u j w) more = other (ℕ_discrete (member h u j) n)
      where
        other : Dec (member h u j ≡ n) → WasInTheWay (r ⊳ h) m n (value (r ⊳ h) (info n))
        other (no p) = before (freeze_keeps_info f w n p) more
        other (yes p) =
            let q : value (r ⊳ h) (info n) ≡ u = rw p at (freeze_stores f w) in
            let x : WasInTheWay (r ⊳ h) m n u = record {
              row = r;
              before = h;
              within = inl refl;
              since = e;
              running = record { unfinished = freeze_keeps_scx f w u State ∙ freeze_in_progress f w; named = (n, rw q at (held_now (r ⊳ h) (info n))) };
              covers = member_of (r ⊳ h) u n ((facts lay (r ⊳ h) l).cell u n (freeze_real f w) (rw q at (held_now (r ⊳ h) (info n))));
            } in
            subst (λ s. WasInTheWay (r ⊳ h) m n s) (sym q) x

-- a word that a row changes is the row's word
changed_word : (r : Row) (h : History) (w : Word) → value (r ⊳ h) w ≢ value h w → r.word ≡ w
changed_word r h w d = go (same_word r.word w) refl
  where
    go : (t : Bool) → same_word r.word w ≡ t → r.word ≡ w
    go true e = word_same r.word w e
    go false e = absurd (d (value_other r h w e))

-- the node is marked and was not: its info names what marked it
pub blame_mark : (lay : Layout) (h m : History) (n : ℕ) → Lawful lay h → Extends h m → value m (marked n) ≡ 0 → value h (marked n) ≢ 0 → WasInTheWay h m n (value h (info n))
blame_mark lay (Opened o) m n l e z d = absurd (d (ap (λ k. value k (marked n)) (sym e) ∙ z))
blame_mark lay (r ⊳ h) m n l (inl e) z d = absurd (d (ap (λ k. value k (marked n)) (sym e) ∙ z))
blame_mark lay (r ⊳ h) m n l (inr e) z d = go (ℕ_discrete (value h (marked n)) 0) (blame_mark lay h m n (lawful_tail lay h r l) e z)
  where
    f : Facts lay h
    f = facts_before lay h r l

    go : Dec (value h (marked n) ≡ 0) → (value h (marked n) ≢ 0 → WasInTheWay h m n (value h (info n))) → WasInTheWay (r ⊳ h) m n (value (r ⊳ h) (info n))
    go (no x) more = subst (λ s. WasInTheWay (r ⊳ h) m n s) (sym (sealed lay h r n (value h (info n)) l x refl)) (earlier r (more x))
    go (yes x) more = by_effect (effect lay h r l)
      where
        marks : value (r ⊳ h) (info n) ≡ value h (info n) → Marks h n (value (r ⊳ h) (marked n)) → WasInTheWay (r ⊳ h) m n (value (r ⊳ h) (info n))
        marks kept y =
            let u : ℕ = y.scx in
            let word : r.word ≡ marked n = changed_word r h (marked n) (λ q. d (q ∙ x)) in
            let real : u ≢ 0 = some_is_real f (f.flagged u (λ q. let a : value h (scx u AllFrozen) ≡ 1 = y.marker.flag in omega arith)).some in
            let named : HasHeld h (info n) u = held_at h (info n) u y.marker.holds in
            let way : WasInTheWay (r ⊳ h) m n u = record {
              row = r;
              before = h;
              within = inl refl;
              since = e;
              running = record { unfinished = value_apart r h (marked n) (state u) word refl ∙ y.running; named = (n, held_more r h _ u named) };
              covers = member_of (r ⊳ h) u n ((facts lay (r ⊳ h) l).cell u n real (held_more r h _ u named));
            } in
            subst (λ s. WasInTheWay (r ⊳ h) m n s) (sym (kept ∙ y.marker.holds)) way

        by_effect : Effect lay h r → WasInTheWay (r ⊳ h) m n (value (r ⊳ h) (info n))
        by_effect (quiet k) = ⊎_elim (λ q. absurd (d (q ∙ x))) (marks (k.info n)) (k.mark n)
        by_effect (freeze u j w) = absurd (d (freeze_keeps_mark f w n ∙ x))
        by_effect (update u w) = absurd (d (update_keeps_mark f w n ∙ x))
