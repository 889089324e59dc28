-- A finished SCX-record that no info has ever named is never named; so no pass comes to it but its
-- own, nor that in a later call.
use Rattle.std.proofs.Common.{◌≡◌, ◌≢◌, ◌<◌, ℕ, inl, inr, ⊎_elim, sym, ◌∙◌, ap, subst}
use Rattle.histories.specs.Common.{Layout, Row, History, Opened, ◌⊳◌, Extends, value, state, info, IsNamedScx, IsOwnScx, IsTakenScx, Lawful}
use Rattle.arena.proofs.Lemmas.{ends_trans, held_at, held_back, held_since}
use Rattle.histories.proofs.Lemmas.{Effect, effect, facts_before, freeze, freeze_held, freeze_in_progress, lawful_tail, one_scx_owner, quiet, state_since, update, update_held}
use Rattle.ordered_map.specs.Runs.{IsMapRun}
use Rattle.touching.specs.Touches.{TouchesScx, named, in_progress, own_scx}
use Rattle.touching.proofs.Lemmas.{taken_scx_since}
use Rattle.resting.specs.Dead.{IsUnnamedScx}
use Rattle.resting.specs.Reach.{IsOutOfReach}
use Rattle.resting.specs.Records.{the_node, the_scx, record_of}
use Rattle.resting.specs.Rests.{past_node, past_scx}
use Rattle.resting.proofs.Touched.{InTree, IsMissed, IsNotPassed, missed_out, number_of, scx_not_passed, scx_touched}

-- what is finished, no row comes to name
unnamed_more : (lay : Layout) (h : History) (r : Row) (s : ℕ) → Lawful lay (r ⊳ h) → value h (state s) ≢ 0 → ¬ IsNamedScx h s → ¬ IsNamedScx (r ⊳ h) s
unnamed_more lay h r s l over free p = go (effect lay h r l)
  where
    go : Effect lay h r → ⊥
    go (quiet k) = free (p.0, held_back r h (info p.0) s (k.info p.0) p.1)
    go (update u w) = free (p.0, update_held (facts_before lay h r l) w p.0 s p.1)
    go (freeze u j w) = ⊎_elim (λ e. over (ap (λ k. value h (state k)) e.0 ∙ freeze_in_progress (facts_before lay h r l) w)) (λ q. free (p.0, q)) (freeze_held (facts_before lay h r l) w p.0 s p.1)

unnamed_since : (lay : Layout) (h t : History) (s : ℕ) → Lawful lay h → Extends h t → value t (state s) ≢ 0 → ¬ IsNamedScx t s → ¬ IsNamedScx h s
unnamed_since lay (Opened o) t s l e over free = subst (λ m. ¬ IsNamedScx m s) e free
unnamed_since lay (r ⊳ h) t s l (inl e) over free = subst (λ m. ¬ IsNamedScx m s) e free
unnamed_since lay (r ⊳ h) t s l (inr e) over free = unnamed_more lay h r s l (λ z. over (sym (state_since lay h t s (lawful_tail lay h r l) e over) ∙ z)) (unnamed_since lay h t s (lawful_tail lay h r l) e over free)

pub unnamed_out : (lay : Layout) (h : History) (last : ℕ → History) (p s : ℕ) → p < lay.passes → IsUnnamedScx lay p (last p) s → IsOutOfReach lay h last (the_scx s)
unnamed_out lay h last p s is_pass x = missed_out lay h last (the_scx s) (λ k g o e run rested within i. (missed k g o run (rested p is_pass).within within, not_passed g o))
  where
    -- nor was it named at an earlier moment
    never : (k m : History) → IsMapRun lay k → Extends k (last p) → Extends k m → ¬ IsNamedScx m s
    never k m run e within y = unnamed_since lay k (last p) s run.1.lawful e x.finished x.unnamed (y.0, held_since k m (info y.0) s within y.1)

    missed : (k g : History) (o : ℕ) → IsMapRun lay k → Extends k (last p) → Extends k g → IsMissed lay o g (last o) (the_scx s)
    missed k g o run e within c r lay_is pass_is begun touches is = go (scx_touched InTree c g r.word s is touches)
      where
        go : TouchesScx InTree c g s → ⊥
        go (named n y z) = never k z.moment run e (ends_trans k g z.moment within z.within) (n, held_at z.moment (info n) s z.was)
        go (in_progress y) = never k y.moment run e (ends_trans k g y.moment within y.within) y.was.named
        go (own_scx own free) =
            let mine : IsOwnScx lay o s = subst (λ q. IsOwnScx lay q s) pass_is (subst (λ v. IsOwnScx v c.pass s) lay_is own) in
            let same : o ≡ p = one_scx_owner lay o p s mine x.own in
            free (taken_scx_since c.start (last p) s (subst (λ q. Extends c.start (last q)) same begun) x.taken)

    not_passed : (g : History) (o : ℕ) → IsNotPassed lay o g (last o) (the_scx s)
    not_passed g o r l own (past_scx u part its free word) is = scx_not_passed lay o g (last o) s (subst (λ q. IsTakenScx (last q) s) (sym same) x.taken) r l own (past_scx u part its free word) is
      where
        same : o ≡ p
        same = one_scx_owner lay o p s (subst (λ v. IsOwnScx lay v s) own (subst (λ v. IsOwnScx lay r.pass.0 v) (ap number_of (sym (ap record_of word) ∙ is)) its)) x.own
    not_passed g o r l own (past_node m free kind word) is = absurd (let d : the_node m ≡ the_scx s = sym (ap record_of word) ∙ is in cc)
