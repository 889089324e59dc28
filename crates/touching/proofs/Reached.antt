-- Which nodes an SCX-record had reached while it was in progress.
use Rattle.std.proofs.Common.{◌≡◌, ◌≢◌, ◌<◌, ℕ, inl, inr, ⊎_elim, sym, ◌∙◌, ap, subst}
use native.Mathlib.Decide.{ℕ_discrete}
use Rattle.histories.specs.Common.{Layout, Row, State, Plan, Member, History, Opened, ◌⊳◌, Extends, value, info, state, count_of, member, AreFrozen, IsNamedScx, IsInProgress, HasHeld, Lawful}
use Rattle.arena.proofs.Lemmas.{ends_self, ends_trans, held_at, held_back, held_more, held_since}
use Rattle.histories.proofs.Lemmas.{Effect, Facts, FreezeWins, effect, facts_before, freeze, freeze_held, freeze_in_progress, freeze_keeps_info, freeze_keeps_scx, freeze_stores, lawful_tail, quiet, scx_stays, update, update_held, update_keeps_info}
use Rattle.prims.specs.Laws.InTheWay.{HasBeen, been_more}
use Rattle.touching.specs.Touches.{HasReached}

-- it is in progress, and has frozen its first j nodes
abbrev pub HasFrozen : ℕ → ℕ → History → Type 0
HasFrozen s j m = IsInProgress m s × AreFrozen m s j

-- What is frozen for an SCX-record was so while it was in progress.
module _ (lay : Layout) (start : History) (s j : ℕ) (real : s ≢ 0) where
  module _ (g : History) (r : Row) (l : Lawful lay (r ⊳ g)) (named : IsNamedScx g s) where
    f : Facts lay g
    f = facts_before lay g r l

    -- a row after which it is finished freezes nothing for it
    frozen_back : value (r ⊳ g) (state s) ≢ 0 → AreFrozen (r ⊳ g) s j → AreFrozen g s j
    frozen_back d frozen i few = subst (λ n. HasHeld g (info n) s) same (go (effect lay g r l) (frozen i few))
      where
        same : member (r ⊳ g) s i ≡ member g s i
        same = scx_stays lay g r s l real named (Member i) tt

        go : Effect lay g r → HasHeld (r ⊳ g) (info (member (r ⊳ g) s i)) s → HasHeld g (info (member (r ⊳ g) s i)) s
        go (quiet k) p = held_back r g _ s (k.info _) p
        go (update u w) p = update_held f w _ s p
        go (freeze u k w) p = ⊎_elim (λ q. absurd (d (subst (λ v. value (r ⊳ g) (state v) ≡ 0) (sym q.0) (freeze_keeps_scx f w u State ∙ freeze_in_progress f w)))) (λ q. q) (freeze_held f w _ s p)

  pub frozen_running : (h m : History) → Lawful lay h → Extends h m → Extends m start → IsInProgress m s → AreFrozen h s j → HasBeen h start (HasFrozen s j)
  frozen_running (Opened o) m l e since run frozen = record { moment = m; within = e; since = since; was = (run, subst (λ k. AreFrozen k s j) (sym e) frozen) }
  frozen_running (r ⊳ g) m l (inl e) since run frozen = record { moment = m; within = inl e; since = since; was = (run, subst (λ k. AreFrozen k s j) (sym e) frozen) }
  frozen_running (r ⊳ g) m l (inr e) since run frozen = go (ℕ_discrete (value (r ⊳ g) (state s)) 0) (λ q. been_more r g start (HasFrozen s j) (frozen_running g m (lawful_tail lay g r l) e since run q))
    where
      named : IsNamedScx g s
      named = (run.named.0, held_since g m (info run.named.0) s e run.named.1)

      go : Dec (value (r ⊳ g) (state s) ≡ 0) → (AreFrozen g s j → HasBeen (r ⊳ g) start (HasFrozen s j)) → HasBeen (r ⊳ g) start (HasFrozen s j)
      go (yes z) before = record { moment = r ⊳ g; within = ends_self (r ⊳ g); since = inr (ends_trans g m start e since); was = (record { unfinished = z; named = (named.0, held_more r g (info named.0) s named.1) }, frozen) }
      go (no d) before = before (frozen_back g r l named d frozen)

-- it is in progress, and has reached the node
abbrev pub IsReaching : ℕ → ℕ → History → Type 0
IsReaching s n m = IsInProgress m s × HasReached m s n

-- What the info of a node has come to name since a moment had reached it.
pub info_reached : (lay : Layout) (h start : History) (n : ℕ) → Lawful lay h → Extends h start → value h (info n) ≢ value start (info n) → HasBeen h start (IsReaching (value h (info n)) n)
info_reached lay (Opened o) start n l e d = absurd (d (ap (λ k. value k (info n)) (sym e)))
info_reached lay (r ⊳ h) start n l (inl e) d = absurd (d (ap (λ k. value k (info n)) (sym e)))
info_reached lay (r ⊳ h) start n l (inr e) d = go (effect lay h r l) (info_reached lay h start n (lawful_tail lay h r l) e)
  where
    f : Facts lay h
    f = facts_before lay h r l

    before : value (r ⊳ h) (info n) ≡ value h (info n) → (value h (info n) ≢ value start (info n) → HasBeen h start (IsReaching (value h (info n)) n)) → HasBeen (r ⊳ h) start (IsReaching (value (r ⊳ h) (info n)) n)
    before same more = been_more r h start (IsReaching (value (r ⊳ h) (info n)) n) (subst (λ v. HasBeen h start (IsReaching v n)) (sym same) (more (λ q. d (same ∙ q))))

    now : (u j : ℕ) → FreezeWins lay h r u j → member h u j ≡ n → HasBeen (r ⊳ h) start (IsReaching (value (r ⊳ h) (info n)) n)
    now u j w q = subst (λ v. HasBeen (r ⊳ h) start (IsReaching v n)) (sym here) record {
      moment = r ⊳ h;
      within = ends_self (r ⊳ h);
      since = inr e;
      was = (
        record { unfinished = freeze_keeps_scx f w u State ∙ freeze_in_progress f w; named = (n, held_at (r ⊳ h) (info n) u here) },
        record {
          index = j;
          within = subst (λ p. j < count_of p) (sym (freeze_keeps_scx f w u Plan)) w.freeze.within;
          is = freeze_keeps_scx f w u (Member j) ∙ q;
          earlier = λ i few. held_more r h _ u (subst (λ m. HasHeld h (info m) u) (sym (freeze_keeps_scx f w u (Member i))) (w.freeze.earlier i few));
        },
      );
    }
      where
        here : value (r ⊳ h) (info n) ≡ u
        here = ap (λ m. value (r ⊳ h) (info m)) (sym q) ∙ freeze_stores f w

    go : Effect lay h r → (value h (info n) ≢ value start (info n) → HasBeen h start (IsReaching (value h (info n)) n)) → HasBeen (r ⊳ h) start (IsReaching (value (r ⊳ h) (info n)) n)
    go (quiet k) more = before (k.info n) more
    go (update u w) more = before (update_keeps_info f w n) more
    go (freeze u j w) more = at (ℕ_discrete (member h u j) n)
      where
        at : Dec (member h u j ≡ n) → HasBeen (r ⊳ h) start (IsReaching (value (r ⊳ h) (info n)) n)
        at (yes q) = now u j w q
        at (no q) = before (freeze_keeps_info f w n q) more
