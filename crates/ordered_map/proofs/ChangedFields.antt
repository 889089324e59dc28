-- A field that has changed since a moment: the SCX-record that its node's info names was in the way
-- since then.
use Rattle.std.proofs.Common.{◌≡◌, ◌≢◌, ℕ, inl, inr, refl, sym, ◌∙◌, ap, subst}
use native.Mathlib.Decide.{ℕ_discrete}
use Rattle.histories.specs.Common.{Layout, Row, Side, Child, State, Plan, Member, info, child, History, Opened, ◌⊳◌, value, Extends, field_index, member, plan, side_of, IsNamed, Lawful, WasInTheWay}
use Rattle.arena.proofs.Lemmas.{node_apart, ends_self, ends_trans}
use Rattle.histories.proofs.Lemmas.{Effect, Facts, UpdateWins, blame_info, earlier, effect, facts_before, freeze, freeze_keeps_field, lawful_tail, named_scx_more, named_since, quiet, update, update_about, update_flagged, update_holds, update_in_progress, update_keeps_info, update_keeps_other, update_keeps_scx}

module _ (lay : Layout) (h m : History) (r : Row) (n : ℕ) (side : Side) (l : Lawful lay (r ⊳ h)) (e : Extends h m) (named : IsNamed lay m n) where
  f : Facts lay h
  f = facts_before lay h r l

  wider : (s : ℕ) → WasInTheWay (r ⊳ h) h n s → WasInTheWay (r ⊳ h) m n s
  wider s x = record { row = x.row; before = x.before; within = x.within; since = ends_trans x.before h m x.since e; running = x.running; covers = x.covers }

  -- it changes by this row
  now : value (r ⊳ h) (child n side) ≢ value h (child n side) → WasInTheWay (r ⊳ h) m n (value (r ⊳ h) (info n))
  now d = go (effect lay h r l)
    where
      by_update : (u : ℕ) → UpdateWins h r u → member h u (field_index h u) ≡ n → WasInTheWay (r ⊳ h) m n (value (r ⊳ h) (info n))
      by_update u w q = subst (WasInTheWay (r ⊳ h) m n) (sym (update_keeps_info f w n ∙ ap (λ k. value h (info k)) (sym q) ∙ update_holds f w)) record {
        row = r;
        before = h;
        within = inl refl;
        since = e;
        running = record { unfinished = update_keeps_scx f w u State ∙ update_in_progress f w; named = named_scx_more r h u (member h u 0, (update_flagged f w).frozen 0 (update_flagged f w).some) };
        covers = record {
          index = field_index h u;
          within = rw (update_keeps_scx f w u Plan) (update_about f w).planned.field;
          is = update_keeps_scx f w u (Member (field_index h u)) ∙ q;
        };
      }

      at_node : (u : ℕ) → UpdateWins h r u → Dec (member h u (field_index h u) ≡ n) → WasInTheWay (r ⊳ h) m n (value (r ⊳ h) (info n))
      at_node u w (yes q) = by_update u w q
      at_node u w (no q) = absurd (d (update_keeps_other f w (child n side) (node_apart (member h u (field_index h u)) n (Child (side_of (plan h u))) (Child side) q)))

      go : Effect lay h r → WasInTheWay (r ⊳ h) m n (value (r ⊳ h) (info n))
      go (quiet k) = absurd (d (k.node n (Child side) tt (named_since lay h m n (lawful_tail lay h r l) e named)))
      go (freeze u j w) = absurd (d (freeze_keeps_field f w n side))
      go (update u w) = at_node u w (ℕ_discrete _ n)

  -- it had changed before
  before : WasInTheWay h m n (value h (info n)) → WasInTheWay (r ⊳ h) m n (value (r ⊳ h) (info n))
  before x = go (ℕ_discrete (value (r ⊳ h) (info n)) (value h (info n)))
    where
      go : Dec (value (r ⊳ h) (info n) ≡ value h (info n)) → WasInTheWay (r ⊳ h) m n (value (r ⊳ h) (info n))
      go (yes q) = subst (WasInTheWay (r ⊳ h) m n) (sym q) (earlier r x)
      go (no q) = wider (value (r ⊳ h) (info n)) (blame_info lay (r ⊳ h) h n l (inr (ends_self h)) q)

pub blame_field : (lay : Layout) (h m : History) (n : ℕ) (side : Side) → Lawful lay h → Extends h m → IsNamed lay m n → value h (child n side) ≢ value m (child n side) → WasInTheWay h m n (value h (info n))
blame_field lay (Opened o) m n side l e named d = absurd (d (ap (λ k. value k (child n side)) (sym e)))
blame_field lay (r ⊳ h) m n side l (inl e) named d = absurd (d (ap (λ k. value k (child n side)) (sym e)))
blame_field lay (r ⊳ h) m n side l (inr e) named d = go (ℕ_discrete (value h (child n side)) (value m (child n side))) (blame_field lay h m n side (lawful_tail lay h r l) e named)
  where
    go : Dec (value h (child n side) ≡ value m (child n side)) → (value h (child n side) ≢ value m (child n side) → WasInTheWay h m n (value h (info n))) → WasInTheWay (r ⊳ h) m n (value (r ⊳ h) (info n))
    go (yes q) more = now lay h m r n side l e named (λ z. d (z ∙ q))
    go (no q) more = before lay h m r n side l e named (more q)
