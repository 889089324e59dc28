-- What a snapshot has shown stays in its node's fields until the SCX-record wins that covers the
-- node.
use Rattle.std.proofs.Common.{◌≡◌, ◌≢◌, ℕ, ◌<◌, inl, inr, refl, sym, ◌∙◌, ap, subst}
use native.Mathlib.Decide.{ℕ_discrete}
use Rattle.histories.specs.Common.{Layout, Row, Side, Child, ScxWord, Plan, Member, Seen, scx, info, child, History, Opened, ◌⊳◌, value, Extends}
use Rattle.histories.specs.Common.{count, count_of, field_index, member, seen, side_of, plan, IsNamed, by_scx, IsWin, HasWon, Lawful, descriptor}
use Rattle.arena.proofs.Lemmas.{held_at, node_apart}
use Rattle.histories.proofs.Lemmas.{About, Effect, Facts, FreezeWins, IsScxFill, UpdateWins, effect, facts, facts_before, freeze, freeze_finds, freeze_keeps_field, freeze_keeps_info, freeze_keeps_scx, freeze_stores, holds_member, lawful_row, lawful_tail, quiet, scx_stays, some_is_real, update, update_flagged, update_holds, update_is_first, update_keeps_info, update_keeps_other, update_won, won_more}
use Rattle.prims.specs.Snap.{child_of}
use Rattle.prims.specs.declared.snap.Snap.{Snap}
use Rattle.prims.specs.Laws.Linked.{IsLinked, linked_since}

-- s, which has not won, holds its i-th node, which is that of the snapshot, and has seen there what
-- that found
pub record HoldsSnap (h : History) (s i : ℕ) (snap : Snap) : Type 0 where
  pub within : i < count h s
  pub node : member h s i ≡ snap.node.0
  pub saw : seen h s i ≡ snap.scx.0
  pub holds : value h (info snap.node.0) ≡ s
  pub waits : ¬ HasWon h s

-- One row more

module _ (lay : Layout) (h : History) (r : Row) (s i : ℕ) (snap : Snap) (side : Side) (l : Lawful lay (r ⊳ h)) (real : s ≢ 0) (x : HoldsSnap (r ⊳ h) s i snap) where
  abbrev n : ℕ
  n = snap.node.0

  abbrev Shows : History → Type 0
  Shows k = value k (child n side) ≡ (child_of snap side).0

  f : Facts lay h
  f = facts_before lay h r l

  -- where it held the node before the row
  module _ (p : value h (info n) ≡ s) where
    words : (a : ScxWord) → IsScxFill a → value (r ⊳ h) (scx s a) ≡ value h (scx s a)
    words = scx_stays lay h r s l real (n, held_at h (info n) s p)

    before : HoldsSnap h s i snap
    before = record {
      within = subst (λ v. i < count_of v) (words Plan tt) x.within;
      node = sym (words (Member i) tt) ∙ x.node;
      saw = sym (words (Seen i) tt) ∙ x.saw;
      holds = p;
      waits = λ y. x.waits (won_more r h s y);
    }

    named : IsNamed lay h n
    named = subst (IsNamed lay h) before.node (by_scx s (Member i) (n, held_at h (info n) s p) tt (held_at h (scx s (Member i)) (member h s i) refl))

    updated : (u : ℕ) → UpdateWins h r u → Dec (u ≡ s) → value (r ⊳ h) (child n side) ≡ value h (child n side)
    updated u z (yes y) = absurd (x.waits (subst (λ t. HasWon (r ⊳ h) t) y (update_won f z)))
    updated u z (no d) = update_keeps_other f z (child n side) (node_apart (member h u (field_index h u)) n (Child (side_of (plan h u))) (Child side) (λ y. d (sym (update_holds f z) ∙ ap (λ t. value h (info t)) y ∙ p)))

    same : Effect lay h r → value (r ⊳ h) (child n side) ≡ value h (child n side)
    same (quiet k) = k.node n (Child side) tt named
    same (freeze u j z) = freeze_keeps_field f z n side
    same (update u z) = updated u z (ℕ_discrete u s)

  -- or has frozen it at this row
  module _ (u j : ℕ) (z : FreezeWins lay h r u j) (at : member h u j ≡ n) where
    mine : u ≡ s
    mine = sym (freeze_stores f z) ∙ ap (λ t. value (r ⊳ h) (info t)) at ∙ x.holds

    about : About lay (descriptor (r ⊳ h) s) (r ⊳ h) s
    about = (facts lay (r ⊳ h) l).about s n real (held_at (r ⊳ h) (info n) s x.holds)

    words_stay : (a : ScxWord) → value (r ⊳ h) (scx s a) ≡ value h (scx s a)
    words_stay a = freeze_keeps_scx f z s a

    place : Dec (i ≡ j) → i ≡ j
    place (yes e) = e
    place (no d) =
        let few : j < count (r ⊳ h) s = subst (λ v. j < count_of v) (sym (words_stay Plan)) (subst (λ t. j < count h t) mine z.freeze.within) in
        absurd (about.distinct i j x.within few d (x.node ∙ sym at ∙ ap (λ t. member h t j) mine ∙ sym (words_stay (Member j))))

    seen_is : seen h u j ≡ snap.scx.0
    seen_is = ap (λ t. seen h t j) mine ∙ sym (words_stay (Seen j)) ∙ ap (seen (r ⊳ h) s) (sym (place (ℕ_discrete i j))) ∙ x.saw

    frozen_now : IsLinked lay h snap → Shows (r ⊳ h)
    frozen_now linked = freeze_keeps_field f z n side ∙ linked.fields side (ap (λ t. value h (info t)) (sym at) ∙ freeze_finds f z ∙ seen_is)

  begins : IsLinked lay h snap → value h (info n) ≢ s → Effect lay h r → Shows (r ⊳ h)
  begins linked d (quiet k) = absurd (d (sym (k.info n) ∙ x.holds))
  begins linked d (update u z) = absurd (d (sym (update_keeps_info f z n) ∙ x.holds))
  begins linked d (freeze u j z) = at_node (ℕ_discrete (member h u j) n)
    where
      at_node : Dec (member h u j ≡ n) → Shows (r ⊳ h)
      at_node (no q) = absurd (d (sym (freeze_keeps_info f z n q) ∙ x.holds))
      at_node (yes q) = frozen_now u j z q linked

  shows_next : IsLinked lay h snap → Dec (value h (info n) ≡ s) → (HoldsSnap h s i snap → Shows h) → Shows (r ⊳ h)
  shows_next linked (yes p) more = same p (effect lay h r l) ∙ more (before p)
  shows_next linked (no d) more = begins linked d (effect lay h r l)

-- so the fields are as at each moment at which the info was what it has seen
held_shows : (lay : Layout) (h m : History) (s i : ℕ) (snap : Snap) (side : Side) → Lawful lay h → s ≢ 0 → HoldsSnap h s i snap → Extends h m → IsLinked lay m snap → value m (info snap.node.0) ≡ snap.scx.0 → value h (child snap.node.0 side) ≡ (child_of snap side).0
held_shows lay (Opened o) m s i snap side l real x e linked here = subst (λ k. value k (child snap.node.0 side) ≡ (child_of snap side).0) e (linked.fields side here)
held_shows lay (r ⊳ h) m s i snap side l real x (inl e) linked here = subst (λ k. value k (child snap.node.0 side) ≡ (child_of snap side).0) e (linked.fields side here)
held_shows lay (r ⊳ h) m s i snap side l real x (inr e) linked here =
    shows_next lay h r s i snap side l real x (linked_since lay h m snap (lawful_tail lay h r l) e linked) (ℕ_discrete (value h (info snap.node.0)) s)
    (λ y. held_shows lay h m s i snap side (lawful_tail lay h r l) real y e linked here)

-- just before a row at which s wins, the fields of each of its nodes are as the snapshot found them
-- whose SCX-record s has seen there
pub won_shows : (lay : Layout) (h : History) (r : Row) (s i : ℕ) (m : History) (snap : Snap) (side : Side) → Lawful lay (r ⊳ h) → IsWin h r s → i < count h s → member h s i ≡ snap.node.0 → seen h s i ≡ snap.scx.0 → Extends h m → IsLinked lay m snap → value m (info snap.node.0) ≡ snap.scx.0 → value h (child snap.node.0 side) ≡ (child_of snap side).0
won_shows lay h r s i m snap side l win within is saw e linked here =
    held_shows lay h m s i snap side (lawful_tail lay h r l) (some_is_real f (update_flagged f wins).some) record {
      within = within;
      node = is;
      saw = saw;
      holds = ap (λ n. value h (info n)) (sym is) ∙ holds_member f wins (record { index = i; within = within; is = refl });
      waits = update_is_first f wins;
    } e linked here
  where
    f : Facts lay h
    f = facts_before lay h r l

    wins : UpdateWins h r s
    wins = record { kind = win.kind; update = win.update; before = (lawful_row lay h r l).before; found = win.found; stored = win.update.exchange.won win.found }
