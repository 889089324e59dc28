-- Final nodes: at rest a node is final where it is marked, and only there; it stays final, and
-- never changes again.
use Rattle.std.proofs.Common.{◌≡◌, ◌≢◌, ℕ, Bool, true, false, inl, inr, ⊎_elim, refl, sym, ◌∙◌, arith}
use native.Mathlib.Decide.{ℕ_discrete}
use Rattle.histories.specs.Common.{Layout, Side, NodeWord, Settled, Child, Info, Marked, AllFrozen, Row, node, info, marked, scx, state, child, History, ◌⊳◌}
use Rattle.histories.specs.Common.{value, Extends, IsNamed, HasWon, Lawful, log, is_final, IsMember, plan, side_of, field_index, member, IsRemoved, descriptor}
use Rattle.arena.specs.Finalized.{IsFinalized}
use Rattle.arena.proofs.Lemmas.{node_apart}
use Rattle.histories.proofs.Freezes.{freeze_keeps_field}
use Rattle.histories.proofs.Changes.{UpdateWins, lawful_tail}
use Rattle.histories.proofs.Updates.{update_is_first, update_holds, update_keeps_other}
use Rattle.histories.proofs.Lasts.{holds_member}
use Rattle.histories.proofs.Facts.{IsEnded, IsFlagged, IsMarker, Facts, member_named, flagged_about}
use Rattle.histories.proofs.Always.{facts, facts_before, Effect, quiet, freeze, update, effect}
use Rattle.histories.proofs.Moments.{lawful_since, marked_stays, node_stays, sealed, since}
use Rattle.histories.proofs.Entries.{won_named, IsFinalizedBy, finalized_by_stays, final_by, by_final}

flag_set : {lay : Layout} {h : History} (s : ℕ) → Facts lay h → HasWon h s → value h (scx s AllFrozen) ≢ 0
flag_set s f w e = let y = f.winner s w in omega arith

-- what an SCX-record that has won finalizes is marked, and held by it
pub finalized_marked : {lay : Layout} {h : History} {n s : ℕ} → Facts lay h → IsFinalizedBy h n s → value h (marked n) ≡ 1
finalized_marked {lay} {h} {n} {s} f x = rw x.removed.is at (f.all_marked s x.won x.removed.index x.removed.within x.removed.removed)

pub finalizer_holds : {lay : Layout} {h : History} {n s : ℕ} → Facts lay h → IsFinalizedBy h n s → value h (info n) ≡ s
finalizer_holds {lay} {h} {n} {s} f x = rw x.removed.is at (f.finalizes s (flag_set s f x.won) x.removed.index x.removed.within x.removed.removed)

-- so a node has one finalizer
pub one_finalizer : {lay : Layout} {h : History} {n s u : ℕ} → Facts lay h → IsFinalizedBy h n s → IsFinalizedBy h n u → s ≡ u
one_finalizer f x y = sym (finalizer_holds f x) ∙ finalizer_holds f y

-- a final node is marked
pub final_marked : (lay : Layout) (h : History) (n : ℕ) → Lawful lay h → is_final (log lay h) n ≡ true → value h (marked n) ≡ 1
final_marked lay h n l e = let x : (s : ℕ) × IsFinalizedBy h n s = final_by lay h n l e in finalized_marked (facts lay h l) x.1

-- and a marked node whose info names a finished SCX-record is final: that SCX-record is committed
-- and finalizes it
pub record IsFinalAtRest (h : History) (n s : ℕ) : Type 0 where
  pub committed : value h (state s) ≡ 1
  pub by : IsFinalizedBy h n s

pub marked_final : (lay : Layout) (h : History) (n s : ℕ) → Lawful lay h → value h (marked n) ≢ 0 → value h (info n) ≡ s → value h (state s) ≢ 0 → IsFinalAtRest h n s
marked_final lay h n s l m e d = at_marker (f.marked n m)
  where
    f : Facts lay h
    f = facts lay h l

    at_marker : (u : ℕ) × IsMarker (descriptor h u) h u n → IsFinalAtRest h n s
    at_marker x = rw q (ends (f.ended x.0 (rw sym_q d)))
      where
        q : s ≡ x.0
        q = sym e ∙ x.1.holds

        sym_q : x.0 ≡ s
        sym_q = sym q

        c : IsFlagged (descriptor h x.0) h x.0
        c = f.flagged x.0 (λ z. let y = x.1.flag in omega arith)

        removed : IsRemoved h x.0 n
        removed = record { index = x.1.index; within = x.1.within; is = x.1.is; removed = x.1.removed }

        ends : IsEnded h x.0 (value h (state x.0)) → IsFinalAtRest h n x.0
        ends (inl y) = record { committed = y.0; by = record { won = y.1; removed = removed } }
        ends (inr y) = absurd (⊎_elim
            y.1
            (λ z. z.unfrozen (c.frozen z.index z.within))
            ((flagged_about f c).done (λ z. let a = y.0 in omega arith)))

-- so a node that is not marked is not final, and none is that names an aborted SCX-record
pub not_final : (lay : Layout) (h : History) (n : ℕ) → Lawful lay h → value h (marked n) ≡ 0 → is_final (log lay h) n ≡ false
not_final lay h n l z = go (is_final (log lay h) n) refl
  where
    go : (t : Bool) → is_final (log lay h) n ≡ t → t ≡ false
    go false e = refl
    go true e = absurd (let x = final_marked lay h n l e in omega arith)

pub aborted_unmarked : (lay : Layout) (h : History) (n s : ℕ) → Lawful lay h → value h (info n) ≡ s → value h (state s) ≡ 2 → value h (marked n) ≡ 0
aborted_unmarked lay h n s l e a = go (ℕ_discrete (value h (marked n)) 0)
  where
    go : Dec (value h (marked n) ≡ 0) → value h (marked n) ≡ 0
    go (yes z) = z
    go (no d) = absurd (let x = (marked_final lay h n s l d e (λ q. omega arith)).committed in omega arith)

-- before an update wins, none of its SCX-record's nodes is final
pub win_not_final : (lay : Layout) (h : History) (r : Row) (u n : ℕ) → Lawful lay (r ⊳ h) → UpdateWins h r u → IsMember h u n → is_final (log lay h) n ≡ false
win_not_final lay h r u n l w x = go (is_final (log lay h) n) refl
  where
    f : Facts lay h
    f = facts_before lay h r l

    go : (t : Bool) → is_final (log lay h) n ≡ t → t ≡ false
    go false e = refl
    go true e =
        let y : (s : ℕ) × IsFinalizedBy h n s = final_by lay h n (lawful_tail lay h r l) e in
        let q : y.0 ≡ u = sym (finalizer_holds f y.1) ∙ holds_member f w x in
        absurd (update_is_first f w (rw q at y.1.won))

-- Final nodes stay final, and never change

pub final_stays : (lay : Layout) (h : History) (r : Row) (n : ℕ) → Lawful lay (r ⊳ h) → is_final (log lay h) n ≡ true → is_final (log lay (r ⊳ h)) n ≡ true
final_stays lay h r n l e =
    let by : (s : ℕ) × IsFinalizedBy h n s = final_by lay h n (lawful_tail lay h r l) e in
    by_final lay (r ⊳ h) n by.0 l (finalized_by_stays lay h r n by.0 l by.1)

-- no lawful row changes a word of a final node
pub final_unchanged : (lay : Layout) (h : History) (r : Row) (n : ℕ) (part : NodeWord) → Lawful lay (r ⊳ h) → is_final (log lay h) n ≡ true → value (r ⊳ h) (node n part) ≡ value h (node n part)
final_unchanged lay h r n part l e = go part
  where
    f : Facts lay h
    f = facts_before lay h r l

    by : (s : ℕ) × IsFinalizedBy h n s
    by = final_by lay h n (lawful_tail lay h r l) e

    mark : value h (marked n) ≡ 1
    mark = finalized_marked f by.1

    held : value h (info n) ≡ by.0
    held = finalizer_holds f by.1

    named : IsNamed lay h n
    named = rw by.1.removed.is at (member_named lay h by.0 _ by.1.removed.index (won_named by.0 f by.1.won).1)

    field : (side : Side) → Effect lay h r → value (r ⊳ h) (child n side) ≡ value h (child n side)
    field side (quiet k) = k.node n (Child side) tt named
    field side (freeze u j w) = freeze_keeps_field f w n side
    field side (update u w) = other (ℕ_discrete (member h u (field_index h u)) n)
      where
        other : Dec (member h u (field_index h u) ≡ n) → value (r ⊳ h) (child n side) ≡ value h (child n side)
        other (no p) = update_keeps_other f w (child n side) (node_apart (member h u (field_index h u)) n (Child (side_of (plan h u))) (Child side) p)
        other (yes p) =
            let q : by.0 ≡ u = sym held ∙ rw p at (update_holds f w) in
            absurd (update_is_first f w (rw q at by.1.won))

    go : (part : NodeWord) → value (r ⊳ h) (node n part) ≡ value h (node n part)
    go (Settled p) = node_stays lay h r n (Settled p) l tt named
    go (Child side) = field side (effect lay h r l)
    go Info = sealed lay h r n by.0 l (λ z. let y = mark in omega arith) held ∙ sym held
    go Marked = marked_stays lay h r n l mark ∙ sym mark

-- nor do any later rows
pub final_unchanged_since : (lay : Layout) (h m : History) (n : ℕ) (part : NodeWord) → Lawful lay h → Extends h m → is_final (log lay m) n ≡ true → value h (node n part) ≡ value m (node n part)
final_unchanged_since lay h m n part l e x =
    (since (λ k. (is_final (log lay k) n ≡ true) × (value k (node n part) ≡ value m (node n part))) lay (λ h r l y. (final_stays lay h r n l y.0, final_unchanged lay h r n part l y.0 ∙ y.1)) h m l e (x, refl)).1

-- a node that a committed SCX-record finalizes is final
pub finalized_final : (lay : Layout) (h : History) (n : ℕ) → Lawful lay h → IsFinalized h n → is_final (log lay h) n ≡ true
finalized_final lay h n l x = go (f.ended x.scx (λ e. let y = x.committed in omega arith))
  where
    f : Facts lay h
    f = facts lay h l

    go : IsEnded h x.scx (value h (state x.scx)) → is_final (log lay h) n ≡ true
    go (inl y) = by_final lay h n x.scx l record { won = y.1; removed = record { index = x.index; within = x.within; is = x.is; removed = x.removed } }
    go (inr y) = absurd (let a = y.0 in let b = x.committed in omega arith)

pub finalized_since : (lay : Layout) (h m : History) (n : ℕ) (part : NodeWord) → Lawful lay h → Extends h m → IsFinalized m n → value h (node n part) ≡ value m (node n part)
finalized_since lay h m n part l e x = final_unchanged_since lay h m n part l e (finalized_final lay m n (lawful_since lay h m l e) x)
