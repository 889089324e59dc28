-- What stays from one moment to a later one.
use Rattle.std.proofs.Common.{◌≡◌, ◌≢◌, ℕ, false, inl, inr, ⊎_elim, refl, sym, ◌∙◌, subst}
use native.Mathlib.Decide.{ℕ_discrete}
use Rattle.histories.specs.Common.{Side, NodeWord, Settled, Child, Info, Marked, ScxWord, State, AllFrozen, Layout, Row, same_node_word, node, scx, info, marked, child, state, History}
use Rattle.histories.specs.Common.{Opened, ◌⊳◌, value, Extends, plan, side_of, field_index, member, IsNamed, opening_node, by_field, by_scx, IsNamedScx, IsSettled, HasWon, Lawful, descriptor}
use Rattle.arena.proofs.Lemmas.{value_apart, held_more, node_word_apart, node_apart}
use Rattle.histories.proofs.Changes.{IsNodeFill, IsScxFill, lawful_tail}
use Rattle.histories.proofs.Facts.{Facts, descriptor_same, won_more}
use Rattle.histories.proofs.Keeps.{Marks, flag_stays, mark_stays, same_end}
use Rattle.histories.proofs.Freezes.{freeze_in_progress, freeze_keeps_scx, freeze_keeps_field, freeze_keeps_mark, freeze_keeps_info, freeze_stores, freeze_clean, freeze_finds}
use Rattle.histories.proofs.Updates.{update_in_progress, update_holds, update_keeps_scx, update_keeps_info, update_keeps_other, update_keeps_mark}
use Rattle.histories.proofs.Always.{Effect, quiet, freeze, update, effect, facts_before}

-- One more row

-- a state that is not 0 never changes
pub state_stays : (lay : Layout) (h : History) (r : Row) (s : ℕ) → Lawful lay (r ⊳ h) → value h (state s) ≢ 0 → value (r ⊳ h) (state s) ≡ value h (state s)
state_stays lay h r s l d = go (effect lay h r l)
  where
    f : Facts lay h
    f = facts_before lay h r l

    go : Effect lay h r → value (r ⊳ h) (state s) ≡ value h (state s)
    go (quiet k) = same_end f k s d
    go (freeze u j w) = freeze_keeps_scx f w s State
    go (update u w) = update_keeps_scx f w s State

pub finished_stays : (lay : Layout) (h : History) (r : Row) (s : ℕ) → Lawful lay (r ⊳ h) → value h (state s) ≢ 0 → value (r ⊳ h) (state s) ≢ 0
finished_stays lay h r s l d e = d (sym (state_stays lay h r s l d) ∙ e)

pub all_frozen_stays : (lay : Layout) (h : History) (r : Row) (s : ℕ) → Lawful lay (r ⊳ h) → value h (scx s AllFrozen) ≡ 1 → value (r ⊳ h) (scx s AllFrozen) ≡ 1
all_frozen_stays lay h r s l e = go (effect lay h r l)
  where
    f : Facts lay h
    f = facts_before lay h r l

    go : Effect lay h r → value (r ⊳ h) (scx s AllFrozen) ≡ 1
    go (quiet k) = flag_stays f k s e
    go (freeze u j w) = freeze_keeps_scx f w s AllFrozen ∙ e
    go (update u w) = update_keeps_scx f w s AllFrozen ∙ e

pub marked_stays : (lay : Layout) (h : History) (r : Row) (n : ℕ) → Lawful lay (r ⊳ h) → value h (marked n) ≡ 1 → value (r ⊳ h) (marked n) ≡ 1
marked_stays lay h r n l e = go (effect lay h r l)
  where
    f : Facts lay h
    f = facts_before lay h r l

    go : Effect lay h r → value (r ⊳ h) (marked n) ≡ 1
    go (quiet k) = mark_stays f k n e
    go (freeze u j w) = freeze_keeps_mark f w n ∙ e
    go (update u w) = update_keeps_mark f w n ∙ e

-- the settled words of a named SCX-record stay
pub scx_stays : (lay : Layout) (h : History) (r : Row) (s : ℕ) → Lawful lay (r ⊳ h) → s ≢ 0 → IsNamedScx h s → (a : ScxWord) → IsScxFill a → value (r ⊳ h) (scx s a) ≡ value h (scx s a)
scx_stays lay h r s l d p a i = go (effect lay h r l)
  where
    f : Facts lay h
    f = facts_before lay h r l

    go : Effect lay h r → value (r ⊳ h) (scx s a) ≡ value h (scx s a)
    go (quiet k) = k.settled s d p a i
    go (freeze u j w) = freeze_keeps_scx f w s a
    go (update u w) = update_keeps_scx f w s a

pub descriptor_stays : (lay : Layout) (h : History) (r : Row) (s : ℕ) → Lawful lay (r ⊳ h) → s ≢ 0 → IsNamedScx h s → descriptor (r ⊳ h) s ≡ descriptor h s
descriptor_stays lay h r s l d p = descriptor_same h (r ⊳ h) s (scx_stays lay h r s l d p)

pub named_scx_more : (r : Row) (h : History) (s : ℕ) → IsNamedScx h s → IsNamedScx (r ⊳ h) s
named_scx_more r h s p = (p.0, held_more r h _ s p.1)

pub named_more : {lay : Layout} {h : History} (r : Row) {n : ℕ} → IsNamed lay h n → IsNamed lay (r ⊳ h) n
named_more r (opening_node p) = opening_node p
named_more r (by_field m side p q) = by_field m side (named_more r p) (held_more r _ _ _ q)
named_more r (by_scx s part p i q) = by_scx s part (p.0, held_more r _ _ _ p.1) i (held_more r _ _ _ q)

not_info : (a : NodeWord) → IsNodeFill a → same_node_word Info a ≡ false
not_info Info i = absurd i
not_info Marked i = absurd i
not_info _ i = refl

not_child : (n : ℕ) (side : Side) (a : NodeWord) → IsSettled (node n a) → same_node_word (Child side) a ≡ false
not_child n side (Settled p) i = refl
not_child n side (Child b) i = absurd i
not_child n side Info i = absurd i
not_child n side Marked i = absurd i

is_fill_of : (n : ℕ) (a : NodeWord) → IsSettled (node n a) → IsNodeFill a
is_fill_of n (Settled p) i = tt
is_fill_of n (Child b) i = tt
is_fill_of n Info i = absurd i
is_fill_of n Marked i = absurd i

-- the settled words of a named node stay
pub node_stays : (lay : Layout) (h : History) (r : Row) (n : ℕ) (a : NodeWord) → Lawful lay (r ⊳ h) → IsSettled (node n a) → IsNamed lay h n → value (r ⊳ h) (node n a) ≡ value h (node n a)
node_stays lay h r n a l i p = go (effect lay h r l)
  where
    f : Facts lay h
    f = facts_before lay h r l

    go : Effect lay h r → value (r ⊳ h) (node n a) ≡ value h (node n a)
    go (quiet k) = k.node n a (is_fill_of n a i) p
    go (freeze u j w) = value_apart r h (info (member h u j)) (node n a) w.freeze.word (node_word_apart _ n Info a (not_info a (is_fill_of n a i)))
    go (update u w) = update_keeps_other f w (node n a) (node_word_apart _ n (Child (side_of (plan h u))) a (not_child n _ a i))

-- at the end of m the info of n named s, and up to h neither its fields nor its mark have changed
pub record Still (m h : History) (n s : ℕ) : Type 0 where
  pub info : value m (info n) ≡ s
  pub fields : (side : Side) → value h (child n side) ≡ value m (child n side)
  pub mark : value h (marked n) ≡ value m (marked n)

-- Where the info of a node names a finished SCX-record after a row, it did before the row, and the
-- row left the fields and the mark.
pub still : (lay : Layout) (h : History) (r : Row) (n s : ℕ) → Lawful lay (r ⊳ h) → IsNamed lay h n → value h (state s) ≢ 0 → value (r ⊳ h) (info n) ≡ s → Still h (r ⊳ h) n s
still lay h r n s l named d here = go (effect lay h r l)
  where
    f : Facts lay h
    f = facts_before lay h r l

    go : Effect lay h r → Still h (r ⊳ h) n s
    go (quiet k) = record { info = same; fields = λ side. k.node n (Child side) tt named; mark = ⊎_elim (λ q. q) none (k.mark n) }
      where
        same : value h (info n) ≡ s
        same = sym (k.info n) ∙ here

        none : Marks h n (value (r ⊳ h) (marked n)) → value (r ⊳ h) (marked n) ≡ value h (marked n)
        none x = let q : x.scx ≡ s = sym x.marker.holds ∙ same in absurd (d (rw q at x.running))
    go (freeze u j w) = other (ℕ_discrete (member h u j) n)
      where
        other : Dec (member h u j ≡ n) → Still h (r ⊳ h) n s
        other (no p) = record { info = sym (freeze_keeps_info f w n p) ∙ here; fields = freeze_keeps_field f w n; mark = freeze_keeps_mark f w n }
        other (yes p) =
            let q : u ≡ s = sym (freeze_stores f w) ∙ rw (← p) at here in
            absurd (d (rw q at (freeze_in_progress f w)))
    go (update u w) = other (ℕ_discrete (member h u (field_index h u)) n)
      where
        same : value h (info n) ≡ s
        same = sym (update_keeps_info f w n) ∙ here

        other : Dec (member h u (field_index h u) ≡ n) → Still h (r ⊳ h) n s
        other (no p) = record { info = same; fields = λ side. update_keeps_other f w (child n side) (node_apart (member h u (field_index h u)) n (Child (side_of (plan h u))) (Child side) p); mark = update_keeps_mark f w n }
        other (yes p) =
            let q : u ≡ s = sym (update_holds f w) ∙ rw (← p) at same in
            absurd (d (rw q at (update_in_progress f w)))

-- The info of a marked node that names a finished SCX-record never changes.
pub sealed : (lay : Layout) (h : History) (r : Row) (n s : ℕ) → Lawful lay (r ⊳ h) → value h (marked n) ≢ 0 → value h (info n) ≡ s → value (r ⊳ h) (info n) ≡ s
sealed lay h r n s l m e = go (effect lay h r l)
  where
    f : Facts lay h
    f = facts_before lay h r l

    go : Effect lay h r → value (r ⊳ h) (info n) ≡ s
    go (quiet k) = k.info n ∙ e
    go (update u w) = update_keeps_info f w n ∙ e
    go (freeze u j w) = other (ℕ_discrete (member h u j) n)
      where
        other : Dec (member h u j ≡ n) → value (r ⊳ h) (info n) ≡ s
        other (no p) = freeze_keeps_info f w n p ∙ e
        other (yes p) = absurd (m (rw p at (freeze_clean f w j w.freeze.within (freeze_finds f w))))

-- Many rows

-- what each lawful row keeps, a moment hands on to all later ones
pub since : (P : History → Type 0) (lay : Layout) → ((h : History) (r : Row) → Lawful lay (r ⊳ h) → P h → P (r ⊳ h)) → (h m : History) → Lawful lay h → Extends h m → P m → P h
since P lay step (Opened o) m l e p = subst P e p
since P lay step (r ⊳ h) m l (inl e) p = subst P e p
since P lay step (r ⊳ h) m l (inr e) p = step h r l (since P lay step h m (lawful_tail lay h r l) e p)

pub lawful_since : (lay : Layout) (h m : History) → Lawful lay h → Extends h m → Lawful lay m
lawful_since lay (Opened o) m l e = subst (Lawful lay) (sym e) l
lawful_since lay (r ⊳ h) m l (inl e) = subst (Lawful lay) (sym e) l
lawful_since lay (r ⊳ h) m l (inr e) = lawful_since lay h m (lawful_tail lay h r l) e

pub named_since : (lay : Layout) (h m : History) (n : ℕ) → Lawful lay h → Extends h m → IsNamed lay m n → IsNamed lay h n
named_since lay h m n = since (λ k. IsNamed lay k n) lay (λ h r l p. named_more r p) h m

pub state_since : (lay : Layout) (h m : History) (s : ℕ) → Lawful lay h → Extends h m → value m (state s) ≢ 0 → value h (state s) ≡ value m (state s)
state_since lay h m s l e d = since (λ k. value k (state s) ≡ value m (state s)) lay (λ h r l p. state_stays lay h r s l (λ q. d (sym p ∙ q)) ∙ p) h m l e refl

pub won_since : (lay : Layout) (h m : History) (s : ℕ) → Lawful lay h → Extends h m → HasWon m s → HasWon h s
won_since lay h m s = since (λ k. HasWon k s) lay (λ h r l. won_more r h s) h m

pub scx_since : (lay : Layout) (h m : History) (s : ℕ) → Lawful lay h → Extends h m → s ≢ 0 → IsNamedScx m s → (a : ScxWord) → IsScxFill a → value h (scx s a) ≡ value m (scx s a)
scx_since lay h m s l e d p a i =
    (since (λ k. IsNamedScx k s × (value k (scx s a) ≡ value m (scx s a))) lay (λ h r l q. (named_scx_more r h s q.0, scx_stays lay h r s l d q.0 a i ∙ q.1)) h m l e (p, refl)).1

pub node_since : (lay : Layout) (h m : History) (n : ℕ) (a : NodeWord) → Lawful lay h → Extends h m → IsSettled (node n a) → IsNamed lay m n → value h (node n a) ≡ value m (node n a)
node_since lay h m n a l e i p =
    (since (λ k. IsNamed lay k n × (value k (node n a) ≡ value m (node n a))) lay (λ h r l q. (named_more r q.0, node_stays lay h r n a l i q.0 ∙ q.1)) h m l e (p, refl)).1

-- At rest nothing moves: an info word that names at the end what was finished at a moment, named it
-- ever since.
pub still_since : (lay : Layout) (h m : History) (n s : ℕ) → Lawful lay h → Extends h m → IsNamed lay m n → value m (state s) ≢ 0 → value h (info n) ≡ s → Still m h n s
still_since lay (Opened o) m n s l e p d here = subst (λ k. Still k (Opened o) n s) (sym e) record { info = here; fields = λ side. refl; mark = refl }
still_since lay (r ⊳ h) m n s l (inl e) p d here = subst (λ k. Still k (r ⊳ h) n s) (sym e) record { info = here; fields = λ side. refl; mark = refl }
still_since lay (r ⊳ h) m n s l (inr e) p d here =
    let b : Lawful lay h = lawful_tail lay h r l in
    let x : Still h (r ⊳ h) n s = still lay h r n s l (named_since lay h m n b e p) (λ q. d (sym (state_since lay h m s b e d) ∙ q)) here in
    let y : Still m h n s = still_since lay h m n s b e p d x.info in
    record { info = y.info; fields = λ side. x.fields side ∙ y.fields side; mark = x.mark ∙ y.mark }
