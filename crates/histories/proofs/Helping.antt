-- What a helper of an SCX-record that an info word names may do, whatever lawful rows of others
-- are made meanwhile.
use Rattle.std.proofs.Common.{◌≡◌, ◌≢◌, ℕ, ◌<◌, ◌⊎◌, inl, inr, ⊎_elim, sym, ◌∙◌, arith, subst}
use native.Mathlib.Decide.{ℕ_discrete}
use Rattle.histories.specs.Common.{Layout, AllFrozen, Row, Update, info, scx, state, History, ◌⊳◌, value, Extends, count, member, seen, old, field_index, log}
use Rattle.histories.specs.Common.{IsEntered, IsExchange, IsFrozen, AreFrozen, IsFreeze, IsUpdate, IsAbort, HasWon, Lawful, IsStarted, IsOver, IsStuck, descriptor}
use Rattle.arena.specs.Lawful.{AllAreFrozen, IsSetFrozen}
use Rattle.arena.proofs.Lemmas.{held_more, held_back}
use Rattle.histories.proofs.Changes.{lawful_tail, lawful_row}
use Rattle.histories.proofs.Facts.{IsFlagged, IsEnded, About, Facts, won_more, flagged_about}
use Rattle.histories.proofs.Freezes.{first_frozen, freeze_stuck, freeze_is_new, freeze_finds}
use Rattle.histories.proofs.Updates.{update_won, update_keeps_info, update_held}
use Rattle.histories.proofs.Always.{Effect, quiet, freeze, update, effect, facts, facts_before}
use Rattle.histories.proofs.Moments.{descriptor_stays, named_scx_more, state_stays, state_since}
use Rattle.histories.proofs.Entries.{entered_won}

pub started_more : (r : Row) (h : History) (s : ℕ) → IsStarted h s → IsStarted (r ⊳ h) s
started_more r h s x = record { real = x.real; named = named_scx_more r h s x.named }

pub about : (lay : Layout) (h : History) (s : ℕ) → Lawful lay h → IsStarted h s → About lay (descriptor h s) h s
about lay h s l x = (facts lay h l).about s x.named.0 x.real x.named.1

pub started_first : (lay : Layout) (h : History) (s : ℕ) → Lawful lay h → IsStarted h s → IsFrozen h s 0
started_first lay h s l x = first_frozen h s x.named.0 x.named.1 ((facts lay h l).cell s x.named.0 x.real x.named.1)

three : (a b : ℕ) → (a < b) ⊎ ((b < a) ⊎ (b ≡ a))
three a b = grind arith

-- A freezing exchange of a node, all earlier ones being frozen, can win only while the SCX-record
-- is in progress.
pub wins_in_progress : (lay : Layout) (h : History) (s j : ℕ) → Lawful lay h → IsStarted h s → j < count h s → AreFrozen h s j → value h (info (member h s j)) ≡ seen h s j → value h (state s) ≡ 0
wins_in_progress lay h s j l started i earlier e = go (ℕ_discrete (value h (state s)) 0)
  where
    f : Facts lay h
    f = facts lay h l

    a : About lay (descriptor h s) h s
    a = about lay h s l started

    unfrozen : ¬ IsFrozen h s j
    unfrozen q = a.gone j i q e

    by_index : (x : IsStuck (descriptor h s) h s) → (j < x.index) ⊎ ((x.index < j) ⊎ (x.index ≡ j)) → ⊥
    by_index x (inl y) = unfrozen (x.earlier j y)
    by_index x (inr (inl y)) = x.unfrozen (earlier x.index y)
    by_index x (inr (inr y)) = x.passed (rw y e)

    go : Dec (value h (state s) ≡ 0) → value h (state s) ≡ 0
    go (yes q) = q
    go (no q) = ⊎_elim
        (λ w. absurd (unfrozen ((f.flagged s (λ z. let y = f.winner s w in omega arith)).frozen j i)))
        (λ x. absurd (by_index x (three j x.index)))
        (a.done q)

-- The freezing exchange of every helper is lawful, whether it wins or loses.
pub helper_freezes : (lay : Layout) (h : History) (r : Row) (s j : ℕ) → Lawful lay h → IsStarted h s → j < count h s → AreFrozen h s j → r.before ≡ value h r.word → r.word ≡ info (member h s j) → IsExchange r (seen h s j) s → IsFreeze lay h r s j
helper_freezes lay h r s j l started i earlier b w x = record {
  within = i;
  word = w;
  earlier = earlier;
  exchange = x;
  may_win = λ e. (wins_in_progress lay h s j l started i earlier (rw w at (sym b) ∙ e), λ z. absurd (first z e));
}
  where
    first : j ≡ 0 → r.before ≡ seen h s j → ⊥
    first z e =
        let p : IsFrozen h s j = rw z (started_first lay h s l started) in
        (about lay h s l started).gone j i p (rw w at (sym b) ∙ e)

-- Once a freezing exchange has found neither value

-- a node of V, all earlier ones being frozen, whose info names neither s nor what s has seen there
pub is_over : (lay : Layout) (h : History) (s j : ℕ) → Lawful lay h → IsStarted h s → j < count h s → AreFrozen h s j → value h (info (member h s j)) ≢ seen h s j → value h (info (member h s j)) ≢ s → IsOver h s
is_over lay h s j l started i earlier d e = go (ℕ_discrete (value h (state s)) 0)
  where
    f : Facts lay h
    f = facts lay h l

    a : About lay (descriptor h s) h s
    a = about lay h s l started

    ends : value h (state s) ≢ 0 → HasWon h s → IsEnded h s (value h (state s)) → value h (state s) ≡ 1
    ends z w (inl x) = x.0
    ends z w (inr x) = absurd (x.1 w)

    go : Dec (value h (state s) ≡ 0) → IsOver h s
    go (yes z) = inl record { index = j; within = i; earlier = earlier; unfrozen = λ p. e (a.holds j i p z); passed = d }
    go (no z) = ⊎_elim (λ w. inr (ends z w (f.ended s z))) (λ x. inl x) (a.done z)

pub stuck_stays : (lay : Layout) (h : History) (r : Row) (s : ℕ) → Lawful lay (r ⊳ h) → IsStarted h s → IsStuck (descriptor h s) h s → IsStuck (descriptor h s) (r ⊳ h) s
stuck_stays lay h r s l started x = go (effect lay h r l)
  where
    f : Facts lay h
    f = facts_before lay h r l

    a : About lay (descriptor h s) h s
    a = about lay h s (lawful_tail lay h r l) started

    go : Effect lay h r → IsStuck (descriptor h s) (r ⊳ h) s
    go (quiet k) = record { index = x.index; within = x.within; earlier = λ i q. held_more r h _ s (x.earlier i q); unfrozen = λ q. x.unfrozen (held_back r h _ s (k.info _) q); passed = λ q. x.passed (sym (k.info _) ∙ q) }
    go (update u w) = record { index = x.index; within = x.within; earlier = λ i q. held_more r h _ s (x.earlier i q); unfrozen = λ q. x.unfrozen (update_held f w _ s q); passed = λ q. x.passed (sym (update_keeps_info f w _) ∙ q) }
    go (freeze u j w) = other (ℕ_discrete s u)
      where
        at_index : u ≡ s → (j < x.index) ⊎ ((x.index < j) ⊎ (x.index ≡ j)) → ⊥
        at_index e (inl y) = freeze_is_new f w (rw (sym e) at (x.earlier j y))
        at_index e (inr (inl y)) = x.unfrozen (rw e at (w.freeze.earlier x.index y))
        at_index e (inr (inr y)) =
            let z : value h (info (member h s j)) ≡ seen h s j = rw e at (freeze_finds f w) in
            x.passed (rw y z)

        other : Dec (s ≡ u) → IsStuck (descriptor h s) (r ⊳ h) s
        other (no d) = freeze_stuck f w s d a x
        other (yes e) = absurd (at_index (sym e) (three j x.index))

pub over_stays : (lay : Layout) (h : History) (r : Row) (s : ℕ) → Lawful lay (r ⊳ h) → IsStarted h s → IsOver h s → IsOver (r ⊳ h) s
over_stays lay h r s l started (inl x) = inl (subst (λ d. IsStuck d (r ⊳ h) s) (sym (descriptor_stays lay h r s l started.real started.named)) (stuck_stays lay h r s l started x))
over_stays lay h r s l started (inr e) = inr (state_stays lay h r s l (λ z. omega arith) ∙ e)

-- where its flag is not set, every client's abort is lawful
pub over_aborts : (lay : Layout) (h : History) (r : Row) (s : ℕ) → Lawful lay h → IsStarted h s → IsOver h s → value h (scx s AllFrozen) ≡ 0 → r.word ≡ state s → r.after ≡ 2 → (j : ℕ) × IsAbort lay h r s j
over_aborts lay h r s l started (inl x) z w a = (
  x.index,
  record {
    word = w;
    stored = a;
    unset = z;
    by = inr (started_first lay h s l started);
    within = x.within;
    earlier = x.earlier;
    never = x.unfrozen;
    passed = x.passed;
  },
)
over_aborts lay h r s l started (inr e) z w a = absurd (committed_flag (facts lay h l).ended)
  where
    f : Facts lay h
    f = facts lay h l

    ends : IsEnded h s (value h (state s)) → ⊥
    ends (inl x) = let y = f.winner s x.1 in omega arith
    ends (inr x) = let y = x.0 in omega arith

    committed_flag : ((s : ℕ) → value h (state s) ≢ 0 → IsEnded h s (value h (state s))) → ⊥
    committed_flag ended = ends (ended s (λ q. omega arith))

-- and where it is set, the SCX-record is committed
pub over_committed : (lay : Layout) (h : History) (s : ℕ) → Lawful lay h → IsOver h s → value h (scx s AllFrozen) ≢ 0 → value h (state s) ≡ 1
over_committed lay h s l (inr e) d = e
over_committed lay h s l (inl x) d = absurd (x.unfrozen (((facts lay h l).flagged s d).frozen x.index x.within))

-- After all are frozen

pub helper_sets_frozen : (lay : Layout) (h : History) (r : Row) (s : ℕ) → Lawful lay h → IsStarted h s → AllAreFrozen h s → r.word ≡ scx s AllFrozen → r.after ≡ 1 → IsSetFrozen h r s
helper_sets_frozen lay h r s l started all w a = record { word = w; stored = a; some = (about lay h s l started).planned.some; frozen = all }

-- after an updating exchange, won or lost, an update has won, so a commit is lawful
pub won_after : (lay : Layout) (h : History) (r : Row) (s : ℕ) → Lawful lay (r ⊳ h) → r.kind ≡ Update → IsUpdate h r s → HasWon (r ⊳ h) s
won_after lay h r s l k z = go (ℕ_discrete r.before (old h s))
  where
    f : Facts lay h
    f = facts_before lay h r l

    b : r.before ≡ value h r.word
    b = (lawful_row lay h r l).before

    c : IsFlagged (descriptor h s) h s
    c = f.flagged s (λ e. let x = z.all_frozen in omega arith)

    a : About lay (descriptor h s) h s
    a = flagged_about f c

    lost : r.before ≢ old h s → Dec (value h (state s) ≡ 0) → HasWon h s
    lost d (no e) = ⊎_elim (λ w. w) (λ x. absurd (x.unfrozen (c.frozen x.index x.within))) (a.done e)
    lost d (yes e) = ⊎_elim (λ q. absurd (d (b ∙ rw z.word q))) (λ w. w) (a.steady (inr (c.frozen (field_index h s) a.planned.field, e)))

    go : Dec (r.before ≡ old h s) → HasWon (r ⊳ h) s
    go (yes p) = update_won f record { kind = k; update = z; before = b; found = p; stored = z.exchange.won p }
    go (no d) = won_more r h s (lost d (ℕ_discrete (value h (state s)) 0))

-- What the end means

-- an aborted SCX-record has never won, and one that has won is never aborted
pub aborted_never_won : (lay : Layout) (h : History) (s : ℕ) → Lawful lay h → value h (state s) ≡ 2 → ¬ HasWon h s
aborted_never_won lay h s l e w = go ((facts lay h l).ended s (λ z. omega arith))
  where
    go : IsEnded h s (value h (state s)) → ⊥
    go (inl x) = let y = x.0 in omega arith
    go (inr x) = x.1 w

pub committed_won : (lay : Layout) (h : History) (s : ℕ) → Lawful lay h → value h (state s) ≡ 1 → HasWon h s
committed_won lay h s l e = go ((facts lay h l).ended s (λ z. omega arith))
  where
    go : IsEnded h s (value h (state s)) → HasWon h s
    go (inl x) = x.1
    go (inr x) = absurd (let y = x.0 in omega arith)

-- an aborted SCX-record has no entry, then or later
pub aborted_no_entry : (lay : Layout) (h m : History) (s : ℕ) → Lawful lay h → Extends h m → value m (state s) ≡ 2 → ¬ IsEntered (log lay h) s
aborted_no_entry lay h m s l e a i = aborted_never_won lay h s l (state_since lay h m s l e (λ z. omega arith) ∙ a) (entered_won lay h s l i)
