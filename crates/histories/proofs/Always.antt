-- What holds after every lawful history.
use Rattle.std.proofs.Common.{◌≡◌, ◌≢◌, ℕ, inr, refl, sym, ◌∙◌}
use Rattle.histories.specs.Common.{Layout, Row, AllFrozen, Plan, info, state, History, Opening, Opened, ◌⊳◌, value, HasHeld, HasWon, IsLawful, Lawful}
use Rattle.arena.proofs.Lemmas.{opening_info, opening_marked, opening_scx, opening_dummy, opening_state, held_start}
use native.Mathlib.Decide.{ℕ_discrete}
use Rattle.histories.proofs.Changes.{Change, nothing, fills_node, fills_scx, freezes, sets_frozen, marks, updates, commits, aborts, FreezeWins, UpdateWins, change_of, lawful_tail, lawful_row}
use Rattle.histories.proofs.Facts.{Facts, IsEnded}
use Rattle.histories.proofs.Keeps.{Kept, keeps}
use Rattle.histories.proofs.Quiet.{after_nothing, after_fill_of_node, after_fill_of_scx, after_set_frozen, after_mark, after_commit, after_abort}
use Rattle.histories.proofs.Freezes.{after_freeze}
use Rattle.histories.proofs.Updates.{after_update}

-- what a lawful row does: it freezes, it updates, or it keeps what quiet rows keep
pub data Effect (lay : Layout) (h : History) (r : Row) : Type 0 where
  quiet : Kept lay h r → Effect lay h r
  freeze : (s j : ℕ) → FreezeWins lay h r s j → Effect lay h r
  update : (s : ℕ) → UpdateWins h r s → Effect lay h r

by_change : (lay : Layout) (h : History) (r : Row) → Facts lay h → r.before ≡ value h r.word → Change lay h r → Effect lay h r
by_change lay h r f b (nothing i e) = quiet (after_nothing lay h r b e)
by_change lay h r f b (fills_node n part x) = quiet (after_fill_of_node lay h r n part x)
by_change lay h r f b (fills_scx s part x) = quiet (after_fill_of_scx lay h r s part x)
by_change lay h r f b (sets_frozen s k x) = quiet (after_set_frozen lay h r s k x)
by_change lay h r f b (marks s j k x) = quiet (after_mark lay h r f s j k x)
by_change lay h r f b (commits s k x) = quiet (after_commit lay h r s k x)
by_change lay h r f b (aborts s j k x) = quiet (after_abort lay h r f s j k x)
by_change lay h r f b (freezes s j x) = freeze s j x
by_change lay h r f b (updates s x) = update s x

effect_of : (lay : Layout) (h : History) (r : Row) → Facts lay h → IsLawful lay h r → Effect lay h r
effect_of lay h r f x = by_change lay h r f x.before (change_of lay h r x)

after : (lay : Layout) (h : History) (r : Row) → Facts lay h → Effect lay h r → Facts lay (r ⊳ h)
after lay h r f (quiet k) = keeps f k
after lay h r f (freeze s j x) = after_freeze f x
after lay h r f (update s x) = after_update f x

opened : (o : Opening) (s n : ℕ) → s ≢ 0 → HasHeld (Opened o) (info n) s → ⊥
opened o s n d p = d (sym (held_start o (info n) s p) ∙ opening_info o n)

at_start : (lay : Layout) (o : Opening) → Facts lay (Opened o)
unfolding HasWon
at_start lay o = record {
  dummy = opening_dummy o;
  empty = opening_scx o 0 Plan refl;
  ended = λ s d. ended s d (ℕ_discrete s 0);
  flag = λ s e. absurd (e (opening_scx o s AllFrozen refl));
  flagged = λ s e. absurd (e (opening_scx o s AllFrozen refl));
  winner = λ s w. absurd w;
  finalizes = λ s e. absurd (e (opening_scx o s AllFrozen refl));
  cell = λ s n d p. absurd (opened o s n d p);
  about = λ s n d p. absurd (opened o s n d p);
  mark = λ n d. absurd (d (opening_marked o n));
  marked = λ n d. absurd (d (opening_marked o n));
  all_marked = λ s w. absurd w;
}
  where
    ended : (s : ℕ) → value (Opened o) (state s) ≢ 0 → Dec (s ≡ 0) → IsEnded (Opened o) s (value (Opened o) (state s))
    ended s d (yes e) = inr (rw e (opening_dummy o), λ w. w)
    ended s d (no z) = absurd (d (opening_state o s z))

pub facts : (lay : Layout) (h : History) → Lawful lay h → Facts lay h
facts lay (Opened o) l = at_start lay o
facts lay (r ⊳ h) l =
    let f : Facts lay h = facts lay h (lawful_tail lay h r l) in
    after lay h r f (effect_of lay h r f (lawful_row lay h r l))

pub facts_before : (lay : Layout) (h : History) (r : Row) → Lawful lay (r ⊳ h) → Facts lay h
facts_before lay h r l = facts lay h (lawful_tail lay h r l)

pub effect : (lay : Layout) (h : History) (r : Row) → Lawful lay (r ⊳ h) → Effect lay h r
effect lay h r l = effect_of lay h r (facts_before lay h r l) (lawful_row lay h r l)
