-- The fields of a node are those that the log says.
use Rattle.std.proofs.Common.{◌≡◌, ◌≢◌, ℕ, Bool, true, false, cond, ◌&&◌, List, ◌∷◌, refl, sym, ◌∙◌, ap, eq-eqb, ne_eqb}
use native.Mathlib.Decide.{ℕ_discrete}
use Rattle.histories.specs.Common.{Side, Child, Info, Marked, AllFrozen, Word, Node, Layout, Row, Kind, Fill, Freeze, SetFrozen, Mark, Update, Commit, Abort, same_word, node, scx, info}
use Rattle.histories.specs.Common.{marked, child, state, History, Opening, Opened, ◌⊳◌, value, plan, side_of, field_index, member, new, field, IsNamed, HasWon, Lawful, Entry, entry, log, is_fill, fields}
use Rattle.arena.specs.Log.{with_row, filled, field_after}
use Rattle.arena.proofs.Lemmas.{value_apart, value_quiet, node_word_apart, node_apart}
use Rattle.histories.proofs.Changes.{Change, nothing, fills_node, fills_scx, freezes, sets_frozen, marks, updates, commits, aborts, UpdateWins, change, lawful_tail, lawful_row}
use Rattle.histories.proofs.Facts.{Facts, member_named, won_back}
use Rattle.histories.proofs.Updates.{update_changes, update_holds, update_flagged}
use Rattle.histories.proofs.Always.{facts_before}
use Rattle.histories.proofs.Moments.{named_more}

-- a row that is no update adds no entry
no_entry : (lay : Layout) (h : History) (r : Row) (k : Kind) (w : Word) (es : List Entry) → (k ≡ Update → r.after ≡ r.before) → with_row lay h r k w es ≡ es
no_entry lay h r Update (Node n (Child side)) es e = rw (eq-eqb r.before r.after (sym (e refl))) refl
no_entry lay h r _ _ es e = refl

-- nor does one that changes nothing
pub log_same : (lay : Layout) (h : History) (r : Row) → (r.kind ≡ Update → r.after ≡ r.before) → log lay (r ⊳ h) ≡ log lay h
unfolding log
log_same lay h r e = no_entry lay h r r.kind r.word (log lay h) e

log_kind : (lay : Layout) (h : History) (r : Row) (k : Kind) → r.kind ≡ k → (k ≡ Update → ⊥) → log lay (r ⊳ h) ≡ log lay h
log_kind lay h r k e d = log_same lay h r (λ q. absurd (d (sym e ∙ q)))

log_update : (lay : Layout) (h : History) (r : Row) (n : ℕ) (side : Side) → r.kind ≡ Update → r.word ≡ child n side → r.before ≢ r.after → log lay (r ⊳ h) ≡ entry lay h (value h (info n)) n side r.after ∷ log lay h
unfolding log
log_update lay h r n side k w d = rw (k, w, ne_eqb r.before r.after d) refl

-- the entry of an update of u
abbrev pub entry_of : Layout → History → ℕ → Entry
entry_of lay h u = entry lay h u (member h u (field_index h u)) (side_of (plan h u)) (new h u)

-- the entry of an update that wins is that of its SCX-record
pub log_wins : {lay : Layout} {h : History} {r : Row} {u : ℕ} → Facts lay h → UpdateWins h r u → log lay (r ⊳ h) ≡ entry_of lay h u ∷ log lay h
log_wins {lay} {h} {r} {u} f w =
    log_update lay h r (member h u (field_index h u)) (side_of (plan h u)) w.kind w.update.word (update_changes f w)
    ∙ rw (update_holds f w, w.stored) refl

-- each row adds the entry of an update that wins, or none
pub data Logs (lay : Layout) (h : History) (r : Row) : Type 0 where
  same : log lay (r ⊳ h) ≡ log lay h → ((s : ℕ) → HasWon (r ⊳ h) s → HasWon h s) → Logs lay h r
  wins : (u : ℕ) → UpdateWins h r u → log lay (r ⊳ h) ≡ entry_of lay h u ∷ log lay h → Logs lay h r

by_kind : (lay : Layout) (h : History) (r : Row) (k : Kind) → r.kind ≡ k → (k ≡ Update → ⊥) → Logs lay h r
by_kind lay h r k e d = same (log_kind lay h r k e d) (won_back r h (λ s w. d (sym e ∙ w.kind)))

logs_of : (lay : Layout) (h : History) (r : Row) → Facts lay h → Change lay h r → Logs lay h r
logs_of lay h r f (nothing i e) = same (log_same lay h r (λ _. e)) (won_back r h (λ s w. w.changed (sym e)))
logs_of lay h r f (fills_node m part x) = by_kind lay h r Fill x.kind (λ e. cc)
logs_of lay h r f (fills_scx u part x) = by_kind lay h r Fill x.kind (λ e. cc)
logs_of lay h r f (freezes u j w) = by_kind lay h r Freeze w.kind (λ e. cc)
logs_of lay h r f (sets_frozen u k x) = by_kind lay h r SetFrozen k (λ e. cc)
logs_of lay h r f (marks u j k x) = by_kind lay h r Mark k (λ e. cc)
logs_of lay h r f (commits u k x) = by_kind lay h r Commit k (λ e. cc)
logs_of lay h r f (aborts u j k x) = by_kind lay h r Abort k (λ e. cc)
logs_of lay h r f (updates u w) = wins u w (log_wins f w)

pub logs : (lay : Layout) (h : History) (r : Row) → Lawful lay (r ⊳ h) → Logs lay h r
logs lay h r l = logs_of lay h r (facts_before lay h r l) (change lay h r l)

filled_same : (h : History) (r : Row) (w : Word) → is_fill r.kind ≡ false → filled (r ⊳ h) w ≡ filled h w
unfolding filled
filled_same h r w e = rw e refl

filled_apart : (h : History) (r : Row) (u w : Word) → r.word ≡ u → same_word u w ≡ false → filled (r ⊳ h) w ≡ filled h w
unfolding filled
filled_apart h r u w e d = go (is_fill r.kind) (same_word r.word w) (rw e d)
  where
    go : (a b : Bool) → b ≡ false → cond (a && b) r.after (filled h w) ≡ filled h w
    go false b x = refl
    go true b x = rw x refl

filled_at : (h : History) (r : Row) (w : Word) → is_fill r.kind ≡ true → same_word r.word w ≡ true → filled (r ⊳ h) w ≡ r.after
unfolding filled
filled_at h r w e d = rw (e, d) refl

value_when : (h : History) (r : Row) (w : Word) → same_word r.word w ≡ true → value (r ⊳ h) w ≡ r.after
unfolding value
value_when h r w e = rw e refl

value_cond : (h : History) (r : Row) (u w : Word) → r.word ≡ u → value (r ⊳ h) w ≡ cond (same_word u w) r.after (value h w)
unfolding value
value_cond h r u w e = rw e refl

empty_log : (lay : Layout) (o : Opening) (n : ℕ) (side : Side) (x : ℕ) → field_after x (log lay (Opened o)) n side ≡ x
unfolding log
empty_log lay o n side x = refl

fields_at_start : (lay : Layout) (o : Opening) (n : ℕ) (side : Side) → value (Opened o) (child n side) ≡ fields lay (Opened o) n side
unfolding log value filled
fields_at_start lay o n side = refl

-- a node that nothing names has no entry
unnamed : (lay : Layout) (h : History) (n : ℕ) (side : Side) (x : ℕ) → Lawful lay h → ¬ IsNamed lay h n → field_after x (log lay h) n side ≡ x
unnamed lay (Opened o) n side x l d = empty_log lay o n side x
unnamed lay (r ⊳ h) n side x l d = go (logs lay h r l) (unnamed lay h n side x (lawful_tail lay h r l) (λ p. d (named_more r p)))
  where
    f : Facts lay h
    f = facts_before lay h r l

    go : Logs lay h r → field_after x (log lay h) n side ≡ x → field_after x (log lay (r ⊳ h)) n side ≡ x
    go (same e _) p = rw e p
    go (wins u w e) p =
        let named : IsNamed lay h (member h u (field_index h u)) = member_named lay h u _ (field_index h u) ((update_flagged f w).frozen 0 (update_flagged f w).some) in
        let other : member h u (field_index h u) ≢ n = λ q. d (named_more r (rw q at named)) in
        rw (e, ne_eqb (member h u (field_index h u)) n other) p

pub fields_are : (lay : Layout) (h : History) (n : ℕ) (side : Side) → Lawful lay h → value h (child n side) ≡ fields lay h n side
fields_are lay (Opened o) n side l = fields_at_start lay o n side
fields_are lay (r ⊳ h) n side l = go (change lay h r l) (fields_are lay h n side (lawful_tail lay h r l))
  where
    f : Facts lay h
    f = facts_before lay h r l

    elsewhere : (u : Word) (k : Kind) → r.kind ≡ k → (k ≡ Update → ⊥) → r.word ≡ u → same_word u (child n side) ≡ false → value h (child n side) ≡ fields lay h n side → value (r ⊳ h) (child n side) ≡ fields lay (r ⊳ h) n side
    elsewhere u k e d w t p = rw (log_kind lay h r k e d, filled_apart h r u (child n side) w t) (value_apart r h u (child n side) w t ∙ p)

    go : Change lay h r → value h (child n side) ≡ fields lay h n side → value (r ⊳ h) (child n side) ≡ fields lay (r ⊳ h) n side
    go (nothing i e) p = rw (log_same lay h r (λ _. e), filled_same h r (child n side) i) (value_quiet r h (lawful_row lay h r l).before e (child n side) ∙ p)
    go (fills_scx u part x) p = elsewhere (scx u part) Fill x.kind (λ e. cc) x.word refl p
    go (freezes u j w) p = elsewhere (info (member h u j)) Freeze w.kind (λ e. cc) w.freeze.word (node_word_apart (member h u j) n Info (Child side) refl) p
    go (sets_frozen u k x) p = elsewhere (scx u AllFrozen) SetFrozen k (λ e. cc) x.word refl p
    go (marks u j k x) p = elsewhere (marked (member h u j)) Mark k (λ e. cc) x.word (node_word_apart (member h u j) n Marked (Child side) refl) p
    go (commits u k x) p = elsewhere (state u) Commit k (λ e. cc) x.word refl p
    go (aborts u j k x) p = elsewhere (state u) Abort k (λ e. cc) x.word refl p
    go (updates u w) p =
        rw (filled_same h r (child n side) (rw w.kind refl), log_update lay h r (member h u (field_index h u)) (side_of (plan h u)) w.kind w.update.word (update_changes f w), value_cond h r (field h u) (child n side) w.update.word)
        (ap (λ v. cond (same_word (field h u) (child n side)) r.after v) p)
    go (fills_node m part x) p = rw (log_kind lay h r Fill x.kind (λ e. cc)) (by_test (same_word (node m part) (child n side)) refl (ℕ_discrete m n))
      where
        by_test : (t : Bool) → same_word (node m part) (child n side) ≡ t → Dec (m ≡ n) → value (r ⊳ h) (child n side) ≡ field_after (filled (r ⊳ h) (child n side)) (log lay h) n side
        by_test false q d = rw (filled_apart h r (node m part) (child n side) x.word q) (value_apart r h (node m part) (child n side) x.word q ∙ p)
        by_test true q (yes y) = rw (value_when h r (child n side) (rw x.word q), filled_at h r (child n side) (rw x.kind refl) (rw x.word q)) (sym (unnamed lay h n side r.after (lawful_tail lay h r l) (rw y at x.is_open.unnamed)))
        by_test true q (no y) = let z : false ≡ true = sym (node_apart m n part (Child side) y) ∙ q in cc
