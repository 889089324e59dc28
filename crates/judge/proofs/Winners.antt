-- Which rows make an entry, and for which SCX-record.
use Rattle.std.proofs.Common.{◌≡◌, ◌≢◌, ℕ, true, false, ◌∷◌, refl, sym, ◌∙◌, ap, subst, eqb, ne_eqb, eq-eqb, not}
use Rattle.histories.specs.Common.{Layout, Side, NodeWord, Settled, Child, Info, Marked, ScxNo, ScxWord, Word, Node, Scx, Kind, Fill, Freeze, SetFrozen, Mark, Update}
use Rattle.histories.specs.Common.{Commit, Abort, Row, child, info, node, History, ◌⊳◌, value, Lawful, IsLawful, IsWin, log, entry, member, field_index, side_of, plan}
use Rattle.arena.proofs.Lemmas.{and_left, and_right}
use Rattle.histories.proofs.Lemmas.{Change, nothing, fills_node, fills_scx, freezes, sets_frozen, marks, updates, commits, aborts, change, facts, Facts, lawful_more, child_node, update_win, update_holds, log_same}
use Rattle.judge.specs.Enters.{is_field_update, makes_entry}

-- what a row is that makes an entry
pub record IsEntering (r : Row) (n : ℕ) (side : Side) : Type 0 where
  pub kind : r.kind ≡ Update
  pub word : r.word ≡ child n side
  pub changed : r.before ≢ r.after

abbrev SomeField : Kind → Word → Type 0
SomeField k w = (k ≡ Update) × ((n : ℕ) × (side : Side) × (w ≡ child n side))

field_update : (k : Kind) (w : Word) → is_field_update k w ≡ true → SomeField k w
field_update Update (Node n (Child side)) e = (refl, (n.0, side, refl))
field_update Update (Node n (Settled p)) e = absurd (cc)
field_update Update (Node n Info) e = absurd (cc)
field_update Update (Node n Marked) e = absurd (cc)
field_update Update (Scx s part) e = absurd (cc)
field_update _ w e = absurd (cc)

pub entering_row : (r : Row) → makes_entry r ≡ true → (n : ℕ) × (side : Side) × IsEntering r n side
entering_row r e =
    let u = field_update r.kind r.word (and_left (is_field_update r.kind r.word) (not (eqb r.before r.after)) e) in
    (u.1.0, u.1.1, record { kind = u.0; word = u.1.2; changed = λ same. let t : not (eqb r.before r.after) ≡ true = and_right (is_field_update r.kind r.word) (not (eqb r.before r.after)) e in let f : not (eqb r.before r.after) ≡ false = rw (eq-eqb r.before r.after same) refl in cc })

pub enters_if : (r : Row) (n : ℕ) (side : Side) → IsEntering r n side → makes_entry r ≡ true
enters_if r n side x = rw (x.kind, x.word, ne_eqb r.before r.after x.changed) refl

-- it wins for the SCX-record that the info of the field's node names
pub entering_wins : (lay : Layout) (h : History) (r : Row) (n : ℕ) (side : Side) → Lawful lay h → IsLawful lay h r → IsEntering r n side → IsWin h r (value h (info n))
entering_wins lay h r n side l x e = by (change lay h r (lawful_more lay h r l x))
  where
    f : Facts lay h
    f = facts lay h l

    by : Change lay h r → IsWin h r (value h (info n))
    by (nothing i same) = absurd (e.changed (sym same))
    by (fills_node m part w) = absurd (let k : Fill ≡ Update = sym w.kind ∙ e.kind in cc)
    by (fills_scx u part w) = absurd (let k : Fill ≡ Update = sym w.kind ∙ e.kind in cc)
    by (freezes s j w) = absurd (let k : Freeze ≡ Update = sym w.kind ∙ e.kind in cc)
    by (sets_frozen s k w) = absurd (let q : SetFrozen ≡ Update = sym k ∙ e.kind in cc)
    by (marks s j k w) = absurd (let q : Mark ≡ Update = sym k ∙ e.kind in cc)
    by (commits s k w) = absurd (let q : Commit ≡ Update = sym k ∙ e.kind in cc)
    by (aborts s j k w) = absurd (let q : Abort ≡ Update = sym k ∙ e.kind in cc)
    by (updates s w) =
        let at : n ≡ member h s (field_index h s) = child_node n (member h s (field_index h s)) side (side_of (plan h s)) (sym e.word ∙ w.update.word) in
        let is : value h (info n) ≡ s = ap (λ m. value h (info m)) at ∙ update_holds f w in
        subst (λ (t : ℕ). IsWin h r t) (sym is) (update_win f w)

-- no other row wins
pub wins_enters : (h : History) (r : Row) (s : ℕ) → IsWin h r s → makes_entry r ≡ true
wins_enters h r s w = enters_if r (member h s (field_index h s)) (side_of (plan h s)) record { kind = w.kind; word = w.update.word; changed = w.changed }

pub entering_logs : (lay : Layout) (h : History) (r : Row) (n : ℕ) (side : Side) → IsEntering r n side → log lay (r ⊳ h) ≡ entry lay h (value h (info n)) n side r.after ∷ log lay h
unfolding log
entering_logs lay h r n side e = rw (e.kind, e.word, ne_eqb r.before r.after e.changed) refl

no_update : (lay : Layout) (h : History) (r : Row) → makes_entry r ≡ false → IsLawful lay h r → Lawful lay h → r.kind ≡ Update → r.after ≡ r.before
no_update lay h r e x l k = by (change lay h r (lawful_more lay h r l x))
  where
    by : Change lay h r → r.after ≡ r.before
    by (nothing i same) = same
    by (fills_node m part w) = absurd (let q : Fill ≡ Update = sym w.kind ∙ k in cc)
    by (fills_scx u part w) = absurd (let q : Fill ≡ Update = sym w.kind ∙ k in cc)
    by (freezes s j w) = absurd (let q : Freeze ≡ Update = sym w.kind ∙ k in cc)
    by (sets_frozen s q w) = absurd (let z : SetFrozen ≡ Update = sym q ∙ k in cc)
    by (marks s j q w) = absurd (let z : Mark ≡ Update = sym q ∙ k in cc)
    by (commits s q w) = absurd (let z : Commit ≡ Update = sym q ∙ k in cc)
    by (aborts s j q w) = absurd (let z : Abort ≡ Update = sym q ∙ k in cc)
    by (updates s w) = absurd (let t = wins_enters h r s (update_win (facts lay h l) w) in let both : true ≡ false = sym t ∙ e in cc)

pub quiet_logs : (lay : Layout) (h : History) (r : Row) → Lawful lay h → IsLawful lay h r → makes_entry r ≡ false → log lay (r ⊳ h) ≡ log lay h
quiet_logs lay h r l x e = log_same lay h r (no_update lay h r e x l)

-- a row on a word of an SCX-record makes none

no_scx_update : (k : Kind) (w : Word) (s : ScxNo) (part : ScxWord) → w ≡ Scx s part → is_field_update k w ≡ false
no_scx_update Update w s part e = rw e refl
no_scx_update _ w s part e = refl

pub scx_enters_not : (r : Row) (s : ScxNo) (part : ScxWord) → r.word ≡ Scx s part → makes_entry r ≡ false
scx_enters_not r s part e = rw (no_scx_update r.kind r.word s part e) refl

-- the node of a word

abbrev node_number : Word → ℕ
node_number (Node n part) = n.0
node_number (Scx s part) = 0

pub node_is : (w : Word) (n m : ℕ) (side : Side) (part : NodeWord) → w ≡ child n side → w ≡ node m part → n ≡ m
node_is w n m side part e f = ap node_number (sym e ∙ f)
