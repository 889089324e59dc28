-- A row that fills no word of a record leaves the words of it that only fills store in.
use Rattle.std.proofs.Common.{◌≡◌, ◌≢◌, ℕ, false, refl, subst}
use native.Mathlib.Decide.{ℕ_discrete}
use Rattle.histories.specs.Common.{Layout, Row, Fill, Side, NodeWord, Child, Info, Marked, ScxWord, State, AllFrozen, member, side_of, plan, field}
use Rattle.histories.specs.Common.{field_index, node, scx, info, marked, state, same_node_word, first_value, History, ◌⊳◌, value, IsOwnNode, IsOwnScx, Lawful}
use Rattle.arena.proofs.Lemmas.{value_quiet, value_apart, node_apart, node_word_apart, scx_apart, scx_word_apart}
use Rattle.histories.proofs.Lemmas.{Change, FillsNode, FillsScx, IsNodeFill, IsScxFill, UpdateWins, aborts, change, commits, fills_node, fills_scx, freezes, lawful_row, marks, not_flag, not_state, nothing, one_node_owner, one_scx_owner, sets_frozen, updates}

-- a row that fills no word of s leaves the settled words of s as they were
pub words_unfilled : (lay : Layout) (h : History) (r : Row) (s : ℕ) → Lawful lay (r ⊳ h) → ((part : ScxWord) → ¬ FillsScx lay h r s part) → (a : ScxWord) → IsScxFill a → value (r ⊳ h) (scx s a) ≡ value h (scx s a)
words_unfilled lay h r s l no_fill a i = go (change lay h r l)
  where
    by_fill : (u : ℕ) (b : ScxWord) → FillsScx lay h r u b → Dec (u ≡ s) → value (r ⊳ h) (scx s a) ≡ value h (scx s a)
    by_fill u b x (yes e) = absurd (no_fill b (subst (λ t. FillsScx lay h r t b) e x))
    by_fill u b x (no d) = value_apart r h (scx u b) (scx s a) x.word (scx_apart u s b a d)

    go : Change lay h r → value (r ⊳ h) (scx s a) ≡ value h (scx s a)
    go (nothing j e) = value_quiet r h (lawful_row lay h r l).before e (scx s a)
    go (fills_node n part x) = value_apart r h (node n part) (scx s a) x.word refl
    go (fills_scx u part x) = by_fill u part x (ℕ_discrete u s)
    go (freezes u j w) = value_apart r h (info (member h u j)) (scx s a) w.freeze.word refl
    go (sets_frozen u k x) = value_apart r h (scx u AllFrozen) (scx s a) x.word (scx_word_apart u s AllFrozen a (not_flag a i))
    go (marks u j k x) = value_apart r h (marked (member h u j)) (scx s a) x.word refl
    go (updates u w) = value_apart r h (field h u) (scx s a) w.update.word refl
    go (commits u k x) = value_apart r h (state u) (scx s a) x.word (scx_word_apart u s State a (not_state a i))
    go (aborts u j k x) = value_apart r h (state u) (scx s a) x.word (scx_word_apart u s State a (not_state a i))

info_apart : (part : NodeWord) → IsNodeFill part → same_node_word Info part ≡ false
info_apart Info fill = absurd fill
info_apart _ fill = refl

mark_apart : (part : NodeWord) → IsNodeFill part → same_node_word Marked part ≡ false
mark_apart Marked fill = absurd fill
mark_apart _ fill = refl

field_apart : (side : Side) (part : NodeWord) → ((other : Side) → part ≢ Child other) → same_node_word (Child side) part ≡ false
field_apart side (Child other) no_field = absurd (no_field other refl)
field_apart side _ no_field = refl

-- a row that fills no word of node n leaves its settled words as they were; and its fields, where
-- no SCX-record covers it
pub node_unfilled : (lay : Layout) (h : History) (r : Row) (n : ℕ) (part : NodeWord) → Lawful lay (r ⊳ h) → ((q : NodeWord) → ¬ FillsNode lay h r n q) → IsNodeFill part → ((side : Side) → part ≡ Child side → (t j : ℕ) → member h t j ≢ n) → value (r ⊳ h) (node n part) ≡ value h (node n part)
node_unfilled lay h r n part l no_fill fill uncovered = go (change lay h r l)
  where
    unless : (m : ℕ) (q : NodeWord) → r.word ≡ node m q → m ≢ n → value (r ⊳ h) (node n part) ≡ value h (node n part)
    unless m q e d = value_apart r h (node m q) (node n part) e (node_apart m n q part d)

    by_update : (u : ℕ) → UpdateWins h r u → Dec (member h u (field_index h u) ≡ n) → value (r ⊳ h) (node n part) ≡ value h (node n part)
    by_update u w (no d) = unless (member h u (field_index h u)) (Child (side_of (plan h u))) w.update.word d
    by_update u w (yes e) = value_apart r h (field h u) (node n part) w.update.word (node_word_apart (member h u (field_index h u)) n (Child (side_of (plan h u))) part (field_apart (side_of (plan h u)) part (λ side q. uncovered side q u (field_index h u) e)))

    go : Change lay h r → value (r ⊳ h) (node n part) ≡ value h (node n part)
    go (nothing j e) = value_quiet r h (lawful_row lay h r l).before e (node n part)
    go (fills_node m q x) = unless m q x.word (λ e. no_fill q (subst (λ k. FillsNode lay h r k q) e x))
    go (fills_scx u q x) = value_apart r h (scx u q) (node n part) x.word refl
    go (freezes u j w) = value_apart r h (info (member h u j)) (node n part) w.freeze.word (node_word_apart (member h u j) n Info part (info_apart part fill))
    go (sets_frozen u k x) = value_apart r h (scx u AllFrozen) (node n part) x.word refl
    go (marks u j k x) = value_apart r h (marked (member h u j)) (node n part) x.word (node_word_apart (member h u j) n Marked part (mark_apart part fill))
    go (updates u w) = by_update u w (ℕ_discrete (member h u (field_index h u)) n)
    go (commits u k x) = value_apart r h (state u) (node n part) x.word refl
    go (aborts u j k x) = value_apart r h (state u) (node n part) x.word refl

-- so does its value stay
value_unfilled : (lay : Layout) (h : History) (r : Row) (n : ℕ) → Lawful lay (r ⊳ h) → ((part : NodeWord) → ¬ FillsNode lay h r n part) → value (r ⊳ h) (node n first_value) ≡ value h (node n first_value)
value_unfilled lay h r n l no_fill = node_unfilled lay h r n first_value l no_fill tt (λ side e. let z : first_value ≡ Child side = e in cc)

-- rows of other passes leave the settled words of a pass's own SCX-record
pub own_words_unfilled : (lay : Layout) (h : History) (r : Row) (c s : ℕ) → Lawful lay (r ⊳ h) → r.pass.0 ≢ c → IsOwnScx lay c s → (a : ScxWord) → IsScxFill a → value (r ⊳ h) (scx s a) ≡ value h (scx s a)
own_words_unfilled lay h r c s l other own = words_unfilled lay h r s l (λ part x. other (one_scx_owner lay r.pass.0 c s x.is_open.own own))

-- rows of other passes leave the value of a pass's own node
pub own_value_unfilled : (lay : Layout) (h : History) (r : Row) (c n : ℕ) → Lawful lay (r ⊳ h) → r.pass.0 ≢ c → IsOwnNode lay c n → value (r ⊳ h) (node n first_value) ≡ value h (node n first_value)
own_value_unfilled lay h r c n l other own = value_unfilled lay h r n l (λ part x. other (one_node_owner lay r.pass.0 c n x.is_open.own own))

-- a row that is no fill leaves the settled words of every SCX-record
pub step_words : (lay : Layout) (h : History) (r : Row) (s : ℕ) → Lawful lay (r ⊳ h) → r.kind ≢ Fill → (a : ScxWord) → IsScxFill a → value (r ⊳ h) (scx s a) ≡ value h (scx s a)
step_words lay h r s l no_fill = words_unfilled lay h r s l (λ part x. no_fill x.kind)

-- a row that is no fill leaves the value of every node
pub step_value : (lay : Layout) (h : History) (r : Row) (n : ℕ) → Lawful lay (r ⊳ h) → r.kind ≢ Fill → value (r ⊳ h) (node n first_value) ≡ value h (node n first_value)
step_value lay h r n l no_fill = value_unfilled lay h r n l (λ part x. no_fill x.kind)
