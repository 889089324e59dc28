-- A node of a share that is not taken, and that nothing mentions, is blank.
use Rattle.std.proofs.Common.{◌≡◌, ℕ, ◌≤◌, inl, inr, refl, ◌∙◌, arith}
use Rattle.histories.specs.Common.{Layout, Side, NodeWord, Child, Info, Marked, AllFrozen, New, Member, nodes_at_start, opening_nodes, node, scx, info, marked}
use Rattle.histories.specs.Common.{child, state, History, Opening, Opened, ◌⊳◌, value, member, plan, side_of, field_index, IsOwnNode, IsTakenNode, Lawful, IsUnmentioned}
use Rattle.arena.proofs.Lemmas.{value_quiet, value_apart, held_at, held_more, node_apart, node_word_apart}
use Rattle.histories.proofs.Lemmas.{Change, nothing, fills_node, fills_scx, freezes, sets_frozen, marks, updates, commits, aborts, change, lawful_row, start_nodes}
use Rattle.prims.specs.BlankNodes.{IsBlank}

-- at the start the fields of the nodes that come later are 0
empty_start : (o : Opening) (n : ℕ) (side : Side) → nodes_at_start o.mode o.planted ≤ n → value (Opened o) (child n side) ≡ 0
unfolding value
empty_start o n side late = o.beyond n (Child side) late

-- those of a node that is not taken, and that nothing mentions, stay 0
empty_untaken : (lay : Layout) (h : History) (n : ℕ) (side : Side) → Lawful lay h → opening_nodes lay ≤ n → IsUnmentioned h n → ¬ IsTakenNode h n → value h (child n side) ≡ 0
unfolding Lawful IsTakenNode
empty_untaken lay (Opened o) n side l late u free = empty_start o n side (let few = start_nodes lay o l in omega (arith, few, late))
empty_untaken lay (r ⊳ h) n side l late u free = same (change lay h r l) ∙ empty_untaken lay h n side l.0 late
    record { in_no_field = λ m a p. u.in_no_field m a (held_more r h (child m a) n p); in_no_scx = λ s part i p. u.in_no_scx s part i (held_more r h (scx s part) n p) }
    (λ t. free (inr t))
  where
    other : (u v : NodeWord) (m : ℕ) → r.word ≡ node m u → (m ≡ n → ⊥) → value (r ⊳ h) (node n v) ≡ value h (node n v)
    other a b m e d = value_apart r h (node m a) (node n b) e (node_apart m n a b d)

    same : Change lay h r → value (r ⊳ h) (child n side) ≡ value h (child n side)
    same (nothing k a) = value_quiet r h (lawful_row lay h r l).before a (child n side)
    same (fills_node m part x) = other part (Child side) m x.word (λ e. free (inl (part, x.kind, rw e at x.word)))
    same (fills_scx s part x) = value_apart r h (scx s part) (child n side) x.word refl
    same (freezes s j w) = value_apart r h (info (member h s j)) (child n side) w.freeze.word (node_word_apart (member h s j) n Info (Child side) refl)
    same (sets_frozen s k x) = value_apart r h (scx s AllFrozen) (child n side) x.word refl
    same (marks s j k x) = value_apart r h (marked (member h s j)) (child n side) x.word (node_word_apart (member h s j) n Marked (Child side) refl)
    same (updates s w) = other (Child (side_of (plan h s))) (Child side) (member h s (field_index h s)) w.update.word
        (λ e. u.in_no_scx s (Member (field_index h s)) tt (held_more r h (scx s (Member (field_index h s))) n (held_at h (scx s (Member (field_index h s))) n e)))
    same (commits s k x) = value_apart r h (state s) (child n side) x.word refl
    same (aborts s j k x) = value_apart r h (state s) (child n side) x.word refl

pub blank_at_first : (lay : Layout) (c : ℕ) (h : History) (s n : ℕ) → Lawful lay h → IsOwnNode lay c n → IsUnmentioned h n → ¬ IsTakenNode h n → IsBlank h s n
blank_at_first lay c h s n l own u free = record {
  empty = λ side. empty_untaken lay h n side l (let a = own.from in omega arith) u free;
  in_no_field = u.in_no_field;
  covered_by_none = λ t j p. u.in_no_scx t (Member j) tt p;
  new_of_no_other = λ t d p. u.in_no_scx t New tt p;
}
