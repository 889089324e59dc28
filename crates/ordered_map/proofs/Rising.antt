-- Levels rise from each fork that a field has ever named, where machines fill nodes in order: such
-- a node has been in the tree, or is a leaf.
use Rattle.std.proofs.Common.{◌≡◌, ℕ, ◌<◌, ◌/◌, ◌%◌, ◌⊎◌, inl, inr, ⊎_elim, Bool, true, false, eqb, refl, sym, ◌∙◌, ap, subst, arith}
use native.Mathlib.Decide.{ℕ_discrete}
use Rattle.histories.specs.Common.{Layout, nodes_at_start, Fill, Row, Side, NodeWord, Settled, Child, Info, Marked, Head, AllFrozen, node, scx, info}
use Rattle.histories.specs.Common.{marked, child, state, same_word, History, Opening, Opened, ◌⊳◌, value, HasHeld, Lawful, member, new, field, plan, side_of}
use Rattle.arena.proofs.Lemmas.{held_at, held_split, held_start, node_apart, node_word_apart, value_apart, value_at, value_other, value_quiet, word_same}
use Rattle.histories.proofs.Lemmas.{Change, UpdateWins, aborts, change, commits, fills_node, fills_scx, freezes, lawful_row, lawful_tail, marks, nothing, sets_frozen, shaped_tail, start_mode, updates, value_start}
use Rattle.ordered_map.specs.TreeShape.{TreeAllows}
use Rattle.ordered_map.specs.TreeWords.{is_leaf}
use Rattle.ordered_map.specs.Paths.{WasInTree}
use Rattle.ordered_map.specs.Runs.{IsMapRun}
use Rattle.ordered_map.specs.Planted.{IsPlanted}
use Rattle.ordered_map.specs.FillOrder.{HasStoodInField, HasRisingLevels, AreFilledInOrder}
use Rattle.ordered_map.proofs.Meanings.{edits_of, grown}
use Rattle.ordered_map.proofs.Grown.{planted}
use Rattle.ordered_map.proofs.Stood.{was_more, was_now}
use Rattle.ordered_map.proofs.MapRuns.{levels_rise, new_stood}

-- Heads

-- a row leaves the head of a node, or fills it
head_came : (lay : Layout) (h : History) (r : Row) (n : ℕ) → Lawful lay (r ⊳ h) → (value (r ⊳ h) (node n (Settled Head)) ≡ value h (node n (Settled Head))) ⊎ ((r.kind ≡ Fill) × (r.word ≡ node n (Settled Head)))
head_came lay h r n l = go (change lay h r l)
  where
    by_part : (k : ℕ) (part : NodeWord) → r.kind ≡ Fill → r.word ≡ node k part → Dec (k ≡ n) → (value (r ⊳ h) (node n (Settled Head)) ≡ value h (node n (Settled Head))) ⊎ ((r.kind ≡ Fill) × (r.word ≡ node n (Settled Head)))
    by_part k part f e (no d) = inl (value_apart r h (node k part) (node n (Settled Head)) e (node_apart k n part (Settled Head) d))
    by_part k (Settled Head) f e (yes q) = inr (f, e ∙ ap (λ (i : ℕ). node i (Settled Head)) q)
    by_part k (Settled part) f e (yes q) = inl (value_apart r h (node k (Settled part)) (node n (Settled Head)) e (node_word_apart k n (Settled part) (Settled Head) refl))
    by_part k (Child side) f e (yes q) = inl (value_apart r h (child k side) (node n (Settled Head)) e (node_word_apart k n (Child side) (Settled Head) refl))
    by_part k Info f e (yes q) = inl (value_apart r h (info k) (node n (Settled Head)) e (node_word_apart k n Info (Settled Head) refl))
    by_part k Marked f e (yes q) = inl (value_apart r h (marked k) (node n (Settled Head)) e (node_word_apart k n Marked (Settled Head) refl))

    go : Change lay h r → (value (r ⊳ h) (node n (Settled Head)) ≡ value h (node n (Settled Head))) ⊎ ((r.kind ≡ Fill) × (r.word ≡ node n (Settled Head)))
    go (nothing i a) = inl (value_quiet r h (lawful_row lay h r l).before a (node n (Settled Head)))
    go (fills_node k part x) = by_part k part x.kind x.word (ℕ_discrete k n)
    go (fills_scx s part x) = inl (value_apart r h (scx s part) (node n (Settled Head)) x.word refl)
    go (freezes s j x) = inl (value_apart r h (info (member h s j)) (node n (Settled Head)) x.freeze.word (node_word_apart (member h s j) n Info (Settled Head) refl))
    go (sets_frozen s k x) = inl (value_apart r h (scx s AllFrozen) (node n (Settled Head)) x.word refl)
    go (marks s j k x) = inl (value_apart r h (marked (member h s j)) (node n (Settled Head)) x.word (node_word_apart (member h s j) n Marked (Settled Head) refl))
    go (updates s x) = inl (value_apart r h (field h s) (node n (Settled Head)) x.update.word (node_word_apart _ n (Child (side_of (plan h s))) (Settled Head) refl))
    go (commits s k x) = inl (value_apart r h (state s) (node n (Settled Head)) x.word refl)
    go (aborts s j k x) = inl (value_apart r h (state s) (node n (Settled Head)) x.word refl)

-- Fields

-- what a field holds after a row: what it held, what the row has filled in, or the new node of an
-- update that has won
field_came : (lay : Layout) (h : History) (r : Row) (m : ℕ) (side : Side) (n : ℕ) → Lawful lay (r ⊳ h) → value (r ⊳ h) (child m side) ≡ n → HasHeld h (child m side) n ⊎ (((r.kind ≡ Fill) × (r.word ≡ child m side) × (r.after ≡ n)) ⊎ ((u : ℕ) × UpdateWins h r u × (new h u ≡ n)))
field_came lay h r m side n l q = test (same_word r.word (child m side)) refl
  where
    stored : r.word ≡ child m side → r.after ≡ n
    stored e = sym (value_at r h (child m side) e) ∙ q

    by_word : r.word ≡ child m side → Change lay h r → HasHeld h (child m side) n ⊎ (((r.kind ≡ Fill) × (r.word ≡ child m side) × (r.after ≡ n)) ⊎ ((u : ℕ) × UpdateWins h r u × (new h u ≡ n)))
    by_word e (nothing i a) = inl (held_at h _ _ (sym (value_quiet r h (lawful_row lay h r l).before a (child m side)) ∙ q))
    by_word e (fills_node k part x) = inr (inl (x.kind, e, stored e))
    by_word e (updates u w) = inr (inr (u, w, sym w.stored ∙ stored e))
    by_word e (fills_scx u part x) = let y : scx u part ≡ child m side = sym x.word ∙ e in cc
    by_word e (freezes u j w) = let y : info (member h u j) ≡ child m side = sym w.freeze.word ∙ e in cc
    by_word e (sets_frozen u k x) = let y : scx u AllFrozen ≡ child m side = sym x.word ∙ e in cc
    by_word e (marks u j k x) = let y : marked (member h u j) ≡ child m side = sym x.word ∙ e in cc
    by_word e (commits u k x) = let y : state u ≡ child m side = sym x.word ∙ e in cc
    by_word e (aborts u j k x) = let y : state u ≡ child m side = sym x.word ∙ e in cc

    test : (t : Bool) → same_word r.word (child m side) ≡ t → HasHeld h (child m side) n ⊎ (((r.kind ≡ Fill) × (r.word ≡ child m side) × (r.after ≡ n)) ⊎ ((u : ℕ) × UpdateWins h r u × (new h u ≡ n)))
    test false e = inl (held_at h _ _ (sym (value_other r h (child m side) e) ∙ q))
    test true e = by_word (word_same r.word (child m side) e) (change lay h r l)

-- Nodes that a field has named

-- such a node has been in the tree, or is a leaf
abbrev StoodOrLeaf : History → ℕ → Type 0
StoodOrLeaf h n = WasInTree h n ⊎ (is_leaf (value h) n ≡ true)

-- all nodes that are there from the start are in the tree then
opening_stood : (lay : Layout) (o : Opening) (n : ℕ) → IsMapRun lay (Opened o) → n < nodes_at_start o.mode o.planted → StoodOrLeaf (Opened o) n
opening_stood lay o n g i = inl (was_now (Opened o) x.tree n x.is_tree (x.whole n (subst (λ mode. n < nodes_at_start mode o.planted) (start_mode lay o g.1.lawful) i)))
  where
    x : IsPlanted lay (Opened o) 0
    x = planted (edits_of lay (Opened o) g).edits lay o (grown lay (Opened o) g)

-- a row that leaves its head leaves it so
stood_more : (h : History) (r : Row) (n : ℕ) → value (r ⊳ h) (node n (Settled Head)) ≡ value h (node n (Settled Head)) → StoodOrLeaf h n → StoodOrLeaf (r ⊳ h) n
stood_more h r n same (inl x) = inl (was_more h r n x)
stood_more h r n same (inr e) = inr (ap (λ v. eqb (v / 4 % 2) 1) same ∙ e)

-- and so does one that fills it in order
stood_filled : (lay : Layout) (h : History) (r : Row) (n : ℕ) → Lawful lay (r ⊳ h) → (r.kind ≡ Fill → r.word ≡ node n (Settled Head) → (eqb (r.after / 4 % 2) 1 ≡ true) ⊎ (¬ HasStoodInField h n)) → HasStoodInField h n → StoodOrLeaf h n → StoodOrLeaf (r ⊳ h) n
stood_filled lay h r n l order named x = ⊎_elim (λ e. stood_more h r n e x) (λ y. ⊎_elim (λ leaf. inr (ap (λ v. eqb (v / 4 % 2) 1) (value_at r h (node n (Settled Head)) y.1) ∙ leaf)) (λ none. absurd (none named)) (order y.0 y.1)) (head_came lay h r n l)

came_stood : (lay : Layout) (h : History) (r : Row) (m : ℕ) (side : Side) (n : ℕ) → IsMapRun lay (r ⊳ h) → AreFilledInOrder (r ⊳ h) → value (r ⊳ h) (child m side) ≡ n → (HasStoodInField h n → StoodOrLeaf h n) → HasStoodInField h n ⊎ StoodOrLeaf (r ⊳ h) n
came_stood lay h r m side n g order q before = go (field_came lay h r m side n g.1.lawful q)
  where
    go : HasHeld h (child m side) n ⊎ (((r.kind ≡ Fill) × (r.word ≡ child m side) × (r.after ≡ n)) ⊎ ((u : ℕ) × UpdateWins h r u × (new h u ≡ n))) → HasStoodInField h n ⊎ StoodOrLeaf (r ⊳ h) n
    go (inl x) = inl (inr (m, side, x))
    go (inr (inl x)) = inr (stood_more h r n (value_apart r h (child m side) (node n (Settled Head)) x.1 (node_word_apart m n (Child side) (Settled Head) refl)) (subst (StoodOrLeaf h) x.2 (order.1.field m side x.0 x.1)))
    go (inr (inr x)) = inr (inl (subst (WasInTree (r ⊳ h)) x.2 (new_stood lay h r x.0 g x.1)))

row_stood : (lay : Layout) (h : History) (r : Row) (n : ℕ) → IsMapRun lay (r ⊳ h) → AreFilledInOrder (r ⊳ h) → (HasStoodInField h n → StoodOrLeaf h n) → HasStoodInField (r ⊳ h) n → StoodOrLeaf (r ⊳ h) n
row_stood lay h r n g order before x = ⊎_elim (λ i. old (inl i)) (λ y. held y.0 y.1 (held_split r h (child y.0 y.1) n y.2)) x
  where
    old : HasStoodInField h n → StoodOrLeaf (r ⊳ h) n
    old y = stood_filled lay h r n g.1.lawful (order.1.head n) y (before y)

    held : (m : ℕ) (side : Side) → (value (r ⊳ h) (child m side) ≡ n) ⊎ HasHeld h (child m side) n → StoodOrLeaf (r ⊳ h) n
    held m side (inl q) = ⊎_elim old (λ y. y) (came_stood lay h r m side n g order q before)
    held m side (inr y) = old (inr (m, side, y))

stood : (lay : Layout) (h : History) (n : ℕ) → IsMapRun lay h → AreFilledInOrder h → HasStoodInField h n → StoodOrLeaf h n
stood lay (Opened o) n g order x = opening_stood lay o n g (⊎_elim early small x)
  where
    early : n < 3 → n < nodes_at_start o.mode o.planted
    early i = subst (λ mode. n < nodes_at_start mode o.planted) (sym (start_mode lay o g.1.lawful)) (rw g.0 (omega (arith, i)))

    small : ((m : ℕ) × (from : Side) × HasHeld (Opened o) (child m from) n) → n < nodes_at_start o.mode o.planted
    small y = subst (λ k. k < nodes_at_start o.mode o.planted) (held_start o (child y.0 y.1) n y.2) (subst (λ k. k < nodes_at_start o.mode o.planted) (sym (value_start o (child y.0 y.1))) (o.fields y.0 y.1))
stood lay (r ⊳ h) n g order x = row_stood lay h r n g order (stood lay h n (g.0, record { lawful = lawful_tail lay h r g.1.lawful; shaped = shaped_tail TreeAllows lay h r g.1.shaped }) order.0) x

-- Where the steps are a run of a map whose nodes were filled in order, levels rise from each
-- fork that a field has ever named.
pub rising_levels : (lay : Layout) (h : History) → IsMapRun lay h → AreFilledInOrder h → HasRisingLevels h
rising_levels lay h g order n side named fork = ⊎_elim (λ x. levels_rise lay h n side g x fork) (λ e. let y : true ≡ false = sym e ∙ fork in absurd (cc)) (stood lay h n g order named)
