-- What is kept of an SCX-record from its start to its update.
use Rattle.std.proofs.Common.{◌≡◌, ◌≢◌, ℕ, ◌<◌, true, false, ◌⊎◌, inl, inr, ⊎_elim, refl, sym, ◌∙◌, arith, subst}
use native.Mathlib.Decide.{ℕ_discrete}
use Rattle.histories.specs.Common.{Side, Left, Right, NodeWord, Settled, Child, Head, State, New, Member, Layout, Row, node, scx, info, child}
use Rattle.histories.specs.Common.{state, History, ◌⊳◌, value, HasHeld, Extends, count, field, field_index, member, seen, new, old, side_of, plan}
use Rattle.histories.specs.Common.{IsNamed, by_field, by_scx, IsNamedScx, IsSettled, Lawful, IsBegin, Descriptor, descriptor, count_in, field_index_in}
use Rattle.arena.proofs.Lemmas.{held_at, held_back, node_apart}
use Rattle.histories.specs.Progress.{Froze}
use Rattle.histories.proofs.Lemmas.{About, Facts, FreezeWins, Kept, UpdateWins, begins_once, descriptor_same, freeze_descriptor, freeze_distinct, freeze_finds, freeze_held, freeze_in_progress, freeze_keeps_field, freeze_keeps_info, freeze_keeps_scx, freeze_stores, named_more, node_stays, stays_ended, update_descriptor, update_held, update_holds, update_in_progress, update_keeps_info, update_keeps_other, update_keeps_scx}
use Rattle.ordered_map.specs.OrderedMap.{MapEdit}
use Rattle.ordered_map.specs.Planted.{IsPlanted}
use Rattle.ordered_map.specs.TreeShape.{MayEdit}
use Rattle.ordered_map.specs.TreeWords.{Tree, Leaf, Fork, root, Shows, Has, is_leaf}

-- each makes the edit that `calls` gives of its number
abbrev pub AllowsGiven : (ℕ → MapEdit) → Layout → History → ℕ → Type 0
AllowsGiven calls lay h s = MayEdit lay h s (calls s)

-- and what the table begins with is planted
abbrev pub GivenAllows : (ℕ → MapEdit) → Layout → History → ℕ → Type 0
GivenAllows calls lay h s = AllowsGiven calls lay h s ⊎ IsPlanted lay h s

-- what begins is not the dummy, so it makes an edit
pub begun_edit : (A : Type 0) (lay : Layout) (h : History) (r : Row) (s : ℕ) → Lawful lay (r ⊳ h) → IsBegin h r s → A ⊎ IsPlanted lay h s → A
begun_edit A lay h r s l b x = ⊎_elim (λ a. a) (λ p. absurd (let own = (begins_once lay h r s l b).own.from in let zero = p.dummy in omega (arith, own, zero))) x

-- every node of the tree is named
pub tree_named : (lay : Layout) (h : History) (t : Tree) (lo hi n : ℕ) → Shows (value h) lo hi t → IsNamed lay h (root t) → Has t n → IsNamed lay h n
tree_named lay h (Leaf m) lo hi n s p q = rw (← q) p
tree_named lay h (Fork m a b) lo hi n s p (inl q) = rw (← q) p
tree_named lay h (Fork m a b) lo hi n s p (inr (inl q)) = tree_named lay h a _ _ n s.1 (by_field m Left p (held_at h (child m Left) (root a) s.0.left)) q
tree_named lay h (Fork m a b) lo hi n s p (inr (inr q)) = tree_named lay h b _ _ n s.2 (by_field m Right p (held_at h (child m Right) (root b) s.0.right)) q

-- every node of the tree but its root is in a field
pub tree_field : (h : History) (t : Tree) (lo hi n : ℕ) → Shows (value h) lo hi t → Has t n → (n ≡ root t) ⊎ ((m : ℕ) × (side : Side) × (value h (child m side) ≡ n))
tree_field h (Leaf m) lo hi n s q = inl (sym q)
tree_field h (Fork m a b) lo hi n s (inl q) = inl (sym q)
tree_field h (Fork m a b) lo hi n s (inr (inl q)) = ⊎_elim (λ e. inr (m, Left, s.0.left ∙ sym e)) inr (tree_field h a _ _ n s.1 q)
tree_field h (Fork m a b) lo hi n s (inr (inr q)) = ⊎_elim (λ e. inr (m, Right, s.0.right ∙ sym e)) inr (tree_field h b _ _ n s.2 q)

-- the j-th node of V may still be frozen, or is held
abbrev pub Holds : Descriptor → History → ℕ → ℕ → Type 0
Holds d h s j = (value h (info (d.member j)) ≡ d.seen j) ⊎ (Froze d h s j × (value h (state s) ≡ 0))

-- the nodes that the SCX-record names: its new node, the children of that, and V
abbrev pub Mine : History → ℕ → ℕ → Type 0
Mine b s n = (n ≡ new b s) ⊎ (((side : Side) × (value b (child (new b s) side) ≡ n)) ⊎ ((j : ℕ) × (member b s j ≡ n)))

-- what it puts into the tree: its new node, and the leaves below that of an insert
abbrev pub IsMadeBy : History → ℕ → ℕ → Type 0
IsMadeBy h s n = (n ≡ new h s) ⊎ ((is_leaf (value h) (new h s) ≡ false) × (count h s ≡ 2) × ((side : Side) × (value h (child (new h s) side) ≡ n)) × (is_leaf (value h) n ≡ true))

pub record Pending (calls : ℕ → MapEdit) (lay : Layout) (h : History) (s : ℕ) : Type 0 where
  pub before : History
  pub past : Extends h before
  pub allowed : AllowsGiven calls lay before s
  pub same : descriptor before s ≡ descriptor h s
  pub unheld : (n : ℕ) (side : Side) → ¬ HasHeld before (child n side) (new before s)
  pub shows : field_index before s ≡ 0 → value before (field before s) ≡ old before s
  pub named : (n : ℕ) → Mine before s n → IsNamed lay h n
  pub settled : (n : ℕ) → Mine before s n → (a : NodeWord) → IsSettled (node n a) → value h (node n a) ≡ value before (node n a)
  pub fields : is_leaf (value before) (new before s) ≡ false → (side : Side) → value h (child (new before s) side) ≡ value before (child (new before s) side)
  pub saw : (j : ℕ) → j < count before s → Holds (descriptor before s) h s j → value before (info (member before s j)) ≡ seen before s j
  pub shown : (j : ℕ) → j < count before s → j ≢ field_index before s → Holds (descriptor before s) h s j → (side : Side) → value h (child (member before s j) side) ≡ value before (child (member before s j) side)

pub pending_more : (calls : ℕ → MapEdit) (lay : Layout) (h : History) (r : Row) (s : ℕ) → Lawful lay (r ⊳ h) → IsNamedScx h s → Pending calls lay h s
    → descriptor h s ≡ descriptor (r ⊳ h) s
    → ((j : ℕ) → j < count_in (descriptor h s) → Holds (descriptor h s) (r ⊳ h) s j → Holds (descriptor h s) h s j)
    → (is_leaf (value h) (new h s) ≡ false → (side : Side) → value (r ⊳ h) (child (new h s) side) ≡ value h (child (new h s) side))
    → ((j : ℕ) → j < count_in (descriptor h s) → j ≢ field_index_in (descriptor h s) → Holds (descriptor h s) (r ⊳ h) s j → (side : Side) → value (r ⊳ h) (child (member h s j) side) ≡ value h (child (member h s j) side))
    → Pending calls lay (r ⊳ h) s
pending_more calls lay h r s l named p same back fields shown = record {
  before = p.before;
  past = inr p.past;
  allowed = p.allowed;
  same = p.same ∙ same;
  unheld = p.unheld;
  shows = p.shows;
  named = λ n m. named_more r (p.named n m);
  settled = λ n m a i. node_stays lay h r n a l i (p.named n m) ∙ p.settled n m a i;
  fields = λ e side. fields_here (leaf_here e) side ∙ p.fields e side;
  saw = λ j i q. p.saw j i (back_here j i q);
  shown = λ j i d q side. shown_here j i d q side ∙ p.shown j i d (back_here j i q) side;
}
  where
    back_here : (j : ℕ) → j < count_in (descriptor p.before s) → Holds (descriptor p.before s) (r ⊳ h) s j → Holds (descriptor p.before s) h s j
    back_here = subst (λ d. (j : ℕ) → j < count_in d → Holds d (r ⊳ h) s j → Holds d h s j) (sym p.same) back

    fields_here : is_leaf (value h) (new p.before s) ≡ false → (side : Side) → value (r ⊳ h) (child (new p.before s) side) ≡ value h (child (new p.before s) side)
    fields_here = subst (λ d. is_leaf (value h) d.new ≡ false → (side : Side) → value (r ⊳ h) (child d.new side) ≡ value h (child d.new side)) (sym p.same) fields

    leaf_here : is_leaf (value p.before) (new p.before s) ≡ false → is_leaf (value h) (new p.before s) ≡ false
    leaf_here e = rw (p.settled (new p.before s) (inl refl) (Settled Head) tt) e

    shown_here : (j : ℕ) → j < count_in (descriptor p.before s) → j ≢ field_index_in (descriptor p.before s) → Holds (descriptor p.before s) (r ⊳ h) s j → (side : Side) → value (r ⊳ h) (child (member p.before s j) side) ≡ value h (child (member p.before s j) side)
    shown_here = subst (λ d. (j : ℕ) → j < count_in d → j ≢ field_index_in d → Holds d (r ⊳ h) s j → (side : Side) → value (r ⊳ h) (child (d.member j) side) ≡ value h (child (d.member j) side)) (sym p.same) shown

-- over a row that freezes nothing and wins nothing
pub pending_kept : {lay : Layout} {h : History} {r : Row} (calls : ℕ → MapEdit) → Facts lay h → (k : Kept lay h r) (s n : ℕ) → Lawful lay (r ⊳ h) → s ≢ 0 → HasHeld h (info n) s → Pending calls lay h s → Pending calls lay (r ⊳ h) s
pending_kept {lay} {h} {r} calls f k s n l d held p = pending_more calls lay h r s l (n, held) p
    (sym (descriptor_same h (r ⊳ h) s (k.settled s d (n, held))))
    back
    (λ _ side. k.node (new h s) (Child side) tt (by_scx s New (n, held) tt (held_at h (scx s New) (new h s) refl)))
    (λ j i e q side. k.node (member h s j) (Child side) tt (by_scx s (Member j) (n, held) tt (held_at h (scx s (Member j)) (member h s j) refl)))
  where
    back : (j : ℕ) → j < count_in (descriptor h s) → Holds (descriptor h s) (r ⊳ h) s j → Holds (descriptor h s) h s j
    back j i (inl e) = inl (sym (k.info _) ∙ e)
    back j i (inr q) = inr (held_back r h _ s (k.info _) q.0, stays_ended f k s q.1)

-- over a freezing exchange that wins, of an SCX-record that has begun
pub pending_freeze : {lay : Layout} {h : History} {r : Row} {u j : ℕ} (calls : ℕ → MapEdit) → Facts lay h → FreezeWins lay h r u j → (s n : ℕ) → Lawful lay (r ⊳ h) → s ≢ 0 → HasHeld h (info n) s → Pending calls lay h s → Pending calls lay (r ⊳ h) s
pending_freeze {lay} {h} {r} {u} {j} calls f z s n l d held p = pending_more calls lay h r s l (n, held) p
    (sym (freeze_descriptor f z s))
    (λ i m q. back i m q (ℕ_discrete s u) (ℕ_discrete (member h u j) (member h s i)))
    (λ _ side. freeze_keeps_field f z (new h s) side)
    (λ i m e q side. freeze_keeps_field f z (member h s i) side)
  where
    x : About lay (descriptor h s) h s
    x = f.about s n d held

    -- of what u has frozen, all but its j-th was frozen before
    old_frozen : (i : ℕ) → i < count_in (descriptor h u) → Froze (descriptor h u) (r ⊳ h) u i → (i ≡ j → ⊥) → Froze (descriptor h u) h u i
    old_frozen i m e q = ⊎_elim (λ y. absurd (freeze_distinct f z j i z.freeze.within m (λ w. q (sym w)) y.1)) (λ y. y) (freeze_held f z (member h u i) u e)

    mine : (i : ℕ) → i < count_in (descriptor h u) → Froze (descriptor h u) (r ⊳ h) u i → Dec (i ≡ j) → Holds (descriptor h u) h u i
    mine i m e (yes q) = inl (rw q (freeze_finds f z))
    mine i m e (no q) = inr (old_frozen i m e q, freeze_in_progress f z)

    back : (i : ℕ) → i < count_in (descriptor h s) → Holds (descriptor h s) (r ⊳ h) s i → Dec (s ≡ u) → Dec (member h u j ≡ member h s i) → Holds (descriptor h s) h s i
    back i m (inl e) _ (no q) = inl (sym (freeze_keeps_info f z _ q) ∙ e)
    back i m (inl e) _ (yes q) =
        let w : u ≡ seen h s i = sym (freeze_stores f z) ∙ rw (← q) at e in
        absurd (x.rest i m (rw (← w) (freeze_in_progress f z)))
    back i m (inr e) (no q) _ = inr (⊎_elim (λ y. absurd (q y.0)) (λ y. y) (freeze_held f z (member h s i) s e.0), sym (freeze_keeps_scx f z s State) ∙ e.1)
    back i m (inr e) (yes q) _ =
        let w : i < count_in (descriptor h u) = rw q at m in
        let y : Froze (descriptor h u) (r ⊳ h) u i = rw q at e.0 in
        rw q (mine i w y (ℕ_discrete i j))

-- over the winning update of another
pub not_held : {lay : Layout} {h : History} {r : Row} {u : ℕ} → Facts lay h → UpdateWins h r u → (s j : ℕ) → s ≢ u → About lay (descriptor h s) h s → j < count_in (descriptor h s) → member h u (field_index h u) ≡ member h s j → Holds (descriptor h s) h s j → ⊥
not_held {lay} {h} {r} {u} f z s j d x i q (inl e) =
    let w : u ≡ seen h s j = sym (update_holds f z) ∙ rw (← q) at e in
    x.rest j i (rw (← w) (update_in_progress f z))
not_held {lay} {h} {r} {u} f z s j d x i q (inr p) = d (sym (x.holds j i p.0 p.1) ∙ rw q at (update_holds f z))

pub pending_update : {lay : Layout} {h : History} {r : Row} {u : ℕ} (calls : ℕ → MapEdit) → Facts lay h → UpdateWins h r u
    → (s n : ℕ) → Lawful lay (r ⊳ h) → s ≢ 0 → s ≢ u → HasHeld h (info n) s → (is_leaf (value h) (new h s) ≡ false → member h u (field_index h u) ≢ new h s) → Pending calls lay h s → Pending calls lay (r ⊳ h) s
pending_update {lay} {h} {r} {u} calls f z s n l d du held other p = pending_more calls lay h r s l (n, held) p
    (sym (update_descriptor f z s))
    back
    (λ e side. update_keeps_other f z (child (new h s) side) (node_apart (member h u (field_index h u)) (new h s) (Child (side_of (plan h u))) (Child side) (other e)))
    (λ i m e q side. update_keeps_other f z (child (member h s i) side) (node_apart (member h u (field_index h u)) (member h s i) (Child (side_of (plan h u))) (Child side) (λ y. not_held f z s i du (f.about s n d held) m y (back i m q))))
  where
    back : (j : ℕ) → j < count_in (descriptor h s) → Holds (descriptor h s) (r ⊳ h) s j → Holds (descriptor h s) h s j
    back j i (inl e) = inl (sym (update_keeps_info f z _) ∙ e)
    back j i (inr q) = inr (update_held f z _ s q.0, sym (update_keeps_scx f z s State) ∙ q.1)
