-- What is known after every history of the tree.
use Rattle.std.proofs.Common.{◌≡◌, ◌≢◌, ℕ, ◌<◌, ◌≤◌, ◌⊎◌, inl, inr, zero, suc, ◌++◌, refl, sym, ◌∙◌, ap, arith, subst}
use Rattle.histories.specs.Common.{Mode, Tree as TreeMode, Layout, Row, Side, Left, Right, Settled, Head, Plan, node, info, child, first_key, History, Opening, empty, Start, Opened, ◌⊳◌, value, HasHeld, Extends, plan, count, count_of, seen, Lawful, log, IsBegin, Shaped}
use Rattle.arena.specs.Layout.{IsMap}
use Rattle.ordered_map.specs.Bits.{Keeps, IsTrieFork}
use Rattle.arena.proofs.Lemmas.{held_start, map_opens, opening_info, opening_scx}
use Rattle.histories.proofs.Lemmas.{Effect, Facts, FreezeWins, effect, facts_before, freeze, freeze_in_progress, freeze_rest, lawful_since, lawful_tail, quiet, shaped_begin, shaped_since, shaped_tail, start_mode, update}
use Rattle.ordered_map.specs.OrderedMap.{MapEdit}
use Rattle.ordered_map.specs.Planted.{IsPlanted}
use Rattle.ordered_map.specs.TreeShape.{MayEdit, IsEdit}
use Rattle.ordered_map.proofs.EditPlans.{leaf_plan_says, join_plan_says, end_leaf_plan_says, end_join_plan_says, above_plan_says}
use Rattle.ordered_map.proofs.Pending.{AllowsGiven, GivenAllows, begun_edit}
use Rattle.ordered_map.proofs.Holding.{high_leaf}
use Rattle.ordered_map.proofs.Trees.{items, ends, EndsLow}
use Rattle.ordered_map.specs.Runs.{map_of_log, first_pairs}
use Rattle.ordered_map.specs.Spelled.{IsTree}
use Rattle.ordered_map.specs.TreeWords.{Leaf, Fork, Has, level}
use Rattle.ordered_map.proofs.TreeFacts.{TreeFacts, path_now, tree_kept, tree_frozen}
use Rattle.ordered_map.proofs.Edited.{tree_updated}

-- the history is one of a map, and its SCX-records make these edits
pub record IsGrown (calls : ℕ → MapEdit) (lay : Layout) (h : History) : Type 0 where
  pub mode : IsMap lay.mode
  pub lawful : Lawful lay h
  pub shaped : Shaped (GivenAllows calls) lay h

-- a tree's mode is a map's
pub tree_map : (mode : Mode) → mode ≡ TreeMode → IsMap mode
tree_map mode e = rw e refl

-- a trie opens as a tree
pub start_same : (mode : Mode) → IsMap mode → value (Start TreeMode) ≡ value (Start mode)
start_same mode e = map_opens TreeMode refl ∙ sym (map_opens mode e)

tree_opens : IsTree (value (Start TreeMode)) (Fork 0 (Leaf 1) (Leaf 2))
unfolding value
tree_opens = record {
  shows = (
    record { fork = refl; left = refl; right = refl; low = omega arith; high = omega arith },
    high_leaf (value (Start TreeMode)) 1 _ _ refl (λ z. absurd (cc)) (omega arith) (omega arith) (omega arith),
    high_leaf (value (Start TreeMode)) 2 _ _ refl (λ z. absurd (cc)) (omega arith) (omega arith) (omega arith),
  );
  is = refl;
}

pub opening_tree : (mode : Mode) → IsMap mode → IsTree (value (Start mode)) (Fork 0 (Leaf 1) (Leaf 2))
opening_tree mode e = subst (λ f. IsTree f (Fork 0 (Leaf 1) (Leaf 2))) (start_same mode e) tree_opens

opening_low : EndsLow (value (Start TreeMode)) (Fork 0 (Leaf 1) (Leaf 2))
unfolding value
opening_low = (λ z. absurd (cc), tt, tt)

opening_items : items (value (Start TreeMode)) (Fork 0 (Leaf 1) (Leaf 2)) ≡ ends
unfolding value
opening_items = refl

opening_forks : (n : ℕ) → Has (Fork 0 (Leaf 1) (Leaf 2)) n → IsTrieFork (value (Start TreeMode)) n
unfolding value
opening_forks n (inl e) = subst (IsTrieFork (value (Start TreeMode))) e (λ d. (record { top = λ z. refl; key = λ z. absurd (cc) }, keeps))
  where
    keeps : (side : Side) → Keeps (value (Start TreeMode)) 0 side (value (Start TreeMode) (child 0 side))
    keeps Left = record { fork = λ d z. absurd (cc); leaf = λ d z. absurd (cc); last = λ d z. omega arith }
    keeps Right = record { fork = λ d z. absurd (cc); leaf = λ d z. absurd (cc); last = λ d z. omega arith }
opening_forks n (inr (inl e)) = subst (IsTrieFork (value (Start TreeMode))) e (λ d. absurd (cc))
opening_forks n (inr (inr e)) = subst (IsTrieFork (value (Start TreeMode))) e (λ d. absurd (cc))

opening_level : (n : ℕ) → n < 3 → level (value (Start TreeMode)) n ≤ 1
unfolding value
opening_level zero i = omega arith
opening_level (suc zero) i = omega arith
opening_level (suc (suc zero)) i = omega arith
opening_level (suc (suc (suc n))) i = absurd (omega (arith, i))

first_three : (n : ℕ) → Has (Fork 0 (Leaf 1) (Leaf 2)) n → n < 3
first_three n (inl e) = omega (arith, e)
first_three n (inr (inl e)) = omega (arith, e)
first_three n (inr (inr e)) = omega (arith, e)

three_first : (n : ℕ) → n < 3 → Has (Fork 0 (Leaf 1) (Leaf 2)) n
three_first zero i = inl refl
three_first (suc zero) i = inr (inl refl)
three_first (suc (suc zero)) i = inr (inr refl)
three_first (suc (suc (suc n))) i = absurd (omega (arith, i))

-- an empty map is planted
pub empty_planted : (lay : Layout) → IsMap lay.mode → IsPlanted lay (Start lay.mode) 0
empty_planted lay is = record {
  dummy = refl;
  tree = Fork 0 (Leaf 1) (Leaf 2);
  is_tree = opening_tree lay.mode is;
  items = ap (λ f. items f (Fork 0 (Leaf 1) (Leaf 2))) (sym (start_same lay.mode is)) ∙ opening_items;
  ends_low = subst (λ f. EndsLow f (Fork 0 (Leaf 1) (Leaf 2))) (start_same lay.mode is) opening_low;
  whole = λ n i. three_first n (rw is at i);
  there = λ n p. rw is (let few = first_three n p in omega (arith, few));
  root = ap (λ f. f (node 0 (Settled Head))) (map_opens lay.mode is);
  last = ap (λ f. f (node 2 (Settled Head))) (map_opens lay.mode is);
  right = ap (λ f. f (child 0 Right)) (map_opens lay.mode is);
  blank = λ n p d. ap (λ f. f (node n first_key)) (map_opens lay.mode is);
  deep = λ tree n p. let low : level (value (Start lay.mode)) n ≤ 1 = subst (λ f. level f n ≤ 1) (start_same lay.mode is) (opening_level n (first_three n p)) in omega (arith, low);
  forks = λ m n p. subst (λ f. IsTrieFork f n) (start_same lay.mode is) (opening_forks n p);
}

-- no edit is made of the dummy as a table begins: it has no plan
pub none_edited : (lay : Layout) (o : Opening) (e : MapEdit) → MayEdit lay (Opened o) 0 e → ⊥
none_edited lay o e x = go x.edit
  where
    none : (n : ℕ) → count (Opened o) 0 ≡ n → 0 < n → ⊥
    none n q i =
        let zero : plan (Opened o) 0 ≡ 0 = opening_scx o 0 Plan refl in
        let z : count_of 0 ≡ n = rw zero at q in omega (arith, z, i)

    go : IsEdit lay (Opened o) 0 e → ⊥
    go (inl y) = none 2 (leaf_plan_says _ _ y.plan).3 (omega arith)
    go (inr (inl y)) = none 4 (join_plan_says _ _ y.plan).3 (omega arith)
    go (inr (inr (m, inl y))) = none 2 (leaf_plan_says _ _ y.plan).3 (omega arith)
    go (inr (inr (m, inr (inl y)))) = none 3 (end_leaf_plan_says _ _ y.plan).3 (omega arith)
    go (inr (inr (m, inr (inr (inl y))))) = none 4 (end_join_plan_says _ _ y.plan).3 (omega arith)
    go (inr (inr (m, inr (inr (inr y))))) = none 2 (above_plan_says _ _ y.plan).3 (omega arith)

-- what a history of a map begins with is planted
pub planted : (calls : ℕ → MapEdit) (lay : Layout) (o : Opening) → IsGrown calls lay (Opened o) → IsPlanted lay (Opened o) 0
unfolding Shaped
planted calls lay o g = go g.shaped
  where
    go : (o ≡ empty o.mode) ⊎ GivenAllows calls lay (Opened o) 0 → IsPlanted lay (Opened o) 0
    go (inl e) = subst (λ x. IsPlanted lay (Opened x) 0) (sym (e ∙ ap empty (start_mode lay o g.lawful))) (empty_planted lay g.mode)
    go (inr (inl x)) = absurd (none_edited lay o (calls 0) x)
    go (inr (inr p)) = p

-- no info word names anything but the dummy at the start
opened : (o : Opening) (s n : ℕ) → s ≢ 0 → HasHeld (Opened o) (info n) s → ⊥
opened o s n d p = d (sym (held_start o (info n) s p) ∙ opening_info o n)

start_log : (calls : ℕ → MapEdit) (lay : Layout) (o : Opening) → map_of_log calls (first_pairs (Opened o)) (log lay (Opened o)) ≡ first_pairs (Opened o)
unfolding log
start_log calls lay o = refl

tree_at_start : (calls : ℕ → MapEdit) (lay : Layout) (o : Opening) → IsMap lay.mode → IsPlanted lay (Opened o) 0 → TreeFacts calls lay (Opened o)
tree_at_start calls lay o is x = record {
  tree = x.tree;
  is_tree = x.is_tree;
  items = x.items ∙ ap (λ ps. ps ++ ends) (sym (start_log calls lay o));
  ends_low = x.ends_low;
  pending = λ s n d p w. absurd (opened o s n d p);
  one_new = λ s u m n d c p q e. absurd (opened o s m d p);
  unborn = λ s n d p w e. absurd (opened o s n d p);
  path = λ m k n e p stay. inl (path_now (Opened o) x.tree k n x.is_tree (rw e at p));
  forks = x.forks;
  root_head = x.root;
  last_head = x.last;
  last_key = x.blank 2 (x.whole 2 (rw is (omega arith))) (λ z. let head = x.last in omega (arith, z, head));
}

-- the first freezing exchange of an SCX-record that wins begins it
pub first_begins : (lay : Layout) (h : History) (r : Row) (s j : ℕ) → Facts lay h → FreezeWins lay h r s j → j ≡ 0 → IsBegin h r s
first_begins lay h r s j f w q = record { kind = w.kind; word = rw q at w.freeze.word; found = rw q at w.found; stored = w.stored; changed = changed }
  where
    changed : r.before ≢ r.after
    changed e =
        let x : seen h s j ≡ s = sym w.found ∙ e ∙ w.stored in
        freeze_rest f w j w.freeze.within (rw x (freeze_in_progress f w))

tree_step : (calls : ℕ → MapEdit) (lay : Layout) (h : History) (r : Row) → IsMap lay.mode → Lawful lay (r ⊳ h) → ((s : ℕ) → IsBegin h r s → AllowsGiven calls lay h s) → TreeFacts calls lay h → TreeFacts calls lay (r ⊳ h)
tree_step calls lay h r o l allowed t = go (effect lay h r l)
  where
    f : Facts lay h
    f = facts_before lay h r l

    go : Effect lay h r → TreeFacts calls lay (r ⊳ h)
    go (quiet k) = tree_kept calls lay h r f o l t k
    go (freeze s j w) = tree_frozen calls lay h r s j f w o l t (λ q. allowed s (first_begins lay h r s j f w q))
    go (update s w) = tree_updated calls lay h r s f w o l t

pub tree_facts : (calls : ℕ → MapEdit) (lay : Layout) (h : History) → IsGrown calls lay h → TreeFacts calls lay h
tree_facts calls lay (Opened o) g = tree_at_start calls lay o g.mode (planted calls lay o g)
tree_facts calls lay (r ⊳ h) g =
    tree_step calls lay h r g.mode g.lawful (λ s b. begun_edit (AllowsGiven calls lay h s) lay h r s g.lawful b (shaped_begin (GivenAllows calls) lay h r s g.shaped b))
    (tree_facts calls lay h record { mode = g.mode; lawful = lawful_tail lay h r g.lawful; shaped = shaped_tail (GivenAllows calls) lay h r g.shaped })

pub grown_tail : (calls : ℕ → MapEdit) (lay : Layout) (h : History) (r : Row) → IsGrown calls lay (r ⊳ h) → IsGrown calls lay h
grown_tail calls lay h r g = record { mode = g.mode; lawful = lawful_tail lay h r g.lawful; shaped = shaped_tail (GivenAllows calls) lay h r g.shaped }

pub grown_since : (calls : ℕ → MapEdit) (lay : Layout) (h m : History) → Extends h m → IsGrown calls lay h → IsGrown calls lay m
grown_since calls lay h m e g = record { mode = g.mode; lawful = lawful_since lay h m g.lawful e; shaped = shaped_since (GivenAllows calls) lay h m g.shaped e }
