-- The leaf at an end of a tree: it is on the path of the key at that end of all keys that may be.
-- On the right it is the last of class 0, since a fork of class 0 has no leaf of another class
-- below it.
use Rattle.std.proofs.Common.{◌≡◌, ◌≢◌, ℕ, ◌^◌, ◌<◌, ◌≤◌, Bool, true, false, cond, eqb, lt-ltb, le-ltb, eq-eqb, ne_eqb, inl, inr, List, [], ◌∷◌, ◌++◌, refl, sym, ◌∙◌, ap, arith, append_assoc, append-nil, subst}
use Rattle.std.specs.Prelude.{Some, unwrap_or}
use native.Mathlib.Decide.{ℕ_discrete}
use Rattle.histories.specs.Common.{Layout, Tree as TreeMode, Side, Left, Right, Settled, More, Key, Word, node, child, first_key, Row, History, ◌⊳◌, value, IsWin, log, is_final}
use Rattle.arena.proofs.Lemmas.{ends_self}
use Rattle.histories.proofs.Lemmas.{node_since, win_not_final}
use Rattle.ordered_map.specs.declared.pair.Pair.{Pair}
use Rattle.ordered_map.specs.OrderedMap.{MapEdit, pair, first_pair, last_pair, end_pair, AllBelow, IsRising}
use Rattle.ordered_map.specs.Holding.{end_slot, held_pairs, pair_in, IsWellCounted}
use Rattle.ordered_map.specs.Paths.{IsOnPath, Passed, WasInTree, WasOnPath, IsEndAt, end_key, end_turn}
use Rattle.ordered_map.specs.Runs.{IsMapRun, Makes}
use Rattle.ordered_map.specs.Spelled.{Spells}
use Rattle.ordered_map.specs.TreeWords.{Tree, Leaf, Fork, IsLeaf, HasItems, Shows, Has, Passes, class, is_leaf, rank, toward, pairs, leaf_pairs, end_said}
use Rattle.ordered_map.proofs.Spanned.{node_from, node_low}
use Rattle.ordered_map.proofs.Trees.{EndsLow, open_between, node_below, shown_leaf, passes_has}
use Rattle.ordered_map.specs.TreeShape.{edit_leaf}
use Rattle.ordered_map.proofs.Holding.{SameSettled, same_leaf, low_items, rank_from, held_first, held_end, low_pairs, high_pairs}
use Rattle.ordered_map.proofs.Moved.{settled_rank, settled_class, settled_leaf, settled_toward, settled_end}
use Rattle.ordered_map.proofs.TreeFacts.{path_now}
use Rattle.ordered_map.proofs.Maps.{below_end, last_from, last_join}
use Rattle.ordered_map.proofs.Past.{path_named}
use Rattle.ordered_map.proofs.Meanings.{run_spells, run_since, wins_of, leaf_covered}
use Rattle.ordered_map.proofs.Stood.{was_passed}
use Rattle.ordered_map.proofs.Children.{IsBeside, fork_low, run_low, has_child, had_beside}
use Rattle.ordered_map.proofs.MapRuns.{path_remains, stood_settled}

-- In a tree

-- its forks are above the lower bound
fork_above : (f : Word → ℕ) (t : Tree) (lo hi n : ℕ) → Shows f lo hi t → Has t n → is_leaf f n ≡ false → lo < rank f n
fork_above f (Leaf m) lo hi n s e d = absurd (let x : true ≡ false = sym s.leaf ∙ rw (← e) at d in cc)
fork_above f (Fork m a b) lo hi n s (inl e) d = rw (← e) (open_between f a lo (rank f m) s.1)
fork_above f (Fork m a b) lo hi n s (inr (inl q)) d = fork_above f a lo (rank f m) n s.1 q d
fork_above f (Fork m a b) lo hi n s (inr (inr q)) d =
    let x : rank f m < rank f n = fork_above f b (rank f m) hi n s.2 q d in
    let y : lo < rank f m = open_between f a lo (rank f m) s.1 in
    omega (arith, x, y)

same_left : (b : Bool) → Left ≡ cond b Left Left
same_left true = refl
same_left false = refl

-- to which side the search for the key at an end goes
fork_turn : (f : Word → ℕ) (side : Side) (t : Tree) (lo hi n : ℕ) → Shows f lo hi t → EndsLow f t → Has t n → is_leaf f n ≡ false → toward f n (end_key side) ≡ end_turn side (class f n)
fork_turn f Left t lo hi n s w h d =
    let x : lo < rank f n = fork_above f t lo hi n s h d in
    rw (lt-ltb 0 (rank f n) (omega (arith, x))) (same_left (eqb (class f n) 0))
fork_turn f Right t lo hi n s w h d = go (ℕ_discrete (class f n) 0)
  where
    go : Dec (class f n ≡ 0) → toward f n (end_key Right) ≡ end_turn Right (class f n)
    go (yes low) =
        let x : rank f n < 2 ^ 64 = fork_low f t lo hi n s w h d low in
        rw (le-ltb (end_key Right) (rank f n) (omega (arith, x)), eq-eqb (class f n) 0 low) refl
    go (no high) = rw (lt-ltb (end_key Right) (rank f n) (omega (arith, high)), ne_eqb (class f n) 0 high) refl

-- On the left

-- no search for 0 goes to the right
never_right : (f : Word → ℕ) (a : Tree) (lo m : ℕ) → Shows f lo (rank f m) a → rank f m ≤ 0 → ⊥
never_right f a lo m s e = let x : lo < rank f m = open_between f a lo (rank f m) s in omega (arith, x, e)

-- what is on the path of 0 is on that of every key up to its own
first_path : (f : Word → ℕ) (k : ℕ) (t : Tree) (lo hi n : ℕ) → Shows f lo hi t → Passes f 0 t n → k ≤ rank f n → Passes f k t n
first_path f k (Leaf m) lo hi n s e u = e
first_path f k (Fork m a b) lo hi n s (inl e) u = inl e
first_path f k (Fork m a b) lo hi n s (inr (inl q)) u =
    let x : rank f n < rank f m = node_below f a lo (rank f m) n s.1 (passes_has f 0 a n q.1) in
    inr (inl (omega (arith, x, u), first_path f k a lo (rank f m) n s.1 q.1 u))
first_path f k (Fork m a b) lo hi n s (inr (inr q)) u = absurd (never_right f a lo m s.1 q.0)

-- its pairs come first
leaf_first : (f : Word → ℕ) (t : Tree) (lo hi n : ℕ) → Shows f lo hi t → Passes f 0 t n → is_leaf f n ≡ true → (rest : List Pair) × (pairs f t ≡ leaf_pairs f n ++ rest)
leaf_first f (Leaf m) lo hi n s e d = ([], ap (leaf_pairs f) e ∙ sym (append-nil (leaf_pairs f n)))
leaf_first f (Fork m a b) lo hi n s (inl e) d = absurd (let x : true ≡ false = sym d ∙ rw (← e) s.0.fork in cc)
leaf_first f (Fork m a b) lo hi n s (inr (inl q)) d =
    let x : (rest : List Pair) × (pairs f a ≡ leaf_pairs f n ++ rest) = leaf_first f a lo (rank f m) n s.1 q.1 d in
    (x.0 ++ pairs f b, ap (λ ps. ps ++ pairs f b) x.1 ∙ append_assoc (leaf_pairs f n) x.0 (pairs f b))
leaf_first f (Fork m a b) lo hi n s (inr (inr q)) d = absurd (never_right f a lo m s.1 q.0)

-- above all keys there is no pair
no_pairs : (f : Word → ℕ) (t : Tree) (lo hi : ℕ) → Shows f lo hi t → 2 ^ 64 ≤ lo → pairs f t ≡ []
no_pairs f (Leaf m) lo hi s u =
    let high : class f m ≢ 0 = λ z. let a = s.small in let b : lo ≤ rank f m = rank_from f m lo hi s.items in omega (arith, a, b, z, u) in
    rw (ne_eqb (class f m) 0 high) refl
no_pairs f (Fork m a b) lo hi s u =
    let x : lo < rank f m = open_between f a lo (rank f m) s.1 in
    let left : pairs f a ≡ [] = no_pairs f a lo (rank f m) s.1 u in
    let right : pairs f b ≡ [] = no_pairs f b (rank f m) hi s.2 (omega (arith, x, u)) in
    λ i. left i ++ right i

-- so where the first leaf is above all keys there is none
none_first : (f : Word → ℕ) (t : Tree) (lo hi n : ℕ) → Shows f lo hi t → Passes f 0 t n → is_leaf f n ≡ true → class f n ≢ 0 → pairs f t ≡ []
none_first f (Leaf m) lo hi n s e d high = rw (ne_eqb (class f m) 0 (λ z. high (rw (← e) z))) refl
none_first f (Fork m a b) lo hi n s (inl e) d high = absurd (let x : true ≡ false = sym d ∙ rw (← e) s.0.fork in cc)
none_first f (Fork m a b) lo hi n s (inr (inl q)) d high =
    let x : rank f n < rank f m = node_below f a lo (rank f m) n s.1 (passes_has f 0 a n q.1) in
    let left : pairs f a ≡ [] = none_first f a lo (rank f m) n s.1 q.1 d high in
    let right : pairs f b ≡ [] = no_pairs f b (rank f m) hi s.2 (omega (arith, x, high)) in
    λ i. left i ++ right i
none_first f (Fork m a b) lo hi n s (inr (inr q)) d high = absurd (never_right f a lo m s.1 q.0)

-- the first pair of what the tree holds is what its first leaf says
pairs_first : (f : Word → ℕ) (t : Tree) (lo hi n : ℕ) → Shows f lo hi t → Passes f 0 t n → is_leaf f n ≡ true → first_pair (pairs f t) ≡ end_said Left f n
pairs_first f t lo hi n s p d = go (ℕ_discrete (class f n) 0)
  where
    go : Dec (class f n ≡ 0) → first_pair (pairs f t) ≡ end_said Left f n
    go (no high) = ap first_pair (none_first f t lo hi n s p d high ∙ sym (high_pairs f n high))
    go (yes low) =
        let x : (rest : List Pair) × (pairs f t ≡ leaf_pairs f n ++ rest) = leaf_first f t lo hi n s p d in
        let y = held_first f n in
        let held : leaf_pairs f n ≡ pair (f (node n first_key)) y.value ∷ y.rest = low_pairs f n low ∙ y.is in
        ap first_pair (x.1 ∙ ap (λ ps. ps ++ x.0) held) ∙ sym (ap first_pair held)

-- On the right

-- the last leaf on the path holds nothing only if all do
none_last : (f : Word → ℕ) (t : Tree) (lo hi n : ℕ) → Shows f lo hi t → EndsLow f t → Passes f (end_key Right) t n → is_leaf f n ≡ true → class f n ≢ 0 → pairs f t ≡ []
none_last f (Leaf m) lo hi n s w e d high = rw (ne_eqb (class f m) 0 (λ z. high (rw (← e) z))) refl
none_last f (Fork m a b) lo hi n s w (inl e) d high = absurd (let x : true ≡ false = sym d ∙ rw (← e) s.0.fork in cc)
none_last f (Fork m a b) lo hi n s w (inr (inl q)) d high =
    let over = q.0 in
    let left : pairs f a ≡ [] = none_last f a lo (rank f m) n s.1 w.1 q.1 d high in
    let right : pairs f b ≡ [] = no_pairs f b (rank f m) hi s.2 (omega (arith, over)) in
    λ i. left i ++ right i
none_last f (Fork m a b) lo hi n s w (inr (inr q)) d high =
    let below = q.0 in
    let x : rank f n < 2 ^ 64 = node_low f b (rank f m) hi n s.2 (w.0 (omega (arith, below))) (passes_has f (end_key Right) b n q.1) in
    absurd (high (omega (arith, x)))

-- its pairs come last
leaf_last : (f : Word → ℕ) (t : Tree) (lo hi n : ℕ) → Shows f lo hi t → Passes f (end_key Right) t n → is_leaf f n ≡ true → (front : List Pair) × (pairs f t ≡ front ++ leaf_pairs f n)
leaf_last f (Leaf m) lo hi n s e d = ([], ap (leaf_pairs f) e)
leaf_last f (Fork m a b) lo hi n s (inl e) d = absurd (let x : true ≡ false = sym d ∙ rw (← e) s.0.fork in cc)
leaf_last f (Fork m a b) lo hi n s (inr (inl q)) d =
    let over = q.0 in
    let right : pairs f b ≡ [] = no_pairs f b (rank f m) hi s.2 (omega (arith, over)) in
    let x : (front : List Pair) × (pairs f a ≡ front ++ leaf_pairs f n) = leaf_last f a lo (rank f m) n s.1 q.1 d in
    (x.0, ap (λ ps. pairs f a ++ ps) right ∙ append-nil (pairs f a) ∙ x.1)
leaf_last f (Fork m a b) lo hi n s (inr (inr q)) d =
    let x : (front : List Pair) × (pairs f b ≡ front ++ leaf_pairs f n) = leaf_last f b (rank f m) hi n s.2 q.1 d in
    (pairs f a ++ x.0, ap (λ ps. pairs f a ++ ps) x.1 ∙ sym (append_assoc (pairs f a) x.0 (leaf_pairs f n)))

pairs_last : (f : Word → ℕ) (t : Tree) (lo hi n : ℕ) → Shows f lo hi t → EndsLow f t → Passes f (end_key Right) t n → is_leaf f n ≡ true → last_pair (pairs f t) ≡ end_said Right f n
pairs_last f t lo hi n s w p d = go (ℕ_discrete (class f n) 0)
  where
    go : Dec (class f n ≡ 0) → last_pair (pairs f t) ≡ end_said Right f n
    go (no high) = ap last_pair (none_last f t lo hi n s w p d high ∙ sym (high_pairs f n high))
    go (yes low) =
        let x : (front : List Pair) × (pairs f t ≡ front ++ leaf_pairs f n) = leaf_last f t lo hi n s p d in
        let held = ap last_pair (low_pairs f n low) ∙ held_end Right f n in
        ap last_pair x.1 ∙ last_join x.0 (leaf_pairs f n) _ held ∙ sym held

-- what is on the path of 2 ^ 64 - 1 is on that of every key from its own on
last_path : (f : Word → ℕ) (k : ℕ) (t : Tree) (lo hi n : ℕ) → Shows f lo hi t → EndsLow f t → Passes f (end_key Right) t n → k < 2 ^ 64 → (rank f n < 2 ^ 64 → rank f n ≤ k) → Passes f k t n
last_path f k (Leaf m) lo hi n s w e small u = e
last_path f k (Fork m a b) lo hi n s w (inl e) small u = inl e
last_path f k (Fork m a b) lo hi n s w (inr (inl q)) small u =
    let over = q.0 in
    inr (inl (omega (arith, over, small), last_path f k a lo (rank f m) n s.1 w.1 q.1 small u))
last_path f k (Fork m a b) lo hi n s w (inr (inr q)) small u =
    let below = q.0 in
    let h : Has b n = passes_has f (end_key Right) b n q.1 in
    let from : rank f m ≤ rank f n = node_from f b (rank f m) hi n s.2 h in
    let up : rank f n ≤ k = u (node_low f b (rank f m) hi n s.2 (w.0 (omega (arith, below))) h) in
    inr (inr (omega (arith, from, up), last_path f k b (rank f m) hi n s.2 w.2 q.1 small u))

-- By side

-- the pair at an end of what the tree holds is what the leaf there says
pairs_end : (side : Side) (f : Word → ℕ) (t : Tree) (lo hi n : ℕ) → Shows f lo hi t → EndsLow f t → Passes f (end_key side) t n → is_leaf f n ≡ true → end_pair side (pairs f t) ≡ end_said side f n
pairs_end Left f t lo hi n s w p d = pairs_first f t lo hi n s p d
pairs_end Right f t lo hi n s w p d = pairs_last f t lo hi n s w p d

-- the key k is between an end and a node of this rank, or is its own; on the right a node above
-- all keys has all of them between
abbrev pub IsUpTo : Side → ℕ → ℕ → Type 0
IsUpTo Left k r = k ≤ r
IsUpTo Right k r = (k < 2 ^ 64) × (r < 2 ^ 64 → r ≤ k)

-- the key at the end of a leaf of class 0 is a key of the map, and between that end and the leaf's
-- rank
pub end_small : (side : Side) (f : Word → ℕ) (n : ℕ) → AllBelow (2 ^ 64) (held_pairs f n) → f (node n (Settled (Key (end_slot side (f (node n (Settled More))))))) < 2 ^ 64
end_small side f n below = below_end side (2 ^ 64) (held_pairs f n) _ below (held_end side f n)

pub end_up : (side : Side) (f : Word → ℕ) (n : ℕ) → class f n ≡ 0 → IsRising (held_pairs f n) → AllBelow (2 ^ 64) (held_pairs f n) → IsUpTo side (f (node n (Settled (Key (end_slot side (f (node n (Settled More)))))))) (rank f n)
end_up Left f n low rises below = omega (arith, low)
end_up Right f n low rises below =
    let x = held_first f n in
    let last : Pair = unwrap_or (last_pair x.rest) (pair (f (node n first_key)) x.value) in
    let is : Some (pair_in f n (end_slot Right (f (node n (Settled More))))) ≡ Some last = sym (held_end Right f n) ∙ ap last_pair x.is in
    let same : f (node n (Settled (Key (end_slot Right (f (node n (Settled More))))))) ≡ last.key = ap (λ o. (unwrap_or o last).key) is in
    let up : f (node n first_key) ≤ last.key = last_from (pair (f (node n first_key)) x.value) x.rest (subst IsRising x.is rises).0 in
    (end_small Right f n below, λ _. omega (arith, low, same, up))

end_path : (side : Side) (f : Word → ℕ) (k : ℕ) (t : Tree) (lo hi n : ℕ) → Shows f lo hi t → EndsLow f t → Passes f (end_key side) t n → IsUpTo side k (rank f n) → Passes f k t n
end_path Left f k t lo hi n s w p u = first_path f k t lo hi n s p u
end_path Right f k t lo hi n s w p u = last_path f k t lo hi n s w p u.0 u.1

-- In a run

-- what was passed says what it said
same_since : (lay : Layout) (h start : History) (k n : ℕ) → IsMapRun lay h → (p : Passed h start k n) → SameSettled (value p.0) (value h) n
same_since lay h start k n g p part i = node_since lay h p.0 n part g.1.lawful p.1 i (path_named lay p.0 k n g.0 p.3)

-- where what is on a side of a fork that was passed is, seen from the fork
pub walk_beside : (lay : Layout) (h start : History) (k n : ℕ) (side : Side) → IsMapRun lay h → Passed h start k n → is_leaf (value h) n ≡ false → IsBeside (value h) side n (value h (child n side))
walk_beside lay h start k n side g p fork = had_beside lay h n side (value h (child n side)) g (has_child h n side (was_passed h start k n p)) fork

-- the keys of all pairs of a leaf of class 0 that was ever in the tree are keys of the map, and
-- rise; and they are as many as a leaf may hold
pub stood_holds : (lay : Layout) (h : History) (n : ℕ) → IsMapRun lay h → WasInTree h n → is_leaf (value h) n ≡ true → class (value h) n ≡ 0 → IsWellCounted (value h) n × AllBelow (2 ^ 64) (held_pairs (value h) n) × IsRising (held_pairs (value h) n)
stood_holds lay h n g x leaf low = ((y.keys low).0, (y.keys low).1, subst IsRising (low_items (value h) n low) y.rising)
  where
    same : SameSettled (value x.moment) (value h) n
    same = stood_settled lay h x.moment n g x.within record { moment = x.moment; within = ends_self x.moment; tree = x.tree; is_tree = x.is_tree; has = x.has }

    shown : (lo hi : ℕ) × IsLeaf (value x.moment) n lo hi
    shown = shown_leaf (value x.moment) x.tree _ _ n x.is_tree.shows x.has (sym (settled_leaf (value x.moment) (value h) n same) ∙ leaf)

    y : HasItems (value h) n shown.0 shown.1
    y = (same_leaf (value x.moment) (value h) n shown.0 shown.1 same shown.2).items

pub stood_counted : (lay : Layout) (h : History) (n : ℕ) → IsMapRun lay h → WasInTree h n → is_leaf (value h) n ≡ true → class (value h) n ≡ 0 → IsWellCounted (value h) n
stood_counted lay h n g x leaf low = (stood_holds lay h n g x leaf low).0

-- to which side a search for the key at an end goes at a fork that was ever in the tree
pub stood_turns : (side : Side) (lay : Layout) (h : History) (n : ℕ) → IsMapRun lay h → WasInTree h n → is_leaf (value h) n ≡ false → toward (value h) n (end_key side) ≡ end_turn side (class (value h) n)
stood_turns side lay h n g t fork =
    let m : History = t.moment in
    let same : SameSettled (value m) (value h) n = stood_settled lay h m n g t.within record { moment = m; within = ends_self m; tree = t.tree; is_tree = t.is_tree; has = t.has } in
    let low = run_low lay m t.tree (run_since lay h m g t.within) t.is_tree in
    let x : toward (value m) n (end_key side) ≡ end_turn side (class (value m) n) = fork_turn (value m) side t.tree _ _ n t.is_tree.shows low t.has (sym (settled_leaf (value m) (value h) n same) ∙ fork) in
    settled_toward (value m) (value h) n (end_key side) same ∙ x ∙ ap (end_turn side) (sym (settled_class (value m) (value h) n same))

-- so at each that such a search has passed
pub walk_turns : (side : Side) (lay : Layout) (h start : History) (n : ℕ) → IsMapRun lay h → Passed h start (end_key side) n → is_leaf (value h) n ≡ false → toward (value h) n (end_key side) ≡ end_turn side (class (value h) n)
walk_turns side lay h start n g p fork = stood_turns side lay h n g (was_passed h start (end_key side) n p) fork

-- what it has passed it has passed on its way to each key between
pub walk_own : (side : Side) (lay : Layout) (h start : History) (k n : ℕ) → IsMapRun lay h → Passed h start (end_key side) n → IsUpTo side k (rank (value h) n) → Passed h start k n
walk_own side lay h start k n g p u =
    let tree = p.3 in
    let low = run_low lay p.0 tree.tree (run_since lay h p.0 g p.1) tree.is_tree in
    let up : IsUpTo side k (rank (value p.0) n) = subst (IsUpTo side k) (settled_rank (value p.0) (value h) n (same_since lay h start (end_key side) n g p)) u in
    (p.0, p.1, p.2, record { tree = tree.tree; is_tree = tree.is_tree; passes = end_path side (value p.0) k tree.tree _ _ n tree.is_tree.shows low tree.passes up })

-- the pair at an end of the map that words spell is what the leaf on the path there says
pub spelled_end : (side : Side) (lay : Layout) (h : History) (n : ℕ) (ps : List Pair) → IsMapRun lay h → Spells lay (value h) ps → IsOnPath h (end_key side) n → is_leaf (value h) n ≡ true → end_pair side ps ≡ end_said side (value h) n
spelled_end side lay h n ps g s p leaf = ap (end_pair side) (sym s.pairs) ∙ pairs_end side (value h) s.tree _ _ n s.is_tree.shows (run_low lay h s.tree g s.is_tree) (path_now h s.tree (end_key side) n s.is_tree p) leaf

-- the leaf where it ends says which pair was at that end of the map, at a moment since then
pub walk_end : (side : Side) (lay : Layout) (h start : History) (n : ℕ) → IsMapRun lay h → Passed h start (end_key side) n → is_leaf (value h) n ≡ true → IsEndAt side lay h start (end_said side (value h) n)
walk_end side lay h start n g p leaf =
    let m = p.0 in
    let same = same_since lay h start (end_key side) n g p in
    let then_run : IsMapRun lay m = run_since lay h m g p.1 in
    let spelled : (ps : List Pair) × Spells lay (value m) ps = run_spells lay m then_run in
    let then : is_leaf (value m) n ≡ true = sym (settled_leaf (value m) (value h) n same) ∙ leaf in
    record {
      moment = m;
      within = p.1;
      since = p.2;
      map = spelled.0;
      spelled = spelled.1;
      is = spelled_end side lay m n spelled.0 then_run spelled.1 p.3 then ∙ sym (settled_end side (value m) (value h) n same);
    }

-- Just before an SCX-record wins whose leaf was on the path to an end, that leaf says which pair is
-- at that end of the map: it is not final, so it is on that path still.
pub win_end : (side : Side) (lay : Layout) (h : History) (row : Row) (s : ℕ) (e : MapEdit) → lay.mode ≡ TreeMode → IsMapRun lay (row ⊳ h) → IsWin h row s → Makes lay h s e → WasOnPath h (end_key side) (edit_leaf h s e) → is_leaf (value h) (edit_leaf h s e) ≡ true → (ps : List Pair) → Spells lay (value h) ps → end_pair side ps ≡ end_said side (value h) (edit_leaf h s e)
win_end side lay h row s e tree g won makes was leaf ps spells = spelled_end side lay h (edit_leaf h s e) ps run spells (path_remains lay h (end_key side) (edit_leaf h s e) run was (inl tree) not_final) leaf
  where
    run : IsMapRun lay h
    run = run_since lay (row ⊳ h) h g (inr (ends_self h))

    not_final : is_final (log lay h) (edit_leaf h s e) ≡ false
    not_final = win_not_final lay h row s (edit_leaf h s e) g.1.lawful (wins_of lay h row s g.1.lawful won) (leaf_covered lay h s e run.1.lawful (inl tree) makes)
