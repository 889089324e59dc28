-- A search by key goes down the path of the key, and its leaf says what the map does.
use Rattle.std.proofs.Common.{◌≡◌, ℕ, ◌<◌, ◌≤◌, true, false, eqb, ◌⊎◌, inl, inr, List, [], ◌∷◌, ◌++◌, refl, sym, ◌∙◌, ap, arith, lt-ltb, le-ltb, ne_eqb, cond, Option, Some, None, ◌^◌}
use native.Mathlib.Decide.{ℕ_discrete}
use Rattle.histories.specs.Common.{Word, child}
use Rattle.ordered_map.specs.declared.pair.Pair.{Pair}
use Rattle.ordered_map.specs.OrderedMap.{get, AllAbove, AllBelow}
use Rattle.ordered_map.proofs.Trees.{items, items_above, items_below, split_at}
use Rattle.ordered_map.specs.TreeWords.{class, Tree, Leaf, Fork, root, Shows, Passes, is_leaf, rank, toward, leaf_items, said}
use Rattle.ordered_map.proofs.Holding.{low_items, high_items, low_pairs, high_pairs}

-- below a fork on the path its child towards the key is on the path
pub passes_root : (f : Word → ℕ) (k : ℕ) (t : Tree) → Passes f k t (root t)
passes_root f k (Leaf n) = refl
passes_root f k (Fork n a b) = inl refl

pub path_child : (f : Word → ℕ) (k : ℕ) (t : Tree) (lo hi n : ℕ) → Shows f lo hi t → Passes f k t n → is_leaf f n ≡ false → Passes f k t (f (child n (toward f n k)))
path_child f k (Leaf m) lo hi n s e d = absurd (let x : true ≡ false = sym s.leaf ∙ rw (← e) at d in cc)
path_child f k (Fork m a b) lo hi n s (inl e) d = go (split_at k (rank f m))
  where
    go : (k < rank f m) ⊎ (rank f m ≤ k) → Passes f k (Fork m a b) (f (child n (toward f n k)))
    go (inl l) =
        let q : f (child n (toward f n k)) ≡ root a = rw (← e, lt-ltb k (rank f m) l) s.0.left in
        rw q (inr (inl (l, passes_root f k a)))
    go (inr l) =
        let q : f (child n (toward f n k)) ≡ root b = rw (← e, le-ltb k (rank f m) l) s.0.right in
        rw q (inr (inr (l, passes_root f k b)))
path_child f k (Fork m a b) lo hi n s (inr (inl q)) d = inr (inl (q.0, path_child f k a lo (rank f m) n s.1 q.1 d))
path_child f k (Fork m a b) lo hi n s (inr (inr q)) d = inr (inr (q.0, path_child f k b (rank f m) hi n s.2 q.1 d))

-- The answer of a search

get_above : (k : ℕ) (ys : List Pair) → AllAbove k ys → get k ys ≡ None
get_above k [] a = refl
get_above k (y ∷ ys) a = rw (ne_eqb k y.key (λ e. omega (arith, a.0, e))) (get_above k ys a.1)

pub get_below : (k : ℕ) (xs : List Pair) → AllBelow k xs → get k xs ≡ None
get_below k [] a = refl
get_below k (x ∷ xs) a = rw (ne_eqb k x.key (λ e. omega (arith, a.0, e))) (get_below k xs a.1)

pub get_left : (k : ℕ) (xs ys : List Pair) → AllAbove k ys → get k (xs ++ ys) ≡ get k xs
get_left k [] ys a = get_above k ys a
get_left k (x ∷ xs) ys a = ap (λ v. cond (eqb k x.key) (Some x.value) v) (get_left k xs ys a)

pub get_right : (k : ℕ) (xs ys : List Pair) → AllBelow k xs → get k (xs ++ ys) ≡ get k ys
get_right k [] ys a = refl
get_right k (x ∷ xs) ys a = rw (ne_eqb k x.key (λ e. omega (arith, a.0, e))) (get_right k xs ys a.1)

-- what the leaf n says of k as an item
abbrev pub told : (Word → ℕ) → ℕ → ℕ → Option ℕ
told f k n = get k (leaf_items f n)

-- of a key of the map it says what its pairs do
pub told_said : (f : Word → ℕ) (k n : ℕ) → k < 2 ^ 64 → told f k n ≡ said f k n
told_said f k n small = go (ℕ_discrete (class f n) 0)
  where
    go : Dec (class f n ≡ 0) → told f k n ≡ said f k n
    go (yes e) = ap (get k) (low_items f n e ∙ sym (low_pairs f n e))
    go (no d) = ap (get k) (high_items f n d) ∙ rw (ne_eqb k (rank f n) (λ e. omega (arith, e, d, small))) refl ∙ ap (get k) (sym (high_pairs f n d))

pub get_leaf : (f : Word → ℕ) (k : ℕ) (t : Tree) (lo hi n : ℕ) → Shows f lo hi t → Passes f k t n → is_leaf f n ≡ true → get k (items f t) ≡ told f k n
get_leaf f k (Leaf m) lo hi n s e d = rw e refl
get_leaf f k (Fork m a b) lo hi n s (inl e) d = absurd (let x : true ≡ false = sym d ∙ rw e at s.0.fork in cc)
get_leaf f k (Fork m a b) lo hi n s (inr (inl q)) d = get_left k (items f a) (items f b) (items_above f b (rank f m) hi k s.2 q.0) ∙ get_leaf f k a lo (rank f m) n s.1 q.1 d
get_leaf f k (Fork m a b) lo hi n s (inr (inr q)) d = get_right k (items f a) (items f b) (items_below f a lo (rank f m) k s.1 q.0) ∙ get_leaf f k b (rank f m) hi n s.2 q.1 d
