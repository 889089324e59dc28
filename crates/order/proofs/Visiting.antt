-- How the visits of a range go down a tree, and on from leaf to leaf.
use Rattle.std.proofs.Common.{◌≡◌, ◌≢◌, ℕ, zero, suc, ◌+◌, ◌-◌, ◌*◌, ◌^◌, ◌<◌, ◌≤◌, Bool, true, false, cond, ◌&&◌, leb, ◌⊎◌, inl, inr, ⊎_elim, le-leb, List, [], ◌∷◌, ◌++◌, length, refl, sym, ◌∙◌, ap, subst, arith, append_assoc, append-nil, Some, None}
use Rattle.std.specs.Prelude.{take}
use Rattle.std.proofs.lemmas.Bool.Decides.{leb_tells}
use native.Mathlib.Decide.{ℕ_discrete}
use Rattle.histories.specs.Common.{Layout, NodeNo, Left, Right, Word, child, History, value}
use Rattle.template.specs.Common.{Pair, AllBelow, between, IsTree, Spells, Tree, root, Shows, class, is_leaf, rank}
use Rattle.ordered_map.specs.OrderedMap.{AllFrom}
use Rattle.ordered_map.specs.TreeWords.{Leaf, Fork, pairs, leaf_items, leaf_pairs}
use Rattle.ordered_map.proofs.Lemmas.{open_between, low_items, low_pairs, high_pairs, rank_from, rank_below}
use Rattle.order.specs.Found.{place_key, more_at, place_pair, pairs_behind}
use Rattle.order.specs.Loads.{first_in_leaf, place_behind}
use Rattle.order.specs.Visits.{Bounds, part_pairs, IsVisiting, IsVisitingIn, HasVisited, HasVisitedIn, IsRangeAt}
use Rattle.order.specs.declared.load.LeafPlace.{LeafPlace}
use Rattle.order.proofs.Following.{no_leaf, one_tree}
use Rattle.order.proofs.Placing.{behind_more, behind_none, behind_some, place_next}

-- Pairs within bounds

abbrev no_pairs : List Pair
no_pairs = []

between_join : (low high : ℕ) (xs ys : List Pair) → between low high (xs ++ ys) ≡ between low high xs ++ between low high ys
between_join low high [] ys = refl
between_join low high (x ∷ xs) ys = go (leb low x.key && leb x.key high) (between_join low high xs ys)
  where
    go : (b : Bool) → between low high (xs ++ ys) ≡ between low high xs ++ between low high ys → cond b (x ∷ between low high (xs ++ ys)) (between low high (xs ++ ys)) ≡ cond b (x ∷ between low high xs) (between low high xs) ++ between low high ys
    go true e = ap (λ z. x ∷ z) e
    go false e = e

le_leb : (a b : ℕ) → a ≤ b → leb a b ≡ true
le_leb a b i = le-leb a b i

gt_leb : (a b : ℕ) → b < a → leb a b ≡ false
gt_leb a b i = ⊎_elim (λ x. absurd (let y = x.1 in omega (arith, y, i))) (λ x. x.0) (leb_tells a b)

no_and : (b : Bool) → (b && false) ≡ false
no_and true = refl
no_and false = refl

one_longer : (xs : List Pair) (p : Pair) → length (xs ++ p ∷ []) ≡ length xs + 1
one_longer [] p = refl
one_longer (x ∷ xs) p = let e = one_longer xs p in omega (arith, e)

take_none : (n : ℕ) → take n no_pairs ≡ []
take_none zero = refl
take_none (suc n) = refl

take_zero : (ys : List Pair) → take 0 ys ≡ []
take_zero [] = refl
take_zero (y ∷ ys) = refl

-- whether a key is within the bounds
inside : (low high k : ℕ) → low ≤ k → k ≤ high → (leb low k && leb k high) ≡ true
inside low high k i j = rw (le_leb low k i, le_leb k high j) refl

outside_below : (low high k : ℕ) → k < low → (leb low k && leb k high) ≡ false
outside_below low high k i = rw (gt_leb low k i) refl

outside_above : (low high k : ℕ) → high < k → (leb low k && leb k high) ≡ false
outside_above low high k i = rw (gt_leb k high i) (no_and (leb low k))

-- pairs outside of the bounds
all_above : (low high from : ℕ) (ps : List Pair) → high < from → AllFrom from ps → between low high ps ≡ []
all_above low high from [] i a = refl
all_above low high from (p ∷ ps) i a = rw (outside_above low high p.key (let j = a.0 in omega (arith, i, j))) (all_above low high from ps i a.1)

all_below : (low high to : ℕ) (ps : List Pair) → to ≤ low → AllBelow to ps → between low high ps ≡ []
all_below low high to [] i a = refl
all_below low high to (p ∷ ps) i a = rw (outside_below low high p.key (let j = a.0 in omega (arith, i, j))) (all_below low high to ps i a.1)

below_more : (a b : ℕ) (ps : List Pair) → a ≤ b → AllBelow a ps → AllBelow b ps
below_more a b [] i x = tt
below_more a b (p ∷ ps) i x = ((let j = x.0 in omega (arith, i, j)), below_more a b ps i x.1)

leaf_high : (f : Word → ℕ) (w : Bounds) (n : ℕ) → class f n ≢ 0 → between w.low w.high (leaf_pairs f n) ≡ []
leaf_high f w n d = ap (between w.low w.high) (high_pairs f n d)

-- the items of a leaf of class 0 are its pairs
leaf_from : (f : Word → ℕ) (n lo : ℕ) → class f n ≡ 0 → AllFrom lo (leaf_items f n) → AllFrom lo (leaf_pairs f n)
leaf_from f n lo z a = subst (AllFrom lo) (low_items f n z ∙ sym (low_pairs f n z)) a

leaf_below : (f : Word → ℕ) (n hi : ℕ) → class f n ≡ 0 → AllBelow hi (leaf_items f n) → AllBelow hi (leaf_pairs f n)
leaf_below f n hi z a = subst (AllBelow hi) (low_items f n z ∙ sym (low_pairs f n z)) a

-- a part above the bounds holds none
none_above : (f : Word → ℕ) (w : Bounds) (t : Tree) (lo hi : ℕ) → Shows f lo hi t → w.high < lo → between w.low w.high (pairs f t) ≡ []
none_above f w (Leaf n) lo hi s i = go (ℕ_discrete (class f n) 0)
  where
    go : Dec (class f n ≡ 0) → between w.low w.high (leaf_pairs f n) ≡ []
    go (yes z) = all_above w.low w.high lo (leaf_pairs f n) i (leaf_from f n lo z s.items.from)
    go (no d) = leaf_high f w n d
none_above f w (Fork n a b) lo hi s i =
    let x : between w.low w.high (pairs f a) ≡ [] = none_above f w a lo (rank f n) s.1 i in
    let l : lo < rank f n = open_between f a lo (rank f n) s.1 in
    let y : between w.low w.high (pairs f b) ≡ [] = none_above f w b (rank f n) hi s.2 (omega (arith, i, l)) in
    between_join w.low w.high (pairs f a) (pairs f b) ∙ (λ j. x j ++ y j)

-- nor does one below them
none_below : (f : Word → ℕ) (w : Bounds) (t : Tree) (lo hi : ℕ) → Shows f lo hi t → hi ≤ w.low → between w.low w.high (pairs f t) ≡ []
none_below f w (Leaf n) lo hi s i = go (ℕ_discrete (class f n) 0)
  where
    go : Dec (class f n ≡ 0) → between w.low w.high (leaf_pairs f n) ≡ []
    go (yes z) = all_below w.low w.high hi (leaf_pairs f n) i (leaf_below f n hi z s.items.below)
    go (no d) = leaf_high f w n d
none_below f w (Fork n a b) lo hi s i =
    let l : rank f n < hi = open_between f b (rank f n) hi s.2 in
    let x : between w.low w.high (pairs f a) ≡ [] = none_below f w a lo (rank f n) s.1 (omega (arith, i, l)) in
    let y : between w.low w.high (pairs f b) ≡ [] = none_below f w b (rank f n) hi s.2 i in
    between_join w.low w.high (pairs f a) (pairs f b) ∙ (λ j. x j ++ y j)

-- At a fork

module _ (h : History) (w : Bounds) (n : ℕ) (taken : List Pair) (waiting : List NodeNo) (leaves : ℕ) (x : IsVisiting h w n taken waiting leaves) where
  abbrev f : Word → ℕ
  f = value h

  -- it is a fork over two parts
  record IsOverParts : Type 0 where
    left : Tree
    right : Tree
    left_shows : Shows (value h) x.part.low (rank (value h) n) left
    right_shows : Shows (value h) (rank (value h) n) x.part.high right
    left_is : root left ≡ value h (child n Left)
    right_is : root right ≡ value h (child n Right)
    splits : part_pairs h w x.part.tree ≡ part_pairs h w left ++ part_pairs h w right
    opens : x.part.low < rank (value h) n
    closes : rank (value h) n < x.part.high

  over_parts : is_leaf (value h) n ≡ false → IsOverParts
  over_parts fork = go x.part.tree refl x.part.shows x.part.is
    where
      go : (p : Tree) → x.part.tree ≡ p → Shows (value h) x.part.low x.part.high p → root p ≡ n → IsOverParts
      go (Leaf m) q s e = no_leaf (value h) n _ (rw e at s.leaf) fork
      go (Fork m a b) q s e = record {
        left = a;
        right = b;
        left_shows = subst (λ k. Shows (value h) x.part.low (rank (value h) k) a) e s.1;
        right_shows = subst (λ k. Shows (value h) (rank (value h) k) x.part.high b) e s.2;
        left_is = rw (← e) (sym s.0.left);
        right_is = rw (← e) (sym s.0.right);
        splits = ap (part_pairs h w) q ∙ between_join w.low w.high (pairs (value h) a) (pairs (value h) b);
        opens = subst (λ k. x.part.low < rank (value h) k) e (open_between (value h) a x.part.low (rank (value h) m) s.1);
        closes = subst (λ k. rank (value h) k < x.part.high) e (open_between (value h) b (rank (value h) m) x.part.high s.2);
      }

  module _ (fork : is_leaf (value h) n ≡ false) where
    abbrev parts : IsOverParts
    parts = over_parts fork

    -- both children are to be visited
    pub visits_both : w.low < rank (value h) n → rank (value h) n ≤ w.high → IsVisiting h w (value h (child n Left)) taken (record { 0 = value h (child n Right) } ∷ waiting) leaves
    visits_both i j = record {
      tree = x.tree;
      is_tree = x.is_tree;
      part = record { tree = parts.left; low = x.part.low; high = rank (value h) n; shows = parts.left_shows; is = parts.left_is };
      rest = part_pairs h w parts.right ++ x.rest;
      waits = (record { tree = parts.right; low = rank (value h) n; high = x.part.high; shows = parts.right_shows; is = parts.right_is }, x.rest, x.waits, refl, i, x.below);
      finds = x.finds ∙ ap (λ z. taken ++ z) (ap (λ z. z ++ x.rest) parts.splits ∙ append_assoc (part_pairs h w parts.left) (part_pairs h w parts.right) x.rest);
      few = x.few;
      behind = x.behind;
      below = λ _. j;
    }

    -- the left one alone
    pub visits_left : w.high < rank (value h) n → IsVisiting h w (value h (child n Left)) taken waiting leaves
    visits_left i = record {
      tree = x.tree;
      is_tree = x.is_tree;
      part = record { tree = parts.left; low = x.part.low; high = rank (value h) n; shows = parts.left_shows; is = parts.left_is };
      rest = x.rest;
      waits = x.waits;
      finds = x.finds ∙ ap (λ z. taken ++ (z ++ x.rest)) (parts.splits ∙ ap (λ z. part_pairs h w parts.left ++ z) (none_above (value h) w parts.right (rank (value h) n) x.part.high parts.right_shows i) ∙ append-nil (part_pairs h w parts.left));
      few = x.few;
      behind = x.behind;
      below = λ d. (let a = x.below d in let b = parts.closes in omega (arith, a, b));
    }

    -- the right one alone
    pub visits_right : rank (value h) n ≤ w.low → IsVisiting h w (value h (child n Right)) taken waiting leaves
    visits_right i = record {
      tree = x.tree;
      is_tree = x.is_tree;
      part = record { tree = parts.right; low = rank (value h) n; high = x.part.high; shows = parts.right_shows; is = parts.right_is };
      rest = x.rest;
      waits = x.waits;
      finds = x.finds ∙ ap (λ z. taken ++ (z ++ x.rest)) (parts.splits ∙ ap (λ z. z ++ part_pairs h w parts.right) (none_below (value h) w parts.left x.part.low (rank (value h) n) parts.left_shows i));
      few = x.few;
      behind = λ d. (let a = x.behind d in let b = parts.opens in omega (arith, a, b));
      below = x.below;
    }

  -- At a leaf

  module _ (leaf : is_leaf (value h) n ≡ true) where
    -- what is said of a part that is a leaf
    record IsOneLeaf : Type 0 where
      holds : part_pairs h w x.part.tree ≡ between w.low w.high (leaf_pairs (value h) n)
      from : x.part.low ≤ rank (value h) n
      to : rank (value h) n < x.part.high
      below : class (value h) n ≡ 0 → AllBelow x.part.high (leaf_pairs (value h) n)

    one_leaf : IsOneLeaf
    one_leaf = go x.part.tree refl x.part.shows x.part.is
      where
        go : (p : Tree) → x.part.tree ≡ p → Shows (value h) x.part.low x.part.high p → root p ≡ n → IsOneLeaf
        go (Fork m a b) q s e = no_leaf (value h) n _ leaf (rw e at s.0.fork)
        go (Leaf m) q s e = record {
          holds = ap (part_pairs h w) q ∙ ap (λ k. between w.low w.high (leaf_pairs (value h) k)) e;
          from = rw e at (rank_from (value h) m x.part.low x.part.high s.items);
          to = rw e at (rank_below (value h) m x.part.low x.part.high s.items);
          below = λ z. subst (λ k. AllBelow x.part.high (leaf_pairs (value h) k)) e (leaf_below (value h) m x.part.high (ap (class (value h)) e ∙ z) s.items.below);
        }

    -- above all keys it has no pair
    pub passes_above : class (value h) n ≢ 0 → w.high < rank (value h) n → HasVisited h w taken waiting (leaves - 1)
    passes_above high i = record {
      tree = x.tree;
      is_tree = x.is_tree;
      rest = x.rest;
      waits = x.waits;
      finds = x.finds ∙ ap (λ y. taken ++ (y ++ x.rest)) (one_leaf.holds ∙ leaf_high (value h) w n high);
      few = λ d. absurd (let a = x.below d in let b = one_leaf.to in omega (arith, a, b, i));
    }

-- In a leaf of class 0

-- the visit begins at its first place
pub visits_in : (h : History) (w : Bounds) (n : NodeNo) (more : ℕ) (taken : List Pair) (waiting : List NodeNo) (leaves : ℕ) → IsVisiting h w n.0 taken waiting leaves → is_leaf (value h) n.0 ≡ true → class (value h) n.0 ≡ 0 → more_at h n.0 ≡ more → IsVisitingIn h w (first_in_leaf n more) taken waiting leaves
visits_in h w n more taken waiting leaves x leaf low count = record {
  tree = x.tree;
  is_tree = x.is_tree;
  more = count;
  rest = x.rest;
  waits = x.waits;
  finds = x.finds ∙ ap (λ y. taken ++ (y ++ x.rest)) (one.holds ∙ ap (between w.low w.high) (low_pairs (value h) n.0 low));
  few = λ d. x.few;
  behind = go (ℕ_discrete leaves (w.most + 2));
  below = λ d. subst (AllBelow (w.high + 1)) (low_pairs (value h) n.0 low) (below_more x.part.high (w.high + 1) (leaf_pairs (value h) n.0) (let a = x.below d in omega (arith, a)) (one.below low));
}
  where
    one : IsOneLeaf h w n.0 taken waiting leaves x leaf
    one = one_leaf h w n.0 taken waiting leaves x leaf

    go : Dec (leaves ≡ w.most + 2) → (w.low < place_key h (first_in_leaf n more)) ⊎ (waiting ≢ [] → w.most + 1 ≤ leaves - 1 + length taken)
    go (yes e) = inr (λ d. omega (arith, e))
    go (no d) = inl (let a = x.behind d in let b = one.from in omega (arith, a, b, low))

module _ (h : History) (w : Bounds) (p : LeafPlace) (taken : List Pair) (waiting : List NodeNo) (leaves : ℕ) (x : IsVisitingIn h w p taken waiting leaves) where
  here_next : (waiting ≢ []) → (place_key h p < w.high + 1) × AllBelow (w.high + 1) (pairs_behind h p)
  here_next d = subst (AllBelow (w.high + 1)) (place_next h p x.more) (x.below d)

  -- the pair there is taken
  pub takes : w.low ≤ place_key h p → place_key h p ≤ w.high → HasVisitedIn h w p (taken ++ place_pair h p ∷ []) waiting leaves
  takes i j = record {
    tree = x.tree;
    is_tree = x.is_tree;
    more = x.more;
    rest = x.rest;
    waits = x.waits;
    finds = x.finds ∙ ap (λ y. taken ++ (y ++ x.rest)) (ap (between w.low w.high) (place_next h p x.more) ∙ first) ∙ sym (append_assoc taken (place_pair h p ∷ []) (between w.low w.high (pairs_behind h p) ++ x.rest));
    few = λ d. (let a = x.few d in let l : length (taken ++ place_pair h p ∷ []) ≡ length taken + 1 = one_longer taken (place_pair h p) in omega (arith, a, l));
    below = λ d. (here_next d).1;
  }
    where
      first : between w.low w.high (place_pair h p ∷ pairs_behind h p) ≡ place_pair h p ∷ between w.low w.high (pairs_behind h p)
      first = rw (inside w.low w.high (place_key h p) i j) refl

  -- it is not within the bounds
  pub passes : (place_key h p < w.low) ⊎ (w.high < place_key h p) → HasVisitedIn h w p taken waiting leaves
  passes out = record {
    tree = x.tree;
    is_tree = x.is_tree;
    more = x.more;
    rest = x.rest;
    waits = x.waits;
    finds = x.finds ∙ ap (λ y. taken ++ (y ++ x.rest)) (ap (between w.low w.high) (place_next h p x.more) ∙ past out);
    few = λ d. enough d out x.behind;
    below = λ d. (here_next d).1;
  }
    where
      past : (place_key h p < w.low) ⊎ (w.high < place_key h p) → between w.low w.high (place_pair h p ∷ pairs_behind h p) ≡ between w.low w.high (pairs_behind h p)
      past (inl i) = rw (outside_below w.low w.high (place_key h p) i) refl
      past (inr i) = rw (outside_above w.low w.high (place_key h p) i) refl

      enough : waiting ≢ [] → (place_key h p < w.low) ⊎ (w.high < place_key h p) → (w.low < place_key h p) ⊎ (waiting ≢ [] → w.most + 1 ≤ leaves - 1 + length taken) → w.most + 1 ≤ leaves - 1 + length taken
      enough d out (inr few) = few d
      enough d (inl i) (inl j) = absurd (omega (arith, i, j))
      enough d (inr i) (inl j) = absurd (let k = (here_next d).0 in omega (arith, i, k))

module _ (h : History) (w : Bounds) (p : LeafPlace) (taken : List Pair) (waiting : List NodeNo) (leaves : ℕ) (x : HasVisitedIn h w p taken waiting leaves) where
  -- the next pair is next
  pub visits_on : (q : LeafPlace) → place_behind p ≡ Some q → IsVisitingIn h w q taken waiting leaves
  visits_on q is = record {
    tree = x.tree;
    is_tree = x.is_tree;
    more = behind_more h p q is x.more;
    rest = x.rest;
    waits = x.waits;
    finds = x.finds ∙ ap (λ ps. taken ++ (between w.low w.high ps ++ x.rest)) (behind_some h p q is);
    few = λ d. (let a = x.few d in omega (arith, a));
    behind = inr x.few;
    below = λ d. subst (AllBelow (w.high + 1)) (behind_some h p q is) (x.below d);
  }

  -- or the leaf is visited
  pub visited_in : place_behind p ≡ None → HasVisited h w taken waiting (leaves - 1)
  visited_in is = record {
    tree = x.tree;
    is_tree = x.is_tree;
    rest = x.rest;
    waits = x.waits;
    finds = x.finds ∙ ap (λ ps. taken ++ (between w.low w.high ps ++ x.rest)) (behind_none h p is);
    few = x.few;
  }

-- After a leaf

-- the next node is visited
pub visits_next : (h : History) (w : Bounds) (n : NodeNo) (taken : List Pair) (waiting : List NodeNo) (leaves : ℕ) → HasVisited h w taken (n ∷ waiting) leaves → IsVisiting h w n.0 taken waiting leaves
visits_next h w n taken waiting leaves x = record {
  tree = x.tree;
  is_tree = x.is_tree;
  part = x.waits.0;
  rest = x.waits.1;
  waits = x.waits.2;
  finds = x.finds ∙ ap (λ z. taken ++ z) x.waits.3;
  few = x.few (λ e. cc);
  behind = λ _. x.waits.4;
  below = x.waits.5;
}

-- the first visit is that of the root
pub visits_root : (h : History) (w : Bounds) (t : Tree) → IsTree (value h) t → IsVisiting h w 0 [] [] (w.most + 2)
visits_root h w t i = record {
  tree = t;
  is_tree = i;
  part = record { tree = t; low = 0; high = 3 * 2 ^ 64; shows = i.shows; is = i.is };
  rest = [];
  waits = refl;
  finds = sym (append-nil (part_pairs h w t));
  few = omega arith;
  behind = λ d. absurd (d refl);
  below = λ d. absurd (d refl);
}

-- At the end

take_all : (n : ℕ) (xs : List Pair) → length xs ≤ n → take n xs ≡ xs
take_all n [] i = take_none n
take_all zero (x ∷ xs) i = absurd (omega (arith, i))
take_all (suc n) (x ∷ xs) i = ap (λ z. x ∷ z) (take_all n xs (omega (arith, i)))

take_front : (n : ℕ) (xs ys : List Pair) → length xs ≡ n → take n (xs ++ ys) ≡ xs
take_front n [] ys e = rw (← e) (take_zero ys)
take_front zero (x ∷ xs) ys e = absurd (omega (arith, e))
take_front (suc n) (x ∷ xs) ys e = ap (λ z. x ∷ z) (take_front n xs ys (omega (arith, e)))

-- as many pairs are taken as were asked for
pub ends_full : (lay : Layout) (h : History) (w : Bounds) (p : LeafPlace) (taken : List Pair) (waiting : List NodeNo) (leaves : ℕ) → HasVisitedIn h w p taken waiting leaves → length taken ≡ w.most → IsRangeAt lay h w taken
ends_full lay h w p taken waiting leaves x e m s = ap (take w.most) (ap (between w.low w.high) (sym s.pairs ∙ ap (pairs (value h)) (one_tree h s.tree x.tree s.is_tree x.is_tree)) ∙ x.finds) ∙ take_front w.most taken (between w.low w.high (pairs_behind h p) ++ x.rest) e

module _ (lay : Layout) (h : History) (w : Bounds) (taken : List Pair) (waiting : List NodeNo) (leaves : ℕ) (x : HasVisited h w taken waiting leaves) (few : length taken ≤ w.most) where
  same_pairs : (m : List Pair) → Spells lay (value h) m → between w.low w.high m ≡ taken ++ x.rest
  same_pairs m s = ap (between w.low w.high) (sym s.pairs ∙ ap (pairs (value h)) (one_tree h s.tree x.tree s.is_tree x.is_tree)) ∙ x.finds

  -- nothing waits
  pub ends_all : waiting ≡ [] → IsRangeAt lay h w taken
  ends_all e m s = ap (take w.most) (same_pairs m s ∙ ap (λ z. taken ++ z) none ∙ append-nil taken) ∙ take_all w.most taken few
    where
      none : x.rest ≡ []
      none = rw e at x.waits

  -- no leaf may be visited any more: then nothing waits
  pub ends_last : leaves ≡ 0 → IsRangeAt lay h w taken
  ends_last e = go waiting refl
    where
      go : (ns : List NodeNo) → waiting ≡ ns → IsRangeAt lay h w taken
      go [] q = ends_all q
      go (n ∷ ns) q = absurd (let d : waiting ≢ [] = λ z. (let y : n ∷ ns ≡ [] = sym q ∙ z in cc) in let a = x.few d in omega (arith, a, e, few))
