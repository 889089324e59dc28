-- What an edit of a trie puts in below a fork keeps to the keys of the side where it goes, with all
-- that is below it, and levels rise.
use Rattle.std.proofs.Common.{◌≡◌, ◌≢◌, ℕ, suc, ◌+◌, ◌-◌, ◌%◌, ◌/◌, ◌^◌, ◌<◌, ◌≤◌, true, false, eqb, inl, inr, List, [], ◌∷◌, ◌++◌, refl, sym, ◌∙◌, ap, subst, arith, Some}
use native.Mathlib.Decide.{ℕ_discrete}
use Rattle.histories.specs.Common.{Side, Left, Right, Word, child}
use Rattle.ordered_map.specs.declared.pair.Pair.{Pair}
use Rattle.ordered_map.specs.OrderedMap.{MapEdit, edit_key, edited, AllBelow, AllFrom, IsRising, first_pair, last_pair}
use Rattle.ordered_map.specs.Holding.{held_pairs}
use Rattle.ordered_map.specs.TreeWords.{class, is_leaf, level, rank, opposite, leaf_items}
use Rattle.ordered_map.specs.Edits.{IsSwapBy, IsSplitBy, IsCopyOf}
use Rattle.ordered_map.specs.TrieShape.{FitsTrie, IsAboveBy}
use Rattle.ordered_map.specs.Bits.{side_room, side_from, side_to, Shares, IsParted, Keeps, IsTrieFork, IsForkKey, PartsKeys}
use Rattle.ordered_map.proofs.Holding.{low_items}
use Rattle.ordered_map.proofs.Lists.{from_left, from_less, below_right, below_more, edited_from, edited_below}
use Rattle.ordered_map.proofs.Maps.{below_end, edited_rises}
use Rattle.ordered_map.proofs.PartedPairs.{first_from, all_from_first, all_to_last}
use Rattle.ordered_map.proofs.Spanned.{low_from, low_to, side_in}
use Rattle.ordered_map.proofs.Parted.{key_of, IsOnSide, high_from, high_to, between_keeps, PartsFrom, above_keeps, above_in}

all_from_zero : (m : List Pair) → AllFrom 0 m
all_from_zero [] = tt
all_from_zero (q ∷ qs) = (omega arith, all_from_zero qs)

-- what holds on one side and on the other holds on each
on_both : (P : Side → Type 0) (side : Side) → P side → P (opposite side) → (at : Side) → P at
on_both P Left a b Left = a
on_both P Left a b Right = b
on_both P Right a b Left = b
on_both P Right a b Right = a

module _ (f : Word → ℕ) where
  apart : (n : ℕ) → is_leaf f n ≡ true → is_leaf f n ≡ false → ⊥
  apart n d e = let x : true ≡ false = sym d ∙ e in cc

  -- forks are above level 66
  pub parted_level : (n : ℕ) → IsParted f n → level f n < 66
  parted_level n parted = go (ℕ_discrete (class f n) 0)
    where
      go : Dec (class f n ≡ 0) → level f n < 66
      go (yes low) = let deep = (parted.key low).deep in omega (arith, deep)
      go (no high) = let top = parted.top high in omega (arith, top)

  -- Leaves

  leaf_keeps : (p : ℕ) (side : Side) (c : ℕ) → is_leaf f c ≡ true → class f c ≡ 0 → level f c ≡ 66 → AllFrom (side_from f p side) (held_pairs f c) → AllBelow (side_to f p side) (held_pairs f c) → Keeps f p side c
  leaf_keeps p side c leaf low deep from below = record { fork = λ d _. absurd (apart c leaf d); leaf = λ _ _. (deep, from, below); last = λ _ d. absurd (d low) }

  leaf_fits : (p : ℕ) (side : Side) (c : ℕ) → IsParted f p → is_leaf f c ≡ true → class f c ≡ 0 → level f c ≡ 66 → AllFrom (side_from f p side) (held_pairs f c) → AllBelow (side_to f p side) (held_pairs f c) → FitsTrie f p side c
  leaf_fits p side c parted leaf low deep from below = record { keeps = leaf_keeps p side c leaf low deep from below; fork = λ d. absurd (apart c leaf d); deeper = let x = parted_level p parted in omega (arith, deep, x); rises = λ d. absurd (apart c leaf d) }

  -- a leaf in the place of another, with the pairs that the edit leaves
  pub fits_swap : (p : ℕ) (side : Side) (e : MapEdit) (l c : ℕ) → IsParted f p → Keeps f p side l → IsOnSide f p side (edit_key e) → IsSwapBy f e l c → FitsTrie f p side c
  fits_swap p side e l c parted keeps on s =
      let held = keeps.leaf s.leaf s.class in
      let from = edited_from e (side_from f p side) (held_pairs f l) held.1 on.0 in
      let below = edited_below e (side_to f p side) (held_pairs f l) held.2 on.1 in
      leaf_fits p side c parted s.new.leaf s.new.class (s.deep ∙ held.0) (subst (AllFrom (side_from f p side)) (sym s.pairs) from) (subst (AllBelow (side_to f p side)) (sym s.pairs) below)

  -- A fork over two leaves

  -- in the place of a leaf of class 0, between the first and the last of the pairs that the edit
  -- leaves
  pub fits_split : (p : ℕ) (side : Side) (e : MapEdit) (l c x y : ℕ) (first last : Pair) → IsParted f p → Keeps f p side l → IsOnSide f p side (edit_key e) → IsSplitBy f e l c x y → class f l ≡ 0 → IsRising (held_pairs f l) → level f x ≡ 66 → level f y ≡ 66 → first_pair (edited e (held_pairs f l)) ≡ Some first → last_pair (edited e (held_pairs f l)) ≡ Some last → PartsKeys first.key last.key (key_of f c) (level f c) → FitsTrie f p side c
  fits_split p side e l c x y first last parted keeps on s zero rising deep_x deep_y is_first is_last parts = record { keeps = place.0; fork = λ _. (record { top = λ d. absurd (d low); key = λ _. parts.fork }, below); deeper = place.1; rises = λ _. deeper }
    where
      made : List Pair
      made = edited e (held_pairs f l)

      held : (level f l ≡ 66) × AllFrom (side_from f p side) (held_pairs f l) × AllBelow (side_to f p side) (held_pairs f l)
      held = keeps.leaf s.leaf zero

      low : class f c ≡ 0
      low = s.same_class ∙ zero

      last_low : class f y ≡ 0
      last_low = s.last.same_class ∙ zero

      items : held_pairs f x ++ held_pairs f y ≡ made
      items = ap (λ xs. xs ++ held_pairs f y) (sym (low_items f x s.first.class)) ∙ ap (λ ys. leaf_items f x ++ ys) (sym (low_items f y last_low)) ∙ s.items ∙ ap (edited e) (low_items f l zero)

      first_on : side_from f p side ≤ first.key
      first_on = first_from (side_from f p side) made first (edited_from e (side_from f p side) (held_pairs f l) held.1 on.0) is_first

      last_on : last.key < side_to f p side
      last_on = below_end Right (side_to f p side) made last (edited_below e (side_to f p side) (held_pairs f l) held.2 on.1) is_last

      place : Keeps f p side c × (level f p < level f c)
      place = between_keeps f p side c first.key last.key parted s.fork low parts (first_on, omega (arith, parts.below, parts.above, last_on)) (omega (arith, first_on, parts.below, parts.above), last_on)

      rises : IsRising made
      rises = edited_rises e (held_pairs f l) rising

      firsts : AllFrom first.key (held_pairs f x ++ held_pairs f y)
      firsts = subst (AllFrom first.key) (sym items) (all_from_first made first rises is_first)

      lasts : AllBelow (suc last.key) (held_pairs f x ++ held_pairs f y)
      lasts = subst (AllBelow (suc last.key)) (sym items) (all_to_last made last rises is_last)

      is_rank : rank f c ≡ key_of f c
      is_rank = omega (arith, low)

      before : AllBelow (key_of f c) (held_pairs f x)
      before = below_more (rank f c) (key_of f c) (held_pairs f x) (omega (arith, is_rank)) (subst (AllBelow (rank f c)) (low_items f x s.first.class) s.before)

      behind : AllFrom (key_of f c) (held_pairs f y)
      behind = from_less (key_of f c) (rank f c) (held_pairs f y) (omega (arith, is_rank)) (subst (AllFrom (rank f c)) (low_items f y last_low) s.behind)

      from : (side_from f c Left ≡ key_of f c - side_room f c) × (side_from f c Right ≡ key_of f c)
      from = low_from f c low

      to : (side_to f c Left ≡ key_of f c) × (side_to f c Right ≡ key_of f c + side_room f c)
      to = low_to f c low

      left : Keeps f c Left x
      left = leaf_keeps c Left x s.first.leaf s.first.class deep_x (from_less (side_from f c Left) first.key (held_pairs f x) (omega (arith, from, parts.first)) (from_left first.key (held_pairs f x) (held_pairs f y) firsts)) (below_more (key_of f c) (side_to f c Left) (held_pairs f x) (omega (arith, to)) before)

      right : Keeps f c Right y
      right = leaf_keeps c Right y s.last.leaf last_low deep_y (from_less (side_from f c Right) (key_of f c) (held_pairs f y) (omega (arith, from)) behind) (below_more (suc last.key) (side_to f c Right) (held_pairs f y) (omega (arith, to, parts.last)) (below_right (suc last.key) (held_pairs f x) (held_pairs f y) lasts))

      below : (at : Side) → Keeps f c at (f (child c at))
      below Left = subst (Keeps f c Left) (sym s.left) left
      below Right = subst (Keeps f c Right) (sym s.right) right

      deeper : (at : Side) → level f c < level f (f (child c at))
      deeper Left = let e = ap (level f) s.left in omega (arith, deep_x, parts.fork.deep, e)
      deeper Right = let e = ap (level f) s.right in omega (arith, deep_y, parts.fork.deep, e)

  -- in the place of the leaf of class 1, where the map is empty
  pub fits_first : (p : ℕ) (side : Side) (e : MapEdit) (l c x y : ℕ) → IsParted f p → class f p ≡ 2 → IsSplitBy f e l c x y → class f l ≡ 1 → level f c ≡ 1 → level f x ≡ 66 → level f y ≡ 2 → FitsTrie f p side c
  fits_first p side e l c x y parted two s one deep deep_x deep_y = record { keeps = keeps; fork = λ _. (record { top = λ _. omega (arith, high, deep); key = λ z. absurd (omega (arith, high, z)) }, below); deeper = lower; rises = λ _. deeper }
    where
      high : class f c ≡ 1
      high = s.same_class ∙ one

      last_high : class f y ≡ 1
      last_high = s.last.same_class ∙ one

      not_low : class f c ≢ 0
      not_low z = omega (arith, high, z)

      keeps : Keeps f p side c
      keeps = record { fork = λ _ z. absurd (not_low z); leaf = λ d _. absurd (apart c d s.fork); last = λ d _. absurd (apart c d s.fork) }

      left : Keeps f c Left x
      left =
          let from = high_from f c not_low in
          let to = high_to f c not_low in
          leaf_keeps c Left x s.first.leaf s.first.class deep_x (from_less (side_from f c Left) 0 (held_pairs f x) (omega (arith, from)) (all_from_zero (held_pairs f x))) (below_more (2 ^ 64) (side_to f c Left) (held_pairs f x) (omega (arith, to)) s.small)

      right : Keeps f c Right y
      right = record { fork = λ d _. absurd (apart y s.last.leaf d); leaf = λ _ z. absurd (omega (arith, last_high, z)); last = λ _ _. omega (arith, last_high, deep_y) }

      below : (at : Side) → Keeps f c at (f (child c at))
      below Left = subst (Keeps f c Left) (sym s.left) left
      below Right = subst (Keeps f c Right) (sym s.right) right

      lower : level f p < level f c
      lower = let t = parted.top (λ z. omega (arith, two, z)) in omega (arith, t, two, deep)

      deeper : (at : Side) → level f c < level f (f (child c at))
      deeper Left = let e = ap (level f) s.left in omega (arith, deep, deep_x, e)
      deeper Right = let e = ap (level f) s.right in omega (arith, deep, deep_y, e)

  -- A copy

  same_sides_keep : (c z : ℕ) (at : Side) (m : ℕ) → side_from f c at ≡ side_from f z at → side_to f c at ≡ side_to f z at → Keeps f z at m → Keeps f c at m
  same_sides_keep c z at m from to k = record { fork = λ d l. rw (from, to) (k.fork d l); leaf = λ d l. rw (from, to) (k.leaf d l); last = k.last }

  -- a copy of what stands below the fork q, in the place of q below the fork g: its fields name
  -- what may stand below the fork that it is a copy of
  pub fits_join : (g : ℕ) (side : Side) (q : ℕ) (at : Side) (z c : ℕ) → is_leaf f q ≡ false → Keeps f g side q → (class f q ≢ 0 → class f z ≢ 0) → Keeps f q at z → IsCopyOf f c z → (is_leaf f z ≡ false → IsParted f z × ((to : Side) → Keeps f z to (f (child c to)) × (level f z < level f (f (child c to))))) → level f g < level f q → level f q < level f z → FitsTrie f g side c
  fits_join g side q at z c fork outer order inner copy below lower deeper = record {
    keeps = record { fork = keeps_fork; leaf = keeps_leaf; last = keeps_last };
    fork = trie_fork;
    deeper = omega (arith, lower, deeper, same_level);
    rises = λ d to. let r = ((below (sym same_leaf ∙ d)).1 to).1 in omega (arith, same_level, r);
  }
    where
      same_leaf : is_leaf f c ≡ is_leaf f z
      same_leaf = ap (λ v. eqb (v / 4 % 2) 1) copy.same_head

      same_class : class f c ≡ class f z
      same_class = ap (λ v. v % 4) copy.same_head

      same_level : level f c ≡ level f z
      same_level = ap (λ v. v / 8) copy.same_head

      same_from : (to : Side) → side_from f c to ≡ side_from f z to
      same_from Left = let h = copy.same_head in let y = copy.same_key in rw (h, y) refl
      same_from Right = let h = copy.same_head in let y = copy.same_key in rw (h, y) refl

      same_to : (to : Side) → side_to f c to ≡ side_to f z to
      same_to Left = let h = copy.same_head in let y = copy.same_key in rw (h, y) refl
      same_to Right = let h = copy.same_head in let y = copy.same_key in rw (h, y) refl

      within : class f z ≡ 0 → (side_from f g side ≤ side_from f q at) × (side_to f q at ≤ side_to f g side)
      within low = go (ℕ_discrete (class f q) 0)
        where
          go : Dec (class f q ≡ 0) → (side_from f g side ≤ side_from f q at) × (side_to f q at ≤ side_to f g side)
          go (yes l) = let o = outer.fork fork l in let i = side_in f q at l in (omega (arith, o, i), omega (arith, o, i))
          go (no h) = absurd (order h low)

      keeps_fork : is_leaf f c ≡ false → class f c ≡ 0 → (side_from f g side ≤ side_from f c Left) × (side_to f c Right ≤ side_to f g side)
      keeps_fork d l =
          let i = inner.fork (sym same_leaf ∙ d) (sym same_class ∙ l) in
          let w = within (sym same_class ∙ l) in
          let from = same_from Left in
          let to = same_to Right in
          (omega (arith, i, w, from), omega (arith, i, w, to))

      keeps_leaf : is_leaf f c ≡ true → class f c ≡ 0 → (level f c ≡ 66) × AllFrom (side_from f g side) (held_pairs f c) × AllBelow (side_to f g side) (held_pairs f c)
      keeps_leaf d l =
          let i = inner.leaf (sym same_leaf ∙ d) (sym same_class ∙ l) in
          let w = within (sym same_class ∙ l) in
          let held : held_pairs f c ≡ held_pairs f z = (copy.same_pairs (sym same_leaf ∙ d) (sym same_class ∙ l)).1 in
          (same_level ∙ i.0, subst (AllFrom (side_from f g side)) (sym held) (from_less (side_from f g side) (side_from f q at) (held_pairs f z) w.0 i.1), subst (AllBelow (side_to f g side)) (sym held) (below_more (side_to f q at) (side_to f g side) (held_pairs f z) w.1 i.2))

      keeps_last : is_leaf f c ≡ true → class f c ≢ 0 → level f c + class f c ≤ 3
      keeps_last d h = let i = inner.last (sym same_leaf ∙ d) (λ w. h (same_class ∙ w)) in omega (arith, same_level, same_class, i)

      trie_fork : IsTrieFork f c
      trie_fork d =
          let t = below (sym same_leaf ∙ d) in
          let h = copy.same_head in
          let y = copy.same_key in
          (record { top = rw h t.0.top; key = rw (h, y) t.0.key }, λ to. same_sides_keep c z to (f (child c to)) (same_from to) (same_to to) (t.1 to).0)

  -- A fork above a fork

  -- a fresh fork over the fork u, which the key of the edit does not share, and over a leaf with
  -- its pair
  pub fits_above : (p : ℕ) (side : Side) (e : MapEdit) (u c x : ℕ) (at : Side) → IsParted f p → Keeps f p side u → IsTrieFork f u → ¬ Shares f u (edit_key e) → IsOnSide f p side (edit_key e) → IsAboveBy f e u c x at → PartsFrom f u c (edit_key e) → level f x ≡ 66 → FitsTrie f p side c
  fits_above p side e u c x at parted keeps trie outside on s parts deep = record {
    keeps = place.0;
    fork = λ _. (record { top = λ d. absurd (d s.low); key = λ _. key parts }, on_both (λ to. Keeps f c to (f (child c to))) at beside below);
    deeper = place.1;
    rises = λ _. on_both (λ to. level f c < level f (f (child c to))) at (let y = ap (level f) s.leaf in let k = (key parts).deep in omega (arith, y, deep, k)) (let y = ap (level f) s.other in omega (arith, y, over.1));
  }
    where
      place : Keeps f p side c × (level f p < level f c)
      place = above_in f p side u c (edit_key e) parted s.old_fork s.old_low keeps on s.fork s.low parts

      over : Keeps f c (opposite at) u × (level f c < level f u) × IsOnSide f c at (edit_key e)
      over = subst (λ to. Keeps f c (opposite to) u × (level f c < level f u) × IsOnSide f c to (edit_key e)) s.turn (above_keeps f u c (edit_key e) (trie s.old_fork).0 s.old_fork s.old_low s.low outside parts)

      key : PartsFrom f u c (edit_key e) → IsForkKey (key_of f c) (level f c)
      key (inl y) = y.fork
      key (inr y) = y.fork

      below : Keeps f c (opposite at) (f (child c (opposite at)))
      below = subst (Keeps f c (opposite at)) (sym s.other) over.0

      beside : Keeps f c at (f (child c at))
      beside = subst (Keeps f c at) (sym s.leaf) (leaf_keeps c at x s.first.leaf s.first.class deep (subst (AllFrom (side_from f c at)) (sym s.pairs) (edited_from e (side_from f c at) [] tt over.2.0)) (subst (AllBelow (side_to f c at)) (sym s.pairs) (edited_below e (side_to f c at) [] tt over.2.1)))
