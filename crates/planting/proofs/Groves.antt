-- A leaf is such a part, and so is a fork over two.
use Rattle.std.proofs.Common.{◌≡◌, ℕ, suc, ◌+◌, ◌-◌, ◌^◌, ◌<◌, ◌≤◌, Bool, true, false, inl, inr, List, [], ◌∷◌, ◌++◌, refl, sym, ◌∙◌, ap, subst, arith}
use native.Mathlib.Decide.{ℕ_discrete, dec_lt}
use Rattle.histories.specs.Common.{Side, Left, Right, Word, child}
use Rattle.ordered_map.specs.declared.pair.Pair.{Pair}
use Rattle.ordered_map.specs.OrderedMap.{AllBelow, AllFrom, IsRising}
use Rattle.ordered_map.specs.TreeWords.{Leaf, Fork, Has, class, is_leaf, level, rank}
use Rattle.ordered_map.specs.Bits.{IsParted, IsTrieFork, Keeps, side_from, side_to, room_at}
use Rattle.ordered_map.proofs.Lemmas.{between_keeps, low_items, low_leaf}
use Rattle.edits.proofs.Lemmas.{IsLeafWith, IsForkWith}
use Rattle.planting.specs.Groves.{IsGrove, IsParting}

-- no fork is deeper than level 65
above_leaves : (f : Word → ℕ) (n : ℕ) → IsParted f n → level f n < 66
above_leaves f n parted = go (ℕ_discrete (class f n) 0)
  where
    go : Dec (class f n ≡ 0) → level f n < 66
    go (yes z) = let deep = (parted.key z).deep in omega (arith, deep)
    go (no d) = let top = parted.top d in omega (arith, top)

pub leaf_grove : (trie : Bool) (f : Word → ℕ) (n deep here tall : ℕ) (p : Pair) (ps : List Pair) → IsLeafWith f n here 0 (p ∷ ps) → IsRising (p ∷ ps) → AllBelow (2 ^ 64) (p ∷ ps) → (trie ≡ false → here ≡ deep) → (trie ≡ true → here ≡ 66) → IsGrove trie f (p ∷ ps) deep tall n 1 n
leaf_grove trie f n deep here tall p ps x rises small tree_deep trie_deep = record {
  tree = Leaf n;
  is = refl;
  there = λ m e. (omega (arith, e), omega (arith, e));
  whole = λ m i j. omega (arith, i, j);
  shows = λ lo hi from below. low_leaf f n lo hi x.leaf x.class x.counted (subst IsRising (sym x.pairs) rises) (subst (AllBelow hi) (sym x.pairs) below) (subst (AllBelow (2 ^ 64)) (sym x.pairs) small)
      (let first = from.0 in let key = x.key in let kind = x.class in omega (arith, first, key, kind));
  items = low_items f n x.class ∙ x.pairs;
  low = λ m e. ap (class f) (sym e) ∙ x.class;
  deep_at = λ is. x.level ∙ tree_deep is;
  tall_most = λ is m e. let same : level f m ≡ level f n = ap (level f) (sym e) in let at = x.level in let top = tree_deep is in omega (arith, same, at, top);
  forks = λ _ m e fork. absurd (let z : true ≡ false = sym x.leaf ∙ ap (is_leaf f) e ∙ fork in cc);
  keeps = λ is m side parted from below. (
    record {
      fork = λ fork _. absurd (let z : true ≡ false = sym x.leaf ∙ fork in cc);
      leaf = λ _ _. (x.level ∙ trie_deep is, subst (AllFrom (side_from f m side)) (sym x.pairs) from, subst (AllBelow (side_to f m side)) (sym x.pairs) below);
      last = λ _ high. absurd (high x.class);
    },
    (let above = above_leaves f m parted in let at = x.level in let last = trie_deep is in omega (arith, above, at, last)),
  );
}

pub from_right : (k : ℕ) (xs ys : List Pair) → AllFrom k (xs ++ ys) → AllFrom k ys
from_right k [] ys a = a
from_right k (x ∷ xs) ys a = from_right k xs ys a.1

pub from_front : (k : ℕ) (xs ys : List Pair) → AllFrom k (xs ++ ys) → AllFrom k xs
from_front k [] ys a = tt
from_front k (x ∷ xs) ys a = (a.0, from_front k xs ys a.1)

pub below_back : (k : ℕ) (xs ys : List Pair) → AllBelow k (xs ++ ys) → AllBelow k ys
below_back k [] ys a = a
below_back k (x ∷ xs) ys a = below_back k xs ys a.1

pub from_lower : (j k : ℕ) (xs : List Pair) → j ≤ k → AllFrom k xs → AllFrom j xs
from_lower j k [] l a = tt
from_lower j k (x ∷ xs) l a = ((let m = a.0 in omega (arith, l, m)), from_lower j k xs l a.1)

pub below_higher : (j k : ℕ) (xs : List Pair) → j ≤ k → AllBelow j xs → AllBelow k xs
below_higher j k [] l a = tt
below_higher j k (x ∷ xs) l a = ((let m = a.0 in omega (arith, l, m)), below_higher j k xs l a.1)

module _ (trie : Bool) (f : Word → ℕ) (ls rs : List Pair) (at a b deep here tall tl tr dl dr key x y : ℕ)
    (left : IsGrove trie f ls dl tl at a x) (right : IsGrove trie f rs dr tr (at + a) b y) (w : IsForkWith f (at + a + b) here 0 key x y)
    (below : AllBelow key ls) (from : AllFrom key rs)
    (in_tree : trie ≡ false → (here ≡ deep) × (dl ≡ deep + 1) × (dr ≡ deep + 1) × (tl ≤ tall) × (tr ≤ tall))
    (in_trie : trie ≡ true → IsParting ls rs key here) where
  abbrev c : ℕ
  c = at + a + b

  rank_is : rank f c ≡ key
  rank_is = let kind = w.class in let k = w.key in omega (arith, kind, k)

  module _ (is : trie ≡ true) where
    p : IsParting ls rs key here
    p = in_trie is

    parted : IsParted f c
    parted = record { top = λ d. absurd (d w.class); key = λ z. rw (w.key, w.level) p.parts.fork }

    left_on : AllFrom (side_from f c Left) ls × AllBelow (side_to f c Left) ls
    left_on =
        let start : side_from f c Left ≡ key - room_at here = rw (w.class, w.key, w.level) refl in
        let end : side_to f c Left ≡ key = rw (w.class, w.key) refl in
        let span = p.parts.first in
        (from_lower (side_from f c Left) p.first ls (omega (arith, start, span)) p.from, subst (λ k. AllBelow k ls) (sym end) below)

    right_on : AllFrom (side_from f c Right) rs × AllBelow (side_to f c Right) rs
    right_on =
        let start : side_from f c Right ≡ key = rw (w.class, w.key) refl in
        let end : side_to f c Right ≡ key + room_at here = rw (w.class, w.key, w.level) refl in
        let span = p.parts.last in
        (subst (λ k. AllFrom k rs) (sym start) from, below_higher (suc p.last) (side_to f c Right) rs (omega (arith, end, span)) p.below)

    left_keeps : Keeps f c Left x × (level f c < level f x)
    left_keeps = left.keeps is c Left parted left_on.0 left_on.1

    right_keeps : Keeps f c Right y × (level f c < level f y)
    right_keeps = right.keeps is c Right parted right_on.0 right_on.1

    fork_is : IsTrieFork f c
    fork_is _ = (parted, side_keeps)
      where
        side_keeps : (side : Side) → Keeps f c side (f (child c side))
        side_keeps Left = subst (Keeps f c Left) (sym w.left) left_keeps.0
        side_keeps Right = subst (Keeps f c Right) (sym w.right) right_keeps.0

    keeps_all : (n : ℕ) (side : Side) → IsParted f n → AllFrom (side_from f n side) (ls ++ rs) → AllBelow (side_to f n side) (ls ++ rs) → Keeps f n side c × (level f n < level f c)
    keeps_all n side above low high =
        let ends = p.between (side_from f n side) (side_to f n side) low high in
        between_keeps f n side c p.first p.last above w.fork w.class (rw (w.key, w.level) p.parts) (ends.0, ends.1) (ends.2, ends.3)

  rises : (level f c < level f x) × (level f c < level f y)
  rises = go trie refl
    where
      go : (t : Bool) → trie ≡ t → (level f c < level f x) × (level f c < level f y)
      go true is = ((left_keeps is).1, (right_keeps is).1)
      go false is =
          let t = in_tree is in
          let l = left.deep_at is in
          let r = right.deep_at is in
          let lv = w.level in
          (omega (arith, t, l, lv), omega (arith, t, r, lv))

  pub fork_grove : IsGrove trie f (ls ++ rs) deep (suc tall) at (a + b + 1) c
  fork_grove = record {
    tree = Fork c left.tree right.tree;
    is = refl;
    there = there;
    whole = whole;
    shows = λ lo hi low high. (
      record {
        fork = w.fork;
        left = w.left ∙ sym left.is;
        right = w.right ∙ sym right.is;
        low = subst (λ n. level f c < level f n) (sym left.is) rises.0;
        high = subst (λ n. level f c < level f n) (sym right.is) rises.1;
      },
      left.shows lo (rank f c) (from_front lo ls rs low) (subst (λ k. AllBelow k ls) (sym rank_is) below),
      right.shows (rank f c) hi (subst (λ k. AllFrom k rs) (sym rank_is) from) (below_back hi ls rs high),
    );
    items = λ i. left.items i ++ right.items i;
    low = low;
    deep_at = λ is. w.level ∙ (in_tree is).0;
    tall_most = tall_most;
    forks = forks;
    keeps = keeps_all;
  }
    where
      there : (n : ℕ) → Has (Fork c left.tree right.tree) n → (at ≤ n) × (n < at + (a + b + 1))
      there n (inl e) = (omega (arith, e), omega (arith, e))
      there n (inr (inl h)) = let i = left.there n h in (i.0, omega (arith, i))
      there n (inr (inr h)) = let i = right.there n h in (omega (arith, i), omega (arith, i))

      whole : (n : ℕ) → at ≤ n → n < at + (a + b + 1) → Has (Fork c left.tree right.tree) n
      whole n i j = go (dec_lt n (at + a)) (dec_lt n c)
        where
          go : Dec (n < at + a) → Dec (n < c) → Has (Fork c left.tree right.tree) n
          go (yes l) _ = inr (inl (left.whole n i l))
          go (no l) (yes r) = inr (inr (right.whole n (omega (arith, l)) (omega (arith, r))))
          go (no l) (no r) = inl (omega (arith, r, j))

      low : (n : ℕ) → Has (Fork c left.tree right.tree) n → class f n ≡ 0
      low n (inl e) = ap (class f) (sym e) ∙ w.class
      low n (inr (inl h)) = left.low n h
      low n (inr (inr h)) = right.low n h

      tall_most : trie ≡ false → (n : ℕ) → Has (Fork c left.tree right.tree) n → level f n ≤ deep + suc tall
      tall_most is n (inl e) = let same : level f n ≡ level f c = ap (level f) (sym e) in let lv = w.level in let t = in_tree is in omega (arith, same, lv, t)
      tall_most is n (inr (inl h)) = let m = left.tall_most is n h in let t = in_tree is in omega (arith, m, t)
      tall_most is n (inr (inr h)) = let m = right.tall_most is n h in let t = in_tree is in omega (arith, m, t)

      forks : trie ≡ true → (n : ℕ) → Has (Fork c left.tree right.tree) n → IsTrieFork f n
      forks is n (inl e) = subst (IsTrieFork f) e (fork_is is)
      forks is n (inr (inl h)) = left.forks is n h
      forks is n (inr (inr h)) = right.forks is n h

-- how tall it is says nothing in a trie
pub any_tall : (f : Word → ℕ) (ps : List Pair) (deep tall other at many top : ℕ) → IsGrove true f ps deep tall at many top → IsGrove true f ps deep other at many top
any_tall f ps deep tall other at many top x = record { tree = x.tree; is = x.is; there = x.there; whole = x.whole; shows = x.shows; items = x.items; low = x.low; deep_at = x.deep_at; tall_most = λ is. absurd (let z : true ≡ false = is in cc); forks = x.forks; keeps = x.keeps }
