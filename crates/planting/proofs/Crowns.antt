-- Above such a part stand a fork above all keys, and the three nodes of an empty map: so is a table
-- planted.
use Rattle.std.proofs.Common.{◌≡◌, ◌≢◌, ℕ, ◌+◌, ◌*◌, ◌^◌, ◌<◌, ◌≤◌, Bool, true, false, inl, inr, List, [], ◌∷◌, ◌++◌, refl, sym, ◌∙◌, ap, subst, arith, append_assoc}
use native.Mathlib.Decide.{ℕ_discrete, dec_lt}
use Rattle.histories.specs.Common.{Side, Left, Right, Word, node, child, first_key}
use Rattle.ordered_map.specs.declared.pair.Pair.{Pair}
use Rattle.ordered_map.specs.OrderedMap.{pair, AllBelow, AllFrom}
use Rattle.ordered_map.specs.TreeWords.{Tree, Leaf, Fork, Has, class, is_leaf, level, rank, IsBlankAboveKeys}
use Rattle.ordered_map.specs.Spelled.{IsTree}
use Rattle.ordered_map.specs.Planted.{items, ends, last_leaf, EndsLow}
use Rattle.ordered_map.specs.Bits.{IsParted, IsTrieFork, Keeps, side_from, side_to}
use Rattle.ordered_map.proofs.Lemmas.{high_items, high_leaf}
use Rattle.edits.proofs.Lemmas.{IsLeafWith, IsForkWith}
use Rattle.planting.specs.Groves.{IsGrove}

has_last : (t : Tree) → Has t (last_leaf t)
has_last (Leaf n) = refl
has_last (Fork n a b) = inr (inr (has_last b))

-- where all nodes are of class 0
ends_low : (f : Word → ℕ) (t : Tree) → ((n : ℕ) → Has t n → class f n ≡ 0) → EndsLow f t
ends_low f (Leaf n) low = tt
ends_low f (Fork n a b) low = ((λ _. low (last_leaf b) (inr (inr (has_last b)))), ends_low f a (λ m h. low m (inr (inl h))), ends_low f b (λ m h. low m (inr (inr h))))

from_zero : (ps : List Pair) → AllFrom 0 ps
from_zero [] = tt
from_zero (p ∷ ps) = (omega arith, from_zero ps)

module _ (trie : Bool) (f : Word → ℕ) (ps : List Pair) (tall many x : ℕ) (g : IsGrove trie f ps 2 tall 3 many x) (small : AllBelow (2 ^ 64) ps)
    (root_is : IsForkWith f 0 0 2 0 (3 + many) 2) (first_is : IsLeafWith f 1 2 1 (pair 0 0 ∷ [])) (last_is : IsLeafWith f 2 1 2 (pair 0 0 ∷ [])) (top_is : IsForkWith f (3 + many) 1 1 0 x 1) where
  abbrev t : ℕ
  t = 3 + many

  abbrev pub whole_tree : Tree
  whole_tree = Fork 0 (Fork t g.tree (Leaf 1)) (Leaf 2)

  high : (n kind : ℕ) → class f n ≡ kind → 0 < kind → class f n ≢ 0
  high n kind e i z = omega (arith, e, i, z)

  top_parted : IsParted f t
  top_parted = record { top = λ _. (let kind = top_is.class in let at = top_is.level in omega (arith, kind, at)); key = λ z. absurd (high t 1 top_is.class (omega arith) z) }

  sides : (side_from f t Left ≡ 0) × (side_to f t Left ≡ 2 ^ 64)
  sides = (rw top_is.class refl, rw top_is.class refl)

  grove_keeps : trie ≡ true → Keeps f t Left x × (level f t < level f x)
  grove_keeps is = g.keeps is t Left top_parted (subst (λ k. AllFrom k ps) (sym sides.0) (from_zero ps)) (subst (λ k. AllBelow k ps) (sym sides.1) small)

  below_top : level f t < level f x
  below_top = go trie refl
    where
      go : (b : Bool) → trie ≡ b → level f t < level f x
      go true is = (grove_keeps is).1
      go false is = let at = g.deep_at is in let here = top_is.level in omega (arith, at, here)

  rank_root : rank f 0 ≡ 2 * 2 ^ 64
  rank_root = let kind = root_is.class in let key = root_is.key in omega (arith, kind, key)

  rank_top : rank f t ≡ 2 ^ 64
  rank_top = let kind = top_is.class in let key = top_is.key in omega (arith, kind, key)

  rank_first : rank f 1 ≡ 2 ^ 64
  rank_first = let kind = first_is.class in let key = first_is.key in omega (arith, kind, key)

  rank_last : rank f 2 ≡ 2 * 2 ^ 64
  rank_last = let kind = last_is.class in let key = last_is.key in omega (arith, kind, key)

  pub crowned : IsTree f whole_tree
  crowned = record {
    shows = (
      record {
        fork = root_is.fork;
        left = root_is.left;
        right = root_is.right;
        low = (let a = root_is.level in let b = top_is.level in omega (arith, a, b));
        high = (let a = root_is.level in let b = last_is.level in omega (arith, a, b));
      },
      (
        record {
          fork = top_is.fork;
          left = top_is.left ∙ sym g.is;
          right = top_is.right;
          low = subst (λ n. level f t < level f n) (sym g.is) below_top;
          high = (let a = top_is.level in let b = first_is.level in omega (arith, a, b));
        },
        g.shows 0 (rank f t) (from_zero ps) (subst (λ k. AllBelow k ps) (sym rank_top) small),
        high_leaf f 1 (rank f t) (rank f 0) first_is.leaf (high 1 1 first_is.class (omega arith)) (let key = first_is.key in omega (arith, key)) (let a = rank_top in let b = rank_first in omega (arith, a, b)) (let a = rank_root in let b = rank_first in omega (arith, a, b)),
      ),
      high_leaf f 2 (rank f 0) (3 * 2 ^ 64) last_is.leaf (high 2 2 last_is.class (omega arith)) (let key = last_is.key in omega (arith, key)) (let a = rank_root in let b = rank_last in omega (arith, a, b)) (let b = rank_last in omega (arith, b)),
    );
    is = refl;
  }

  pub crown_items : items f whole_tree ≡ ps ++ ends
  crown_items =
      (λ i. (g.items i ++ one i) ++ two i) ∙ append_assoc ps (pair (2 ^ 64) 0 ∷ []) (pair (2 * 2 ^ 64) 0 ∷ [])
    where
      one : items f (Leaf 1) ≡ pair (2 ^ 64) 0 ∷ []
      one = high_items f 1 (high 1 1 first_is.class (omega arith)) ∙ ap (λ k. pair k 0 ∷ []) rank_first

      two : items f (Leaf 2) ≡ pair (2 * 2 ^ 64) 0 ∷ []
      two = high_items f 2 (high 2 2 last_is.class (omega arith)) ∙ ap (λ k. pair k 0 ∷ []) rank_last

  pub crown_low : EndsLow f whole_tree
  crown_low = ((λ z. absurd (high 0 2 root_is.class (omega arith) z)), ((λ z. absurd (high t 1 top_is.class (omega arith) z)), ends_low f g.tree g.low, tt), tt)

  pub crown_whole : (n : ℕ) → n < 3 + (many + 1) → Has whole_tree n
  crown_whole n i = go (ℕ_discrete 0 n) (ℕ_discrete 1 n) (ℕ_discrete 2 n) (dec_lt n t)
    where
      go : Dec (0 ≡ n) → Dec (1 ≡ n) → Dec (2 ≡ n) → Dec (n < t) → Has whole_tree n
      go (yes e) _ _ _ = inl e
      go (no _) (yes e) _ _ = inr (inl (inr (inr e)))
      go (no _) (no _) (yes e) _ = inr (inr e)
      go (no a) (no b) (no c) (yes l) = inr (inl (inr (inl (g.whole n (omega (arith, a, b, c)) (omega (arith, l))))))
      go (no _) (no _) (no _) (no l) = inr (inl (inl (omega (arith, i, l))))

  pub crown_there : (n : ℕ) → Has whole_tree n → n < 3 + (many + 1)
  crown_there n (inl e) = omega (arith, e)
  crown_there n (inr (inl (inl e))) = omega (arith, e)
  crown_there n (inr (inl (inr (inl h)))) = let i = g.there n h in omega (arith, i)
  crown_there n (inr (inl (inr (inr e)))) = omega (arith, e)
  crown_there n (inr (inr e)) = omega (arith, e)

  pub crown_blank : (n : ℕ) → Has whole_tree n → IsBlankAboveKeys f n
  crown_blank n (inl e) _ = ap (λ k. f (node k first_key)) (sym e) ∙ root_is.key
  crown_blank n (inr (inl (inl e))) _ = ap (λ k. f (node k first_key)) (sym e) ∙ top_is.key
  crown_blank n (inr (inl (inr (inl h)))) d = absurd (d (g.low n h))
  crown_blank n (inr (inl (inr (inr e)))) _ = ap (λ k. f (node k first_key)) (sym e) ∙ first_is.key
  crown_blank n (inr (inr e)) _ = ap (λ k. f (node k first_key)) (sym e) ∙ last_is.key

  pub crown_deep : trie ≡ false → (n : ℕ) → Has whole_tree n → level f n ≤ 2 + tall
  crown_deep is n (inl e) = let same : level f n ≡ level f 0 = ap (level f) (sym e) in let at = root_is.level in omega (arith, same, at)
  crown_deep is n (inr (inl (inl e))) = let same : level f n ≡ level f t = ap (level f) (sym e) in let at = top_is.level in omega (arith, same, at)
  crown_deep is n (inr (inl (inr (inl h)))) = g.tall_most is n h
  crown_deep is n (inr (inl (inr (inr e)))) = let same : level f n ≡ level f 1 = ap (level f) (sym e) in let at = first_is.level in omega (arith, same, at)
  crown_deep is n (inr (inr e)) = let same : level f n ≡ level f 2 = ap (level f) (sym e) in let at = last_is.level in omega (arith, same, at)

  no_fork : (n : ℕ) → is_leaf f n ≡ true → is_leaf f n ≡ false → ⊥
  no_fork n leaf fork = let z : true ≡ false = sym leaf ∙ fork in cc

  -- a leaf above all keys keeps to a side if it is high enough
  leaf_keeps : (n m kind at : ℕ) (side : Side) → is_leaf f m ≡ true → class f m ≡ kind → level f m ≡ at → 0 < kind → at + kind ≤ 3 → Keeps f n side m
  leaf_keeps n m kind at side leaf k l some few = record { fork = λ fork _. absurd (no_fork m leaf fork); leaf = λ _ z. absurd (high m kind k some z); last = λ _ _. omega (arith, k, l, few) }

  root_fork : IsTrieFork f 0
  root_fork _ = (record { top = λ _. (let kind = root_is.class in let at = root_is.level in omega (arith, kind, at)); key = λ z. absurd (high 0 2 root_is.class (omega arith) z) }, keeps)
    where
      keeps : (side : Side) → Keeps f 0 side (f (child 0 side))
      keeps Left = subst (Keeps f 0 Left) (sym root_is.left) record { fork = λ _ z. absurd (high t 1 top_is.class (omega arith) z); leaf = λ leaf _. absurd (no_fork t leaf top_is.fork); last = λ leaf _. absurd (no_fork t leaf top_is.fork) }
      keeps Right = subst (Keeps f 0 Right) (sym root_is.right) (leaf_keeps 0 2 2 1 Right last_is.leaf last_is.class last_is.level (omega arith) (omega arith))

  top_fork : trie ≡ true → IsTrieFork f t
  top_fork is _ = (top_parted, keeps)
    where
      keeps : (side : Side) → Keeps f t side (f (child t side))
      keeps Left = subst (Keeps f t Left) (sym top_is.left) (grove_keeps is).0
      keeps Right = subst (Keeps f t Right) (sym top_is.right) (leaf_keeps t 1 1 2 Right first_is.leaf first_is.class first_is.level (omega arith) (omega arith))

  pub crown_forks : trie ≡ true → (n : ℕ) → Has whole_tree n → IsTrieFork f n
  crown_forks is n (inl e) = subst (IsTrieFork f) e root_fork
  crown_forks is n (inr (inl (inl e))) = subst (IsTrieFork f) e (top_fork is)
  crown_forks is n (inr (inl (inr (inl h)))) = g.forks is n h
  crown_forks is n (inr (inl (inr (inr e)))) = subst (IsTrieFork f) e (λ fork. absurd (no_fork 1 first_is.leaf fork))
  crown_forks is n (inr (inr e)) = subst (IsTrieFork f) e (λ fork. absurd (no_fork 2 last_is.leaf fork))
