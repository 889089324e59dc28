-- Words spell what the leaves of their tree hold, if these end as they have to.
use Rattle.std.proofs.Common.{◌≡◌, ℕ, ◌+◌, ◌<◌, inl, inr, List, [], ◌∷◌, ◌++◌, refl, sym, ◌∙◌, ap, arith, subst, append_assoc, append-nil, ne_eqb, length}
use Rattle.std.specs.Prelude.{Option, Some, None, IfNone, All, take, slice_index_or}
use Rattle.std.proofs.lemmas.List.{take_more}
use Rattle.std.proofs.lemmas.List.Elements.{All-cons, All-head, All-tail, All-append, All-weaker, All-nil, All-more}
use Rattle.histories.specs.Common.{all_nodes, Contents, word_at, Settled, More, Slot, Word, node}
use Rattle.ordered_map.specs.declared.pair.Pair.{Pair}
use Rattle.ordered_map.specs.OrderedMap.{IsRising}
use Rattle.ordered_map.specs.TreeWords.{class, leaf_pairs, Tree, Leaf, Fork, Shows, Has, pairs, leaf_nodes}
use Rattle.ordered_map.specs.Holding.{slot_behind, pair_in, held_from, held_behind, held_pairs}
use Rattle.ordered_map.proofs.Holding.{held_next, low_pairs}
use Rattle.ordered_map.specs.Spelled.{IsTree, Spells}
use Rattle.ordered_map.specs.Parts.{ShowLeaves, HasEnds, HoldPairs, AreInside, all_pairs}
use Rattle.ordered_map.proofs.Trees.{items, same_tree}
use Rattle.ordered_map.proofs.Growing.{low, low_rises, pairs_low, items_rise, front_same}

-- The leaves of a tree

-- each is in the tree
pub leaves_in : (t : Tree) → All (λ n. Has t n) (leaf_nodes t)
leaves_in (Leaf n) = All-cons (λ m. n ≡ m) n [] refl (All-nil (λ m. n ≡ m))
leaves_in (Fork n a b) = All-append (λ m. Has (Fork n a b) m) (leaf_nodes a) (leaf_nodes b)
    (All-weaker (λ m. Has a m) (λ m. Has (Fork n a b) m) (λ m h. inr (inl h)) (leaf_nodes a) (leaves_in a))
    (All-weaker (λ m. Has b m) (λ m. Has (Fork n a b) m) (λ m h. inr (inr h)) (leaf_nodes b) (leaves_in b))

pub leaves_inside : (c : Contents) (ns : List ℕ) → ShowLeaves c ns → AreInside c ns
leaves_inside c ns s = subst (AreInside c) s.leaves (All-weaker (λ n. Has s.tree n) (λ n. n < all_nodes c.layout) s.inside (leaf_nodes s.tree) (leaves_in s.tree))

front : (P : ℕ → Type 0) (xs ys : List ℕ) → All P (xs ++ ys) → All P xs
front P [] ys a = All-nil P
front P (x ∷ xs) ys a = All-cons P x xs (All-head P x (xs ++ ys) a) (front P xs ys (All-tail P x (xs ++ ys) a))

pub others_inside : (c : Contents) (ns others : List ℕ) → AreInside c ns → HasEnds c ns others → AreInside c others
others_inside c ns others a e = front (λ n. n < all_nodes c.layout) others (e.one ∷ 2 ∷ []) (subst (AreInside c) e.last a)

-- The two last

-- what is before them is determined
others_same : (xs ys : List ℕ) (x y : ℕ) → xs ++ x ∷ 2 ∷ [] ≡ ys ++ y ∷ 2 ∷ [] → xs ≡ ys
others_same xs ys x y e = front_same xs ys x y (front_same (xs ++ x ∷ []) (ys ++ y ∷ []) 2 2 (append_assoc xs (x ∷ []) (2 ∷ []) ∙ e ∙ sym (append_assoc ys (y ∷ []) (2 ∷ []))))

-- The pairs

pairs_join : (c : Contents) (ms ns : List ℕ) → all_pairs c (ms ++ ns) ≡ all_pairs c ms ++ all_pairs c ns
pairs_join c [] ns = refl
pairs_join c (m ∷ ms) ns = ap (λ z. leaf_pairs (word_at c) m ++ z) (pairs_join c ms ns) ∙ sym (append_assoc (leaf_pairs (word_at c) m) (all_pairs c ms) (all_pairs c ns))

pairs_leaves : (c : Contents) (t : Tree) → pairs (word_at c) t ≡ all_pairs c (leaf_nodes t)
pairs_leaves c (Leaf n) = sym (append-nil (leaf_pairs (word_at c) n))
pairs_leaves c (Fork n a b) = (λ i. pairs_leaves c a i ++ pairs_leaves c b i) ∙ sym (pairs_join c (leaf_nodes a) (leaf_nodes b))

-- a leaf of another class holds none
none_above : (f : Word → ℕ) (n k : ℕ) → class f n ≡ k → 0 < k → leaf_pairs f n ≡ []
none_above f n k e i = rw (ne_eqb (class f n) 0 (λ z. omega (arith, e, i, z))) refl

pairs_ends : (c : Contents) (ns others : List ℕ) → HasEnds c ns others → all_pairs c ns ≡ all_pairs c others
pairs_ends c ns others e =
    ap (all_pairs c) e.last ∙ pairs_join c others (e.one ∷ 2 ∷ [])
    ∙ ap (λ z. all_pairs c others ++ z) ((λ i. none_above (word_at c) e.one 1 e.class_one (omega arith) i ++ (none_above (word_at c) 2 2 e.class_two (omega arith) i ++ [])))
    ∙ append-nil (all_pairs c others)

-- pairs of a shown tree rise
pairs_rise : (f : Word → ℕ) (t : Tree) (lo hi : ℕ) → Shows f lo hi t → IsRising (pairs f t)
pairs_rise f t lo hi s = subst IsRising (sym (pairs_low f t lo hi s)) (low_rises (items f t) (items_rise f t lo hi s))

-- What words spell

pub leaves_spell : (c : Contents) (ns others : List ℕ) (m : List Pair) → ShowLeaves c ns → HasEnds c ns others → HoldPairs c others m → Spells c.layout (word_at c) m
leaves_spell c ns others m s e h = record {
  tree = s.tree;
  is_tree = s.is_tree;
  inside = s.inside;
  pairs = are;
  rising = subst IsRising are (pairs_rise (word_at c) s.tree _ _ s.is_tree.shows);
  others = others;
  one = e.one;
  last = s.leaves ∙ e.last;
  low = h.low;
  class_one = e.class_one;
  class_two = e.class_two;
}
  where
    are : pairs (word_at c) s.tree ≡ m
    are = pairs_leaves c s.tree ∙ ap (all_pairs c) s.leaves ∙ pairs_ends c ns others e ∙ h.pairs

one_tree : (c : Contents) (t u : Tree) → IsTree (word_at c) t → IsTree (word_at c) u → t ≡ u
one_tree c t u a b = same_tree (word_at c) t u _ _ _ _ a.shows b.shows (a.is ∙ sym b.is)

-- where words spell a map, their leaves end so, and hold its pairs
pub spells_ends : (c : Contents) (ns : List ℕ) (m : List Pair) → ShowLeaves c ns → (x : Spells c.layout (word_at c) m) → HasEnds c ns x.others
spells_ends c ns m s x = record {
  one = x.one;
  last = sym s.leaves ∙ ap leaf_nodes (one_tree c s.tree x.tree s.is_tree x.is_tree) ∙ x.last;
  class_one = x.class_one;
  class_two = x.class_two;
}

pub spells_holds : (c : Contents) (ns others : List ℕ) (m : List Pair) → ShowLeaves c ns → HasEnds c ns others → Spells c.layout (word_at c) m → HoldPairs c others m
spells_holds c ns others m s e x = record {
  low = subst (λ z. All (λ n. class (word_at c) n ≡ 0) z) same x.low;
  pairs = sym (pairs_ends c ns others e) ∙ ap (all_pairs c) (sym s.leaves) ∙ sym (pairs_leaves c s.tree) ∙ ap (pairs (word_at c)) (one_tree c s.tree x.tree s.is_tree x.is_tree) ∙ x.pairs;
}
  where
    same : x.others ≡ others
    same = let y : HasEnds c ns x.others = spells_ends c ns m s x in others_same x.others others y.one e.one (sym y.last ∙ e.last)

-- where words spell a map, they show a tree
pub spells_shows : (c : Contents) (m : List Pair) (x : Spells c.layout (word_at c) m) → ShowLeaves c (leaf_nodes x.tree)
spells_shows c m x = record { tree = x.tree; is_tree = x.is_tree; inside = x.inside; leaves = refl }

pub none_then : {X : Type 0} (o : Option X) {P Q : Type 0} → IfNone o P → (P → Q) → IfNone o Q
none_then None p f = f p
none_then (Some x) p f = tt

-- one leaf more
pub holds_more : (c : Contents) (ns : List ℕ) (i : ℕ) (ps qs : List Pair) → i < length ns → HoldPairs c (take i ns) ps → class (word_at c) (slice_index_or ns i 0) ≡ 0 → qs ≡ ps ++ held_pairs (word_at c) (slice_index_or ns i 0) → HoldPairs c (take (i + 1) ns) qs
holds_more c ns i ps qs lt h low e = record {
  low = All-more (λ k. class (word_at c) k ≡ 0) ns i 0 lt h.low low;
  pairs =
      ap (all_pairs c) (take_more ns i 0 lt) ∙ pairs_join c (take i ns) (n ∷ [])
      ∙ (λ j. h.pairs j ++ append-nil (leaf_pairs (word_at c) n) j)
      ∙ ap (λ z. ps ++ z) (low_pairs (word_at c) n low)
      ∙ sym e;
}
  where
    n : ℕ
    n = slice_index_or ns i 0

-- Pairs of a leaf, pushed slot by slot

pub pushed_last : (f : Word → ℕ) (n : ℕ) (slot : Slot) (ps qs : List Pair) → slot_behind (f (node n (Settled More))) slot ≡ None → qs ≡ ps ++ pair_in f n slot ∷ [] → qs ≡ ps ++ held_from f n slot
pushed_last f n slot ps qs none e = e ∙ ap (λ zs. ps ++ zs) (sym (held_next f n slot ∙ ap (λ o. pair_in f n slot ∷ held_behind f n o) none))

pub pushed_more : (f : Word → ℕ) (n : ℕ) (slot next : Slot) (ps qs all : List Pair) → slot_behind (f (node n (Settled More))) slot ≡ Some next → qs ≡ ps ++ pair_in f n slot ∷ [] → all ≡ qs ++ held_from f n next → all ≡ ps ++ held_from f n slot
pushed_more f n slot next ps qs all some e d =
    d ∙ ap (λ zs. zs ++ held_from f n next) e ∙ append_assoc ps (pair_in f n slot ∷ []) (held_from f n next)
    ∙ ap (λ zs. ps ++ zs) (sym (held_next f n slot ∙ ap (λ o. pair_in f n slot ∷ held_behind f n o) some))
