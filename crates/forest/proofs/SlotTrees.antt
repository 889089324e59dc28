-- A tree whose nodes go by other names, as words show it.
use Rattle.std.proofs.Common.{◌≡◌, ◌<◌, ◌/◌, ◌^◌, ◌==◌, if◌then◌else◌, ℕ, inl, inr, List, [], ◌∷◌, ◌++◌, map, refl, sym, ◌∙◌, ap, subst}
use Rattle.std.specs.List.{All}
use Rattle.std.proofs.lemmas.List.{map-append}
use Rattle.std.proofs.lemmas.List.Elements.{All-cons, All-head, All-nil, All-tail}
use Rattle.histories.specs.Common.{Head, Key, First, Layout, Node, Settled, SettledPart, Side, Left, Right, Word, all_nodes, child, first_key, node}
use Rattle.ordered_map.specs.Holding.{held_pairs}
use Rattle.ordered_map.specs.OrderedMap.{AllBelow, AllFrom, IsRising, pair}
use Rattle.ordered_map.specs.TreeWords.{Fork, Has, IsLeaf, Leaf, Shows, Tree, class, leaf_items, leaf_nodes, leaf_pairs, level, pairs, rank, root}
use Rattle.ordered_map.proofs.Lemmas.{SameSettled, counted_few, few_counted, held_slots, same_leaf, same_pairs}
use Rattle.template.specs.Common.{Pair, Spells}
use Rattle.forest.proofs.Copies.{all_right, leaves_in}

module _ (f g : Word → ℕ) (named : ℕ → ℕ) (In : ℕ → Type 0) (same : (n : ℕ) (part : SettledPart) → In n → g (node (named n) (Settled part)) ≡ f (node n (Settled part))) (fields : (n : ℕ) (side : Side) → In n → g (child (named n) side) ≡ named (f (child n side))) where
  -- what the words at the other names say of a node
  abbrev renamed_words : Word → ℕ
  renamed_words (Node n part) = g (node (named n.0) part)
  renamed_words w = g w

  settled_there : (n : ℕ) → In n → SameSettled f renamed_words n
  settled_there n i (Settled part) s = same n part i
  settled_there n i _ s = absurd s

  held_there : (n : ℕ) → held_pairs g (named n) ≡ held_pairs renamed_words n
  held_there n = held_slots g (named n) ∙ sym (held_slots renamed_words n)

  items_there : (n : ℕ) → leaf_items g (named n) ≡ leaf_items renamed_words n
  items_there n = ap (λ (l : List Pair). if class g (named n) == 0 then l else pair (rank g (named n)) 0 ∷ []) (held_there n)

  pairs_there : (n : ℕ) → leaf_pairs g (named n) ≡ leaf_pairs renamed_words n
  pairs_there n = ap (λ (l : List Pair). if class g (named n) == 0 then l else []) (held_there n)

  leaf_there : (n lo hi : ℕ) → IsLeaf renamed_words n lo hi → IsLeaf g (named n) lo hi
  leaf_there n lo hi x = record {
    leaf = x.leaf;
    small = x.small;
    items = record {
      keys = λ z. let k = x.items.keys z in (few_counted g (named n) (counted_few renamed_words n k.0), subst (AllBelow (2 ^ 64)) (sym (held_there n)) k.1);
      rising = subst IsRising (sym (items_there n)) x.items.rising;
      from = subst (AllFrom lo) (sym (items_there n)) x.items.from;
      below = subst (AllBelow hi) (sym (items_there n)) x.items.below;
    };
  }

  -- the same tree by the other names
  pub renamed : Tree → Tree
  renamed (Leaf n) = Leaf (named n)
  renamed (Fork n a b) = Fork (named n) (renamed a) (renamed b)

  renamed_root : (t : Tree) → root (renamed t) ≡ named (root t)
  unfolding renamed
  renamed_root (Leaf n) = refl
  renamed_root (Fork n a b) = refl

  root_in : (t : Tree) → ((n : ℕ) → Has t n → In n) → In (root t)
  root_in (Leaf n) inside = inside n refl
  root_in (Fork n a b) inside = inside n (inl refl)

  level_there : (t : Tree) → ((n : ℕ) → Has t n → In n) → level g (root (renamed t)) ≡ level f (root t)
  unfolding renamed
  level_there t inside = ap (level g) (renamed_root t) ∙ ap (λ v. v / 8) (same (root t) Head (root_in t inside))

  renamed_shows : (t : Tree) (lo hi : ℕ) → ((n : ℕ) → Has t n → In n) → Shows f lo hi t → Shows g lo hi (renamed t)
  unfolding renamed
  renamed_shows (Leaf n) lo hi inside x = leaf_there n lo hi (same_leaf f renamed_words n lo hi (settled_there n (inside n refl)) x)
  renamed_shows (Fork n a b) lo hi inside x =
      let here : In n = inside n (inl refl) in
      let in_a : (m : ℕ) → Has a m → In m = λ m i. inside m (inr (inl i)) in
      let in_b : (m : ℕ) → Has b m → In m = λ m i. inside m (inr (inr i)) in
      let head : g (node (named n) (Settled Head)) ≡ f (node n (Settled Head)) = same n Head here in
      let key : g (node (named n) first_key) ≡ f (node n first_key) = same n (Key First) here in
      let la = level_there a in_a in
      let lb = level_there b in_b in
      let r : rank g (named n) ≡ rank f n = rw (head, key) refl in (
        record {
          fork = rw head x.0.fork;
          left = fields n Left here ∙ ap named x.0.left ∙ sym (renamed_root a);
          right = fields n Right here ∙ ap named x.0.right ∙ sym (renamed_root b);
          low = rw (head, la) x.0.low;
          high = rw (head, lb) x.0.high;
        },
        subst (λ v. Shows g lo v (renamed a)) (sym r) (renamed_shows a lo (rank f n) in_a x.1),
        subst (λ v. Shows g v hi (renamed b)) (sym r) (renamed_shows b (rank f n) hi in_b x.2),
      )

  renamed_pairs : (t : Tree) → ((n : ℕ) → Has t n → In n) → pairs g (renamed t) ≡ pairs f t
  unfolding renamed
  renamed_pairs (Leaf n) inside = pairs_there n ∙ same_pairs f renamed_words n (settled_there n (inside n refl))
  renamed_pairs (Fork n a b) inside = λ j. renamed_pairs a (λ m i. inside m (inr (inl i))) j ++ renamed_pairs b (λ m i. inside m (inr (inr i))) j

  renamed_leaves : (t : Tree) → leaf_nodes (renamed t) ≡ map named (leaf_nodes t)
  unfolding renamed
  renamed_leaves (Leaf n) = refl
  renamed_leaves (Fork n a b) = (λ j. renamed_leaves a j ++ renamed_leaves b j) ∙ sym (map-append named (leaf_nodes a) (leaf_nodes b))

  -- its nodes are those by their other names
  renamed_has : (t : Tree) (m : ℕ) → Has (renamed t) m → (n : ℕ) × Has t n × (named n ≡ m)
  unfolding renamed
  renamed_has (Leaf n) m e = (n, refl, e)
  renamed_has (Fork n a b) m (inl e) = (n, inl refl, e)
  renamed_has (Fork n a b) m (inr (inl i)) = let x = renamed_has a m i in (x.0, inr (inl x.1), x.2)
  renamed_has (Fork n a b) m (inr (inr i)) = let x = renamed_has b m i in (x.0, inr (inr x.1), x.2)

  class_there : (n v : ℕ) → In n → class f n ≡ v → class g (named n) ≡ v
  class_there n v i e = rw (same n Head i) e

  low_there : (xs ys : List ℕ) → All In (xs ++ ys) → All (λ n. class f n ≡ 0) xs → All (λ n. class g n ≡ 0) (map named xs)
  low_there [] ys a b = All-nil (λ n. class g n ≡ 0)
  low_there (x ∷ xs) ys a b = All-cons (λ n. class g n ≡ 0) (named x) (map named xs) (class_there x 0 (All-head In x (xs ++ ys) a) (All-head (λ n. class f n ≡ 0) x xs b)) (low_there xs ys (All-tail In x (xs ++ ys) a) (All-tail (λ n. class f n ≡ 0) x xs b))

  -- where words spell a map, those by the other names spell it too, if nodes 0 and 2 keep theirs
  pub renamed_spells : (lay table : Layout) (m : List Pair) → (x : Spells lay f m) → ((n : ℕ) → Has x.tree n → In n) → ((n : ℕ) → In n → named n < all_nodes table) → named 0 ≡ 0 → named 2 ≡ 2 → Spells table g m
  renamed_spells lay table m x is_in inside zero_is two_is = record {
    tree = renamed x.tree;
    is_tree = record { shows = renamed_shows x.tree _ _ is_in x.is_tree.shows; is = renamed_root x.tree ∙ ap named x.is_tree.is ∙ zero_is };
    inside = λ k has. let h = renamed_has x.tree k has in subst (λ j. j < all_nodes table) h.2 (inside h.0 (is_in h.0 h.1));
    pairs = renamed_pairs x.tree is_in ∙ x.pairs;
    rising = x.rising;
    others = map named x.others;
    one = named x.one;
    last = renamed_leaves x.tree ∙ ap (map named) x.last ∙ map-append named x.others (x.one ∷ 2 ∷ []) ∙ ap (λ k. map named x.others ++ named x.one ∷ k ∷ []) two_is;
    low = low_there x.others (x.one ∷ 2 ∷ []) all x.low;
    class_one = class_there x.one 1 (All-head In x.one (2 ∷ []) last_two) x.class_one;
    class_two = subst (λ k. class g k ≡ 2) two_is (class_there 2 2 (All-head In 2 [] (All-tail In x.one (2 ∷ []) last_two)) x.class_two);
  }
    where
      all : All In (x.others ++ x.one ∷ 2 ∷ [])
      all = subst (All In) x.last (leaves_in In x.tree is_in)

      last_two : All In (x.one ∷ 2 ∷ [])
      last_two = all_right In x.others (x.one ∷ 2 ∷ []) all
