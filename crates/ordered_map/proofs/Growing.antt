-- Every lawful history of the tree spells the map of its log.
use Rattle.std.proofs.Common.{◌≡◌, ◌≢◌, ℕ, ◌<◌, ◌≤◌, ◌+◌, ◌*◌, ◌%◌, ◌^◌, Bool, true, false, eqb, ltb, List, [], ◌∷◌, ◌++◌, refl, sym, ◌∙◌, ap, arith, lt-ltb, le-ltb, eq-eqb, cond, append_assoc, append-nil, subst, Some, None}
use Rattle.std.proofs.lemmas.List.{append_cancel_right}
use Rattle.std.proofs.lemmas.List.Elements.{All-nil, All-cons}
use Rattle.std.specs.Prelude.{All}
use Rattle.ordered_map.proofs.Inside.{tree_inside}
use native.Mathlib.Decide.{ℕ_discrete}
use Rattle.histories.specs.Common.{Left, Right, Settled, Child, Head, Word, Layout, node, child, first_key}
use Rattle.histories.specs.Common.{History, Opened, ◌⊳◌, value, field_index, member, plan, side_of, opening_node, log}
use Rattle.arena.proofs.Lemmas.{node_apart, node_word_apart}
use Rattle.histories.proofs.Lemmas.{Effect, Facts, effect, facts_before, freeze, freeze_keeps_field, quiet, update, update_keeps_other}
use Rattle.ordered_map.specs.declared.pair.Pair.{Pair}
use Rattle.ordered_map.specs.OrderedMap.{pair, MapEdit, get, IsRising, AllAbove, AllBelow}
use Rattle.ordered_map.proofs.Trees.{items, ends, items_above, items_below, passes_has, shown_leaf}
use Rattle.ordered_map.specs.Runs.{map_of_log, first_pairs}
use Rattle.ordered_map.specs.Spelled.{IsTree, Spells}
use Rattle.ordered_map.specs.TreeWords.{Tree, Leaf, Fork, Shows, Passes, class, is_leaf, toward, rank, leaf_pairs, leaf_items, pairs, leaf_nodes}
use Rattle.ordered_map.specs.Holding.{held_pairs}
use Rattle.ordered_map.proofs.Lists.{above_split, below_left, below_right, rising_join}
use Rattle.ordered_map.proofs.Holding.{held_first, low_items, high_items, low_pairs, high_pairs}
use Rattle.ordered_map.proofs.Searches.{passes_root, path_child, get_leaf, get_below}
use Rattle.ordered_map.proofs.TreeFacts.{TreeFacts}
use Rattle.ordered_map.proofs.Edited.{root_side}
use Rattle.ordered_map.proofs.Grown.{IsGrown, planted, tree_facts, grown_tail}

-- the pairs are the items below 2 ^ 64
unfoldable pub low : List Pair → List Pair
low [] = []
low (p ∷ ps) = cond (ltb p.key (2 ^ 64)) (p ∷ low ps) (low ps)

low_join : (xs ys : List Pair) → low (xs ++ ys) ≡ low xs ++ low ys
unfolding low
low_join [] ys = refl
low_join (x ∷ xs) ys = go (ltb x.key (2 ^ 64)) (low_join xs ys)
  where
    go : (b : Bool) → low (xs ++ ys) ≡ low xs ++ low ys → cond b (x ∷ low (xs ++ ys)) (low (xs ++ ys)) ≡ cond b (x ∷ low xs) (low xs) ++ low ys
    go true e = ap (λ z. x ∷ z) e
    go false e = e

low_all : (xs : List Pair) → AllBelow (2 ^ 64) xs → low xs ≡ xs
unfolding low
low_all [] b = refl
low_all (x ∷ xs) b = rw (lt-ltb x.key (2 ^ 64) b.0) (ap (λ z. x ∷ z) (low_all xs b.1))

low_above : (k : ℕ) (xs : List Pair) → AllAbove k xs → AllAbove k (low xs)
unfolding low
low_above k [] a = tt
low_above k (x ∷ xs) a = go (ltb x.key (2 ^ 64)) (low_above k xs a.1)
  where
    go : (b : Bool) → AllAbove k (low xs) → AllAbove k (cond b (x ∷ low xs) (low xs))
    go true r = (a.0, r)
    go false r = r

pub low_rises : (xs : List Pair) → IsRising xs → IsRising (low xs)
unfolding low
low_rises [] r = tt
low_rises (x ∷ xs) r = go (ltb x.key (2 ^ 64)) (low_rises xs r.1)
  where
    go : (b : Bool) → IsRising (low xs) → IsRising (cond b (x ∷ low xs) (low xs))
    go true q = (low_above x.key xs r.0, q)
    go false q = q

low_ends : low ends ≡ []
unfolding low
low_ends = refl

low_none : (k v : ℕ) → 2 ^ 64 ≤ k → low (pair k v ∷ []) ≡ []
unfolding low
low_none k v l = rw (le-ltb k (2 ^ 64) l) refl

pub pairs_low : (f : Word → ℕ) (t : Tree) (lo hi : ℕ) → Shows f lo hi t → pairs f t ≡ low (items f t)
unfolding low
pairs_low f (Fork n a b) lo hi s = (λ i. pairs_low f a lo (rank f n) s.1 i ++ pairs_low f b (rank f n) hi s.2 i) ∙ sym (low_join (items f a) (items f b))
pairs_low f (Leaf n) lo hi s = go (ℕ_discrete (class f n) 0)
  where
    go : Dec (class f n ≡ 0) → leaf_pairs f n ≡ low (leaf_items f n)
    go (yes e) = low_pairs f n e ∙ sym (ap low (low_items f n e) ∙ low_all (held_pairs f n) (s.items.keys e).1)
    go (no d) = high_pairs f n d ∙ sym (ap low (high_items f n d) ∙ low_none (rank f n) 0 (omega (arith, d)))

-- the items rise
pub items_rise : (f : Word → ℕ) (t : Tree) (lo hi : ℕ) → Shows f lo hi t → IsRising (items f t)
items_rise f (Leaf n) lo hi s = s.items.rising
items_rise f (Fork n a b) lo hi s = rising_join (rank f n) (items f a) (items f b) (items_below f a lo (rank f n) (rank f n) s.1 (omega arith)) (items_rise f a lo (rank f n) s.1) (items_rise f b (rank f n) hi s.2) (λ k l. items_above f b (rank f n) hi k s.2 l)

rising_split : (xs ys : List Pair) (y : Pair) → IsRising (xs ++ y ∷ ys) → IsRising xs × AllBelow y.key xs
rising_split [] ys y r = (tt, tt)
rising_split (x ∷ xs) ys y r =
    let q : IsRising xs × AllBelow y.key xs = rising_split xs ys y r.1 in
    let a : AllAbove x.key xs × AllAbove x.key (y ∷ ys) = above_split x.key xs (y ∷ ys) r.0 in
    ((a.0, q.0), (a.1.0, q.1))

-- node 0 is a fork above all keys
pub grown_root : (calls : ℕ → MapEdit) (lay : Layout) (h : History) → IsGrown calls lay h → value h (node 0 (Settled Head)) ≡ 2
grown_root calls lay h g = (tree_facts calls lay h g).root_head

-- its right field never changes
right_stays : (calls : ℕ → MapEdit) (lay : Layout) (h : History) → IsGrown calls lay h → value h (child 0 Right) ≡ 2
right_stays calls lay (Opened o) g = (planted calls lay o g).right
right_stays calls lay (r ⊳ h) g = go (effect lay h r g.lawful) (right_stays calls lay h (grown_tail calls lay h r g))
  where
    f : Facts lay h
    f = facts_before lay h r g.lawful

    t : TreeFacts calls lay h
    t = tree_facts calls lay h (grown_tail calls lay h r g)

    head : value h (node 0 (Settled Head)) ≡ 2
    head = grown_root calls lay h (grown_tail calls lay h r g)

    go : Effect lay h r → value h (child 0 Right) ≡ 2 → value (r ⊳ h) (child 0 Right) ≡ 2
    go (quiet k) e = k.node 0 (Child Right) tt (opening_node (rw g.mode (omega arith))) ∙ e
    go (freeze s j w) e = freeze_keeps_field f w 0 Right ∙ e
    go (update s w) e = other (ℕ_discrete (member h s (field_index h s)) 0)
      where
        big : 2 ^ 64 ≤ rank (value h) 0
        big = omega (arith, head)

        other : Dec (member h s (field_index h s) ≡ 0) → value (r ⊳ h) (child 0 Right) ≡ 2
        other (no q) = update_keeps_other f w (child 0 Right) (node_apart (member h s (field_index h s)) 0 (Child (side_of (plan h s))) (Child Right) q) ∙ e
        other (yes q) =
            let d : side_of (plan h s) ≡ Left = root_side calls lay h r s f w g.mode g.lawful t q big in
            update_keeps_other f w (child 0 Right) (node_word_apart (member h s (field_index h s)) 0 (Child (side_of (plan h s))) (Child Right) (rw d refl)) ∙ e

-- the shape of the tree: node 0 over all, and leaf 2 on its right
record IsCrown (f : Word → ℕ) (t : Tree) : Type 0 where
  left : Tree
  is : t ≡ Fork 0 left (Leaf 2)
  shows : Shows f 0 (rank f 0) left

crown : (f : Word → ℕ) (t : Tree) → IsTree f t → is_leaf f 0 ≡ false → is_leaf f 2 ≡ true → f (child 0 Right) ≡ 2 → IsCrown f t
crown f (Leaf n) i d e r = absurd (let x : true ≡ false = sym i.shows.leaf ∙ rw (← i.is) at d in cc)
crown f (Fork n a (Fork m b c)) i d e r =
    let q : m ≡ 2 = sym i.shows.0.right ∙ rw (← i.is) at r in
    absurd (let x : true ≡ false = sym e ∙ rw q at i.shows.2.0.fork in cc)
crown f (Fork n a (Leaf m)) i d e r =
    let q : m ≡ 2 = sym i.shows.0.right ∙ rw (← i.is) at r in
    record { left = a; is = λ j. Fork (i.is j) a (Leaf (q j)); shows = rw i.is at i.shows.1 }

last_key : ℕ → List Pair → ℕ
last_key d [] = d
last_key d (p ∷ ps) = last_key p.key ps

last_is : (d : ℕ) (xs : List Pair) (p : Pair) → last_key d (xs ++ p ∷ []) ≡ p.key
unfolding last_key
last_is d [] p = refl
last_is d (x ∷ xs) p = last_is x.key xs p

last_in : (d hi : ℕ) (xs : List Pair) → d < hi → AllBelow hi xs → last_key d xs < hi
unfolding last_key
last_in d hi [] l b = l
last_in d hi (x ∷ xs) l b = last_in x.key hi xs b.0 b.1

last_below : (d hi : ℕ) (xs : List Pair) (p : Pair) (ps : List Pair) → AllBelow hi (p ∷ ps) → last_key d (xs ++ p ∷ ps) < hi
unfolding last_key
last_below d hi [] p ps b = last_in p.key hi ps b.0 b.1
last_below d hi (x ∷ xs) p ps b = last_below x.key hi xs p ps b

-- all but the last
but_last : {A : Type 0} → List A → List A
but_last [] = []
but_last (x ∷ []) = []
but_last (x ∷ y ∷ ys) = x ∷ but_last (y ∷ ys)

but_last_is : {A : Type 0} (xs : List A) (x : A) → but_last (xs ++ x ∷ []) ≡ xs
unfolding but_last
but_last_is [] x = refl
but_last_is (y ∷ []) x = refl
but_last_is (y ∷ z ∷ xs) x = ap (λ w. y ∷ w) (but_last_is (z ∷ xs) x)

-- lists that agree except for the last agree
pub front_same : {A : Type 0} (xs ys : List A) (x y : A) → xs ++ x ∷ [] ≡ ys ++ y ∷ [] → xs ≡ ys
front_same xs ys x y e = sym (but_last_is xs x) ∙ ap but_last e ∙ but_last_is ys y

-- the items of leaves
abbrev items_of : (Word → ℕ) → List ℕ → List Pair
items_of f [] = []
items_of f (n ∷ ns) = leaf_items f n ++ items_of f ns

items_of_join : (f : Word → ℕ) (ms ns : List ℕ) → items_of f (ms ++ ns) ≡ items_of f ms ++ items_of f ns
items_of_join f [] ns = refl
items_of_join f (m ∷ ms) ns = ap (λ z. leaf_items f m ++ z) (items_of_join f ms ns) ∙ sym (append_assoc (leaf_items f m) (items_of f ms) (items_of f ns))

items_leaves : (f : Word → ℕ) (t : Tree) → items f t ≡ items_of f (leaf_nodes t)
items_leaves f (Leaf n) = sym (append-nil (leaf_items f n))
items_leaves f (Fork n a b) = (λ i. items_leaves f a i ++ items_leaves f b i) ∙ sym (items_of_join f (leaf_nodes a) (leaf_nodes b))

-- leaves whose items are below 2 ^ 64 are of class 0
low_leaf : (f : Word → ℕ) (n : ℕ) → AllBelow (2 ^ 64) (leaf_items f n) → class f n ≡ 0
low_leaf f n b = go (ℕ_discrete (class f n) 0)
  where
    go : Dec (class f n ≡ 0) → class f n ≡ 0
    go (yes z) = z
    go (no d) = absurd (let x : rank f n < 2 ^ 64 = (subst (AllBelow (2 ^ 64)) (high_items f n d) b).0 in omega (arith, x, d))

low_leaves : (f : Word → ℕ) (ns : List ℕ) → AllBelow (2 ^ 64) (items_of f ns) → All (λ n. class f n ≡ 0) ns
low_leaves f [] b = All-nil (λ n. class f n ≡ 0)
low_leaves f (n ∷ ns) b = All-cons (λ n. class f n ≡ 0) n ns (low_leaf f n (below_left (2 ^ 64) (leaf_items f n) (items_of f ns) b)) (low_leaves f ns (below_right (2 ^ 64) (leaf_items f n) (items_of f ns) b))

-- a shown tree has a last leaf
record LastLeaf (f : Word → ℕ) (t : Tree) : Type 0 where
  others : List ℕ
  node_no : ℕ
  leaves_are : leaf_nodes t ≡ others ++ node_no ∷ []
  small : f (node node_no first_key) < 2 ^ 64
  keys : class f node_no ≡ 0 → AllBelow (2 ^ 64) (held_pairs f node_no)

last_leaf : (f : Word → ℕ) (t : Tree) (lo hi : ℕ) → Shows f lo hi t → LastLeaf f t
last_leaf f (Leaf n) lo hi s = record { others = []; node_no = n; leaves_are = refl; small = s.small; keys = λ z. (s.items.keys z).1 }
last_leaf f (Fork n a b) lo hi s =
    let x : LastLeaf f b = last_leaf f b (rank f n) hi s.2 in
    record {
      others = leaf_nodes a ++ x.others;
      node_no = x.node_no;
      leaves_are = ap (λ z. leaf_nodes a ++ z) x.leaves_are ∙ sym (append_assoc (leaf_nodes a) x.others (x.node_no ∷ []));
      small = x.small;
      keys = x.keys;
    }

pub spells : (calls : ℕ → MapEdit) (lay : Layout) (h : History) → IsGrown calls lay h → Spells lay (value h) (map_of_log calls (first_pairs h) (log lay h))
spells calls lay h g = record {
  tree = t.tree;
  is_tree = t.is_tree;
  inside = tree_inside lay h t.tree g.lawful t.is_tree;
  pairs = pairs_low (value h) t.tree _ _ t.is_tree.shows ∙ ap low t.items ∙ low_join (map_of_log calls (first_pairs h) (log lay h)) ends ∙ (λ i. low_all (map_of_log calls (first_pairs h) (log lay h)) risen.1 i ++ low_ends i) ∙ append-nil (map_of_log calls (first_pairs h) (log lay h));
  rising = risen.0;
  others = end.others;
  one = end.node_no;
  last = ap leaf_nodes c.is ∙ ap (λ z. z ++ (2 ∷ [])) end.leaves_are ∙ append_assoc end.others (end.node_no ∷ []) (2 ∷ []);
  low = low_leaves (value h) end.others (subst (AllBelow (2 ^ 64)) (sym others_items) risen.1);
  class_one = class_one;
  class_two = rw head_2 refl;
}
  where
    t : TreeFacts calls lay h
    t = tree_facts calls lay h g

    risen : IsRising (map_of_log calls (first_pairs h) (log lay h)) × AllBelow (2 ^ 64) (map_of_log calls (first_pairs h) (log lay h))
    risen = rising_split (map_of_log calls (first_pairs h) (log lay h)) (pair (2 * 2 ^ 64) 0 ∷ []) (pair (2 ^ 64) 0) (rw t.items at (items_rise (value h) t.tree _ _ t.is_tree.shows))

    head_0 : (value h) (node 0 (Settled Head)) ≡ 2
    head_0 = grown_root calls lay h g

    head_2 : (value h) (node 2 (Settled Head)) ≡ 14
    head_2 = t.last_head

    key_2 : (value h) (node 2 first_key) ≡ 0
    key_2 = t.last_key

    item_2 : leaf_items (value h) 2 ≡ pair (2 * 2 ^ 64) 0 ∷ []
    item_2 = high_items (value h) 2 (λ z. omega (arith, z, head_2)) ∙ (λ i. pair (head_2 i % 4 * 2 ^ 64 + key_2 i) 0 ∷ [])

    c : IsCrown (value h) t.tree
    c = crown (value h) t.tree t.is_tree (rw head_0 refl) (rw head_2 refl) (right_stays calls lay h g)

    end : LastLeaf (value h) c.left
    end = last_leaf (value h) c.left _ _ c.shows

    left_items : items (value h) c.left ≡ (map_of_log calls (first_pairs h) (log lay h)) ++ (pair (2 ^ 64) 0 ∷ [])
    left_items =
        let x : items (value h) c.left ++ (pair (2 * 2 ^ 64) 0 ∷ []) ≡ (map_of_log calls (first_pairs h) (log lay h)) ++ ends = ap (λ z. items (value h) c.left ++ z) (sym item_2) ∙ sym (ap (items (value h)) c.is) ∙ t.items in
        append_cancel_right (items (value h) c.left) ((map_of_log calls (first_pairs h) (log lay h)) ++ (pair (2 ^ 64) 0 ∷ [])) (pair (2 * 2 ^ 64) 0 ∷ []) (x ∙ sym (append_assoc (map_of_log calls (first_pairs h) (log lay h)) (pair (2 ^ 64) 0 ∷ []) (pair (2 * 2 ^ 64) 0 ∷ [])))

    end_items : items_of (value h) end.others ++ leaf_items (value h) end.node_no ≡ map_of_log calls (first_pairs h) (log lay h) ++ (pair (2 ^ 64) 0 ∷ [])
    end_items =
        ap (λ z. items_of (value h) end.others ++ z) (sym (append-nil (leaf_items (value h) end.node_no)))
        ∙ sym (items_of_join (value h) end.others (end.node_no ∷ [])) ∙ ap (items_of (value h)) (sym end.leaves_are) ∙ sym (items_leaves (value h) c.left) ∙ left_items

    -- the last of them is no leaf of the map: all keys of such a leaf are below 2 ^ 64
    high_one : class (value h) end.node_no ≢ 0
    high_one z =
        let x = held_first (value h) end.node_no in
        let first : Pair = pair (value h (node end.node_no first_key)) x.value in
        let e : items_of (value h) end.others ++ first ∷ x.rest ≡ map_of_log calls (first_pairs h) (log lay h) ++ pair (2 ^ 64) 0 ∷ [] = ap (λ ps. items_of (value h) end.others ++ ps) (sym (low_items (value h) end.node_no z ∙ x.is)) ∙ end_items in
        let l : last_key 0 (items_of (value h) end.others ++ first ∷ x.rest) < 2 ^ 64 = last_below 0 (2 ^ 64) (items_of (value h) end.others) first x.rest (subst (AllBelow (2 ^ 64)) x.is (end.keys z)) in
        let q : last_key 0 (items_of (value h) end.others ++ first ∷ x.rest) ≡ 2 ^ 64 = ap (last_key 0) e ∙ last_is 0 (map_of_log calls (first_pairs h) (log lay h)) (pair (2 ^ 64) 0) in
        omega (arith, l, q)

    one_item_left : items_of (value h) end.others ++ pair (rank (value h) end.node_no) 0 ∷ [] ≡ map_of_log calls (first_pairs h) (log lay h) ++ pair (2 ^ 64) 0 ∷ []
    one_item_left = ap (λ ps. items_of (value h) end.others ++ ps) (sym (high_items (value h) end.node_no high_one)) ∙ end_items

    others_items : items_of (value h) end.others ≡ map_of_log calls (first_pairs h) (log lay h)
    others_items = front_same (items_of (value h) end.others) (map_of_log calls (first_pairs h) (log lay h)) (pair (rank (value h) end.node_no) 0) (pair (2 ^ 64) 0) one_item_left

    rank_one : rank (value h) end.node_no ≡ 2 ^ 64
    rank_one =
        sym (last_is 0 (items_of (value h) end.others) (pair (rank (value h) end.node_no) 0))
        ∙ ap (last_key 0) one_item_left
        ∙ last_is 0 (map_of_log calls (first_pairs h) (log lay h)) (pair (2 ^ 64) 0)

    class_one : class (value h) end.node_no ≡ 1
    class_one = let r = rank_one in let k = end.small in omega (arith, r, k)

-- The leaf below the root

some_found : (k v : ℕ) (xs ys : List Pair) → get k (xs ++ pair k v ∷ ys) ≡ None → ⊥
some_found k v [] ys e = let q : eqb k k ≡ true = eq-eqb k k refl in let x : Some v ≡ None = sym (rw q refl) ∙ e in absurd (cc)
some_found k v (x ∷ xs) ys e = go (eqb k x.key) e (some_found k v xs ys)
  where
    go : (b : Bool) → cond b (Some x.value) (get k (xs ++ pair k v ∷ ys)) ≡ None → (get k (xs ++ pair k v ∷ ys) ≡ None → ⊥) → ⊥
    go true e more = absurd (let q : Some x.value ≡ None = e in cc)
    go false e more = more e

-- where the root's left child is a leaf, it is that of class 1
pub root_leaf : (calls : ℕ → MapEdit) (lay : Layout) (h : History) → IsGrown calls lay h → is_leaf (value h) (value h (child 0 Left)) ≡ true → class (value h) (value h (child 0 Left)) ≡ 0 → ⊥
root_leaf calls lay h g leaf low = some_found (2 ^ 64) 0 (map_of_log calls (first_pairs h) (log lay h)) (pair (2 * 2 ^ 64) 0 ∷ []) none
  where
    t : TreeFacts calls lay h
    t = tree_facts calls lay h g

    head : value h (node 0 (Settled Head)) ≡ 2
    head = grown_root calls lay h g

    below : 2 ^ 64 < rank (value h) 0
    below = omega (arith, head)

    left : toward (value h) 0 (2 ^ 64) ≡ Left
    left = rw (lt-ltb (2 ^ 64) (rank (value h) 0) below) refl

    at_root : Passes (value h) (2 ^ 64) t.tree 0
    at_root = subst (Passes (value h) (2 ^ 64) t.tree) t.is_tree.is (passes_root (value h) (2 ^ 64) t.tree)

    at_child : Passes (value h) (2 ^ 64) t.tree (value h (child 0 Left))
    at_child = subst (λ s. Passes (value h) (2 ^ 64) t.tree (value h (child 0 s))) left (path_child (value h) (2 ^ 64) t.tree _ _ 0 t.is_tree.shows at_root (rw head refl))

    keys : AllBelow (2 ^ 64) (held_pairs (value h) (value h (child 0 Left)))
    keys =
        let x = shown_leaf (value h) t.tree _ _ _ t.is_tree.shows (passes_has (value h) (2 ^ 64) t.tree _ at_child) leaf in
        (x.2.items.keys low).1

    none : get (2 ^ 64) (map_of_log calls (first_pairs h) (log lay h) ++ pair (2 ^ 64) 0 ∷ pair (2 * 2 ^ 64) 0 ∷ []) ≡ None
    none =
        ap (get (2 ^ 64)) (sym t.items) ∙ get_leaf (value h) (2 ^ 64) t.tree _ _ (value h (child 0 Left)) t.is_tree.shows at_child leaf
        ∙ ap (get (2 ^ 64)) (low_items (value h) (value h (child 0 Left)) low) ∙ get_below (2 ^ 64) (held_pairs (value h) (value h (child 0 Left))) keys

-- each key is on the left of the root
pub root_left : (calls : ℕ → MapEdit) (lay : Layout) (h : History) (k : ℕ) → IsGrown calls lay h → k < 2 ^ 64 → toward (value h) 0 k ≡ Left
root_left calls lay h k g small = rw (lt-ltb k (rank (value h) 0) (let e = grown_root calls lay h g in omega (arith, e, small))) refl
