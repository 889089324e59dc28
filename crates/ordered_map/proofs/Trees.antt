-- One word of a shown tree is changed, and the words show another tree.
use Rattle.std.proofs.Common.{◌≡◌, ◌≢◌, ℕ, ◌+◌, ◌*◌, ◌/◌, ◌%◌, ◌^◌, ◌<◌, ◌≤◌, Bool, true, false, cond, ◌⊎◌, inl, inr, ⊎_elim, List, [], ◌∷◌, ◌++◌, refl, sym, ◌∙◌, ap, arith, eqb, ltb, lt-ltb, le-ltb, ne_eqb, subst}
use Rattle.histories.specs.Common.{Side, Left, Right, NodeWord, Settled, Child, Head, Word, node, child, same_word, first_key}
use Rattle.arena.proofs.Lemmas.{node_word_apart, node_apart}
use Rattle.histories.proofs.Lemmas.{IsNodeFill}
use Rattle.ordered_map.specs.declared.pair.Pair.{Pair}
use Rattle.ordered_map.specs.OrderedMap.{pair, AllAbove, AllBelow, insert, delete, MapEdit, Insert, Delete, edit_key, edited}
use Rattle.ordered_map.proofs.Lists.{above_join, below_join, above_from, below_more}
use Rattle.ordered_map.proofs.Holding.{SameSettled, rank_from, rank_below, wider_leaf, same_leaf, same_items}
pub use Rattle.ordered_map.specs.Planted.{items, ends, last_leaf, EndsLow}
use Rattle.ordered_map.specs.TreeWords.{class, is_leaf, level, rank, toward, leaf_items, Tree, Leaf, Fork, root, IsForkOver, IsLeaf, Shows, Has, Passes}

-- what is proved of the pairs is proved of all items first

pub split_at : (k m : ℕ) → (k < m) ⊎ (m ≤ k)
split_at k m = grind arith

-- A shown tree is never empty: it has a leaf between its bounds
pub open_between : (f : Word → ℕ) (t : Tree) (lo hi : ℕ) → Shows f lo hi t → lo < hi
open_between f (Leaf n) lo hi s =
    let x = s.items in
    let from : lo ≤ rank f n = rank_from f n lo hi x in
    let below : rank f n < hi = rank_below f n lo hi x in
    omega (arith, from, below)
open_between f (Fork n a b) lo hi s =
    let x : lo < rank f n = open_between f a lo (rank f n) s.1 in
    let y : rank f n < hi = open_between f b (rank f n) hi s.2 in
    omega (arith, x, y)

-- the words determine the tree
pub same_tree : (f : Word → ℕ) (t u : Tree) (lo hi low high : ℕ) → Shows f lo hi t → Shows f low high u → root t ≡ root u → t ≡ u
same_tree f (Leaf n) (Leaf m) lo hi low high s r e = ap Leaf e
same_tree f (Leaf n) (Fork m a b) lo hi low high s r e = absurd (let x : true ≡ false = sym s.leaf ∙ rw e r.0.fork in cc)
same_tree f (Fork n a b) (Leaf m) lo hi low high s r e = absurd (let x : true ≡ false = sym r.leaf ∙ rw (← e) s.0.fork in cc)
same_tree f (Fork n a b) (Fork m c d) lo hi low high s r e =
    let x : a ≡ c = same_tree f a c lo (rank f n) low (rank f m) s.1 r.1 (sym s.0.left ∙ rw e r.0.left) in
    let y : b ≡ d = same_tree f b d (rank f n) hi (rank f m) high s.2 r.2 (sym s.0.right ∙ rw e r.0.right) in
    λ i. Fork (e i) (x i) (y i)

-- a leaf of a shown tree has its items between some bounds
pub shown_leaf : (f : Word → ℕ) (t : Tree) (lo hi n : ℕ) → Shows f lo hi t → Has t n → is_leaf f n ≡ true → (low high : ℕ) × IsLeaf f n low high
shown_leaf f (Leaf m) lo hi n s e d = (lo, hi, subst (λ k. IsLeaf f k lo hi) e s)
shown_leaf f (Fork m a b) lo hi n s (inl e) d = absurd (let x : true ≡ false = sym d ∙ rw (← e) s.0.fork in cc)
shown_leaf f (Fork m a b) lo hi n s (inr (inl q)) d = shown_leaf f a lo (rank f m) n s.1 q d
shown_leaf f (Fork m a b) lo hi n s (inr (inr q)) d = shown_leaf f b (rank f m) hi n s.2 q d

-- the part of a shown tree below one of its nodes
pub record IsPart (f : Word → ℕ) (t : Tree) (lo hi p : ℕ) : Type 0 where
  pub tree : Tree
  pub low : ℕ
  pub high : ℕ
  pub shows : Shows f low high tree
  pub is : root tree ≡ p
  pub from : lo ≤ low
  pub to : high ≤ hi
  pub deeper : level f (root t) ≤ level f p

pub part_of : (f : Word → ℕ) (t : Tree) (lo hi p : ℕ) → Shows f lo hi t → Has t p → IsPart f t lo hi p
part_of f (Leaf n) lo hi p s h = record { tree = Leaf n; low = lo; high = hi; shows = s; is = h; from = omega arith; to = omega arith; deeper = rw h (omega arith) }
part_of f (Fork n a b) lo hi p s (inl h) = record { tree = Fork n a b; low = lo; high = hi; shows = s; is = h; from = omega arith; to = omega arith; deeper = rw h (omega arith) }
part_of f (Fork n a b) lo hi p s (inr (inl h)) =
    let x : IsPart f a lo (rank f n) p = part_of f a lo (rank f n) p s.1 h in
    let y : rank f n < hi = open_between f b (rank f n) hi s.2 in
    record { tree = x.tree; low = x.low; high = x.high; shows = x.shows; is = x.is; from = x.from; to = omega (arith, x.to, y); deeper = omega (arith, x.deeper, s.0.low) }
part_of f (Fork n a b) lo hi p s (inr (inr h)) =
    let x : IsPart f b (rank f n) hi p = part_of f b (rank f n) hi p s.2 h in
    let y : lo < rank f n = open_between f a lo (rank f n) s.1 in
    record { tree = x.tree; low = x.low; high = x.high; shows = x.shows; is = x.is; from = omega (arith, x.from, y); to = x.to; deeper = omega (arith, x.deeper, s.0.high) }

-- the bounds of one tree are not apart
overlap : (f : Word → ℕ) (t : Tree) (lo hi low high : ℕ) → Shows f lo hi t → Shows f low high t → low < hi
overlap f (Leaf n) lo hi low high s r =
    let x : rank f n < hi = rank_below f n lo hi s.items in
    let y : low ≤ rank f n = rank_from f n low high r.items in
    omega (arith, x, y)
overlap f (Fork n a b) lo hi low high s r =
    let x : rank f n < hi = open_between f b (rank f n) hi s.2 in
    let y : low < rank f n = open_between f a low (rank f n) r.1 in
    omega (arith, x, y)

-- all nodes of a shown tree are below the upper bound
pub node_below : (f : Word → ℕ) (t : Tree) (lo hi n : ℕ) → Shows f lo hi t → Has t n → rank f n < hi
node_below f (Leaf m) lo hi n s e = rw (← e) (rank_below f m lo hi s.items)
node_below f (Fork m a b) lo hi n s (inl e) = rw (← e) (open_between f b (rank f m) hi s.2)
node_below f (Fork m a b) lo hi n s (inr (inl q)) =
    let x : rank f n < rank f m = node_below f a lo (rank f m) n s.1 q in
    let y : rank f m < hi = open_between f b (rank f m) hi s.2 in
    omega (arith, x, y)
node_below f (Fork m a b) lo hi n s (inr (inr q)) = node_below f b (rank f m) hi n s.2 q

-- no node is on both sides
pub apart : (f : Word → ℕ) (a b : Tree) (lo m hi p : ℕ) → Shows f lo m a → Shows f m hi b → Has a p → Has b p → ⊥
apart f a b lo m hi p s r h i = go (part_of f a lo m p s h) (part_of f b m hi p r i)
  where
    go : IsPart f a lo m p → IsPart f b m hi p → ⊥
    go x y =
        let e : x.tree ≡ y.tree = same_tree f x.tree y.tree x.low x.high y.low y.high x.shows y.shows (x.is ∙ sym y.is) in
        let z : y.low < x.high = overlap f x.tree x.low x.high y.low y.high x.shows (subst (Shows f y.low y.high) (sym e) y.shows) in
        omega (arith, z, x.to, y.from)

-- no node is below itself
pub not_below : (f : Word → ℕ) (t : Tree) (lo hi p : ℕ) → Shows f lo hi t → level f p < level f (root t) → Has t p → ⊥
not_below f t lo hi p s l h = let x : level f (root t) ≤ level f p = (part_of f t lo hi p s h).deeper in omega arith

pub wider : (f : Word → ℕ) (t : Tree) (lo hi low high : ℕ) → low ≤ lo → hi ≤ high → Shows f lo hi t → Shows f low high t
wider f (Leaf n) lo hi low high a b s = wider_leaf f n lo hi low high a b s
wider f (Fork n c d) lo hi low high a b s = (s.0, wider f c lo (rank f n) low (rank f n) a (omega arith) s.1, wider f d (rank f n) hi (rank f n) high (omega arith) b s.2)

-- Words that stay

abbrev pub Same : (Word → ℕ) → (Word → ℕ) → ℕ → Type 0
Same f g n = (a : NodeWord) → IsNodeFill a → g (node n a) ≡ f (node n a)

pub same_rank : (f g : Word → ℕ) (n : ℕ) → Same f g n → rank g n ≡ rank f n
same_rank f g n e = λ i. e (Settled Head) tt i % 4 * 2 ^ 64 + e first_key tt i

pub settled_same : (f g : Word → ℕ) (n : ℕ) → Same f g n → SameSettled f g n
settled_same f g n e (Settled part) i = e (Settled part) tt
settled_same f g n e _ i = absurd i

pub has_root : (t : Tree) → Has t (root t)
has_root (Leaf n) = refl
has_root (Fork n a b) = inl refl

still_over : (f g : Word → ℕ) (n : ℕ) (a b : Tree) → ((m : ℕ) → Has (Fork n a b) m → Same f g m) → IsForkOver f n a b → IsForkOver g n a b
still_over f g n a b e s =
    let h : g (node n (Settled Head)) ≡ f (node n (Settled Head)) = e n (inl refl) (Settled Head) tt in
    let ha : g (node (root a) (Settled Head)) ≡ f (node (root a) (Settled Head)) = e (root a) (inr (inl (has_root a))) (Settled Head) tt in
    let hb : g (node (root b) (Settled Head)) ≡ f (node (root b) (Settled Head)) = e (root b) (inr (inr (has_root b))) (Settled Head) tt in
    record {
      fork = rw h s.fork;
      left = e n (inl refl) (Child Left) tt ∙ s.left;
      right = e n (inl refl) (Child Right) tt ∙ s.right;
      low = rw (h, ha) s.low;
      high = rw (h, hb) s.high;
    }

pub frame : (f g : Word → ℕ) (t : Tree) (lo hi : ℕ) → ((n : ℕ) → Has t n → Same f g n) → Shows f lo hi t → Shows g lo hi t
frame f g (Leaf n) lo hi e s = same_leaf f g n lo hi (settled_same f g n (e n refl)) s
frame f g (Fork n a b) lo hi e s =
    let r : rank g n ≡ rank f n = same_rank f g n (e n (inl refl)) in
    let x : Shows g lo (rank f n) a = frame f g a lo (rank f n) (λ m h. e m (inr (inl h))) s.1 in
    let y : Shows g (rank f n) hi b = frame f g b (rank f n) hi (λ m h. e m (inr (inr h))) s.2 in
    (still_over f g n a b e s.0, subst (λ v. Shows g lo v a) (sym r) x, subst (λ v. Shows g v hi b) (sym r) y)

pub frame_items : (f g : Word → ℕ) (t : Tree) → ((n : ℕ) → Has t n → Same f g n) → items g t ≡ items f t
frame_items f g (Leaf n) e = same_items f g n (settled_same f g n (e n refl))
frame_items f g (Fork n a b) e =
    let x : items g a ≡ items f a = frame_items f g a (λ m h. e m (inr (inl h))) in
    let y : items g b ≡ items f b = frame_items f g b (λ m h. e m (inr (inr h))) in
    λ i. x i ++ y i

pub frame_path : (f g : Word → ℕ) (k : ℕ) (t : Tree) (m : ℕ) → ((n : ℕ) → Has t n → Same f g n) → Passes f k t m → Passes g k t m
frame_path f g k (Leaf n) m e p = p
frame_path f g k (Fork n a b) m e (inl p) = inl p
frame_path f g k (Fork n a b) m e (inr (inl p)) = let r : rank g n ≡ rank f n = same_rank f g n (e n (inl refl)) in inr (inl (rw r p.0, frame_path f g k a m (λ m h. e m (inr (inl h))) p.1))
frame_path f g k (Fork n a b) m e (inr (inr p)) = let r : rank g n ≡ rank f n = same_rank f g n (e n (inl refl)) in inr (inr (rw r p.0, frame_path f g k b m (λ m h. e m (inr (inr h))) p.1))

pub passes_has : (f : Word → ℕ) (k : ℕ) (t : Tree) (m : ℕ) → Passes f k t m → Has t m
passes_has f k (Leaf n) m p = p
passes_has f k (Fork n a b) m (inl p) = inl p
passes_has f k (Fork n a b) m (inr (inl p)) = inr (inl (passes_has f k a m p.1))
passes_has f k (Fork n a b) m (inr (inr p)) = inr (inr (passes_has f k b m p.1))

pub has_last : (t : Tree) → Has t (last_leaf t)
has_last (Leaf n) = refl
has_last (Fork n a b) = inr (inr (has_last b))

pub same_class : (f g : Word → ℕ) (n : ℕ) → Same f g n → class g n ≡ class f n
same_class f g n e = ap (λ v. v % 4) (e (Settled Head) tt)

pub frame_low : (f g : Word → ℕ) (t : Tree) → ((n : ℕ) → Has t n → Same f g n) → EndsLow f t → EndsLow g t
frame_low f g (Leaf n) e s = tt
frame_low f g (Fork n a b) e s = (
  λ z. same_class f g (last_leaf b) (e (last_leaf b) (inr (inr (has_last b)))) ∙ s.0 (sym (same_class f g n (e n (inl refl))) ∙ z),
  frame_low f g a (λ m h. e m (inr (inl h))) s.1,
  frame_low f g b (λ m h. e m (inr (inr h))) s.2,
)

-- a field of a fork of the tree holds the node
pub record IsBelowFork (f : Word → ℕ) (t : Tree) (n : ℕ) : Type 0 where
  pub fork : ℕ
  pub side : Side
  pub has : Has t fork
  pub kind : is_leaf f fork ≡ false
  pub holds : f (child fork side) ≡ n

-- each node but the one on top is below a fork
pub has_above : (f : Word → ℕ) (t : Tree) (lo hi n : ℕ) → Shows f lo hi t → Has t n → (n ≡ root t) ⊎ IsBelowFork f t n
has_above f (Leaf m) lo hi n s e = inl (sym e)
has_above f (Fork m a b) lo hi n s (inl e) = inl (sym e)
has_above f (Fork m a b) lo hi n s (inr (inl x)) = ⊎_elim
    (λ e. inr record { fork = m; side = Left; has = inl refl; kind = s.0.fork; holds = s.0.left ∙ sym e })
    (λ y. inr record { fork = y.fork; side = y.side; has = inr (inl y.has); kind = y.kind; holds = y.holds })
    (has_above f a lo (rank f m) n s.1 x)
has_above f (Fork m a b) lo hi n s (inr (inr x)) = ⊎_elim
    (λ e. inr record { fork = m; side = Right; has = inl refl; kind = s.0.fork; holds = s.0.right ∙ sym e })
    (λ y. inr record { fork = y.fork; side = y.side; has = inr (inr y.has); kind = y.kind; holds = y.holds })
    (has_above f b (rank f m) hi n s.2 x)

-- the children of a fork are two nodes
pub fields_apart : (f : Word → ℕ) (t : Tree) (lo hi n : ℕ) → Shows f lo hi t → Has t n → is_leaf f n ≡ false → f (child n Left) ≢ f (child n Right)
fields_apart f (Leaf m) lo hi n s e fork q = let x : true ≡ false = sym s.leaf ∙ subst (λ k. is_leaf f k ≡ false) (sym e) fork in cc
fields_apart f (Fork m a b) lo hi n s (inl e) fork q =
    let same : root a ≡ root b = sym s.0.left ∙ subst (λ k. f (child k Left) ≡ f (child k Right)) (sym e) q ∙ s.0.right in
    apart f a b lo (rank f m) hi (root a) s.1 s.2 (has_root a) (subst (λ k. Has b k) (sym same) (has_root b))
fields_apart f (Fork m a b) lo hi n s (inr (inl x)) fork q = fields_apart f a lo (rank f m) n s.1 x fork q
fields_apart f (Fork m a b) lo hi n s (inr (inr x)) fork q = fields_apart f b (rank f m) hi n s.2 x fork q

-- the children of a fork of the tree are in the tree, on levels above its own
pub path_level : (f : Word → ℕ) (t : Tree) (lo hi n : ℕ) (side : Side) → Shows f lo hi t → Has t n → is_leaf f n ≡ false → (level f n < level f (f (child n side))) × Has t (f (child n side))
path_level f (Leaf m) lo hi n side s e d = absurd (let x : true ≡ false = sym s.leaf ∙ rw (← e) at d in cc)
path_level f (Fork m a b) lo hi n Left s (inl e) d =
    let q : f (child n Left) ≡ root a = rw (← e) s.0.left in
    rw (q, ← e) (s.0.low, inr (inl (has_root a)))
path_level f (Fork m a b) lo hi n Right s (inl e) d =
    let q : f (child n Right) ≡ root b = rw (← e) s.0.right in
    rw (q, ← e) (s.0.high, inr (inr (has_root b)))
path_level f (Fork m a b) lo hi n side s (inr (inl h)) d = let x : (level f n < level f (f (child n side))) × Has a (f (child n side)) = path_level f a lo (rank f m) n side s.1 h d in (x.0, inr (inl x.1))
path_level f (Fork m a b) lo hi n side s (inr (inr h)) d = let x : (level f n < level f (f (child n side))) × Has b (f (child n side)) = path_level f b (rank f m) hi n side s.2 h d in (x.0, inr (inr x.1))

-- Changes of a map that are local to a key

pub items_above : (f : Word → ℕ) (t : Tree) (lo hi k : ℕ) → Shows f lo hi t → k < lo → AllAbove k (items f t)
items_above f (Leaf n) lo hi k s l = above_from k lo (leaf_items f n) l s.items.from
items_above f (Fork n a b) lo hi k s l =
    let x : lo < rank f n = open_between f a lo (rank f n) s.1 in
    above_join k (items f a) (items f b) (items_above f a lo (rank f n) k s.1 l) (items_above f b (rank f n) hi k s.2 (omega (arith, x, l)))

pub items_below : (f : Word → ℕ) (t : Tree) (lo hi k : ℕ) → Shows f lo hi t → hi ≤ k → AllBelow k (items f t)
items_below f (Leaf n) lo hi k s l = below_more hi k (leaf_items f n) l s.items.below
items_below f (Fork n a b) lo hi k s l =
    let x : rank f n < hi = open_between f b (rank f n) hi s.2 in
    below_join k (items f a) (items f b) (items_below f a lo (rank f n) k s.1 (omega (arith, x, l))) (items_below f b (rank f n) hi k s.2 l)

pub record IsLocal (k : ℕ) (g : List Pair → List Pair) : Type 0 where
  pub left : (xs ys : List Pair) → AllAbove k ys → g (xs ++ ys) ≡ g xs ++ ys
  pub right : (xs ys : List Pair) → AllBelow k xs → g (xs ++ ys) ≡ xs ++ g ys

insert_above : (k v : ℕ) (ys : List Pair) → AllAbove k ys → insert k v ys ≡ pair k v ∷ ys
insert_above k v [] a = refl
insert_above k v (y ∷ ys) a = rw (lt-ltb k y.key a.0) refl

insert_left : (k v : ℕ) (xs ys : List Pair) → AllAbove k ys → insert k v (xs ++ ys) ≡ insert k v xs ++ ys
insert_left k v [] ys a = insert_above k v ys a
insert_left k v (x ∷ xs) ys a = go (ltb k x.key) (eqb k x.key) (insert_left k v xs ys a)
  where
    go : (b c : Bool) → insert k v (xs ++ ys) ≡ insert k v xs ++ ys
        → cond b (pair k v ∷ x ∷ (xs ++ ys)) (cond c (pair k v ∷ (xs ++ ys)) (x ∷ insert k v (xs ++ ys)))
        ≡ cond b (pair k v ∷ x ∷ xs) (cond c (pair k v ∷ xs) (x ∷ insert k v xs)) ++ ys
    go true c e = refl
    go false true e = refl
    go false false e = ap (λ z. x ∷ z) e

insert_right : (k v : ℕ) (xs ys : List Pair) → AllBelow k xs → insert k v (xs ++ ys) ≡ xs ++ insert k v ys
insert_right k v [] ys a = refl
insert_right k v (x ∷ xs) ys a =
    let p : ltb k x.key ≡ false = le-ltb k x.key (omega (arith, a.0)) in
    let q : eqb k x.key ≡ false = ne_eqb k x.key (λ e. omega (arith, a.0, e)) in
    rw (p, q) (ap (λ z. x ∷ z) (insert_right k v xs ys a.1))

delete_above : (k : ℕ) (ys : List Pair) → AllAbove k ys → delete k ys ≡ ys
delete_above k [] a = refl
delete_above k (y ∷ ys) a =
    let q : eqb k y.key ≡ false = ne_eqb k y.key (λ e. omega (arith, a.0, e)) in
    rw q (ap (λ z. y ∷ z) (delete_above k ys a.1))

delete_left : (k : ℕ) (xs ys : List Pair) → AllAbove k ys → delete k (xs ++ ys) ≡ delete k xs ++ ys
delete_left k [] ys a = delete_above k ys a
delete_left k (x ∷ xs) ys a = go (eqb k x.key) (delete_left k xs ys a)
  where
    go : (c : Bool) → delete k (xs ++ ys) ≡ delete k xs ++ ys → cond c (xs ++ ys) (x ∷ delete k (xs ++ ys)) ≡ cond c xs (x ∷ delete k xs) ++ ys
    go true e = refl
    go false e = ap (λ z. x ∷ z) e

delete_right : (k : ℕ) (xs ys : List Pair) → AllBelow k xs → delete k (xs ++ ys) ≡ xs ++ delete k ys
delete_right k [] ys a = refl
delete_right k (x ∷ xs) ys a =
    let q : eqb k x.key ≡ false = ne_eqb k x.key (λ e. omega (arith, a.0, e)) in
    rw q (ap (λ z. x ∷ z) (delete_right k xs ys a.1))

pub edited_local : (e : MapEdit) → IsLocal (edit_key e) (edited e)
edited_local (Insert k v) = record { left = insert_left k v; right = insert_right k v }
edited_local (Delete k) = record { left = delete_left k; right = delete_right k }

-- A subtree is replaced

-- what the words `g` show in the place of the tree `a` of the words `f`; a node stays on the path
-- of each key that stays with it
pub record Replaced (f g : Word → ℕ) (change : List Pair → List Pair) (Stays : ℕ → ℕ → Type 0) (Gone Made : ℕ → Type 0) (new lo hi : ℕ) (a : Tree) : Type 0 where
  pub tree : Tree
  pub shows : Shows g lo hi tree
  pub is : root tree ≡ new
  pub items : items g tree ≡ change (items f a)
  pub ends : class g (last_leaf tree) ≡ class f (last_leaf a)
  pub low : EndsLow g tree
  pub paths : (j n : ℕ) → Stays j n → Passes f j a n → Passes g j tree n ⊎ Gone n
  pub made : (n : ℕ) → Has tree n → Has a n ⊎ Made n
  pub out : (n : ℕ) → Gone n → Has a n × ¬ Has tree n

module _ (f g : Word → ℕ) (k p old new : ℕ) (change : List Pair → List Pair) (Stays : ℕ → ℕ → Type 0) (In Gone Made : ℕ → Type 0) (local : IsLocal k change)
    (fork : is_leaf f p ≡ false)
    (was : f (child p (toward f p k)) ≡ old)
    (now : g (child p (toward f p k)) ≡ new)
    (stays : (w : Word) → same_word (child p (toward f p k)) w ≡ false → g w ≡ f w)
    (deep : level f p < level f new)
    (edit : (lo hi : ℕ) (a : Tree) → lo ≤ k → k < hi → Shows f lo hi a → EndsLow f a → ((n : ℕ) → Has a n → In n) → root a ≡ old → ¬ Has a p → Replaced f g change Stays Gone Made new lo hi a) where
  off : (n : ℕ) → p ≢ n → Same f g n
  off n d a i = stays (node n a) (node_apart p n (Child (toward f p k)) a d)

  off_tree : (t : Tree) → ¬ Has t p → (n : ℕ) → Has t n → Same f g n
  off_tree t d n h = off n (λ e. d (rw (← e) at h))

  head_stays : (n : ℕ) → g (node n (Settled Head)) ≡ f (node n (Settled Head))
  head_stays n = stays (node n (Settled Head)) (node_word_apart p n (Child (toward f p k)) (Settled Head) refl)

  rank_stays : (n : ℕ) → rank g n ≡ rank f n
  rank_stays n =
      let e : g (node n first_key) ≡ f (node n first_key) = stays (node n first_key) (node_word_apart p n (Child (toward f p k)) first_key refl) in
      λ i. head_stays n i % 4 * 2 ^ 64 + e i

  rank_moves : (n : ℕ) (P : ℕ → Type 0) → P (rank f n) → P (rank g n)
  rank_moves n P x = subst P (sym (rank_stays n)) x

  level_stays : (n : ℕ) → level g n ≡ level f n
  level_stays n = ap (λ v. v / 8) (head_stays n)

  class_stays : (n : ℕ) → class g n ≡ class f n
  class_stays n = ap (λ v. v % 4) (head_stays n)

  -- the subtree on the left of n is replaced, the right one stays
  on_left : (n lo hi : ℕ) (a b : Tree) → k < rank f n → Shows f lo hi (Fork n a b) → EndsLow f (Fork n a b) → ¬ Has b p → (new_a : ℕ) → level f n < level f new_a → g (child n Left) ≡ new_a → g (child n Right) ≡ f (child n Right) → Replaced f g change Stays Gone Made new_a lo (rank f n) a → Replaced f g change Stays Gone Made n lo hi (Fork n a b)
  on_left n lo hi a b l s e d new_a above at right x = record {
    tree = Fork n x.tree b;
    shows = (over, rank_moves n (λ v. Shows g lo v x.tree) x.shows, rank_moves n (λ v. Shows g v hi b) (frame f g b (rank f n) hi (off_tree b d) s.2));
    is = refl;
    items = (λ i. x.items i ++ frame_items f g b (off_tree b d) i) ∙ sym (local.left (items f a) (items f b) (items_above f b (rank f n) hi k s.2 l));
    ends = class_stays (last_leaf b);
    low = (λ z. class_stays (last_leaf b) ∙ e.0 (sym (class_stays n) ∙ z), x.low, frame_low f g b (off_tree b d) e.2);
    paths = paths;
    made = made;
    out = λ m c. (inr (inl (x.out m c).0), gone m c);
  }
    where
      over : IsForkOver g n x.tree b
      over =
          let e : level g n ≡ level f n = level_stays n in
          let eb : level g (root b) ≡ level f (root b) = level_stays (root b) in
          let ea : level g (root x.tree) ≡ level f new_a = ap (level g) x.is ∙ level_stays new_a in
          record {
            fork = rw (head_stays n) s.0.fork;
            left = at ∙ sym x.is;
            right = right ∙ s.0.right;
            low = omega (arith, e, ea, above);
            high = omega (arith, e, eb, s.0.high);
          }

      paths : (j m : ℕ) → Stays j m → Passes f j (Fork n a b) m → Passes g j (Fork n x.tree b) m ⊎ Gone m
      paths j m w (inl e) = inl (inl e)
      paths j m w (inr (inl q)) = ⊎_elim (λ y. inl (inr (inl (rank_moves n (λ v. j < v) q.0, y)))) inr (x.paths j m w q.1)
      paths j m w (inr (inr q)) = inl (inr (inr (rank_moves n (λ v. v ≤ j) q.0, frame_path f g j b m (off_tree b d) q.1)))

      made : (m : ℕ) → Has (Fork n x.tree b) m → Has (Fork n a b) m ⊎ Made m
      made m (inl e) = inl (inl e)
      made m (inr (inl h)) = ⊎_elim (λ y. inl (inr (inl y))) inr (x.made m h)
      made m (inr (inr h)) = inl (inr (inr h))

      gone : (m : ℕ) → Gone m → Has (Fork n x.tree b) m → ⊥
      gone m c (inl e) = not_below f a lo (rank f n) m s.1 (rw (← e) s.0.low) (x.out m c).0
      gone m c (inr (inl h)) = (x.out m c).1 h
      gone m c (inr (inr h)) = apart f a b lo (rank f n) hi m s.1 s.2 (x.out m c).0 h

  on_right : (n lo hi : ℕ) (a b : Tree) → rank f n ≤ k → Shows f lo hi (Fork n a b) → EndsLow f (Fork n a b) → ¬ Has a p → (new_b : ℕ) → level f n < level f new_b → g (child n Right) ≡ new_b → g (child n Left) ≡ f (child n Left) → Replaced f g change Stays Gone Made new_b (rank f n) hi b → Replaced f g change Stays Gone Made n lo hi (Fork n a b)
  on_right n lo hi a b l s e d new_b above at left x = record {
    tree = Fork n a x.tree;
    shows = (over, rank_moves n (λ v. Shows g lo v a) (frame f g a lo (rank f n) (off_tree a d) s.1), rank_moves n (λ v. Shows g v hi x.tree) x.shows);
    is = refl;
    items = (λ i. frame_items f g a (off_tree a d) i ++ x.items i) ∙ sym (local.right (items f a) (items f b) (items_below f a lo (rank f n) k s.1 l));
    ends = x.ends;
    low = (λ z. x.ends ∙ e.0 (sym (class_stays n) ∙ z), frame_low f g a (off_tree a d) e.1, x.low);
    paths = paths;
    made = made;
    out = λ m c. (inr (inr (x.out m c).0), gone m c);
  }
    where
      over : IsForkOver g n a x.tree
      over =
          let e : level g n ≡ level f n = level_stays n in
          let ea : level g (root a) ≡ level f (root a) = level_stays (root a) in
          let eb : level g (root x.tree) ≡ level f new_b = ap (level g) x.is ∙ level_stays new_b in
          record {
            fork = rw (head_stays n) s.0.fork;
            left = left ∙ s.0.left;
            right = at ∙ sym x.is;
            low = omega (arith, e, ea, s.0.low);
            high = omega (arith, e, eb, above);
          }

      paths : (j m : ℕ) → Stays j m → Passes f j (Fork n a b) m → Passes g j (Fork n a x.tree) m ⊎ Gone m
      paths j m w (inl e) = inl (inl e)
      paths j m w (inr (inl q)) = inl (inr (inl (rank_moves n (λ v. j < v) q.0, frame_path f g j a m (off_tree a d) q.1)))
      paths j m w (inr (inr q)) = ⊎_elim (λ y. inl (inr (inr (rank_moves n (λ v. v ≤ j) q.0, y)))) inr (x.paths j m w q.1)

      made : (m : ℕ) → Has (Fork n a x.tree) m → Has (Fork n a b) m ⊎ Made m
      made m (inl e) = inl (inl e)
      made m (inr (inl h)) = inl (inr (inl h))
      made m (inr (inr h)) = ⊎_elim (λ y. inl (inr (inr y))) inr (x.made m h)

      gone : (m : ℕ) → Gone m → Has (Fork n a x.tree) m → ⊥
      gone m c (inl e) = not_below f b (rank f n) hi m s.2 (rw (← e) s.0.high) (x.out m c).0
      gone m c (inr (inl h)) = apart f a b lo (rank f n) hi m s.1 s.2 h (x.out m c).0
      gone m c (inr (inr h)) = (x.out m c).1 h

  -- at the node of the changed field
  here : (n lo hi : ℕ) (a b : Tree) → lo ≤ k → k < hi → Shows f lo hi (Fork n a b) → EndsLow f (Fork n a b) → ((m : ℕ) → Has (Fork n a b) m → In m) → p ≡ n → Replaced f g change Stays Gone Made n lo hi (Fork n a b)
  here n lo hi a b x y s ends all e = go (split_at k (rank f n))
    where
      in_a : ¬ Has a p
      in_a h = not_below f a lo (rank f n) p s.1 (rw e s.0.low) h

      in_b : ¬ Has b p
      in_b h = not_below f b (rank f n) hi p s.2 (rw e s.0.high) h

      go : (k < rank f n) ⊎ (rank f n ≤ k) → Replaced f g change Stays Gone Made n lo hi (Fork n a b)
      go (inl l) =
          let t : toward f p k ≡ Left = rw (e, lt-ltb k (rank f n) l) refl in
          let w : f (child n Left) ≡ old = rw (t, e) at was in
          let v : g (child n Left) ≡ new = rw (t, e) at now in
          let u : g (child n Right) ≡ f (child n Right) = stays (child n Right) (node_word_apart p n (Child (toward f p k)) (Child Right) (rw t refl)) in
          on_left n lo hi a b l s ends in_b new (rw e at deep) v u (edit lo (rank f n) a x l s.1 ends.1 (λ m h. all m (inr (inl h))) (sym s.0.left ∙ w) in_a)
      go (inr l) =
          let t : toward f p k ≡ Right = rw (e, le-ltb k (rank f n) l) refl in
          let w : f (child n Right) ≡ old = rw (t, e) at was in
          let v : g (child n Right) ≡ new = rw (t, e) at now in
          let u : g (child n Left) ≡ f (child n Left) = stays (child n Left) (node_word_apart p n (Child (toward f p k)) (Child Left) (rw t refl)) in
          on_right n lo hi a b l s ends in_a new (rw e at deep) v u (edit (rank f n) hi b l y s.2 ends.2 (λ m h. all m (inr (inr h))) (sym s.0.right ∙ w) in_b)

  pub replace : (t : Tree) (lo hi : ℕ) → lo ≤ k → k < hi → Shows f lo hi t → EndsLow f t → ((n : ℕ) → Has t n → In n) → Passes f k t p → Replaced f g change Stays Gone Made (root t) lo hi t
  replace (Leaf n) lo hi x y s ends all e = absurd (let z : true ≡ false = sym s.leaf ∙ rw (← e) at fork in cc)
  replace (Fork n a b) lo hi x y s ends all (inl e) = here n lo hi a b x y s ends all (sym e)
  replace (Fork n a b) lo hi x y s ends all (inr (inl q)) =
      let h : Has a p = passes_has f k a p q.1 in
      let d : p ≢ n = λ e. not_below f a lo (rank f n) p s.1 (rw e s.0.low) h in
      let i : ¬ Has b p = λ j. apart f a b lo (rank f n) hi p s.1 s.2 h j in
      on_left n lo hi a b q.0 s ends i (root a) s.0.low (off n d (Child Left) tt ∙ s.0.left) (off n d (Child Right) tt) (replace a lo (rank f n) x q.0 s.1 ends.1 (λ m h. all m (inr (inl h))) q.1)
  replace (Fork n a b) lo hi x y s ends all (inr (inr q)) =
      let h : Has b p = passes_has f k b p q.1 in
      let d : p ≢ n = λ e. not_below f b (rank f n) hi p s.2 (rw e s.0.high) h in
      let i : ¬ Has a p = λ j. apart f a b lo (rank f n) hi p s.1 s.2 j h in
      on_right n lo hi a b q.0 s ends i (root b) s.0.high (off n d (Child Right) tt ∙ s.0.right) (off n d (Child Left) tt) (replace b (rank f n) hi q.0 y s.2 ends.2 (λ m h. all m (inr (inr h))) q.1)
