-- Where the nodes of a tree are; and the spans of the forks of a trie: below a fork of class 0 all
-- items are in its span, and each key that a fork there shares.
use Rattle.std.proofs.Common.{◌≡◌, ℕ, ◌+◌, ◌-◌, ◌/◌, ◌%◌, ◌^◌, ◌<◌, ◌≤◌, true, false, inl, inr, List, [], ◌∷◌, ◌++◌, refl, sym, ◌∙◌, ap, arith, eqb, eq-eqb, subst, pow_pos}
use Rattle.histories.specs.Common.{Layout, Side, Left, Right, Settled, Head, Word, node, child, first_key}
use Rattle.ordered_map.specs.declared.pair.Pair.{Pair}
use Rattle.ordered_map.specs.OrderedMap.{AllBelow, AllFrom, get}
use Rattle.ordered_map.specs.Holding.{held_pairs}
use Rattle.ordered_map.specs.Bits.{side_room, side_from, side_to, Shares, IsParted, Keeps, IsTrieFork}
use Rattle.ordered_map.specs.TrieShape.{Stays}
use Rattle.ordered_map.specs.TreeWords.{class, is_leaf, level, rank, Tree, Leaf, Fork, root, Shows, Has, Passes}
use Rattle.ordered_map.proofs.Lists.{below_join, from_left, below_right, from_less, below_more}
use Rattle.ordered_map.proofs.Holding.{SameSettled, held_same, low_items, rank_from}
use Rattle.ordered_map.proofs.Searches.{get_left, get_right}
use Rattle.ordered_map.proofs.Trees.{EndsLow, items, items_above, items_below, last_leaf, has_last, open_between, node_below}

-- all its nodes are at the lower bound or above
pub node_from : (f : Word → ℕ) (t : Tree) (lo hi n : ℕ) → Shows f lo hi t → Has t n → lo ≤ rank f n
node_from f (Leaf m) lo hi n s e = rw (← e) (rank_from f m lo hi s.items)
node_from f (Fork m a b) lo hi n s (inl e) = let x : lo < rank f m = open_between f a lo (rank f m) s.1 in rw (← e) (omega (arith, x))
node_from f (Fork m a b) lo hi n s (inr (inl q)) = node_from f a lo (rank f m) n s.1 q
node_from f (Fork m a b) lo hi n s (inr (inr q)) =
    let x : lo < rank f m = open_between f a lo (rank f m) s.1 in
    let y : rank f m ≤ rank f n = node_from f b (rank f m) hi n s.2 q in
    omega (arith, x, y)

-- none is above its last leaf
node_to_last : (f : Word → ℕ) (t : Tree) (lo hi n : ℕ) → Shows f lo hi t → Has t n → rank f n ≤ rank f (last_leaf t)
node_to_last f (Leaf m) lo hi n s e = rw (← e) (omega arith)
node_to_last f (Fork m a b) lo hi n s (inl e) = rw (← e) (node_from f b (rank f m) hi (last_leaf b) s.2 (has_last b))
node_to_last f (Fork m a b) lo hi n s (inr (inl q)) =
    let x : rank f n < rank f m = node_below f a lo (rank f m) n s.1 q in
    let y : rank f m ≤ rank f (last_leaf b) = node_from f b (rank f m) hi (last_leaf b) s.2 (has_last b) in
    omega (arith, x, y)
node_to_last f (Fork m a b) lo hi n s (inr (inr q)) = node_to_last f b (rank f m) hi n s.2 q

last_small : (f : Word → ℕ) (t : Tree) (lo hi : ℕ) → Shows f lo hi t → f (node (last_leaf t) first_key) < 2 ^ 64
last_small f (Leaf m) lo hi s = s.small
last_small f (Fork m a b) lo hi s = last_small f b (rank f m) hi s.2

-- where that is of class 0 all are below 2 ^ 64
pub node_low : (f : Word → ℕ) (t : Tree) (lo hi n : ℕ) → Shows f lo hi t → class f (last_leaf t) ≡ 0 → Has t n → rank f n < 2 ^ 64
node_low f t lo hi n s low h =
    let x : rank f n ≤ rank f (last_leaf t) = node_to_last f t lo hi n s h in
    let y = last_small f t lo hi s in
    omega (arith, x, y, low)

-- Narrower bounds

pub from_join : (k : ℕ) (xs ys : List Pair) → AllFrom k xs → AllFrom k ys → AllFrom k (xs ++ ys)
from_join k [] ys a b = b
from_join k (x ∷ xs) ys a b = (a.0, from_join k xs ys a.1 b)

-- a tree is shown from any bound from which its items are
pub narrow_from : (f : Word → ℕ) (t : Tree) (lo hi low : ℕ) → Shows f lo hi t → AllFrom low (items f t) → Shows f low hi t
narrow_from f (Leaf n) lo hi low s a =
    let x = s.items in
    record { leaf = s.leaf; small = s.small; items = record { keys = x.keys; rising = x.rising; from = a; below = x.below } }
narrow_from f (Fork n a b) lo hi low s x = (s.0, narrow_from f a lo (rank f n) low s.1 (from_left low (items f a) (items f b) x), s.2)

pub narrow_to : (f : Word → ℕ) (t : Tree) (lo hi high : ℕ) → Shows f lo hi t → AllBelow high (items f t) → Shows f lo high t
narrow_to f (Leaf n) lo hi high s a =
    let x = s.items in
    record { leaf = s.leaf; small = s.small; items = record { keys = x.keys; rising = x.rising; from = x.from; below = a } }
narrow_to f (Fork n a b) lo hi high s x = (s.0, s.1, narrow_to f b (rank f n) hi high s.2 (below_right high (items f a) (items f b) x))

-- Spans

-- the bounds of the sides of a fork of class 0
pub low_from : (f : Word → ℕ) (n : ℕ) → class f n ≡ 0 → (side_from f n Left ≡ f (node n first_key) - side_room f n) × (side_from f n Right ≡ f (node n first_key))
low_from f n low = (rw (eq-eqb (class f n) 0 low) refl, rw (eq-eqb (class f n) 0 low) refl)

pub low_to : (f : Word → ℕ) (n : ℕ) → class f n ≡ 0 → (side_to f n Left ≡ f (node n first_key)) × (side_to f n Right ≡ f (node n first_key) + side_room f n)
low_to f n low = (rw (eq-eqb (class f n) 0 low) refl, rw (eq-eqb (class f n) 0 low) refl)

-- a side is in the span
pub side_in : (f : Word → ℕ) (n : ℕ) (side : Side) → class f n ≡ 0 → (side_from f n Left ≤ side_from f n side) × (side_to f n side ≤ side_to f n Right)
side_in f n Left low = let a = low_to f n low in (omega arith, omega (arith, a))
side_in f n Right low = let a = low_from f n low in (omega (arith, a), omega arith)

-- a fork of class 0 shares its own key
pub own_share : (f : Word → ℕ) (n : ℕ) → class f n ≡ 0 → Shares f n (rank f n)
own_share f n low =
    let a = low_from f n low in
    let b = low_to f n low in
    let room_is : 0 < side_room f n = pow_pos (65 - level f n) in
    (omega (arith, a, low), omega (arith, b, low, room_is))

-- Below a fork of a trie whose last leaf is of class 0

module _ (f : Word → ℕ) where
  low_of : (n : ℕ) → rank f n < 2 ^ 64 → class f n ≡ 0
  low_of n small = omega (arith, small)

  -- the last leaf on the left is of class 0 too
  pub last_left : (n lo hi : ℕ) (a b : Tree) → Shows f lo hi (Fork n a b) → class f (last_leaf b) ≡ 0 → class f (last_leaf a) ≡ 0
  last_left n lo hi a b s low = low_of (last_leaf a) (node_low f (Fork n a b) lo hi (last_leaf a) s low (inr (inl (has_last a))))

  abbrev pub AreForks : Tree → Type 0
  AreForks t = (n : ℕ) → Has t n → IsTrieFork f n

  -- the items of what stands on a side keep to it
  pub child_items : (n : ℕ) (side : Side) (a : Tree) (lo hi : ℕ) → Shows f lo hi a → class f (last_leaf a) ≡ 0 → AreForks a → Keeps f n side (root a) → AllFrom (side_from f n side) (items f a) × AllBelow (side_to f n side) (items f a)
  child_items n side (Leaf m) lo hi s low all k =
      let held = k.leaf s.leaf low in
      (subst (AllFrom (side_from f n side)) (sym (low_items f m low)) held.1, subst (AllBelow (side_to f n side)) (sym (low_items f m low)) held.2)
  child_items n side (Fork m a b) lo hi s low all k =
      let zero : class f m ≡ 0 = low_of m (node_low f (Fork m a b) lo hi m s low (inl refl)) in
      let fork = all m (inl refl) s.0.fork in
      let left = child_items m Left a lo (rank f m) s.1 (last_left m lo hi a b s low) (λ j h. all j (inr (inl h))) (subst (Keeps f m Left) s.0.left (fork.1 Left)) in
      let right = child_items m Right b (rank f m) hi s.2 low (λ j h. all j (inr (inr h))) (subst (Keeps f m Right) s.0.right (fork.1 Right)) in
      let span = k.fork s.0.fork zero in
      let l = side_in f m Left zero in
      let r = side_in f m Right zero in (
        from_join (side_from f n side) (items f a) (items f b) (from_less (side_from f n side) (side_from f m Left) (items f a) span.0 left.0) (from_less (side_from f n side) (side_from f m Right) (items f b) (omega (arith, span, r)) right.0),
        below_join (side_to f n side) (items f a) (items f b) (below_more (side_to f m Left) (side_to f n side) (items f a) (omega (arith, span, l)) left.1) (below_more (side_to f m Right) (side_to f n side) (items f b) span.1 right.1),
      )

  -- a key that a fork there shares is on the side
  pub child_shares : (n : ℕ) (side : Side) (a : Tree) (lo hi m j : ℕ) → Shows f lo hi a → class f (last_leaf a) ≡ 0 → AreForks a → Keeps f n side (root a) → Has a m → is_leaf f m ≡ false → Shares f m j → (side_from f n side ≤ j) × (j < side_to f n side)
  child_shares n side (Leaf i) lo hi m j s low all k h d x = absurd (let z : true ≡ false = sym s.leaf ∙ rw (← h) at d in cc)
  child_shares n side (Fork i a b) lo hi m j s low all k h d x =
      go h
      (λ y. child_shares i Left a lo (rank f i) m j s.1 (last_left i lo hi a b s low) (λ v w. all v (inr (inl w))) (subst (Keeps f i Left) s.0.left ((all i (inl refl) s.0.fork).1 Left)) y d x)
      (λ y. child_shares i Right b (rank f i) hi m j s.2 low (λ v w. all v (inr (inr w))) (subst (Keeps f i Right) s.0.right ((all i (inl refl) s.0.fork).1 Right)) y d x)
    where
      zero : class f i ≡ 0
      zero = low_of i (node_low f (Fork i a b) lo hi i s low (inl refl))

      within : (from : Side) → (side_from f i from ≤ j) × (j < side_to f i from) → (side_from f n side ≤ j) × (j < side_to f n side)
      within from y =
          let span = k.fork s.0.fork zero in
          let l = side_in f i from zero in
          (omega (arith, span, l, y), omega (arith, span, l, y))

      go : Has (Fork i a b) m → (Has a m → (side_from f i Left ≤ j) × (j < side_to f i Left)) → (Has b m → (side_from f i Right ≤ j) × (j < side_to f i Right)) → (side_from f n side ≤ j) × (j < side_to f n side)
      go (inl e) on_left on_right =
          let span = k.fork s.0.fork zero in
          let y : Shares f i j = subst (λ v. Shares f v j) (sym e) x in
          (omega (arith, span, y), omega (arith, span, y))
      go (inr (inl y)) on_left on_right = within Left (on_left y)
      go (inr (inr y)) on_left on_right = within Right (on_right y)

-- A part on a path

-- a key has in the tree what it has in the part on its path
pub record PathPart (f : Word → ℕ) (k : ℕ) (t : Tree) (u : ℕ) : Type 0 where
  pub part : Tree
  pub low : ℕ
  pub high : ℕ
  pub shows : Shows f low high part
  pub is : root part ≡ u
  pub inside : (n : ℕ) → Has part n → Has t n
  pub ends : EndsLow f part
  pub gives : get k (items f t) ≡ get k (items f part)

pub path_part : (f : Word → ℕ) (k : ℕ) (t : Tree) (lo hi u : ℕ) → Shows f lo hi t → EndsLow f t → Passes f k t u → PathPart f k t u
path_part f k (Leaf n) lo hi u s ends e = record { part = Leaf n; low = lo; high = hi; shows = s; is = e; inside = λ m h. h; ends = ends; gives = refl }
path_part f k (Fork n a b) lo hi u s ends (inl e) = record { part = Fork n a b; low = lo; high = hi; shows = s; is = e; inside = λ m h. h; ends = ends; gives = refl }
path_part f k (Fork n a b) lo hi u s ends (inr (inl q)) =
    let x : PathPart f k a u = path_part f k a lo (rank f n) u s.1 ends.1 q.1 in
    record { part = x.part; low = x.low; high = x.high; shows = x.shows; is = x.is; inside = λ m h. inr (inl (x.inside m h)); ends = x.ends; gives = get_left k (items f a) (items f b) (items_above f b (rank f n) hi k s.2 q.0) ∙ x.gives }
path_part f k (Fork n a b) lo hi u s ends (inr (inr q)) =
    let x : PathPart f k b u = path_part f k b (rank f n) hi u s.2 ends.2 q.1 in
    record { part = x.part; low = x.low; high = x.high; shows = x.shows; is = x.is; inside = λ m h. inr (inr (x.inside m h)); ends = x.ends; gives = get_right k (items f a) (items f b) (items_below f a lo (rank f n) k s.1 q.0) ∙ x.gives }

-- The same words

module _ (b f : Word → ℕ) where
  pub same_shares : (n k : ℕ) → SameSettled b f n → Shares b n k → Shares f n k
  same_shares n k e s = let h = e (Settled Head) tt in let y = e first_key tt in rw (h, y) s

  pub same_stays : (lay : Layout) (k n : ℕ) → SameSettled b f n → Stays lay b k n → Stays lay f k n
  same_stays lay k n e (inl m) = inl m
  same_stays lay k n e (inr s) = let h = e (Settled Head) tt in let y = e first_key tt in inr (rw h s.0, rw (h, y) s.1)

  same_parted : (n : ℕ) → SameSettled b f n → IsParted b n → IsParted f n
  same_parted n e s =
      let h = e (Settled Head) tt in
      let y = e first_key tt in
      record { top = rw h s.top; key = rw (h, y) s.key }

  pub same_keeps : (n : ℕ) (side : Side) (m : ℕ) → SameSettled b f n → SameSettled b f m → Keeps b n side m → Keeps f n side m
  same_keeps n side m en em s = record {
    fork = λ d z. let x = s.fork (sym leaf ∙ d) (sym kind ∙ z) in (rw (from, em_from Left) x.0, rw (to, em_to Right) x.1);
    leaf = λ d z. let x = s.leaf (sym leaf ∙ d) (sym kind ∙ z) in (lv ∙ x.0, rw (from, held) x.1, rw (to, held) x.2);
    last = λ d z. rw (lv, kind) (s.last (sym leaf ∙ d) (λ w. z (kind ∙ w)));
  }
    where
      head : f (node m (Settled Head)) ≡ b (node m (Settled Head))
      head = em (Settled Head) tt

      leaf : is_leaf f m ≡ is_leaf b m
      leaf = ap (λ v. eqb (v / 4 % 2) 1) head

      kind : class f m ≡ class b m
      kind = ap (λ v. v % 4) head

      lv : level f m ≡ level b m
      lv = ap (λ v. v / 8) head

      held : held_pairs f m ≡ held_pairs b m
      held = held_same b f m em

      same_from : (i : ℕ) (at : Side) → SameSettled b f i → side_from f i at ≡ side_from b i at
      same_from i Left e = let h = e (Settled Head) tt in let y = e first_key tt in rw (h, y) refl
      same_from i Right e = let h = e (Settled Head) tt in let y = e first_key tt in rw (h, y) refl

      same_to : (i : ℕ) (at : Side) → SameSettled b f i → side_to f i at ≡ side_to b i at
      same_to i Left e = let h = e (Settled Head) tt in let y = e first_key tt in rw (h, y) refl
      same_to i Right e = let h = e (Settled Head) tt in let y = e first_key tt in rw (h, y) refl

      from : side_from f n side ≡ side_from b n side
      from = same_from n side en

      to : side_to f n side ≡ side_to b n side
      to = same_to n side en

      em_from : (at : Side) → side_from f m at ≡ side_from b m at
      em_from at = same_from m at em

      em_to : (at : Side) → side_to f m at ≡ side_to b m at
      em_to at = same_to m at em

  -- a fork of a trie is one still, where its settled words stay, and what its fields now name keeps
  -- to its sides
  pub same_fork : (n : ℕ) → SameSettled b f n → (is_leaf b n ≡ false → (side : Side) → Keeps b n side (b (child n side)) → Keeps f n side (f (child n side))) → IsTrieFork b n → IsTrieFork f n
  same_fork n e keeps s d =
      let fork : is_leaf b n ≡ false = ap (λ v. eqb (v / 4 % 2) 1) (sym (e (Settled Head) tt)) ∙ d in
      let x = s fork in
      (same_parted n e x.0, λ side. keeps fork side (x.1 side))
