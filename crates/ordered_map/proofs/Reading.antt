-- Words are read part by part, and no tree is missed that they may show.
use Rattle.std.proofs.Common.{◌≡◌, ◌≢◌, ℕ, suc, ◌+◌, ◌-◌, ◌*◌, ◌/◌, ◌%◌, ◌^◌, ◌<◌, ◌≤◌, true, false, inl, inr, List, [], ◌∷◌, ◌++◌, refl, sym, ◌∙◌, ap, arith, subst, append_assoc, append-nil, eq-eqb}
use Rattle.std.specs.Prelude.{Option, Some, None}
use Rattle.histories.specs.Common.{all_nodes, node, child, first_key, Settled, Head, More, Slot, Word, Left, Right, Contents, word_at}
use Rattle.ordered_map.specs.declared.part.Part.{Part}
use Rattle.ordered_map.specs.declared.part.Seen.TheVariants.{Leaf as LeafSeen, Nothing}
use Rattle.ordered_map.specs.TreeWords.{class, level, rank, IsLeaf, Tree, Leaf, Fork, root, Shows, Has, leaf_nodes}
use Rattle.ordered_map.specs.declared.pair.Pair.{Pair}
use Rattle.ordered_map.specs.Holding.{slot_behind, pair_in, held_from, held_behind}
use Rattle.ordered_map.specs.OrderedMap.{AllAbove}
use Rattle.ordered_map.specs.Spelled.{IsTree}
use Rattle.ordered_map.specs.Parts.{AreInOrder, HoldsInOrder, IsPart, IsFit, IsLeafRoot, IsRoot, IsSplitInto, IsSeen, ShowLeaves, part_size}
use Rattle.ordered_map.proofs.Trees.{open_between, has_root}
use Rattle.ordered_map.proofs.Lists.{rising_cons}
use Rattle.ordered_map.proofs.Holding.{held_next, high_leaf, low_leaf, rank_from, rank_below}

-- what follows a key: nothing, or pairs in order, the first of which is above it
abbrev OrderedBehind : (Word → ℕ) → ℕ → ℕ → ℕ → Option Slot → Type 0
OrderedBehind f n high key None = Unit {0}
OrderedBehind f n high key (Some next) = (key < (pair_in f n next).key) × AreInOrder high (held_from f n next)

-- One part

-- a part's root is in the table, and is as the part asks for
pub root_inside : (c : Contents) (p : Part) (t : Tree) → IsPart c p t → p.node < all_nodes c.layout
root_inside c p t i = rw (sym i.is) (i.inside (root t) (has_root t))

pub root_fits : (c : Contents) (p : Part) (t : Tree) → IsPart c p t → IsFit p (level (word_at c) p.node) (rank (word_at c) p.node)
root_fits c p (Leaf n) i =
    let x = i.shows.items in
    (i.deep, rw (← i.is) (rank_from (word_at c) n p.low p.high x), rw (← i.is) (rank_below (word_at c) n p.low p.high x))
root_fits c p (Fork n a b) i =
    let x : p.low < rank (word_at c) n = open_between (word_at c) a p.low (rank (word_at c) n) i.shows.1 in
    let y : rank (word_at c) n < p.high = open_between (word_at c) b (rank (word_at c) n) p.high i.shows.2 in
    (i.deep, rw (← i.is) (omega (arith, x)), rw (← i.is) y)

pub no_tree : (c : Contents) (p : Part) (head key r : ℕ) → head ≡ word_at c (node p.node (Settled Head)) → key ≡ word_at c (node p.node first_key) → r ≡ head % 4 * 2 ^ 64 + key → (IsFit p (head / 8) r → ⊥) → (t : Tree) → IsPart c p t → ⊥
no_tree c p head key r e d q none t i =
    let x : IsFit p (level (word_at c) p.node) (rank (word_at c) p.node) = root_fits c p t i in
    none (subst (λ v. p.level ≤ v / 8) (sym e) x.0, subst (λ v. p.low ≤ v) (sym is) x.1, subst (λ v. v < p.high) (sym is) x.2)
  where
    is : r ≡ rank (word_at c) p.node
    is = q ∙ (λ j. e j % 4 * 2 ^ 64 + d j)

-- at a leaf
only_leaf : (c : Contents) (p : Part) → IsLeafRoot c p → (t : Tree) → IsPart c p t → t ≡ Leaf p.node
only_leaf c p l (Leaf n) x = ap Leaf x.is
only_leaf c p l (Fork n a b) x = absurd (let y : true ≡ false = sym l.leaf ∙ rw (← x.is) x.shows.0.fork in cc)

seen_leaf : (c : Contents) (p : Part) → IsLeafRoot c p → IsLeaf (word_at c) p.node p.low p.high → IsSeen c p LeafSeen
seen_leaf c p l shown = (record { shows = shown; is = refl; deep = l.fits.0; inside = λ n e. rw (← e) l.inside }, only_leaf c p l)

pub seen_high : (c : Contents) (p : Part) → IsLeafRoot c p → class (word_at c) p.node ≢ 0 → IsSeen c p LeafSeen
seen_high c p l high = seen_leaf c p l (high_leaf (word_at c) p.node p.low p.high l.leaf high l.small l.fits.1 l.fits.2)

pub seen_low : (c : Contents) (p : Part) → IsLeafRoot c p → class (word_at c) p.node ≡ 0 → HoldsInOrder c p.node p.high → IsSeen c p LeafSeen
seen_low c p l low x = seen_leaf c p l (low_leaf (word_at c) p.node p.low p.high l.leaf low x.0 x.1.0 x.1.1 x.1.2 l.fits.1)

-- Pairs of a leaf in order

-- they are where the first of them is, and the next is above it and in order itself
pub in_order : (f : Word → ℕ) (n high : ℕ) (slot : Slot) (next : Option Slot) → slot_behind (f (node n (Settled More))) slot ≡ next → (pair_in f n slot).key < high → (pair_in f n slot).key < 2 ^ 64 → OrderedBehind f n high (pair_in f n slot).key next → AreInOrder high (held_from f n slot)
in_order f n high slot None e below word behind = subst (AreInOrder high) (sym (held_next f n slot ∙ ap (λ o. pair_in f n slot ∷ held_behind f n o) e)) ((tt, tt), (below, tt), (word, tt))
in_order f n high slot (Some next) e below word behind =
    let rest : List Pair = held_behind f n (slot_behind (f (node n (Settled More))) next) in
    let ordered : AreInOrder high (pair_in f n next ∷ rest) = subst (AreInOrder high) (held_next f n next) behind.1 in
    subst (AreInOrder high) (sym (held_next f n slot ∙ ap (λ o. pair_in f n slot ∷ held_behind f n o) e ∙ ap (λ ps. pair_in f n slot ∷ ps) (held_next f n next)))
    (rising_cons (pair_in f n slot) (pair_in f n next) rest behind.0 ordered.0, (below, ordered.1), (word, ordered.2))

-- and if they are in order this is so
pub order_here : (f : Word → ℕ) (n high : ℕ) (slot : Slot) → AreInOrder high (held_from f n slot) → (pair_in f n slot).key < high
order_here f n high slot x = (subst (AreInOrder high) (held_next f n slot) x).1.0

pub order_behind : (f : Word → ℕ) (n high : ℕ) (slot : Slot) (next : Option Slot) → slot_behind (f (node n (Settled More))) slot ≡ next → AreInOrder high (held_from f n slot) → OrderedBehind f n high (pair_in f n slot).key next
order_behind f n high slot None e x = tt
order_behind f n high slot (Some next) e x =
    let here : AreInOrder high (pair_in f n slot ∷ held_from f n next) = subst (AreInOrder high) (held_next f n slot ∙ ap (λ o. pair_in f n slot ∷ held_behind f n o) e) x in
    ((subst (AllAbove (pair_in f n slot).key) (held_next f n next) here.0.0).0, (here.0.1, here.1.1, here.2.1))

-- the words of a root say that it is one
pub leaf_root_at : (c : Contents) (p : Part) (head key r : ℕ) → p.node < all_nodes c.layout → head ≡ word_at c (node p.node (Settled Head)) → key ≡ word_at c (node p.node first_key) → key < 2 ^ 64 → r ≡ head % 4 * 2 ^ 64 + key → IsFit p (head / 8) r → head / 4 % 2 ≡ 1 → IsLeafRoot c p
leaf_root_at c p head key r i e d small q fits leaf = record {
  inside = i;
  leaf = eq-eqb (word_at c (node p.node (Settled Head)) / 4 % 2) 1 (subst (λ v. v / 4 % 2 ≡ 1) e leaf);
  small = subst (λ v. v < 2 ^ 64) d small;
  fits = (subst (λ v. p.level ≤ v / 8) e fits.0, subst (λ v. p.low ≤ v) is fits.1, subst (λ v. v < p.high) is fits.2);
}
  where
    is : r ≡ rank (word_at c) p.node
    is = q ∙ (λ j. e j % 4 * 2 ^ 64 + d j)

-- a fork of the lowest rank would have nothing on its left
pub no_fork : (c : Contents) (p : Part) (least at : ℕ) → IsRoot c p least at → at ≡ p.low → (t : Tree) → IsPart c p t → ⊥
no_fork c p l at r e (Leaf n) i = absurd (let y : true ≡ false = sym i.shows.leaf ∙ rw i.is r.fork in cc)
no_fork c p l at r e (Fork n a b) i =
    let x : p.low < rank (word_at c) n = open_between (word_at c) a p.low (rank (word_at c) n) i.shows.1 in
    let d : rank (word_at c) n ≡ at = ap (rank (word_at c)) i.is ∙ sym r.rank in
    omega (arith, x, d, e)

-- at another fork
pub seen_fork : (c : Contents) (p left right : Part) (least at : ℕ) → IsRoot c p least at → at ≢ p.low
    → left ≡ record { node = word_at c (child p.node Left); level = least; low = p.low; high = at }
    → right ≡ record { node = word_at c (child p.node Right); level = least; low = at; high = p.high }
    → IsSplitInto c p left right
seen_fork c p left right l at r d el er = rw (el, er) record { apart = apart; joined = joined; smaller = smaller }
  where
    smaller : suc (2 * (at - p.low) - 2) + suc (2 * (p.high - at) - 2) < suc (2 * (p.high - p.low) - 2)
    smaller = let x = r.fits.1 in let y = r.fits.2 in omega (arith, x, y, d)

    apart : (t : Tree) → IsPart c p t → (a b : Tree) × (t ≡ Fork p.node a b) × IsPart c record { node = word_at c (child p.node Left); level = l; low = p.low; high = at } a × IsPart c record { node = word_at c (child p.node Right); level = l; low = at; high = p.high } b
    apart (Leaf n) i = absurd (let y : true ≡ false = sym i.shows.leaf ∙ rw i.is r.fork in cc)
    apart (Fork n a b) i = (
      a,
      b,
      ap (λ m. Fork m a b) i.is,
      record {
        shows = subst (λ v. Shows (word_at c) p.low v a) rank_is i.shows.1;
        is = sym i.shows.0.left ∙ ap (λ m. word_at c (child m Left)) i.is;
        deep = deep (root a) (word_at c (child p.node Left)) (sym i.shows.0.left ∙ ap (λ m. word_at c (child m Left)) i.is) i.shows.0.low;
        inside = λ m h. i.inside m (inr (inl h));
      },
      record {
        shows = subst (λ v. Shows (word_at c) v p.high b) rank_is i.shows.2;
        is = sym i.shows.0.right ∙ ap (λ m. word_at c (child m Right)) i.is;
        deep = deep (root b) (word_at c (child p.node Right)) (sym i.shows.0.right ∙ ap (λ m. word_at c (child m Right)) i.is) i.shows.0.high;
        inside = λ m h. i.inside m (inr (inr h));
      },
    )
      where
        rank_is : rank (word_at c) n ≡ at
        rank_is = ap (rank (word_at c)) i.is ∙ sym r.rank

        deep : (m k : ℕ) → m ≡ k → level (word_at c) n < level (word_at c) m → l ≤ level (word_at c) k
        deep m k e x =
            let y : level (word_at c) m ≡ level (word_at c) k = ap (level (word_at c)) e in
            let z : level (word_at c) n ≡ level (word_at c) p.node = ap (level (word_at c)) i.is in
            let w = r.below in omega (arith, x, y, z, w)

    joined : (a b : Tree) → IsPart c record { node = word_at c (child p.node Left); level = l; low = p.low; high = at } a → IsPart c record { node = word_at c (child p.node Right); level = l; low = at; high = p.high } b → IsPart c p (Fork p.node a b)
    joined a b x y = record {
      shows = (
        record {
          fork = r.fork;
          left = sym x.is;
          right = sym y.is;
          low = rises (root a) (word_at c (child p.node Left)) x.is x.deep;
          high = rises (root b) (word_at c (child p.node Right)) y.is y.deep;
        },
        subst (λ v. Shows (word_at c) p.low v a) r.rank x.shows,
        subst (λ v. Shows (word_at c) v p.high b) r.rank y.shows,
      );
      is = refl;
      deep = r.fits.0;
      inside = inside;
    }
      where
        rises : (m k : ℕ) → m ≡ k → l ≤ level (word_at c) k → level (word_at c) p.node < level (word_at c) m
        rises m k e z =
            let q : level (word_at c) m ≡ level (word_at c) k = ap (level (word_at c)) e in
            let w = r.below in omega (arith, z, q, w)

        inside : (n : ℕ) → Has (Fork p.node a b) n → n < all_nodes c.layout
        inside n (inl e) = rw (← e) r.inside
        inside n (inr (inl h)) = x.inside n h
        inside n (inr (inr h)) = y.inside n h

-- Several parts, the last of which is read first

-- the leaves of trees of all of them
abbrev pub AreRead : Contents → List Part → List ℕ → Type 0
AreRead c [] ns = ns ≡ []
AreRead c (p ∷ ps) ns = (t : Tree) × IsPart c p t × ((ms : List ℕ) × AreRead c ps ms × (ns ≡ ms ++ leaf_nodes t))

-- no more than this is to be read of them
abbrev pub parts_size : List Part → ℕ
parts_size [] = 0
parts_size (p ∷ ps) = part_size p + parts_size ps

pub size_last : (ps : List Part) (p : Part) → parts_size (ps ++ p ∷ []) ≡ parts_size ps + part_size p
size_last [] p = omega arith
size_last (q ∷ ps) p = let x : parts_size (ps ++ p ∷ []) ≡ parts_size ps + part_size p = size_last ps p in omega (arith, x)

-- the leaves of the last part, and those of the others
abbrev pub IsReadFirst : Contents → List Part → Part → List ℕ → Type 0
IsReadFirst c ps p ns = (t : Tree) × IsPart c p t × ((ms : List ℕ) × AreRead c ps ms × (ns ≡ leaf_nodes t ++ ms))

pub last_first : (c : Contents) (ps : List Part) (p : Part) (ns : List ℕ) → AreRead c (ps ++ p ∷ []) ns → IsReadFirst c ps p ns
last_first c [] p ns x = (x.0, x.1, ([], refl, x.2.2 ∙ ap (λ z. z ++ leaf_nodes x.0) x.2.1 ∙ sym (append-nil (leaf_nodes x.0))))
last_first c (q ∷ ps) p ns x =
    let y : IsReadFirst c ps p x.2.0 = last_first c ps p x.2.0 x.2.1 in
    (y.0, y.1, (y.2.0 ++ leaf_nodes x.0, (x.0, x.1, (y.2.0, y.2.1, refl)), x.2.2 ∙ ap (λ z. z ++ leaf_nodes x.0) y.2.2 ∙ append_assoc (leaf_nodes y.0) y.2.0 (leaf_nodes x.0)))

pub first_last : (c : Contents) (ps : List Part) (p : Part) (t : Tree) (ms : List ℕ) → IsPart c p t → AreRead c ps ms → AreRead c (ps ++ p ∷ []) (leaf_nodes t ++ ms)
first_last c [] p t ms i x = (t, i, ([], refl, ap (λ z. leaf_nodes t ++ z) x ∙ append-nil (leaf_nodes t)))
first_last c (q ∷ ps) p t ms i x = (x.0, x.1, (leaf_nodes t ++ x.2.0, first_last c ps p t x.2.0 i x.2.1, ap (λ z. leaf_nodes t ++ z) x.2.2 ∙ sym (append_assoc (leaf_nodes t) x.2.0 (leaf_nodes x.0))))

-- The reading of all: these leaves are read, and these parts are left.

pub record IsReading (c : Contents) (parts : List Part) (done : List ℕ) : Type 0 where
  pub to : (ns : List ℕ) → ShowLeaves c ns → (ms : List ℕ) × AreRead c parts ms × (ns ≡ done ++ ms)
  pub from : (ms : List ℕ) → AreRead c parts ms → ShowLeaves c (done ++ ms)

pub reading_starts : (c : Contents) (p : Part) → p ≡ record { node = 0; level = 0; low = 0; high = 3 * 2 ^ 64 } → IsReading c (p ∷ []) []
reading_starts c p e = record { to = to; from = from }
  where
    whole : (t : Tree) → IsTree (word_at c) t → ((n : ℕ) → Has t n → n < all_nodes c.layout) → IsPart c p t
    whole t i h = rw e record { shows = i.shows; is = i.is; deep = omega arith; inside = h }

    to : (ns : List ℕ) → ShowLeaves c ns → (ms : List ℕ) × AreRead c (p ∷ []) ms × (ns ≡ [] ++ ms)
    to ns s = (ns, (s.tree, whole s.tree s.is_tree s.inside, ([], refl, sym s.leaves)), refl)

    from : (ms : List ℕ) → AreRead c (p ∷ []) ms → ShowLeaves c ([] ++ ms)
    from ms x =
        let i : IsPart c record { node = 0; level = 0; low = 0; high = 3 * 2 ^ 64 } x.0 = rw e at x.1 in
        record { tree = x.0; is_tree = record { shows = i.shows; is = i.is }; inside = i.inside; leaves = sym (x.2.2 ∙ ap (λ z. z ++ leaf_nodes x.0) x.2.1) }

-- the last part is a leaf
pub reading_leaf : (c : Contents) (ps : List Part) (p : Part) (done : List ℕ) → IsReading c (ps ++ p ∷ []) done → IsSeen c p LeafSeen → IsReading c ps (done ++ p.node ∷ [])
reading_leaf c ps p done r s = record { to = to; from = from }
  where
    to : (ns : List ℕ) → ShowLeaves c ns → (ms : List ℕ) × AreRead c ps ms × (ns ≡ (done ++ p.node ∷ []) ++ ms)
    to ns x =
        let y = r.to ns x in
        let z : IsReadFirst c ps p y.0 = last_first c ps p y.0 y.1 in
        (z.2.0, z.2.1, y.2 ∙ ap (λ w. done ++ w) (z.2.2 ∙ ap (λ t. leaf_nodes t ++ z.2.0) (s.1 z.0 z.1)) ∙ sym (append_assoc done (p.node ∷ []) z.2.0))

    from : (ms : List ℕ) → AreRead c ps ms → ShowLeaves c ((done ++ p.node ∷ []) ++ ms)
    from ms x = subst (ShowLeaves c) (sym (append_assoc done (p.node ∷ []) ms)) (r.from (p.node ∷ ms) (first_last c ps p (Leaf p.node) ms s.0 x))

-- the last part is a fork over two
pub reading_fork : (c : Contents) (ps : List Part) (p left right : Part) (done : List ℕ) → IsReading c (ps ++ p ∷ []) done → IsSplitInto c p left right → IsReading c (ps ++ right ∷ left ∷ []) done
reading_fork c ps p left right done r s = subst (λ qs. IsReading c qs done) (append_assoc ps (right ∷ []) (left ∷ [])) record { to = to; from = from }
  where
    to : (ns : List ℕ) → ShowLeaves c ns → (ms : List ℕ) × AreRead c ((ps ++ right ∷ []) ++ left ∷ []) ms × (ns ≡ done ++ ms)
    to ns x =
        let y = r.to ns x in
        let z : IsReadFirst c ps p y.0 = last_first c ps p y.0 y.1 in
        let w = s.apart z.0 z.1 in
        let q : AreRead c ((ps ++ right ∷ []) ++ left ∷ []) (leaf_nodes w.0 ++ (leaf_nodes w.1 ++ z.2.0)) = first_last c (ps ++ right ∷ []) left w.0 (leaf_nodes w.1 ++ z.2.0) w.3 (first_last c ps right w.1 z.2.0 w.4 z.2.1) in
        (leaf_nodes w.0 ++ (leaf_nodes w.1 ++ z.2.0), q, y.2 ∙ ap (λ v. done ++ v) (z.2.2 ∙ ap (λ t. leaf_nodes t ++ z.2.0) w.2 ∙ append_assoc (leaf_nodes w.0) (leaf_nodes w.1) z.2.0))

    from : (ms : List ℕ) → AreRead c ((ps ++ right ∷ []) ++ left ∷ []) ms → ShowLeaves c (done ++ ms)
    from ms x =
        let y : IsReadFirst c (ps ++ right ∷ []) left ms = last_first c (ps ++ right ∷ []) left ms x in
        let z : IsReadFirst c ps right y.2.0 = last_first c ps right y.2.0 y.2.1 in
        let q : AreRead c (ps ++ p ∷ []) ((leaf_nodes y.0 ++ leaf_nodes z.0) ++ z.2.0) = first_last c ps p (Fork p.node y.0 z.0) z.2.0 (s.joined y.0 z.0 y.1 z.1) z.2.1 in
        let e : ms ≡ (leaf_nodes y.0 ++ leaf_nodes z.0) ++ z.2.0 = y.2.2 ∙ ap (λ v. leaf_nodes y.0 ++ v) z.2.2 ∙ sym (append_assoc (leaf_nodes y.0) (leaf_nodes z.0) z.2.0) in
        r.from ms (subst (AreRead c (ps ++ p ∷ [])) (sym e) q)

-- there is no tree of the last part
pub reading_fails : (c : Contents) (ps : List Part) (p : Part) (done : List ℕ) → IsReading c (ps ++ p ∷ []) done → IsSeen c p Nothing → (ns : List ℕ) → ShowLeaves c ns → ⊥
reading_fails c ps p done r s ns x =
    let y = r.to ns x in
    let z : IsReadFirst c ps p y.0 = last_first c ps p y.0 y.1 in
    s z.0 z.1

-- nothing is left
pub reading_ends : (c : Contents) (done : List ℕ) → IsReading c [] done → ShowLeaves c done
reading_ends c done r = subst (ShowLeaves c) (append-nil done) (r.from [] refl)

-- What is left to be read becomes less.

pub leaf_smaller : (ps qs : List Part) (p : Part) → qs ≡ ps ++ p ∷ [] → parts_size ps < parts_size qs
leaf_smaller ps qs p e =
    let x : parts_size qs ≡ parts_size ps + part_size p = ap parts_size e ∙ size_last ps p in
    omega (arith, x)

pub fork_smaller : (c : Contents) (ps qs rs : List Part) (p left right : Part) → qs ≡ ps ++ p ∷ [] → rs ≡ ps ++ right ∷ left ∷ [] → IsSplitInto c p left right → parts_size rs < parts_size qs
fork_smaller c ps qs rs p left right e d s =
    let x : parts_size qs ≡ parts_size ps + part_size p = ap parts_size e ∙ size_last ps p in
    let y : parts_size rs ≡ parts_size (ps ++ right ∷ []) + part_size left = ap parts_size (d ∙ sym (append_assoc ps (right ∷ []) (left ∷ []))) ∙ size_last (ps ++ right ∷ []) left in
    let z : parts_size (ps ++ right ∷ []) ≡ parts_size ps + part_size right = size_last ps right in
    let w : part_size left + part_size right < part_size p = s.smaller in
    go (parts_size ps) (parts_size (ps ++ right ∷ [])) (parts_size qs) (parts_size rs) (part_size p) (part_size left) (part_size right) x y z w
  where
    go : (a b q r x y z : ℕ) → q ≡ a + x → r ≡ b + y → b ≡ a + z → y + z < x → r < q
    go a b q r x y z e d f g = omega (arith, e, d, f, g)
