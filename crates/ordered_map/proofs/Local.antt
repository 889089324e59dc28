-- What each edit makes of the subtree that it replaces, whatever its leaves hold.
use Rattle.std.proofs.Common.{◌≡◌, ◌≢◌, ℕ, ◌+◌, ◌*◌, ◌/◌, ◌%◌, ◌^◌, ◌<◌, ◌≤◌, Bool, true, false, cond, ◌⊎◌, inl, inr, ⊎_elim, List, [], ◌∷◌, ◌++◌, refl, sym, ◌∙◌, ap, arith, eqb, ltb, le-ltb, lt-ltb, subst}
use Rattle.std.proofs.Common.{append-nil, eqb-true, None}
use native.Mathlib.Decide.{ℕ_discrete}
use Rattle.histories.specs.Common.{Side, Left, Right, Settled, Child, SettledPart, Head, Key, First, Word, node, child, first_key}
use Rattle.ordered_map.specs.declared.pair.Pair.{Pair}
use Rattle.ordered_map.specs.OrderedMap.{pair, insert, MapEdit, Insert, Delete, edit_key, edited, delete, get, AllBelow, AllFrom, IsRising}
use Rattle.ordered_map.specs.Holding.{held_pairs, IsWellCounted}
use Rattle.ordered_map.specs.TreeWords.{class, is_leaf, level, rank, toward, opposite, leaf_items, Tree, Leaf, Fork, root, HasItems, IsLeaf, IsForkOver, Shows, Has, Passes}
use Rattle.ordered_map.specs.Edits.{IsLowLeaf, IsSwapBy, IsSplitBy, IsJoinBy, AreBelow, HasFieldsOf}
use Rattle.ordered_map.specs.TrieShape.{IsAboveBy}
use Rattle.ordered_map.specs.Bits.{side_from, side_to, Shares, Keeps}
use Rattle.ordered_map.proofs.Lists.{above_from, below_more, edited_from, edited_below, from_left, below_right, rising_left, rising_right}
use Rattle.ordered_map.proofs.Searches.{get_below}
use Rattle.ordered_map.proofs.Spanned.{AreForks, child_items, child_shares, low_from, low_to, narrow_from, narrow_to, node_low}
use Rattle.ordered_map.proofs.Maps.{edited_rises, get_above}
use Rattle.ordered_map.proofs.Holding.{SameSettled, held_first, rank_from, rank_below, same_leaf, same_items, low_items, high_items, key_small}
use Rattle.ordered_map.proofs.Trees.{items, last_leaf, EndsLow, has_last, frame_low, Replaced, Same, node_below, wider, frame, frame_items, frame_path, items_above, items_below, open_between, edited_local, apart, not_below, passes_has, split_at}

-- Field words of the node p alone differ between f and g.
pub record Apart (f g : Word → ℕ) (p : ℕ) : Type 0 where
  pub settled : (n : ℕ) (part : SettledPart) → g (node n (Settled part)) ≡ f (node n (Settled part))
  pub field : (n : ℕ) (side : Side) → p ≢ n → g (child n side) ≡ f (child n side)

pub apart_settled : (f g : Word → ℕ) (p : ℕ) → Apart f g p → (n : ℕ) → SameSettled f g n
apart_settled f g p e n (Settled part) i = e.settled n part
apart_settled f g p e n _ i = absurd i

apart_rank : (f g : Word → ℕ) (p : ℕ) → Apart f g p → (n : ℕ) → rank g n ≡ rank f n
apart_rank f g p e n = λ i. e.settled n Head i % 4 * 2 ^ 64 + e.settled n (Key First) i

apart_leaf : (f g : Word → ℕ) (p : ℕ) → Apart f g p → (n : ℕ) → is_leaf g n ≡ is_leaf f n
apart_leaf f g p e n = ap (λ v. eqb (v / 4 % 2) 1) (e.settled n Head)

apart_level : (f g : Word → ℕ) (p : ℕ) → Apart f g p → (n : ℕ) → level g n ≡ level f n
apart_level f g p e n = ap (λ v. v / 8) (e.settled n Head)

apart_class : (f g : Word → ℕ) (p : ℕ) → Apart f g p → (n : ℕ) → class g n ≡ class f n
apart_class f g p e n = ap (λ v. v % 4) (e.settled n Head)

apart_same : (f g : Word → ℕ) (p : ℕ) → Apart f g p → (n : ℕ) → p ≢ n → Same f g n
apart_same f g p e n d (Settled part) i = e.settled n part
apart_same f g p e n d (Child side) i = e.field n side d
apart_same f g p e n d _ i = absurd i

-- an edit that leaves nothing of a list with a pair takes out this one
emptied_key : (e : MapEdit) (p : Pair) (ps : List Pair) → edited e (p ∷ ps) ≡ [] → edit_key e ≡ p.key
emptied_key (Delete k) p ps none = go (eqb k p.key) refl none
  where
    go : (b : Bool) → eqb k p.key ≡ b → cond b ps (p ∷ delete k ps) ≡ [] → k ≡ p.key
    go true is x = eqb-true k p.key is
    go false is x = absurd (let z : p ∷ delete k ps ≡ [] = x in cc)
emptied_key (Insert k v) p ps none = go (ltb k p.key) (eqb k p.key) none
  where
    go : (b c : Bool) → cond b (pair k v ∷ p ∷ ps) (cond c (pair k v ∷ ps) (p ∷ insert k v ps)) ≡ [] → k ≡ p.key
    go true c x = absurd (let z : pair k v ∷ p ∷ ps ≡ [] = x in cc)
    go false true x = absurd (let z : pair k v ∷ ps ≡ [] = x in cc)
    go false false x = absurd (let z : p ∷ insert k v ps ≡ [] = x in cc)

-- on which side of a fork a key is
turned_left : (f : Word → ℕ) (n k : ℕ) → toward f n k ≡ Left → k < rank f n
turned_left f n k z = ⊎_elim (λ l. l) (λ l. absurd (let x : toward f n k ≡ Right = rw (le-ltb k (rank f n) l) refl in let y : Right ≡ Left = sym x ∙ z in cc)) (split_at k (rank f n))

turned_right : (f : Word → ℕ) (n k : ℕ) → toward f n k ≡ Right → rank f n ≤ k
turned_right f n k z = ⊎_elim (λ l. absurd (let x : toward f n k ≡ Left = rw (lt-ltb k (rank f n) l) refl in let y : Left ≡ Right = sym x ∙ z in cc)) (λ l. l) (split_at k (rank f n))

module _ (f g : Word → ℕ) (p : ℕ) (Stays : ℕ → ℕ → Type 0) (e : Apart f g p) where
  same : (n : ℕ) → SameSettled f g n
  same n = apart_settled f g p e n

  -- a leaf for a leaf
  pub swap : (c : MapEdit) (l new : ℕ) → edit_key c < 2 ^ 64 → l ≢ new → IsSwapBy f c l new → (lo hi : ℕ) (a : Tree) → lo ≤ edit_key c → edit_key c < hi → Shows f lo hi a → EndsLow f a → root a ≡ l → ¬ Has a p → Replaced f g (edited c) Stays (λ n. l ≡ n) (λ n. n ≡ new) new lo hi a
  swap c l new small ne s lo hi (Fork n a b) u w t ends q d = absurd (let z : true ≡ false = sym s.leaf ∙ rw q at t.0.fork in cc)
  swap c l new small ne s lo hi (Leaf n) u w t ends q d = record {
    tree = Leaf new;
    shows = same_leaf f g new lo hi (same new) (record { leaf = s.new.leaf; small = key_small f new below_all; items = there });
    is = refl;
    items = same_items f g new (same new) ∙ items_are;
    ends = apart_class f g p e new ∙ s.new.class ∙ sym low;
    low = tt;
    paths = λ j m x h. inr (sym q ∙ h);
    made = λ m h. inr (sym h);
    out = λ m h. (q ∙ h, λ i. ne (h ∙ sym i));
  }
    where
      had : HasItems f n lo hi
      had = t.items

      low : class f n ≡ 0
      low = ap (class f) q ∙ s.class

      items_are : leaf_items f new ≡ edited c (leaf_items f n)
      items_are = low_items f new s.new.class ∙ s.pairs ∙ ap (λ m. edited c (held_pairs f m)) (sym q) ∙ ap (edited c) (sym (low_items f n low))

      below_all : AllBelow (2 ^ 64) (held_pairs f new)
      below_all = subst (AllBelow (2 ^ 64)) (sym s.pairs) (edited_below c (2 ^ 64) (held_pairs f l) (subst (λ m. AllBelow (2 ^ 64) (held_pairs f m)) q (had.keys low).1) small)

      there : HasItems f new lo hi
      there = record {
        keys = λ z. (s.new.counted, below_all);
        rising = subst IsRising (sym items_are) (edited_rises c (leaf_items f n) had.rising);
        from = subst (AllFrom lo) (sym items_are) (edited_from c lo (leaf_items f n) had.from u);
        below = subst (AllBelow hi) (sym items_are) (edited_below c hi (leaf_items f n) had.below w);
      }

  -- a fork over two leaves for a leaf
  pub split : (c : MapEdit) (l new x y : ℕ) → edit_key c < 2 ^ 64 → p ≢ new → l ≢ new → l ≢ x → l ≢ y → level f new < level f x → level f new < level f y → IsSplitBy f c l new x y → (lo hi : ℕ) (a : Tree) → lo ≤ edit_key c → edit_key c < hi → Shows f lo hi a → EndsLow f a → root a ≡ l → ¬ Has a p
      → Replaced f g (edited c) Stays (λ n. l ≡ n) (λ n. (n ≡ new) ⊎ ((n ≡ x) ⊎ (n ≡ y))) new lo hi a
  split c l new x y small pc nc nx ny lx ly s lo hi (Fork n a b) u w t ends q d = absurd (let z : true ≡ false = sym s.leaf ∙ rw q at t.0.fork in cc)
  split c l new x y small pc nc nx ny lx ly s lo hi (Leaf n) u w t ends q d = record {
    tree = Fork new (Leaf x) (Leaf y);
    shows = (
      record {
        fork = apart_leaf f g p e new ∙ s.fork;
        left = e.field new Left pc ∙ s.left;
        right = e.field new Right pc ∙ s.right;
        low = let i : level g x ≡ level f x = apart_level f g p e x in omega (arith, lc, i, lx);
        high = let i : level g y ≡ level f y = apart_level f g p e y in omega (arith, lc, i, ly);
      },
      subst (λ r. IsLeaf g x lo r) (sym rc) (same_leaf f g x lo (rank f new) (same x) first),
      subst (λ r. IsLeaf g y r hi) (sym rc) (same_leaf f g y (rank f new) hi (same y) last),
    );
    is = refl;
    items = (λ i. same_items f g x (same x) i ++ same_items f g y (same y) i) ∙ all;
    ends = y_class ∙ sym (ap (class f) q);
    low = (λ z. y_class ∙ sym s.same_class ∙ sym (apart_class f g p e new) ∙ z, tt, tt);
    paths = λ j m x h. inr (sym q ∙ h);
    made = λ m h. inr (put m h);
    out = λ m h. (q ∙ h, λ i. not_l m h (put m i));
  }
    where
      had : HasItems f n lo hi
      had = t.items

      lc : level g new ≡ level f new
      lc = apart_level f g p e new

      rc : rank g new ≡ rank f new
      rc = apart_rank f g p e new

      y_class : class g y ≡ class f l
      y_class = apart_class f g p e y ∙ s.last.same_class

      all : leaf_items f x ++ leaf_items f y ≡ edited c (leaf_items f n)
      all = s.items ∙ ap (λ m. edited c (leaf_items f m)) (sym q)

      rising : IsRising (leaf_items f x ++ leaf_items f y)
      rising = subst IsRising (sym all) (edited_rises c (leaf_items f n) had.rising)

      from : AllFrom lo (leaf_items f x ++ leaf_items f y)
      from = subst (AllFrom lo) (sym all) (edited_from c lo (leaf_items f n) had.from u)

      below : AllBelow hi (leaf_items f x ++ leaf_items f y)
      below = subst (AllBelow hi) (sym all) (edited_below c hi (leaf_items f n) had.below w)

      first : IsLeaf f x lo (rank f new)
      first = record {
        leaf = s.first.leaf;
        small = key_small f x s.small;
        items = record {
          keys = λ z. (s.first.counted, s.small);
          rising = rising_left (leaf_items f x) (leaf_items f y) rising;
          from = from_left lo (leaf_items f x) (leaf_items f y) from;
          below = s.before;
        };
      }

      -- a leaf of the map holds keys of the map, since what it replaces did
      small_y : class f y ≡ 0 → AllBelow (2 ^ 64) (held_pairs f y)
      small_y z =
          let low : class f n ≡ 0 = ap (class f) q ∙ sym s.last.same_class ∙ z in
          let was : AllBelow (2 ^ 64) (leaf_items f n) = subst (AllBelow (2 ^ 64)) (sym (low_items f n low)) (had.keys low).1 in
          subst (AllBelow (2 ^ 64)) (low_items f y z) (below_right (2 ^ 64) (leaf_items f x) (leaf_items f y) (subst (AllBelow (2 ^ 64)) (sym all) (edited_below c (2 ^ 64) (leaf_items f n) was small)))

      key_y : Dec (class f y ≡ 0) → f (node y first_key) < 2 ^ 64
      key_y (yes z) = key_small f y (small_y z)
      key_y (no z) = rw (s.last.key z) (subst (λ m. f (node m first_key) < 2 ^ 64) q t.small)

      last : IsLeaf f y (rank f new) hi
      last = record {
        leaf = s.last.leaf;
        small = key_y (ℕ_discrete (class f y) 0);
        items = record {
          keys = λ z. (s.last.counted z, small_y z);
          rising = rising_right (leaf_items f x) (leaf_items f y) rising;
          from = s.behind;
          below = below_right hi (leaf_items f x) (leaf_items f y) below;
        };
      }

      put : (m : ℕ) → Has (Fork new (Leaf x) (Leaf y)) m → (m ≡ new) ⊎ ((m ≡ x) ⊎ (m ≡ y))
      put m (inl h) = inl (sym h)
      put m (inr (inl h)) = inr (inl (sym h))
      put m (inr (inr h)) = inr (inr (sym h))

      not_l : (m : ℕ) → l ≡ m → (m ≡ new) ⊎ ((m ≡ x) ⊎ (m ≡ y)) → ⊥
      not_l m h (inl i) = nc (h ∙ i)
      not_l m h (inr (inl i)) = nx (h ∙ i)
      not_l m h (inr (inr i)) = ny (h ∙ i)

  -- a copy c of the root z of a subtree
  copied : (z c : ℕ) → z ≢ c → (is_leaf f c ≡ false → p ≢ c) → f (node c (Settled Head)) ≡ f (node z (Settled Head)) → f (node c first_key) ≡ f (node z first_key) → (is_leaf f z ≡ true → class f z ≡ 0 → IsWellCounted f c × (held_pairs f c ≡ held_pairs f z)) → HasFieldsOf f c z
      → (lo hi : ℕ) (a : Tree) → Shows f lo hi a → EndsLow f a → root a ≡ z → ¬ Has a p → Replaced f g (λ xs. xs) Stays (λ n. z ≡ n) (λ n. n ≡ c) c lo hi a
  copied z c nc pc head key pairs below lo hi (Leaf n) t ends q d = record {
    tree = Leaf c;
    shows = same_leaf f g c lo hi (same c) (record { leaf = kind ∙ leaf_z; small = small; items = there });
    is = refl;
    items = same_items f g c (same c) ∙ items_are;
    ends = apart_class f g p e c ∙ class_c ∙ sym (ap (class f) q);
    low = tt;
    paths = λ j m x h. inr (sym q ∙ h);
    made = λ m h. inr (sym h);
    out = λ m h. (q ∙ h, λ i. nc (h ∙ sym i));
  }
    where
      had : HasItems f n lo hi
      had = t.items

      kind : is_leaf f c ≡ is_leaf f z
      kind = ap (λ v. eqb (v / 4 % 2) 1) head

      leaf_z : is_leaf f z ≡ true
      leaf_z = rw q at t.leaf

      class_c : class f c ≡ class f z
      class_c = ap (λ v. v % 4) head

      small : f (node c first_key) < 2 ^ 64
      small = let k : f (node c first_key) ≡ f (node n first_key) = key ∙ (λ i. f (node (sym q i) first_key)) in rw k t.small

      rank_c : rank f c ≡ rank f n
      rank_c = (λ i. head i % 4 * 2 ^ 64 + key i) ∙ sym (ap (rank f) q)

      low_z : class f c ≡ 0 → class f z ≡ 0
      low_z i = sym class_c ∙ i

      low_n : class f c ≡ 0 → class f n ≡ 0
      low_n i = ap (class f) q ∙ low_z i

      held_c : class f c ≡ 0 → held_pairs f c ≡ held_pairs f n
      held_c i = (pairs leaf_z (low_z i)).1 ∙ ap (held_pairs f) (sym q)

      of_class : Dec (class f c ≡ 0) → leaf_items f c ≡ leaf_items f n
      of_class (yes i) = low_items f c i ∙ held_c i ∙ sym (low_items f n (low_n i))
      of_class (no i) = high_items f c i ∙ (λ j. pair (rank_c j) 0 ∷ []) ∙ sym (high_items f n (λ k. i (class_c ∙ ap (class f) (sym q) ∙ k)))

      items_are : leaf_items f c ≡ leaf_items f n
      items_are = of_class (ℕ_discrete (class f c) 0)

      there : HasItems f c lo hi
      there = record {
        keys = λ i. ((pairs leaf_z (low_z i)).0, subst (AllBelow (2 ^ 64)) (sym (held_c i)) (had.keys (low_n i)).1);
        rising = subst IsRising (sym items_are) had.rising;
        from = subst (AllFrom lo) (sym items_are) had.from;
        below = subst (AllBelow hi) (sym items_are) had.below;
      }
  copied z c nc pc head key pairs below lo hi (Fork n a b) t ends q d = record {
    tree = Fork c a b;
    shows = (over, subst (λ v. Shows g lo v a) (sym rc) (frame f g a lo (rank f n) same_a t.1), subst (λ v. Shows g v hi b) (sym rc) (frame f g b (rank f n) hi same_b t.2));
    is = refl;
    items = λ i. frame_items f g a same_a i ++ frame_items f g b same_b i;
    ends = last_stays;
    low = (λ i. last_stays ∙ ends.0 (ap (class f) q ∙ sym class_c ∙ i), frame_low f g a same_a ends.1, frame_low f g b same_b ends.2);
    paths = paths;
    made = made;
    out = λ m h. (inl (q ∙ h), gone m h);
  }
    where
      gone : (m : ℕ) → z ≡ m → Has (Fork c a b) m → ⊥
      gone m h (inl i) = nc (h ∙ sym i)
      gone m h (inr (inl i)) = not_below f a lo (rank f n) m t.1 (rw (sym h ∙ sym q) t.0.low) i
      gone m h (inr (inr i)) = not_below f b (rank f n) hi m t.2 (rw (sym h ∙ sym q) t.0.high) i

      rc : rank g c ≡ rank f n
      rc = apart_rank f g p e c ∙ (λ i. head i % 4 * 2 ^ 64 + key i) ∙ sym (ap (rank f) q)

      class_c : class g c ≡ class f z
      class_c = apart_class f g p e c ∙ ap (λ v. v % 4) head

      last_stays : class g (last_leaf b) ≡ class f (last_leaf b)
      last_stays = apart_class f g p e (last_leaf b)

      deep : level f n ≡ level f c
      deep = rw (head, q) refl

      lc : level g c ≡ level f c
      lc = apart_level f g p e c

      same_a : (m : ℕ) → Has a m → Same f g m
      same_a m h = apart_same f g p e m (λ x. d (inr (inl (rw (← x) at h))))

      same_b : (m : ℕ) → Has b m → Same f g m
      same_b m h = apart_same f g p e m (λ x. d (inr (inr (rw (← x) at h))))

      fork_z : is_leaf f z ≡ false
      fork_z = rw q at t.0.fork

      left_z : f (child z Left) ≡ root a
      left_z = rw q at t.0.left

      right_z : f (child z Right) ≡ root b
      right_z = rw q at t.0.right

      over : IsForkOver g c a b
      over =
          let w : (side : Side) → f (child c side) ≡ f (child z side) = below fork_z in
          let fork_c : is_leaf f c ≡ false = ap (λ v. eqb (v / 4 % 2) 1) head ∙ fork_z in
          let la : level g (root a) ≡ level f (root a) = apart_level f g p e (root a) in
          let lb : level g (root b) ≡ level f (root b) = apart_level f g p e (root b) in
          let ta : level f n < level f (root a) = t.0.low in
          let tb : level f n < level f (root b) = t.0.high in
          record {
            fork = apart_leaf f g p e c ∙ ap (λ v. eqb (v / 4 % 2) 1) head ∙ fork_z;
            left = e.field c Left (pc fork_c) ∙ w Left ∙ left_z;
            right = e.field c Right (pc fork_c) ∙ w Right ∙ right_z;
            low = omega (arith, lc, la, ta, deep);
            high = omega (arith, lc, lb, tb, deep);
          }

      paths : (j m : ℕ) → Stays j m → Passes f j (Fork n a b) m → Passes g j (Fork c a b) m ⊎ (z ≡ m)
      paths j m w (inl h) = inr (sym q ∙ h)
      paths j m w (inr (inl h)) = inl (inr (inl (rw rc h.0, frame_path f g j a m same_a h.1)))
      paths j m w (inr (inr h)) = inl (inr (inr (rw rc h.0, frame_path f g j b m same_b h.1)))

      made : (m : ℕ) → Has (Fork c a b) m → Has (Fork n a b) m ⊎ (m ≡ c)
      made m (inl h) = inr (sym h)
      made m (inr h) = inl (inr h)

  lone_leaf : (l lo hi : ℕ) (a : Tree) → Shows f lo hi a → root a ≡ l → is_leaf f l ≡ true → a ≡ Leaf l
  lone_leaf l lo hi (Leaf n) t q x = ap Leaf q
  lone_leaf l lo hi (Fork n a b) t q x = absurd (let z : true ≡ false = sym x ∙ rw q at t.0.fork in cc)

  -- the leaf goes that is left without a pair
  pub join : (k : MapEdit) (q l z c : ℕ) → q ≢ c → l ≢ c → z ≢ c → (is_leaf f c ≡ false → p ≢ c) → IsJoinBy f k q l z c → AreBelow f q l z → HasFieldsOf f c z → (lo hi : ℕ) (a : Tree) → lo ≤ edit_key k → edit_key k < hi → Shows f lo hi a → EndsLow f a → root a ≡ q → ¬ Has a p → Replaced f g (edited k) Stays (λ n. (q ≡ n) ⊎ ((l ≡ n) ⊎ (z ≡ n))) (λ n. n ≡ c) c lo hi a
  join k q l z c qc lc zc pc s fields below lo hi (Leaf n) u w t ends x d = absurd (let y : true ≡ false = sym t.leaf ∙ rw (← x) at s.fork in cc)
  join k q l z c qc lc zc pc s fields below lo hi (Fork n a b) u w t ends x d = go fields
    where
      -- its key is that of the leaf
      rl : rank f l ≡ edit_key k
      rl =
          let x = held_first f l in
          let y : edit_key k ≡ f (node l first_key) = emptied_key k (pair (f (node l first_key)) x.value) x.rest (ap (edited k) (sym x.is) ∙ s.emptied) in
          let z = s.low in
          omega (arith, y, z)

      none : edited k (leaf_items f l) ≡ []
      none = ap (edited k) (low_items f l s.low) ∙ s.emptied

      left_n : f (child q Left) ≡ root a
      left_n = rw x at t.0.left

      right_n : f (child q Right) ≡ root b
      right_n = rw x at t.0.right

      go : ((f (child q Left) ≡ l) × (f (child q Right) ≡ z)) ⊎ ((f (child q Left) ≡ z) × (f (child q Right) ≡ l)) → Replaced f g (edited k) Stays (λ n. (q ≡ n) ⊎ ((l ≡ n) ⊎ (z ≡ n))) (λ n. n ≡ c) c lo hi (Fork n a b)
      go (inl o) = finish (copied z c zc pc s.copy.same_head s.copy.same_key s.copy.same_pairs below (rank f n) hi b t.2 ends.2 root_b (λ h. d (inr (inr h))))
        where
          root_b : root b ≡ z
          root_b = sym right_n ∙ o.1

          is_a : a ≡ Leaf l
          is_a = lone_leaf l lo (rank f n) a t.1 (sym left_n ∙ o.0) s.leaf

          leaf_l : IsLeaf f l lo (rank f n)
          leaf_l = rw is_a at t.1

          finish : Replaced f g (λ xs. xs) Stays (λ n. z ≡ n) (λ n. n ≡ c) c (rank f n) hi b → Replaced f g (edited k) Stays (λ n. (q ≡ n) ⊎ ((l ≡ n) ⊎ (z ≡ n))) (λ n. n ≡ c) c lo hi (Fork n a b)
          finish r =
              let l_below : rank f l < rank f n = rank_below f l lo (rank f n) leaf_l.items in
              let before : edited k (leaf_items f l ++ items f b) ≡ edited k (leaf_items f l) ++ items f b = (edited_local k).left (leaf_items f l) (items f b) (items_above f b (rank f n) hi (edit_key k) t.2 (omega (arith, l_below, rl))) in
              record {
                tree = r.tree;
                shows = wider g r.tree (rank f n) hi lo hi (let y = open_between f a lo (rank f n) t.1 in omega (arith, y)) (omega arith) r.shows;
                is = r.is;
                items = r.items ∙ sym (ap (λ (m : Tree). edited k (items f m ++ items f b)) is_a ∙ before ∙ ap (λ xs. xs ++ items f b) none);
                ends = r.ends;
                low = r.low;
                paths = paths;
                made = λ m h. ⊎_elim (λ y. inl (inr (inr y))) inr (r.made m h);
                out = gone;
              }
            where
              gone : (m : ℕ) → (q ≡ m) ⊎ ((l ≡ m) ⊎ (z ≡ m)) → Has (Fork n a b) m × ¬ Has r.tree m
              gone m (inl h) = (inl (x ∙ h), λ i. ⊎_elim (λ y. not_below f b (rank f n) hi m t.2 (rw (sym h ∙ sym x) t.0.high) y) (λ y. qc (h ∙ y)) (r.made m i))
              gone m (inr (inl h)) = let y : Has a m = rw is_a h in (inr (inl y), λ i. ⊎_elim (λ w. apart f a b lo (rank f n) hi m t.1 t.2 y w) (λ w. lc (h ∙ w)) (r.made m i))
              gone m (inr (inr h)) = (inr (inr (r.out m h).0), (r.out m h).1)

              paths : (j m : ℕ) → Stays j m → Passes f j (Fork n a b) m → Passes g j r.tree m ⊎ ((q ≡ m) ⊎ ((l ≡ m) ⊎ (z ≡ m)))
              paths j m w (inl h) = inr (inl (sym x ∙ h))
              paths j m w (inr (inl h)) = let y : l ≡ m = rw is_a at h.1 in inr (inr (inl y))
              paths j m w (inr (inr h)) = ⊎_elim inl (λ y. inr (inr (inr y))) (r.paths j m w h.1)
      go (inr o) = finish (copied z c zc pc s.copy.same_head s.copy.same_key s.copy.same_pairs below lo (rank f n) a t.1 ends.1 root_a (λ h. d (inr (inl h))))
        where
          root_a : root a ≡ z
          root_a = sym left_n ∙ o.0

          is_b : b ≡ Leaf l
          is_b = lone_leaf l (rank f n) hi b t.2 (sym right_n ∙ o.1) s.leaf

          leaf_l : IsLeaf f l (rank f n) hi
          leaf_l = rw is_b at t.2

          -- what is on its left is of class 0, as it is
          last_low : class f (last_leaf a) ≡ 0
          last_low =
              let below : rank f (last_leaf a) < rank f n = node_below f a lo (rank f n) (last_leaf a) t.1 (has_last a) in
              let from : rank f n ≤ rank f l = rank_from f l (rank f n) hi leaf_l.items in
              let low = s.low in
              let small = leaf_l.small in
              omega (arith, below, from, low, small)

          finish : Replaced f g (λ xs. xs) Stays (λ n. z ≡ n) (λ n. n ≡ c) c lo (rank f n) a → Replaced f g (edited k) Stays (λ n. (q ≡ n) ⊎ ((l ≡ n) ⊎ (z ≡ n))) (λ n. n ≡ c) c lo hi (Fork n a b)
          finish r =
              let l_from : rank f n ≤ rank f l = rank_from f l (rank f n) hi leaf_l.items in
              let before : edited k (items f a ++ leaf_items f l) ≡ items f a ++ edited k (leaf_items f l) = (edited_local k).right (items f a) (leaf_items f l) (items_below f a lo (rank f n) (edit_key k) t.1 (omega (arith, l_from, rl))) in
              record {
                tree = r.tree;
                shows = wider g r.tree lo (rank f n) lo hi (omega arith) (let y = open_between f b (rank f n) hi t.2 in omega (arith, y)) r.shows;
                is = r.is;
                items = r.items ∙ sym (ap (λ (m : Tree). edited k (items f a ++ items f m)) is_b ∙ before ∙ ap (λ ys. items f a ++ ys) none ∙ append-nil (items f a));
                ends = r.ends ∙ last_low ∙ sym s.low ∙ sym (ap (λ (m : Tree). class f (last_leaf m)) is_b);
                low = r.low;
                paths = paths;
                made = λ m h. ⊎_elim (λ y. inl (inr (inl y))) inr (r.made m h);
                out = gone;
              }
            where
              gone : (m : ℕ) → (q ≡ m) ⊎ ((l ≡ m) ⊎ (z ≡ m)) → Has (Fork n a b) m × ¬ Has r.tree m
              gone m (inl h) = (inl (x ∙ h), λ i. ⊎_elim (λ y. not_below f a lo (rank f n) m t.1 (rw (sym h ∙ sym x) t.0.low) y) (λ y. qc (h ∙ y)) (r.made m i))
              gone m (inr (inl h)) = let y : Has b m = rw is_b h in (inr (inr y), λ i. ⊎_elim (λ w. apart f a b lo (rank f n) hi m t.1 t.2 w y) (λ w. lc (h ∙ w)) (r.made m i))
              gone m (inr (inr h)) = (inr (inl (r.out m h).0), (r.out m h).1)

              paths : (j m : ℕ) → Stays j m → Passes f j (Fork n a b) m → Passes g j r.tree m ⊎ ((q ≡ m) ⊎ ((l ≡ m) ⊎ (z ≡ m)))
              paths j m w (inl h) = inr (inl (sym x ∙ h))
              paths j m w (inr (inr h)) = let y : l ≡ m = rw is_b at h.1 in inr (inr (inl y))
              paths j m w (inr (inl h)) = ⊎_elim inl (λ y. inr (inr (inr y))) (r.paths j m w h.1)

  -- a leaf with what the edit makes of no pair
  lone_pair : (c : MapEdit) (x lo hi : ℕ) → edit_key c < 2 ^ 64 → IsLowLeaf f x → held_pairs f x ≡ edited c [] → lo ≤ edit_key c → edit_key c < hi → IsLeaf f x lo hi
  lone_pair c x lo hi small leaf held u w = record {
    leaf = leaf.leaf;
    small = key_small f x below_all;
    items = record {
      keys = λ z. (leaf.counted, below_all);
      rising = subst IsRising (sym is) (edited_rises c [] tt);
      from = subst (AllFrom lo) (sym is) (edited_from c lo [] tt u);
      below = subst (AllBelow hi) (sym is) (edited_below c hi [] tt w);
    };
  }
    where
      is : leaf_items f x ≡ edited c []
      is = low_items f x leaf.class ∙ held

      below_all : AllBelow (2 ^ 64) (held_pairs f x)
      below_all = subst (AllBelow (2 ^ 64)) (sym held) (edited_below c (2 ^ 64) [] tt small)

  -- a fork goes below a fresh one, beside a leaf with a pair of its own
  pub above : (c : MapEdit) (u new x : ℕ) (side : Side) → edit_key c < 2 ^ 64 → p ≢ new → level f new < level f x → level f new < level f u → IsAboveBy f c u new x side → Keeps f new (opposite side) u → ((j m : ℕ) → Stays j m → (is_leaf f m ≡ false) × (class f m ≡ 0 → Shares f m j))
      → (lo hi : ℕ) (a : Tree) → lo ≤ edit_key c → edit_key c < hi → Shows f lo hi a → EndsLow f a → AreForks f a → root a ≡ u → ¬ Has a p → Replaced f g (edited c) Stays (λ n. ⊥) (λ n. (n ≡ new) ⊎ (n ≡ x)) new lo hi a
  above c u new x side small pc lx lu s keeps shares lo hi (Leaf n) v w t ends all q d = absurd (let z : true ≡ false = sym t.leaf ∙ rw (← q) at s.old_fork in cc)
  above c u new x side small pc lx lu s keeps shares lo hi (Fork n a b) v w t ends all q d = go side s keeps
    where
      k : ℕ
      k = edit_key c

      last : class f (last_leaf b) ≡ 0
      last = ends.0 (ap (class f) q ∙ s.old_low)

      same_m : (m : ℕ) → Has (Fork n a b) m → Same f g m
      same_m m h = apart_same f g p e m (λ y. d (rw (← y) at h))

      rank_is : rank f new ≡ f (node new first_key)
      rank_is = let z = s.low in omega (arith, z)

      rc : rank g new ≡ rank f new
      rc = apart_rank f g p e new

      x_items : leaf_items f x ≡ edited c []
      x_items = low_items f x s.first.class ∙ s.pairs

      x_class : class g x ≡ 0
      x_class = apart_class f g p e x ∙ s.first.class

      last_stays : class g (last_leaf b) ≡ class f (last_leaf b)
      last_stays = apart_class f g p e (last_leaf b)

      is_low : (m : ℕ) → Has (Fork n a b) m → class f m ≡ 0
      is_low m h = let y = node_low f (Fork n a b) lo hi m t last h in omega (arith, y)

      -- what stands on a side of it
      side_items : (at : Side) → Keeps f new at u → AllFrom (side_from f new at) (items f (Fork n a b)) × AllBelow (side_to f new at) (items f (Fork n a b))
      side_items at y = child_items f new at (Fork n a b) lo hi t last all (subst (Keeps f new at) (sym q) y)

      side_keys : (at : Side) → Keeps f new at u → (j m : ℕ) → Stays j m → Has (Fork n a b) m → (side_from f new at ≤ j) × (j < side_to f new at)
      side_keys at y j m z h =
          let i = shares j m z in
          child_shares f new at (Fork n a b) lo hi m j t last all (subst (Keeps f new at) (sym q) y) h i.0 (i.1 (is_low m h))

      put_left : (m : ℕ) → Has (Fork new (Leaf x) (Fork n a b)) m → Has (Fork n a b) m ⊎ ((m ≡ new) ⊎ (m ≡ x))
      put_left m (inl h) = inr (inl (sym h))
      put_left m (inr (inl h)) = inr (inr (sym h))
      put_left m (inr (inr h)) = inl h

      put_right : (m : ℕ) → Has (Fork new (Fork n a b) (Leaf x)) m → Has (Fork n a b) m ⊎ ((m ≡ new) ⊎ (m ≡ x))
      put_right m (inl h) = inr (inl (sym h))
      put_right m (inr (inl h)) = inl h
      put_right m (inr (inr h)) = inr (inr (sym h))

      lc : level g new ≡ level f new
      lc = apart_level f g p e new

      x_deep : level g new < level g x
      x_deep = let y : level g x ≡ level f x = apart_level f g p e x in omega (arith, lc, y, lx)

      u_deep : level g new < level g n
      u_deep = let y : level g n ≡ level f n = apart_level f g p e n in let z : level f n ≡ level f u = ap (level f) q in omega (arith, lc, y, z, lu)

      go : (side : Side) → IsAboveBy f c u new x side → Keeps f new (opposite side) u → Replaced f g (edited c) Stays (λ n. ⊥) (λ n. (n ≡ new) ⊎ (n ≡ x)) new lo hi (Fork n a b)
      go Left r y = record {
        tree = Fork new (Leaf x) (Fork n a b);
        shows = (
          record { fork = apart_leaf f g p e new ∙ r.fork; left = e.field new Left pc ∙ r.leaf; right = e.field new Right pc ∙ r.other ∙ sym q; low = x_deep; high = u_deep },
          subst (λ i. IsLeaf g x lo i) (sym rc) (same_leaf f g x lo (rank f new) (same x) (lone_pair c x lo (rank f new) small r.first r.pairs v key)),
          subst (λ i. Shows g i hi (Fork n a b)) (sym rc) (frame f g (Fork n a b) (rank f new) hi same_m (narrow_from f (Fork n a b) lo hi (rank f new) t from)),
        );
        is = refl;
        items = (λ i. same_items f g x (same x) i ++ frame_items f g (Fork n a b) same_m i) ∙ ap (λ xs. xs ++ items f (Fork n a b)) x_items ∙ sym ((edited_local c).left [] (items f (Fork n a b)) (above_from k (rank f new) (items f (Fork n a b)) key from));
        ends = last_stays;
        low = (λ _. last_stays ∙ last, tt, frame_low f g (Fork n a b) same_m ends);
        paths = λ j m z h. inl (inr (inr (rw rc (beyond j m z h), frame_path f g j (Fork n a b) m same_m h)));
        made = put_left;
        out = λ m z. absurd z;
      }
        where
          key : k < rank f new
          key = turned_left f new k r.turn

          bound : side_from f new Right ≡ rank f new
          bound = (low_from f new r.low).1 ∙ sym rank_is

          from : AllFrom (rank f new) (items f (Fork n a b))
          from = subst (λ i. AllFrom i (items f (Fork n a b))) bound (side_items Right y).0

          beyond : (j m : ℕ) → Stays j m → Passes f j (Fork n a b) m → rank f new ≤ j
          beyond j m z h = subst (λ i. i ≤ j) bound (side_keys Right y j m z (passes_has f j (Fork n a b) m h)).0
      go Right r y = record {
        tree = Fork new (Fork n a b) (Leaf x);
        shows = (
          record { fork = apart_leaf f g p e new ∙ r.fork; left = e.field new Left pc ∙ r.other ∙ sym q; right = e.field new Right pc ∙ r.leaf; low = u_deep; high = x_deep },
          subst (λ i. Shows g lo i (Fork n a b)) (sym rc) (frame f g (Fork n a b) lo (rank f new) same_m (narrow_to f (Fork n a b) lo hi (rank f new) t below)),
          subst (λ i. IsLeaf g x i hi) (sym rc) (same_leaf f g x (rank f new) hi (same x) (lone_pair c x (rank f new) hi small r.first r.pairs key w)),
        );
        is = refl;
        items = (λ i. frame_items f g (Fork n a b) same_m i ++ same_items f g x (same x) i) ∙ ap (λ xs. items f (Fork n a b) ++ xs) x_items ∙ sym ((edited_local c).right (items f (Fork n a b)) [] (below_more (rank f new) k (items f (Fork n a b)) key below)) ∙ ap (edited c) (append-nil (items f (Fork n a b)));
        ends = x_class ∙ sym last;
        low = (λ _. x_class, frame_low f g (Fork n a b) same_m ends, tt);
        paths = λ j m z h. inl (inr (inl (rw rc (before j m z h), frame_path f g j (Fork n a b) m same_m h)));
        made = put_right;
        out = λ m z. absurd z;
      }
        where
          key : rank f new ≤ k
          key = turned_right f new k r.turn

          bound : side_to f new Left ≡ rank f new
          bound = (low_to f new r.low).0 ∙ sym rank_is

          below : AllBelow (rank f new) (items f (Fork n a b))
          below = subst (λ i. AllBelow i (items f (Fork n a b))) bound (side_items Left y).1

          before : (j m : ℕ) → Stays j m → Passes f j (Fork n a b) m → j < rank f new
          before j m z h = subst (λ i. j < i) bound (side_keys Left y j m z (passes_has f j (Fork n a b) m h)).1

-- none of what is below where a fork is put above has the edit's key
pub absent : (f : Word → ℕ) (c : MapEdit) (u new x : ℕ) (side : Side) (a : Tree) (lo hi : ℕ) → Shows f lo hi a → EndsLow f a → AreForks f a → root a ≡ u → IsAboveBy f c u new x side → Keeps f new (opposite side) u → get (edit_key c) (items f a) ≡ None
absent f c u new x side (Leaf n) lo hi t ends all q s keeps = absurd (let z : true ≡ false = sym t.leaf ∙ rw (← q) at s.old_fork in cc)
absent f c u new x side (Fork n a b) lo hi t ends all q s keeps = go side s keeps
  where
    k : ℕ
    k = edit_key c

    last : class f (last_leaf b) ≡ 0
    last = ends.0 (ap (class f) q ∙ s.old_low)

    go : (side : Side) → IsAboveBy f c u new x side → Keeps f new (opposite side) u → get (edit_key c) (items f (Fork n a b)) ≡ None
    go Left r y =
        let held = child_items f new Right (Fork n a b) lo hi t last all (subst (Keeps f new Right) (sym q) y) in
        let bound = (low_from f new r.low).1 in
        let below : k < rank f new = turned_left f new k r.turn in
        let low = r.low in
        get_above k (items f (Fork n a b)) (above_from k (side_from f new Right) (items f (Fork n a b)) (omega (arith, bound, below, low)) held.0)
    go Right r y =
        let held = child_items f new Left (Fork n a b) lo hi t last all (subst (Keeps f new Left) (sym q) y) in
        let bound = (low_to f new r.low).0 in
        let from : rank f new ≤ k = turned_right f new k r.turn in
        let low = r.low in
        get_below k (items f (Fork n a b)) (below_more (side_to f new Left) k (items f (Fork n a b)) (omega (arith, bound, from, low)) held.1)
