-- What a range knows one place further.
use Rattle.std.proofs.Common.{◌≡◌, ◌≢◌, ℕ, zero, suc, ◌+◌, ◌-◌, ◌*◌, ◌<◌, ◌≤◌, ◌⊎◌, Bool, true, false, ltb, leb, ◌&&◌, List, [], ◌∷◌, ◌++◌, length, reverse, inl, inr, ⊎_elim, refl, sym, ◌∙◌, ap, subst, arith, le-ltb, min, Some, None}
use Rattle.std.proofs.Common.{Vec, take, Global}
use Rattle.std.proofs.Math.Nat.{suc-mul, mul-le-mul_right}
use Rattle.std.proofs.lemmas.Bool.Decides.{leb_tells}
use Rattle.std.proofs.lemmas.List.{reverse-append}
use Rattle.arena.specs.declared.head.Head.{Head as HeadParts}
use Rattle.histories.specs.Common.{NodeNo, Settled, More as MoreWord, Key as KeyWord, History, value, Extends, Call}
use Rattle.template.specs.Common.{Snap, Pair, between, range, ManyPairs, IsMapRun, Spells, class, is_leaf, level, rank, IsOwnMoment}
use Rattle.ordered_map.proofs.Lemmas.{SameSettled, settled_class, settled_leaf, settled_rank}
use Rattle.ordered_map.proofs.MapLemmas.{run_spells, stood_settled}
use Rattle.order.specs.Found.{AreThere, BeginsAtRoot, GoesTo, IsAtLowFork, IsReading, IsThere, Looks, Stands, StandsBefore, StandsIn, TakesPair, head_at, key_at, place_key, more_at, place_pair, place_value}
use Rattle.order.specs.Loads.{place_behind}
use Rattle.order.specs.Next.{MayValidate}
use Rattle.order.specs.Range.{AreWithin, GoesBehind, GoesOnBehind, Visits, VisitsIn, bounds_of, range_means, waiting_of}
use Rattle.order.specs.Reads.{HasStood}
use Rattle.order.specs.Visits.{HasVisited, HasVisitedIn}
use Rattle.order.specs.declared.load.LeafPlace.{LeafPlace}
use Rattle.order.specs.declared.range.Range.{Range}
use Rattle.order.specs.declared.read.Children.{Children}
use Rattle.order.specs.declared.read.Children.TheVariants.{Left, Right, Both}
use Rattle.order.proofs.Looking.{some_taken}
use Rattle.order.proofs.Placing.{behind_node, pair_then}
use Rattle.order.proofs.Visiting.{ends_all, ends_full, ends_last, passes, passes_above, takes, visited_in, visits_both, visits_in, visits_left, visits_next, visits_on, visits_right, visits_root}

-- Of no pairs, and of no keys

abbrev no_pairs : List Pair
no_pairs = []

split : (a b : ℕ) → (a < b) ⊎ (b ≤ a)
split a b = grind arith

gt_leb : (a b : ℕ) → b < a → leb a b ≡ false
gt_leb a b i = ⊎_elim (λ x. absurd (let y = x.1 in omega (arith, y, i))) (λ x. x.0) (leb_tells a b)

no_and : (b : Bool) → (b && false) ≡ false
no_and true = refl
no_and false = refl

outside : (low high k : ℕ) → high < low → (leb low k && leb k high) ≡ false
outside low high k i = ⊎_elim (λ l. rw (gt_leb low k l) refl) (λ l. rw (gt_leb k high (omega (arith, i, l))) (no_and (leb low k))) (split k low)

pub no_keys : (low high : ℕ) (m : List Pair) → high < low → between low high m ≡ []
no_keys low high [] i = refl
no_keys low high (p ∷ ps) i = rw (outside low high p.key i) (no_keys low high ps i)

pub take_none : (n : ℕ) → take n no_pairs ≡ []
take_none zero = refl
take_none (suc n) = refl

take_zero : (ys : List Pair) → take 0 ys ≡ []
take_zero [] = refl
take_zero (y ∷ ys) = refl

pub none_of_none : (low high : ℕ) (m : List Pair) → range low high 0 m ≡ []
none_of_none low high m = take_zero (between low high m)

-- it takes no pair, whatever the map has
pub takes_nothing : (low high most : ℕ) → (most ≡ 0) ⊎ (high < low) → (map : List Pair) → range low high most map ≡ []
takes_nothing low high most (inl e) map = rw e (none_of_none low high map)
takes_nothing low high most (inr i) map = ap (take most) (no_keys low high map i) ∙ take_none most

-- How it begins

so_many_leaves : (most leaves : ℕ) → most ≤ 64 → leaves ≡ min (most + 2) 18446744073709551615 → leaves ≡ most + 2
so_many_leaves most leaves few is = omega (arith, few, is)

pub begins_at_root : (r : Range) → 0 < r.most → r.low ≤ r.high → r.waiting.items ≡ [] → r.taken.items ≡ [] → r.leaves ≡ min (r.most + 2) 18446744073709551615 → BeginsAtRoot range_means r
begins_at_root r some ordered waiting taken leaves = record {
  asks = (some, ordered);
  waits = ap reverse waiting;
  root = λ lay b suits run.
      let spelled : (ps : List Pair) × Spells lay (value b) ps = run_spells lay b run in
      rw (taken, waiting, so_many_leaves r.most r.leaves suits.1 leaves) (some, visits_root b (bounds_of r) spelled.1.tree spelled.1.is_tree);
}

pub begins_near : (most leaves each : ℕ) → leaves ≡ min (most + 2) 18446744073709551615 → each + (leaves - 1) * each ≤ (most + 2) * each
begins_near most leaves each is =
    let one : suc (leaves - 1) * each ≤ (most + 2) * each = mul-le-mul_right each (omega (arith, is)) in
    let e : suc (leaves - 1) * each ≡ (leaves - 1) * each + each = suc-mul (leaves - 1) each in
    omega (arith, one, e)

-- From a fork

module _ (r : Range) (left right : NodeNo) where
  pub both_go : (waiting : Vec NodeNo Global) → waiting.items ≡ r.waiting.items ++ right ∷ [] → GoesTo range_means r (record r { waiting = waiting }) Both left right left
  both_go waiting more = record {
    one = inl refl;
    waits = λ c h before to_left to_right. rw waits_is (to_right, before);
    below = λ lay b n run fork unmarked to_left to_right x. rw (waits_is, ← to_left, ← to_right) (x.1.0, visits_both b (bounds_of r) n r.taken.items (waiting_of r) r.leaves x.1.1 fork x.0.0 x.0.1);
  }
    where
      waits_is : reverse waiting.items ≡ right ∷ reverse r.waiting.items
      waits_is = ap reverse more ∙ reverse-append r.waiting.items (right ∷ [])

  pub left_goes : GoesTo range_means r r Left left right left
  left_goes = record {
    one = inl refl;
    waits = λ c h before to_left to_right. before;
    below = λ lay b n run fork unmarked to_left to_right x. rw (← to_left) (x.1.0, visits_left b (bounds_of r) n r.taken.items (waiting_of r) r.leaves x.1.1 fork x.0);
  }

  pub right_goes : GoesTo range_means r r Right left right right
  right_goes = record {
    one = inr refl;
    waits = λ c h before to_left to_right. before;
    below = λ lay b n run fork unmarked to_left to_right x. rw (← to_right) (x.1.0, visits_right b (bounds_of r) n r.taken.items (waiting_of r) r.leaves x.1.1 fork x.0);
  }

-- At a node

pub lt_of : (a b : ℕ) → ltb a b ≡ true → a < b
lt_of a b p = ⊎_elim (λ i. i) (λ i. absurd (let f : true ≡ false = sym p ∙ le-ltb a b i in cc)) (split a b)

module _ (r : Range) (snaps : List Snap) (c : Call) (h : History) (n : ℕ) (reading : IsReading range_means r snaps c h) (x : Stands range_means r snaps c h n) where
  same_then : (b : History) → IsMapRun c.layout b → Extends b h → SameSettled (value h) (value b) n
  same_then b run e = stood_settled c.layout b h n run e x.stood.stood

  -- above all keys
  pub high_behind : IsOwnMoment c h → is_leaf (value h) n ≡ true → class (value h) n ≢ 0 → GoesBehind r snaps c h (r.leaves - 1)
  high_behind own leaf high = record {
    own = own;
    asks = x.asks;
    some = some_taken range_means r snaps c h reading n x leaf;
    waits = x.waits;
    visited = λ b run e hold. let v : Visits r b n = x.here b run e hold in (v.0, passes_above b (bounds_of r) n r.taken.items (waiting_of r) r.leaves v.1 (settled_leaf (value h) (value b) n (same_then b run e) ∙ leaf) (λ z. high (sym (settled_class (value h) (value b) n (same_then b run e)) ∙ z)) (above b run e));
  }
    where
      above : (b : History) → IsMapRun c.layout b → Extends b h → r.high < rank (value b) n
      above b run e =
          let k : rank (value b) n ≡ rank (value h) n = settled_rank (value h) (value b) n (same_then b run e) in
          let s = reading.suits.0 in
          omega (arith, k, s, high)

  -- a fork
  looks_at : (children : Children) (deep : ℕ) → is_leaf (value h) n ≡ false → level (value h) n ≡ deep → AreWithin r (rank (value h) n) children → Looks range_means r snaps c h children deep n
  looks_at children deep fork is within = record {
    stood = x.stood;
    asks = x.asks;
    fork = fork;
    deep = omega (arith, is);
    waits = x.waits;
    here = λ b run e hold. (subst (λ k. AreWithin r k children) (sym (settled_rank (value h) (value b) n (same_then b run e))) within, x.here b run e hold);
  }

  pub high_looks : (head : HeadParts) → head_at h n ≡ head → head.leaf ≡ false → head.class ≢ 0 → Looks range_means r snaps c h Left head.level n
  high_looks head is fork high = looks_at Left head.level (ap (λ (w : HeadParts). w.leaf) is ∙ fork) (ap (λ (w : HeadParts). w.level) is) (let k : class (value h) n ≡ head.class = ap (λ (w : HeadParts). w.class) is in let s = reading.suits.0 in omega (arith, s, k, high))

-- At the key of a fork

pub low_looks : (r : Range) (snaps : List Snap) (c : Call) (h : History) (children : Children) (low n key : ℕ) → IsReading range_means r snaps c h → IsAtLowFork range_means r snaps c h low n → key_at h n ≡ key → AreWithin r key children → Looks range_means r snaps c h children low n
low_looks r snaps c h children low n key reading x d within = looks_at r snaps c h n reading x.stands children low x.fork x.deep (subst (λ k. AreWithin r k children) (sym rank_is) within)
  where
    rank_is : rank (value h) n ≡ key
    rank_is = let z = x.class in let e = d in omega (arith, z, e)

-- At the head of a leaf of class 0

pub starts_in : (r : Range) (snaps : List Snap) (c : Call) (h : History) (n : NodeNo) → IsReading range_means r snaps c h → Stands range_means r snaps c h n.0 → is_leaf (value h) n.0 ≡ true → class (value h) n.0 ≡ 0 → StandsBefore range_means r snaps c h n
starts_in r snaps c h n reading x leaf low = record {
  stood = x.stood;
  asks = x.asks;
  some = some_taken range_means r snaps c h reading n.0 x leaf;
  waits = x.waits;
  here = λ b run e hold.
      let same : SameSettled (value h) (value b) n.0 = stood_settled c.layout b h n.0 run e x.stood.stood in
      let v : Visits r b n.0 = x.here b run e hold in
      (v.0, visits_in b (bounds_of r) n (more_at h n.0) r.taken.items (waiting_of r) r.leaves v.1 (settled_leaf (value h) (value b) n.0 same ∙ leaf) (settled_class (value h) (value b) n.0 same ∙ low) (same (Settled MoreWord) tt));
}

-- At a pair of a leaf

one_longer : (xs : List Pair) (p : Pair) → length (xs ++ p ∷ []) ≡ length xs + 1
one_longer [] p = refl
one_longer (x ∷ xs) p = let e = one_longer xs p in omega (arith, e)

-- one outside of the bounds is passed
pub pair_passed : (r : Range) (snaps : List Snap) (c : Call) (h : History) (p : LeafPlace) (key : ℕ) → IsOwnMoment c h → StandsIn range_means r snaps c h p → place_key h p ≡ key → (key < r.low) ⊎ (r.high < key) → GoesOnBehind r snaps c h p
pair_passed r snaps c h p key own x is out = record {
  own = own;
  asks = x.asks;
  some = x.some;
  stood = x.stood;
  waits = x.waits;
  visited = λ b run e hold.
      let key_is : place_key b p ≡ key = stood_settled c.layout b h p.node.0 run e x.stood.stood (Settled (KeyWord p.slot)) tt ∙ is in
      let v : VisitsIn r b p = x.here b run e hold in
      ((let i = v.0 in omega (arith, i)), passes b (bounds_of r) p r.taken.items (waiting_of r) r.leaves v.1 (rw key_is out));
}

-- one within them is taken
pub pair_taken : (r : Range) (snaps : List Snap) (c : Call) (h : History) (p : LeafPlace) (found : Pair) (taken : Vec Pair Global) → IsOwnMoment c h → TakesPair range_means r snaps c h p found.key → place_value h p ≡ found.value → taken.items ≡ r.taken.items ++ found ∷ [] → GoesOnBehind (record r { taken = taken }) snaps c h p
pair_taken r snaps c h p found taken own x is items = record {
  own = own;
  asks = x.stands.asks;
  some = x.stands.some;
  stood = x.stands.stood;
  waits = x.stands.waits;
  visited = λ b run e hold.
      let key_is : place_key b p ≡ found.key = x.key_is b run e hold in
      let pair_is : place_pair b p ≡ found = pair_then c h p found x.stands.stood.stood is b run e key_is in
      let v : VisitsIn r b p = x.stands.here b run e hold in
      rw items (
        (let i = v.0 in let l : length (r.taken.items ++ found ∷ []) ≡ length r.taken.items + 1 = one_longer r.taken.items found in omega (arith, i, l)),
        subst (λ (q : Pair). HasVisitedIn b (bounds_of r) p (r.taken.items ++ q ∷ []) (waiting_of r) r.leaves) pair_is (takes b (bounds_of r) p r.taken.items (waiting_of r) r.leaves v.1 (rw key_is x.takes.0) (rw key_is x.takes.1)),
      );
}

-- After a pair

module _ (r : Range) (snaps : List Snap) (c : Call) (h : History) (p : LeafPlace) (x : GoesOnBehind r snaps c h p) where
  -- as many are taken as it may answer
  pub taken_all : r.most ≤ length r.taken.items → MayValidate range_means r snaps c h
  taken_all full = record {
    asks = x.asks;
    own = x.own;
    some = x.some;
    right = λ b run e hold ps spelled.
        let v : (length r.taken.items ≤ r.most) × HasVisitedIn b (bounds_of r) p r.taken.items (waiting_of r) r.leaves = x.visited b run e hold in
        ap ManyPairs (ends_full c.layout b (bounds_of r) p r.taken.items (waiting_of r) r.leaves v.1 (let i = v.0 in omega (arith, i, full)) ps spelled);
  }

  module _ (room : length r.taken.items < r.most) where
    -- the next one is read
    pub stands_next : (q : LeafPlace) → place_behind p ≡ Some q → StandsIn range_means r snaps c h q
    stands_next q is = record {
      stood = subst (λ (n : NodeNo). HasStood c h n.0) (sym (behind_node p q is)) x.stood;
      asks = x.asks;
      some = x.some;
      waits = x.waits;
      here = λ b run e hold. (room, visits_on b (bounds_of r) p r.taken.items (waiting_of r) r.leaves (x.visited b run e hold).1 q is);
    }

    -- or the leaf is done
    pub leaf_behind : place_behind p ≡ None → GoesBehind r snaps c h (r.leaves - 1)
    leaf_behind is = record {
      own = x.own;
      asks = x.asks;
      some = x.some;
      waits = x.waits;
      visited = λ b run e hold. (room, visited_in b (bounds_of r) p r.taken.items (waiting_of r) r.leaves (x.visited b run e hold).1 is);
    }

-- After a leaf

module _ (r : Range) (snaps : List Snap) (c : Call) (h : History) (leaves : ℕ) (x : GoesBehind r snaps c h leaves) where
  -- the next node that waits
  pub next_visited : (n : NodeNo) (waiting : Vec NodeNo Global) → r.waiting.items ≡ waiting.items ++ n ∷ [] → Stands range_means (record r { leaves = leaves; waiting = waiting }) snaps c h n.0 × (0 < level (value h) n.0)
  next_visited n waiting is = (
    record {
      stood = there.0.0;
      asks = x.asks;
      some = inr x.some;
      waits = there.1;
      here = λ b run e hold. let v = x.visited b run e hold in (v.0, visits_next b (bounds_of r) n r.taken.items (reverse waiting.items) leaves (rw waits_is at v.1));
    },
    there.0.1,
  )
    where
      waits_is : waiting_of r ≡ n ∷ reverse waiting.items
      waits_is = ap reverse is ∙ reverse-append waiting.items (n ∷ [])

      there : IsThere c h n × AreThere c h (reverse waiting.items)
      there = rw waits_is at x.waits

  -- none is visited any more: none waits, or enough leaves were visited
  pub visits_end : (now : Range) → now.low ≡ r.low → now.high ≡ r.high → now.most ≡ r.most → now.taken ≡ r.taken → (r.waiting.items ≡ []) ⊎ (leaves ≡ 0) → MayValidate range_means now snaps c h
  visits_end now low high most taken why = record {
    asks = rw (low, high, most) x.asks;
    own = x.own;
    some = x.some;
    right = λ b run e hold ps spelled.
        let v : (length r.taken.items < r.most) × HasVisited b (bounds_of r) r.taken.items (waiting_of r) leaves = x.visited b run e hold in
        rw (low, high, most, taken) (ap ManyPairs (go b (let i = v.0 in omega (arith, i)) v.1 why ps spelled));
  }
    where
      go : (b : History) → length r.taken.items ≤ r.most → HasVisited b (bounds_of r) r.taken.items (waiting_of r) leaves → (r.waiting.items ≡ []) ⊎ (leaves ≡ 0) → (ps : List Pair) → Spells c.layout (value b) ps → range r.low r.high r.most ps ≡ r.taken.items
      go b room v (inl none) = ends_all c.layout b (bounds_of r) r.taken.items (waiting_of r) leaves v room (ap reverse none)
      go b room v (inr last) = ends_last c.layout b (bounds_of r) r.taken.items (waiting_of r) leaves v room last

-- the next path takes no more steps than those that are left after this one
pub next_path : (leaves nodes : ℕ) → leaves - 1 ≢ 0 → 67 * (1 + nodes - 0) + (leaves - 1 - 1) * (67 * (2 + nodes)) ≤ (leaves - 1) * (67 * (2 + nodes))
next_path leaves nodes d =
    let one : suc (leaves - 1 - 1) * (67 * (2 + nodes)) ≤ (leaves - 1) * (67 * (2 + nodes)) = mul-le-mul_right (67 * (2 + nodes)) (omega (arith, d)) in
    let e : suc (leaves - 1 - 1) * (67 * (2 + nodes)) ≡ (leaves - 1 - 1) * (67 * (2 + nodes)) + 67 * (2 + nodes) = suc-mul (leaves - 1 - 1) (67 * (2 + nodes)) in
    close ((leaves - 1 - 1) * (67 * (2 + nodes))) ((leaves - 1) * (67 * (2 + nodes))) (rw e at one)
  where
    close : (a b : ℕ) → a + 67 * (2 + nodes) ≤ b → 67 * (1 + nodes - 0) + a ≤ b
    close a b i = omega (arith, i)

pub none_left : {A : Type 0} (items : List A) → length items ≡ 0 → items ≡ []
none_left [] e = refl
none_left (a ∷ items) e = absurd (omega (arith, e))
