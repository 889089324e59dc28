-- What the walk to an end has found: the leaf on the path of its own key there, and the pair at
-- that end of the map.
use Rattle.std.proofs.Common.{Bool, true, false, cond, eqb, ◌≡◌, ◌≢◌, ◌⊎◌, inl, inr, ⊎_elim, ℕ, ◌<◌, ◌≤◌, ◌^◌, eq-eqb, ne_eqb, lt-ltb, le-ltb, [], refl, sym, ◌∙◌, ap, arith, subst, Some, None}
use Rattle.std.specs.Option.{option_map}
use native.Mathlib.Decide.{ℕ_discrete}
use Rattle.histories.specs.Common.{Tree as TreeMode, Settled, More, Key, Side, Left, Right, Slot, Word, node, child, History, value, Extends, Call}
use Rattle.template.specs.Common.{IsWellCounted, end_slot, held_pairs, pair_in, AllBelow, IsRising, pair, get, end_pair, Passed, IsMapRun, class, is_leaf}
use Rattle.arena.specs.declared.limits.Mode.TheVariants.{Trie as TrieMode}
use Rattle.arena.proofs.Lemmas.{ends_trans}
use Rattle.template.specs.Common.{IsOwnMoment, level, rank, toward, said, path_key, asked_in, HasFoundGoal, HasFoundLeaf, end_told, WasPassed, HasTurned, Goal, Key as ToKey, End}
use Rattle.ordered_map.specs.MapLaws.{IsEndmost}
use Rattle.ordered_map.specs.Paths.{HasHadChild, IsEndAt, end_key, end_turn}
use Rattle.ordered_map.specs.Strays.{IsApart}
use Rattle.ordered_map.specs.TreeWords.{leaf_pairs, end_said}
use Rattle.ordered_map.proofs.Lemmas.{IsBeside, IsUpTo, beside_same, split_at, end_up, end_small, end_is, SameSettled, held_end, low_pairs, high_pairs, settled_class, settled_rank, settled_leaf, settled_toward}
use Rattle.ordered_map.proofs.MapLemmas.{had_beside, had_deeper, had_low, parent_stood, run_since, stood_blank, stood_holds, stood_parted, stood_settled, walk_beside, walk_turns, walk_end, walk_first, walk_next, walk_own, walked_stood}
use Rattle.template.specs.Trails.{OnTrail}
use Rattle.template.proofs.WalkTurns.{in_tree}
use Rattle.template.proofs.WalkBounds.{found_below}
use Rattle.template.proofs.Inserting.{child_on, either_mode}
use Rattle.template.proofs.EndOfTrie.{had, stays_at, still_near, to_left, turned_in_trie}
use Rattle.template.specs.declared.walk.Found.{Found}

-- the key k is on the side of a fork of this rank to which the search for the key at the end goes
abbrev pub IsWithin : Side → ℕ → ℕ → Type 0
IsWithin Left k r = k < r
IsWithin Right k r = IsUpTo Right k r

within_up : (end : Side) (k r : ℕ) → IsWithin end k r → IsUpTo end k r
within_up Left k r x = omega (arith, x)
within_up Right k r x = x

within_toward : (end : Side) (f : Word → ℕ) (n k : ℕ) → IsWithin end k (rank f n) → toward f n k ≡ toward f n (end_key end)
within_toward Left f n k x = rw (lt-ltb k (rank f n) x, lt-ltb 0 (rank f n) (omega (arith, x))) refl
within_toward Right f n k x = go (split_at (rank f n) (2 ^ 64))
  where
    go : (rank f n < 2 ^ 64) ⊎ (2 ^ 64 ≤ rank f n) → toward f n k ≡ toward f n (end_key Right)
    go (inl low) = let up = x.1 low in rw (le-ltb k (rank f n) up, le-ltb (end_key Right) (rank f n) (omega (arith, low))) refl
    go (inr high) = let small = x.0 in rw (lt-ltb k (rank f n) (omega (arith, small, high)), lt-ltb (end_key Right) (rank f n) (omega (arith, high))) refl

-- what was passed on the way to an end was passed on the way to each key between
own_passed : (end : Side) (c : Call) (h : History) (k n : ℕ) → IsMapRun c.layout h → c.layout.mode ≡ TreeMode → WasPassed c h (end_key end) n → IsUpTo end k (rank (value h) n) → WasPassed c h k n
own_passed end c h k n run mode x up = record { first = x.first; own = x.own; passed = inl (walk_own end c.layout h x.first k n run (in_tree c.layout h x.first (end_key end) n mode x.passed) up) }

-- what was passed by a moment says what it said
passed_same : (c : Call) (h m : History) (k n : ℕ) → IsMapRun c.layout h → Extends h m → WasPassed c m k n → SameSettled (value m) (value h) n
passed_same c h m k n run e x = stood_settled c.layout h m n run e (walked_stood c.layout m x.first k n x.passed)

module _ (end : Side) (c : Call) (h : History) (n : ℕ) (side : Side) (next : ℕ) (run : IsMapRun c.layout h) (mode : c.layout.mode ≡ TreeMode) (x : HasTurned c h (end_key end) n side next) where
  -- to which side a walk to an end has turned
  turned : side ≡ end_turn end (class (value h) n)
  turned = sym x.side_is ∙ walk_turns end c.layout h x.passed.first n run (in_tree c.layout h x.passed.first (end_key end) n mode x.passed.passed) x.fork

  -- and where what it has found there is, seen from the fork
  turned_beside : IsBeside (value h) side n next
  turned_beside =
      let s = x.shown in
      let then : IsMapRun c.layout s.moment = run_since c.layout h s.moment run s.within in
      let same : SameSettled (value s.moment) (value h) n = passed_same c h s.moment (end_key end) n run s.within s.passed in
      let fork : is_leaf (value s.moment) n ≡ false = sym (settled_leaf (value s.moment) (value h) n same) ∙ x.fork in
      let to : toward (value s.moment) n (end_key end) ≡ side = sym (settled_toward (value s.moment) (value h) n (end_key end) same) ∙ x.side_is in
      let here : Passed s.moment s.passed.first (end_key end) n = in_tree c.layout s.moment s.passed.first (end_key end) n mode s.passed.passed in
      let down : WasPassed c s.moment (end_key end) next = record { first = s.passed.first; own = s.passed.own; passed = inl (subst (Passed s.moment s.passed.first (end_key end)) (ap (λ (q : Side). value s.moment (child n q)) to ∙ s.held) (walk_next c.layout s.moment s.passed.first (end_key end) n then here (inl mode) fork)) } in
      let beside : IsBeside (value s.moment) side n (value s.moment (child n side)) = walk_beside c.layout s.moment s.passed.first (end_key end) n side then here fork in
      beside_same (value s.moment) (value h) side n next (settled_rank (value s.moment) (value h) n same) (settled_rank (value s.moment) (value h) next (passed_same c h s.moment (end_key end) next run s.within down)) (subst (IsBeside (value s.moment) side n) s.held beside)

  -- what is between the end and the node that was found there is on that side of the fork
  turned_within : (k : ℕ) → IsUpTo end k (rank (value h) next) → IsWithin end k (rank (value h) n)
  turned_within k up = go end side turned turned_beside up
    where
      left : (b : Bool) (q : Side) → q ≡ cond b Left Left → q ≡ Left
      left true q e = e
      left false q e = e

      go : (e q : Side) → q ≡ end_turn e (class (value h) n) → IsBeside (value h) q n next → IsUpTo e k (rank (value h) next) → IsWithin e k (rank (value h) n)
      go Left q is y u =
          let z : rank (value h) next < rank (value h) n = subst (λ s. IsBeside (value h) s n next) (left (eqb (class (value h) n) 0) q is) y in
          omega (arith, z, u)
      go Right q is y u = (
        u.0,
        λ low.
            let zero : class (value h) n ≡ 0 = omega (arith, low) in
            let z : IsBeside (value h) Right n next = subst (λ s. IsBeside (value h) s n next) (is ∙ ap (λ b. cond b Right Left) (eq-eqb (class (value h) n) 0 zero)) y in
            let over : rank (value h) n ≤ rank (value h) next = z.0 in
            let own : rank (value h) next ≤ k = u.1 (z.1 low) in
            omega (arith, over, own),
      )

  -- so it is on the way to each key between
  own_turned : (k : ℕ) → IsWithin end k (rank (value h) n) → HasTurned c h k n side next
  own_turned k within = record {
    passed = own_passed end c h k n run mode x.passed (within_up end k (rank (value h) n) within);
    fork = x.fork;
    side_is = within_toward end (value h) n k within ∙ x.side_is;
    shown =
        let s = x.shown in
        let e : rank (value h) n ≡ rank (value s.moment) n = settled_rank (value s.moment) (value h) n (passed_same c h s.moment (end_key end) n run s.within s.passed) in
        record {
          moment = s.moment;
          within = s.within;
          own = s.own;
          passed = own_passed end c s.moment k n (run_since c.layout h s.moment run s.within) mode s.passed (subst (IsUpTo end k) e (within_up end k (rank (value h) n) within));
          held = s.held;
        };
  }

-- of the leaf at an end
module _ (end : Side) (c : Call) (h : History) (f : Found) (run : IsMapRun c.layout h) (a : HasFoundGoal (End end) c h f) where
  abbrev leaf : ℕ
  leaf = f.trail.node.0

  class_is : class (value h) leaf ≡ f.head.class
  class_is = ap (λ w. w.class) a.head

  abbrev slot : Slot
  slot = end_slot end (value h (node leaf (Settled More)))

  holds : f.head.class ≡ 0 → IsWellCounted (value h) leaf × AllBelow (2 ^ 64) (held_pairs (value h) leaf) × IsRising (held_pairs (value h) leaf)
  holds low = stood_holds c.layout h leaf run (walked_stood c.layout h a.trail.node.first (end_key end) leaf a.trail.node.passed) a.leaf (class_is ∙ low)

  key_low : f.head.class ≡ 0 → value h (node leaf (Settled (Key slot))) ≡ f.key
  key_low low =
      let own : asked_in (End end) (value h) leaf ≡ value h (node leaf (Settled (Key slot))) = rw (eq-eqb (class (value h) leaf) 0 (class_is ∙ low)) refl in
      sym own ∙ a.key

  small_end : f.key < 2 ^ 64
  small_end = go (ℕ_discrete f.head.class 0)
    where
      go : Dec (f.head.class ≡ 0) → f.key < 2 ^ 64
      go (yes low) = subst (λ k. k < 2 ^ 64) (key_low low) (end_small end (value h) leaf (holds low).1)
      go (no high) =
          let zero : asked_in (End end) (value h) leaf ≡ 0 = rw (ne_eqb (class (value h) leaf) 0 (λ z. high (sym class_is ∙ z))) refl in
          let key = a.key in
          omega (arith, zero, key)

  -- its key is between the end and its rank
  own_key : f.head.class ≡ 0 → IsUpTo end f.key (rank (value h) leaf)
  own_key low = subst (λ k. IsUpTo end k (rank (value h) leaf)) (key_low low) (end_up end (value h) leaf (class_is ∙ low) (holds low).2 (holds low).1)

  -- the value that it answers then is in the leaf
  end_there : f.head.class ≡ 0 → f.value ≡ Some (pair_in (value h) leaf slot).value
  end_there z =
      let own = value h (node leaf (Settled (Key slot))) in
      let got : get own (held_pairs (value h) leaf) ≡ Some (pair_in (value h) leaf slot).value = (subst (IsEndmost end (held_pairs (value h) leaf)) (held_end end (value h) leaf) (end_is end (held_pairs (value h) leaf) (holds z).2)).0 in
      a.says ∙ ap (λ k. said (value h) k leaf) (a.key ∙ sym (key_low z)) ∙ ap (get own) (low_pairs (value h) leaf (class_is ∙ z)) ∙ got

  -- in a tree it has come to the leaf on the way of its key
  module _ (mode : c.layout.mode ≡ TreeMode) (low : f.head.class ≡ 0) where
    at_parent : leaf ≢ 0 → IsWithin end f.key (rank (value h) f.trail.parent.0)
    at_parent d = turned_within end c h f.trail.parent.0 f.trail.side leaf run mode (a.trail.parent d) f.key (own_key low)

    at_grand : leaf ≢ 0 → f.trail.parent.0 ≢ 0 → IsWithin end f.key (rank (value h) f.trail.grand.0)
    at_grand d p = turned_within end c h f.trail.grand.0 f.trail.grand_side f.trail.parent.0 run mode (a.trail.grand d p) f.key (within_up end f.key (rank (value h) f.trail.parent.0) (at_parent d))

    own_in_tree : OnTrail c h f.key f.trail
    own_in_tree = record {
      node = own_passed end c h f.key leaf run mode a.trail.node (own_key low);
      parent = λ d. own_turned end c h f.trail.parent.0 f.trail.side leaf run mode (a.trail.parent d) f.key (at_parent d);
      grand = λ d p. own_turned end c h f.trail.grand.0 f.trail.grand_side f.trail.parent.0 run mode (a.trail.grand d p) f.key (at_grand d p);
      high = a.trail.high;
    }

  -- and in a trie
  module _ (trie : c.layout.mode ≡ TrieMode) (low : f.head.class ≡ 0) where
    near : ¬ IsApart (value h) leaf f.key
    near x = let y : None ≡ Some (pair_in (value h) leaf slot).value = sym (a.says ∙ ap (λ k. said (value h) k leaf) a.key ∙ x.leaf a.leaf) ∙ end_there low in cc

    parent_turned : HasTurned c h (end_key end) f.trail.parent.0 f.trail.side leaf
    parent_turned = a.trail.parent (found_below (End end) c h f run a)

    parent_near : ¬ IsApart (value h) f.trail.parent.0 f.key
    parent_near = still_near end c h f.key f.trail.parent.0 f.trail.side leaf small_end run parent_turned trie near

    own_parent : HasTurned c h f.key f.trail.parent.0 f.trail.side leaf
    own_parent = turned_in_trie end c h f.key f.trail.parent.0 f.trail.side leaf small_end run parent_turned trie near

    own_in_trie : OnTrail c h f.key f.trail
    own_in_trie = record {
      node = let x = child_on c h f.key f.trail.parent.0 f.trail.side leaf run own_parent (stays_at end c h f.key f.trail.parent.0 f.trail.side leaf small_end run parent_turned trie near) in record { first = x.first; own = x.own; passed = inl x.passed };
      parent = λ d. own_parent;
      grand = λ d p. turned_in_trie end c h f.key f.trail.grand.0 f.trail.grand_side f.trail.parent.0 small_end run (a.trail.grand d p) trie parent_near;
      high = a.trail.high;
    }

  -- where the leaf has a key, it is the leaf of that
  pub found_own : f.head.class ≡ 0 → HasFoundLeaf c h f.key f
  found_own low = record {
    trail = ⊎_elim (λ mode. own_in_tree mode low) (λ trie. own_in_trie trie low) (either_mode c.layout.mode run.0);
    leaf = a.leaf;
    head = a.head;
    deep = a.deep;
    more = a.more;
    none = a.none;
    key = refl;
    says = a.says ∙ ap (λ k. said (value h) k leaf) a.key;
  }

  -- what its words say is what was said of it
  pub found_told : end_said end (value h) leaf ≡ end_told f
  found_told = go (ℕ_discrete f.head.class 0)
    where
      at_low : f.head.class ≡ 0 → end_said end (value h) leaf ≡ end_told f
      at_low z =
          let held = low_pairs (value h) leaf (class_is ∙ z) in
          let there : end_pair end (held_pairs (value h) leaf) ≡ Some (pair_in (value h) leaf slot) = held_end end (value h) leaf in
          ap (end_pair end) held ∙ there ∙ ap (λ k. Some (pair k (pair_in (value h) leaf slot).value)) (key_low z) ∙ sym (ap (option_map (pair f.key)) (end_there z))

      empty : (e : Side) → end_pair e [] ≡ None
      empty Left = refl
      empty Right = refl

      at_high : f.head.class ≢ 0 → end_said end (value h) leaf ≡ end_told f
      at_high d =
          let none : leaf_pairs (value h) leaf ≡ [] = high_pairs (value h) leaf (λ z. d (sym class_is ∙ z)) in
          ap (end_pair end) none ∙ empty end ∙ sym (ap (option_map (pair f.key)) (a.says ∙ ap (get (asked_in (End end) (value h) leaf)) none))

      go : Dec (f.head.class ≡ 0) → end_said end (value h) leaf ≡ end_told f
      go (yes z) = at_low z
      go (no d) = at_high d

  -- In a trie a leaf that has no pair is below the root, since the walk has turned to the left
  module _ (trie : c.layout.mode ≡ TrieMode) (none : f.value ≡ None) where
    high : class (value h) leaf ≢ 0
    high z = let x : None ≡ Some (pair_in (value h) leaf slot).value = sym none ∙ end_there (sym class_is ∙ z) in cc

    below : HasTurned c h (end_key end) f.trail.parent.0 f.trail.side leaf
    below = a.trail.parent (found_below (End end) c h f run a)

    has_leaf : HasHadChild h f.trail.parent.0 f.trail.side leaf
    has_leaf = had end c h 0 f.trail.parent.0 f.trail.side leaf (omega arith) run below

    above : class (value h) f.trail.parent.0 ≢ 0
    above z = high (had_low c.layout h f.trail.parent.0 f.trail.side leaf run has_leaf below.fork z)

    on_left : f.trail.side ≡ Left
    on_left = to_left end c h 0 f.trail.parent.0 f.trail.side leaf (omega arith) run below above

    under : rank (value h) leaf < rank (value h) f.trail.parent.0
    under = subst (λ s. IsBeside (value h) s f.trail.parent.0 leaf) on_left (had_beside c.layout h f.trail.parent.0 f.trail.side leaf run has_leaf below.fork)

    top : level (value h) f.trail.parent.0 ≡ 0
    top =
        let p = parent_stood h f.trail.parent.0 f.trail.side leaf has_leaf in
        let parted = ((stood_parted c.layout h f.trail.parent.0 trie run p) below.fork).0.top above in
        let blank = stood_blank c.layout h f.trail.parent.0 run p above in
        omega (arith, high, under, parted, blank)

    is_root : f.trail.parent.0 ≡ 0
    is_root = go (ℕ_discrete f.trail.parent.0 0)
      where
        deeper : f.trail.parent.0 ≢ 0 → ⊥
        deeper d =
            let x = a.trail.grand (found_below (End end) c h f run a) d in
            let low = had_deeper c.layout h f.trail.grand.0 f.trail.grand_side f.trail.parent.0 run (had end c h 0 f.trail.grand.0 f.trail.grand_side f.trail.parent.0 (omega arith) run x) x.fork in
            omega (arith, low, top)

        go : Dec (f.trail.parent.0 ≡ 0) → f.trail.parent.0 ≡ 0
        go (yes z) = z
        go (no d) = absurd (deeper d)

    -- so it was on the path there when its field was read
    abbrev moment : History
    moment = below.shown.moment

    at_leaf : Passed h moment (end_key end) leaf
    at_leaf = let p = there in (p.0, ends_trans h moment p.0 below.shown.within p.1, p.2, p.3)
      where
        run_then : IsMapRun c.layout moment
        run_then = run_since c.layout h moment run below.shown.within

        same : SameSettled (value moment) (value h) f.trail.parent.0
        same = passed_same c h moment (end_key end) f.trail.parent.0 run below.shown.within below.shown.passed

        fork : is_leaf (value moment) f.trail.parent.0 ≡ false
        fork = sym (settled_leaf (value moment) (value h) f.trail.parent.0 same) ∙ below.fork

        turn : toward (value moment) f.trail.parent.0 (end_key end) ≡ f.trail.side
        turn = sym (settled_toward (value moment) (value h) f.trail.parent.0 (end_key end) same) ∙ below.side_is

        at_root : Passed moment moment (end_key end) f.trail.parent.0
        at_root = subst (Passed moment moment (end_key end)) (sym is_root) (walk_first c.layout moment (end_key end) run_then)

        there : Passed moment moment (end_key end) leaf
        there = subst (Passed moment moment (end_key end)) (ap (λ z. value moment (child f.trail.parent.0 z)) turn ∙ below.shown.held)
            (walk_next c.layout moment moment (end_key end) f.trail.parent.0 run_then at_root (inr (fork, λ low. absurd (above (settled_class (value moment) (value h) f.trail.parent.0 same ∙ low)))) fork)

    none_at_end : IsEndAt end c.layout h moment (end_told f)
    none_at_end = subst (IsEndAt end c.layout h moment) found_told (walk_end end c.layout h moment leaf run at_leaf a.leaf)

  -- So it answers the pair at that end of the map, at a moment of the call; in a trie, where a fork
  -- that was put above another may have led it astray, if it answers that there is none.
  pub found_end : (c.layout.mode ≡ TreeMode) ⊎ (f.value ≡ None) → (first : History) × IsOwnMoment c first × IsEndAt end c.layout h first (end_told f)
  found_end sure = go sure (either_mode c.layout.mode run.0)
    where
      in_a_tree : c.layout.mode ≡ TreeMode → (first : History) × IsOwnMoment c first × IsEndAt end c.layout h first (end_told f)
      in_a_tree mode = (a.trail.node.first, a.trail.node.own, subst (IsEndAt end c.layout h a.trail.node.first) found_told (walk_end end c.layout h a.trail.node.first leaf run (in_tree c.layout h a.trail.node.first (end_key end) leaf mode a.trail.node.passed) a.leaf))

      go : (c.layout.mode ≡ TreeMode) ⊎ (f.value ≡ None) → (c.layout.mode ≡ TreeMode) ⊎ (c.layout.mode ≡ TrieMode) → (first : History) × IsOwnMoment c first × IsEndAt end c.layout h first (end_told f)
      go (inl mode) which = in_a_tree mode
      go (inr none) (inl mode) = in_a_tree mode
      go (inr none) (inr trie) = (moment trie none, (below trie none).shown.own, none_at_end trie none)

-- the key that it answers is below 2 ^ 64
pub found_small : (goal : Goal) (c : Call) (h : History) (f : Found) → IsMapRun c.layout h → path_key goal < 2 ^ 64 → HasFoundGoal goal c h f → f.key < 2 ^ 64
found_small (ToKey k) c h f run small a = subst (λ n. n < 2 ^ 64) a.key small
found_small (End end) c h f run small a = small_end end c h f run a
