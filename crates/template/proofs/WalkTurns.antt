-- What a walk waits for after each of its turns.
use Rattle.std.proofs.Common.{◌≡◌, ◌≢◌, ℕ, ◌*◌, ◌+◌, ◌-◌, ◌^◌, ◌<◌, true, false, cond, ltb, length, eq-eqb, eqb-true, ne_eqb, lt-ltb, ◌⊎◌, inl, inr, refl, sym, ◌∙◌, ap, arith, subst, Option, Some, None}
use Rattle.std.specs.Prelude.{unwrap_or}
use Rattle.arena.specs.declared.head.Head.{Head as HeadParts}
use Rattle.arena.specs.declared.limits.Mode.TheVariants.{Trie as TrieMode}
use Rattle.histories.specs.Common.{Layout, Tree as TreeMode, Turn, Ask, Done, Step, Side, Left, Right, Settled, Child as ChildWord, Head as HeadWord, More as MoreWord, Key as KeyWord}
use Rattle.histories.specs.Common.{Value as ValueWord, High as HighWord, head_of, node, child, first_key, Slot, Word, History, value, Extends, Call, MatchTurn, taken_nodes}
use Rattle.arena.proofs.Lemmas.{ends_self}
use Rattle.ordered_map.proofs.Lemmas.{shares_span, end_is, held_end, low_pairs, from_rises, get_here, get_behind, get_nowhere}
use Rattle.ordered_map.proofs.MapLemmas.{below_root, levels_rise, root_head, stood_depth, stood_holds, stood_parted, stood_turns, walk_first, walked_next, walked_stood}
use Rattle.template.specs.Common.{IsWellCounted, held_pairs, held_from, held_behind, slot_behind, end_slot, pair_in, wide_value, AllBelow, IsRising, get, Passed, HasWalked, IsMapRun, class, is_leaf}
use Rattle.template.specs.Common.{level, rank, toward, said, IsOwnMoment, Goal, Key as ToKey, End, path_key, asked_key, asked_in, HasFoundGoal, FoundBy, MayGo, WalkKnows, walk_step, WalkIsReady, WalkIsTold, WalkEnds}
use Rattle.ordered_map.specs.MapLaws.{IsEndmost}
use Rattle.ordered_map.specs.Bits.{IsForkKey, IsInSpan, Shares}
use Rattle.ordered_map.specs.Paths.{depth, end_turn}
use Rattle.ordered_map.specs.TrieShape.{Stays}
use Rattle.template.specs.FoundLeaf.{IsToKey}
use Rattle.template.specs.Trails.{OnTrail}
use Rattle.template.specs.declared.walk.Trail.{Trail}
use Rattle.template.specs.declared.walk.Found.{Found}
use Rattle.template.specs.declared.walk.Way.{Way}
use Rattle.template.specs.declared.walk.Way.TheVariants.{InTree, InTrie, Within}
use Rattle.template.specs.declared.walk.WalkRun.{WalkRun}
use Rattle.template.specs.declared.walk.WalkAt.{WalkAt}
use Rattle.template.specs.declared.walk.WalkAt.TheVariants.{Start, Root, Head, Child, More, Pair, Value, High}
use Rattle.template.specs.Walk.Known.{LoadsChild, EndsAt, asks_key, open_side, goal_slot, here, WalkStandsAtLeaf, IsSlotFor, WalkTurn, WalkAsks, WalkStands}

pub own_since : (c : Call) (h : History) → IsOwnMoment c h → Extends h c.start
own_since c h b = subst (λ k. Extends k c.start) (sym b.is) (inr b.since)

-- it waits at a place; where that is the load of a field, a walk within knows that its node stays
pub waits_at : (c : Call) (h : History) (old now : WalkRun) (turn : Turn Found) (at : WalkAt) (step : Step) → WalkStands old c h → WalkAsks old now turn at step → WalkKnows c h (record old { at = at }) at → (old.way ≡ Within → LoadsChild at → Stays c.layout (value h) (path_key old.goal) old.trail.node.0) → step ≡ walk_step old at → WalkTurn c h now turn
waits_at c h old now turn at step k a known leaves e = rw (a.asked, a.stands) record { run = k.run; may = k.may; small = k.small; since = own_since c h k.own; known = known; sure = λ w. record { above = k.sure w; leaves = leaves w }; asked = e }

-- a walk within goes to a key
within_to_key : (lay : Layout) (goal : Goal) → MayGo lay Within goal → IsToKey goal
within_to_key lay (ToKey k) may = tt
within_to_key lay (End side) may = absurd may

-- a walk in a tree never strays
pub in_tree : (lay : Layout) (h start : History) (k n : ℕ) → lay.mode ≡ TreeMode → HasWalked lay h start k n → Passed h start k n
in_tree lay h start k n mode (inl p) = p
in_tree lay h start k n mode (inr s) = absurd (let x : TreeMode ≡ TrieMode = sym mode ∙ s.trie in cc)

-- a leaf that it has found is so by each way
found_by : (way : Way) (goal : Goal) (c : Call) (h : History) (f : Found) → HasFoundGoal goal c h f → (way ≡ Within → f.trail.node.0 ≢ 0 → Stays c.layout (value h) (path_key goal) f.trail.parent.0) → FoundBy way goal c h f
found_by InTree goal c h f a stays = a
found_by InTrie goal c h f a stays = a
found_by Within goal c h f a stays = inl record { found = a; stays = stays refl }

-- it has ended
answers_at : (c : Call) (h : History) (old now : WalkRun) (turn : Turn Found) (head : HeadParts) (more key : ℕ) (found : Option ℕ) → WalkStands old c h → WalkEnds old now turn head more key found → is_leaf (value h) old.trail.node.0 ≡ true → head_of (here h old (Settled HeadWord)) ≡ head
    → (head.class ≡ 0 → here h old (Settled MoreWord) ≡ more) → (head.class ≢ 0 → more ≡ 0) → asked_in old.goal (value h) old.trail.node.0 ≡ key → found ≡ said (value h) (asked_in old.goal (value h) old.trail.node.0) old.trail.node.0 → WalkTurn c h now turn
answers_at c h old now turn head more key found k a leaf e many none d says =
    let deep : head.level < depth c.layout.mode (length (taken_nodes h)) = subst (λ w. w.level < depth c.layout.mode (length (taken_nodes h))) e (stood_depth c.layout h old.trail.node.0 k.run (walked_stood c.layout h k.trail.node.first (path_key old.goal) old.trail.node.0 k.trail.node.passed)) in
    rw (a.done, a.stands) (found_by old.way old.goal c h (record { trail = old.trail; head = head; more = more; key = key; value = found }) record { trail = k.trail; leaf = leaf; head = e; deep = deep; more = many; none = none; key = d; says = says } k.sure)

module _ (c : Call) (h : History) (m : WalkRun) (k : WalkStands m c h) (head : HeadParts) (e : head_of (here h m (Settled HeadWord)) ≡ head) where
  abbrev n : ℕ
  n = m.trail.node.0

  class_is : class (value h) n ≡ head.class
  class_is = ap (λ w. w.class) e

  pub level_is : level (value h) n ≡ head.level
  level_is = ap (λ w. w.level) e

  -- a head that says so is a leaf's, or a fork's
  pub leaf_is : head.leaf ≡ true → is_leaf (value h) n ≡ true
  leaf_is q = ap (λ w. w.leaf) e ∙ q

  pub fork_is : head.leaf ≡ false → is_leaf (value h) n ≡ false
  fork_is q = ap (λ w. w.leaf) e ∙ q

  -- above all keys
  high : head.class ≢ 0 → (path_key m.goal) < rank (value h) n
  high q = let s = k.small in let x = class_is in omega (arith, s, x, q)

  pub left_above : head.class ≢ 0 → toward (value h) n (path_key m.goal) ≡ Left
  left_above q = rw (lt-ltb (path_key m.goal) (rank (value h) n) (high q)) refl

  pub says_nothing_above : (asked : ℕ) → head.class ≢ 0 → None ≡ said (value h) asked n
  says_nothing_above asked q = rw (ne_eqb (class (value h) n) 0 (λ x. q (sym class_is ∙ x))) refl

  -- the key of a leaf above all keys counts for 0
  pub asked_above : (goal : Goal) → head.class ≢ 0 → asked_in goal (value h) n ≡ asked_key goal 0
  asked_above (ToKey key) q = refl
  asked_above (End side) q = rw (ne_eqb (class (value h) n) 0 (λ z. q (sym class_is ∙ z))) refl

  -- where it goes at a fork of class 0 depends on its key
  pub goes_by_key : head.class ≡ 0 → (key : ℕ) → here h m first_key ≡ key → toward (value h) n (path_key m.goal) ≡ cond (ltb (path_key m.goal) key) Left Right
  goes_by_key low key d =
      let z : class (value h) n ≡ 0 = class_is ∙ low in
      let at_key : rank (value h) n ≡ key = omega (arith, z, d) in
      ap (λ r. cond (ltb (path_key m.goal) r) Left Right) at_key

-- it has ended at a leaf above all keys
pub ends_above : (c : Call) (h : History) (old now : WalkRun) (turn : Turn Found) (parts : HeadParts) → WalkStands old c h → WalkEnds old now turn parts 0 (asked_key old.goal 0) None → head_of (here h old (Settled HeadWord)) ≡ parts → parts.class ≢ 0 → parts.leaf ≡ true → WalkTurn c h now turn
ends_above c h old now turn parts k a e above leaf = answers_at c h old now turn parts 0 (asked_key old.goal 0) None k a (leaf_is c h old k parts e leaf) e (λ q. absurd (above q)) (λ d. refl) (asked_above c h old k parts e old.goal above) (says_nothing_above c h old k parts e (asked_in old.goal (value h) old.trail.node.0) above)

-- In a leaf of class 0

-- it begins with the first slot, or with that at its end
pub first_slot : (goal : Goal) (f : Word → ℕ) (n more : ℕ) → f (node n (Settled MoreWord)) ≡ more → IsSlotFor goal f n (goal_slot goal more)
first_slot (ToKey k) f n more e = refl
first_slot (End side) f n more e = ap (end_slot side) (sym e)

-- the key at an end of a leaf of class 0
end_asked : (side : Side) (f : Word → ℕ) (n : ℕ) → class f n ≡ 0 → asked_in (End side) f n ≡ f (node n (Settled (KeyWord (end_slot side (f (node n (Settled MoreWord)))))))
end_asked side f n low = rw (eq-eqb (class f n) 0 low) refl

-- what it answers is in a slot or after it
slot_says : (goal : Goal) (f : Word → ℕ) (n : ℕ) (slot : Slot) → class f n ≡ 0 → IsRising (held_pairs f n) → IsSlotFor goal f n slot → get (asked_in goal f n) (held_pairs f n) ≡ get (asked_in goal f n) (held_from f n slot)
slot_says (ToKey k) f n slot low rises at = at
slot_says (End side) f n slot low rises at =
    let last : Slot = end_slot side (f (node n (Settled MoreWord))) in
    let key : ℕ = f (node n (Settled (KeyWord last))) in
    let whole : get key (held_pairs f n) ≡ Some (pair_in f n last).value = (subst (IsEndmost side (held_pairs f n)) (held_end side f n) (end_is side (held_pairs f n) rises)).0 in
    ap (λ k. get k (held_pairs f n)) (end_asked side f n low) ∙ whole ∙ sym (get_here f n last key refl) ∙ (λ i. get (sym (end_asked side f n low) i) (held_from f n (sym at i)))

-- the key asked for, in a slot that has it
slot_asked : (goal : Goal) (f : Word → ℕ) (n : ℕ) (slot : Slot) (key : ℕ) → class f n ≡ 0 → IsSlotFor goal f n slot → f (node n (Settled (KeyWord slot))) ≡ key → asked_key goal key ≡ key → asked_in goal f n ≡ key
slot_asked (ToKey k) f n slot key low at d same = same
slot_asked (End side) f n slot key low at d same = end_asked side f n low ∙ ap (λ s. f (node n (Settled (KeyWord s)))) (sym at) ∙ d

-- and where the slot has another
other_asked : (goal : Goal) (f : Word → ℕ) (n key : ℕ) → asked_key goal key ≢ key → asked_in goal f n ≡ asked_key goal key
other_asked (ToKey k) f n key d = refl
other_asked (End side) f n key d = absurd (d refl)

-- it is then after the slot
slot_next : (goal : Goal) (f : Word → ℕ) (n : ℕ) (slot next : Slot) (key : ℕ) → IsSlotFor goal f n slot → f (node n (Settled (KeyWord slot))) ≡ key → asked_key goal key ≢ key → slot_behind (f (node n (Settled MoreWord))) slot ≡ Some next → IsSlotFor goal f n next
slot_next (ToKey k) f n slot next key at e d behind = at ∙ get_behind f n slot k (λ z. d (z ∙ e)) ∙ ap (λ o. get k (held_behind f n o)) behind
slot_next (End side) f n slot next key at e d behind = absurd (d refl)

module _ (c : Call) (h : History) (m : WalkRun) (k : WalkStands m c h) (parts : HeadParts) (x : WalkStandsAtLeaf c h m.goal m.trail parts) (slot : Slot) (at : IsSlotFor m.goal (value h) m.trail.node.0 slot) (key : ℕ) (d : here h m (Settled (KeyWord slot)) ≡ key) where
  abbrev asked : ℕ
  asked = asked_in m.goal (value h) m.trail.node.0

  abbrev leaf_no : ℕ
  leaf_no = m.trail.node.0

  class_zero : class (value h) leaf_no ≡ 0
  class_zero = ap (λ w. w.class) x.head ∙ x.low

  holds : IsWellCounted (value h) leaf_no × AllBelow (2 ^ 64) (held_pairs (value h) leaf_no) × IsRising (held_pairs (value h) leaf_no)
  holds = stood_holds c.layout h leaf_no k.run (walked_stood c.layout h k.trail.node.first (path_key m.goal) leaf_no k.trail.node.passed) (leaf_is c h m k parts x.head x.leaf) class_zero

  says_slot : said (value h) asked leaf_no ≡ get asked (held_from (value h) leaf_no slot)
  says_slot = ap (get asked) (low_pairs (value h) leaf_no class_zero) ∙ slot_says m.goal (value h) leaf_no slot class_zero holds.2 at

  -- the value that is in the slot
  says_value : asked_key m.goal key ≡ key → Some (wide_value (here h m (Settled (ValueWord slot))) (here h m (Settled (HighWord slot)))) ≡ said (value h) asked leaf_no
  says_value same = sym (says_slot ∙ get_here (value h) leaf_no slot asked (slot_asked m.goal (value h) leaf_no slot key class_zero at d same ∙ sym d))

  unlike : asked_key m.goal key ≢ key → asked ≢ here h m (Settled (KeyWord slot))
  unlike other e = other (sym (other_asked m.goal (value h) leaf_no key other) ∙ e ∙ d)

  -- there is none after the last slot
  says_none_last : asked_key m.goal key ≢ key → slot_behind (here h m (Settled MoreWord)) slot ≡ None → None ≡ said (value h) asked leaf_no
  says_none_last other last = sym (says_slot ∙ get_behind (value h) leaf_no slot asked (unlike other) ∙ ap (λ o. get asked (held_behind (value h) leaf_no o)) last)

  -- nor where a greater key comes first
  says_none_low : asked_key m.goal key < key → None ≡ said (value h) asked leaf_no
  says_none_low low =
      let same : asked ≡ asked_key m.goal key = other_asked m.goal (value h) leaf_no key (λ e. omega (arith, e, low)) in
      let less : asked < here h m (Settled (KeyWord slot)) = omega (arith, same, d, low) in
      sym (says_slot ∙ get_nowhere (value h) leaf_no slot asked (from_rises (value h) leaf_no slot holds.2) less)

-- it has ended at a leaf of class 0
ends_low : (c : Call) (h : History) (old now : WalkRun) (turn : Turn Found) (parts : HeadParts) (more key : ℕ) (found : Option ℕ) → WalkStands old c h → WalkEnds old now turn parts more key found → WalkStandsAtLeaf c h old.goal old.trail parts → here h old (Settled MoreWord) ≡ more → asked_in old.goal (value h) old.trail.node.0 ≡ key → found ≡ said (value h) (asked_in old.goal (value h) old.trail.node.0) old.trail.node.0 → WalkTurn c h now turn
ends_low c h old now turn parts more key found k a x many d says = answers_at c h old now turn parts more key found k a (leaf_is c h old k parts x.head x.leaf) x.head (λ q. many) (λ above. absurd (above x.low)) d says

module _ (c : Call) (h : History) (old now : WalkRun) (turn : Turn Found) (parts : HeadParts) (more : ℕ) (slot : Slot) (key : ℕ) (k : WalkStands old c h) (x : WalkStandsAtLeaf c h old.goal old.trail parts) (many : here h old (Settled MoreWord) ≡ more) (at : IsSlotFor old.goal (value h) old.trail.node.0 slot) (d : here h old (Settled (KeyWord slot)) ≡ key) where
  -- it waits for the value of the key that it answers
  pub asks_value : asked_key old.goal key ≡ key → WalkAsks old now turn (Value parts more slot key) (walk_step old (Value parts more slot key)) → WalkTurn c h now turn
  asks_value same a = waits_at c h old now turn (Value parts more slot key) (walk_step old (Value parts more slot key)) k a (x, many, at, d, same) (λ w. absurd) refl

  -- after another key it waits for the next one
  pub asks_next : asked_key old.goal key ≢ key → (next : Slot) → slot_behind more slot ≡ Some next → WalkAsks old now turn (Pair parts more next) (walk_step old (Pair parts more next)) → WalkTurn c h now turn
  asks_next other next behind a = waits_at c h old now turn (Pair parts more next) (walk_step old (Pair parts more next)) k a
      (x, many, slot_next old.goal (value h) old.trail.node.0 slot next key at d other (ap (λ v. slot_behind v slot) many ∙ behind)) (λ w. absurd) refl

  -- it ends where there is none, or where that is not below its own
  pub ends_without : asked_key old.goal key ≢ key → (slot_behind more slot ≡ None) ⊎ (asked_key old.goal key < key) → WalkEnds old now turn parts more (asked_key old.goal key) None → WalkTurn c h now turn
  ends_without other (inl last) a = ends_low c h old now turn parts more (asked_key old.goal key) None k a x many (other_asked old.goal (value h) old.trail.node.0 key other)
      (says_none_last c h old k parts x slot at key d other (ap (λ v. slot_behind v slot) many ∙ last))
  ends_without other (inr low) a = ends_low c h old now turn parts more (asked_key old.goal key) None k a x many (other_asked old.goal (value h) old.trail.node.0 key other)
      (says_none_low c h old k parts x slot at key d low)

  -- and at its key with the value of that
  pub ends_with : asked_key old.goal key ≡ key → (low high : ℕ) → here h old (Settled (ValueWord slot)) ≡ low → here h old (Settled (HighWord slot)) ≡ high → WalkEnds old now turn parts more key (Some (wide_value low high)) → WalkTurn c h now turn
  ends_with same low high l u a = ends_low c h old now turn parts more key (Some (wide_value low high)) k a x many (slot_asked old.goal (value h) old.trail.node.0 slot key (class_zero c h old k parts x slot at key d) at d same)
      ((λ i. Some (wide_value (sym l i) (sym u i))) ∙ says_value c h old k parts x slot at key d same)

-- Which keys it loads

-- the key of a fork of class 0 alone
pub asked_low : (goal : Goal) (head : HeadParts) → asks_key goal head ≡ true → head.class ≡ 0
asked_low (ToKey k) head e = eqb-true head.class 0 e
asked_low (End side) head e = absurd (let x : false ≡ true = e in cc)

-- where it leaves a fork whose key it does not load
pub unasked_turn : (c : Call) (h : History) (m : WalkRun) (head : HeadParts) → WalkStands m c h → head_of (here h m (Settled HeadWord)) ≡ head → asks_key m.goal head ≡ false → head.leaf ≡ false → toward (value h) m.trail.node.0 (path_key m.goal) ≡ open_side m.goal head
unasked_turn c h m head k e asks fork = go m.goal refl
  where
    go : (goal : Goal) → m.goal ≡ goal → toward (value h) m.trail.node.0 (path_key m.goal) ≡ open_side m.goal head
    go (ToKey key) is = left_above c h m k head e (λ z. let x : true ≡ false = sym (eq-eqb head.class 0 z) ∙ (rw is at asks) in cc) ∙ sym (ap (λ g. open_side g head) is)
    go (End side) is = rw is (stood_turns side c.layout h m.trail.node.0 k.run (walked_stood c.layout h k.trail.node.first (path_key m.goal) m.trail.node.0 k.trail.node.passed) (fork_is c h m k head e fork) ∙ ap (end_turn side) (class_is c h m k head e))

-- which stays on the path, since it is above all keys
pub stays_unasked : (c : Call) (h : History) (m : WalkRun) (head : HeadParts) → WalkStands m c h → head_of (here h m (Settled HeadWord)) ≡ head → asks_key m.goal head ≡ false → head.leaf ≡ false → m.way ≡ Within → Stays c.layout (value h) (path_key m.goal) m.trail.node.0
stays_unasked c h m head k e asks fork w = go m.goal m.way refl refl
  where
    go : (goal : Goal) (way : Way) → m.goal ≡ goal → m.way ≡ way → Stays c.layout (value h) (path_key m.goal) m.trail.node.0
    go (ToKey key) way is by = inr (fork_is c h m k head e fork, λ z. absurd (let x : true ≡ false = sym (eq-eqb head.class 0 (sym (class_is c h m k head e) ∙ z)) ∙ (rw is at asks) in cc))
    go (End side) InTree is by = absurd (let x : InTree ≡ Within = sym by ∙ w in cc)
    go (End side) InTrie is by = absurd (let x : InTrie ≡ Within = sym by ∙ w in cc)
    go (End side) Within is by = absurd (subst (λ way. MayGo c.layout way (End side)) by (subst (MayGo c.layout m.way) is k.may))

-- the root was passed
pub stands_at_root : (c : Call) (h : History) (m : WalkRun) → IsMapRun c.layout h → MayGo c.layout m.way m.goal → path_key m.goal < 2 ^ 64 → IsOwnMoment c h → m.trail.node.0 ≡ 0 → WalkStands m c h
stands_at_root c h m run may small own e = record {
  run = run;
  may = may;
  small = small;
  own = own;
  trail = record {
    node = record { first = h; own = own; passed = inl (rw e (walk_first c.layout h (path_key m.goal) run)) };
    parent = λ d. absurd (d e);
    grand = λ d. absurd (d e);
    high = λ d. absurd (d e);
  };
  sure = λ w d. absurd (d e);
}

-- one node further down
abbrev pub below : Trail → Side → ℕ → Trail
below t side n = record { grand = t.parent; grand_side = t.side; parent = t.node; side = side; node = record { 0 = n } }

trail_below : (c : Call) (h : History) (m : WalkRun) (side : Side) (n : ℕ) → WalkStands m c h → is_leaf (value h) m.trail.node.0 ≡ false → toward (value h) m.trail.node.0 (path_key m.goal) ≡ side → here h m (ChildWord side) ≡ n → OnTrail c h (path_key m.goal) (below m.trail side n)
trail_below c h m side n k fork s e = record {
  node = record { first = k.trail.node.first; own = k.trail.node.own; passed = subst (HasWalked c.layout h k.trail.node.first (path_key m.goal)) next (walked_next c.layout h k.trail.node.first (path_key m.goal) m.trail.node.0 k.small k.run k.trail.node.passed fork) };
  parent = λ d. record { passed = k.trail.node; fork = fork; side_is = s; shown = record { moment = h; within = ends_self h; own = k.own; passed = k.trail.node; held = e } };
  grand = λ d p. k.trail.parent p;
  high = λ d z leaf low. below_root c.layout h (path_key m.goal) k.run k.small
      (subst (λ n. is_leaf (value h) n ≡ true) (here_root z) leaf)
      (subst (λ n. class (value h) n ≡ 0) (here_root z) low);
}
  where
    here_root : m.trail.node.0 ≡ 0 → n ≡ value h (child 0 (toward (value h) 0 (path_key m.goal)))
    here_root z = sym e ∙ (λ i. value h (child (z i) (sym s i))) ∙ ap (λ q. value h (child 0 (toward (value h) q (path_key m.goal)))) z

    next : value h (child m.trail.node.0 (toward (value h) m.trail.node.0 (path_key m.goal))) ≡ n
    next = ap (λ z. value h (child m.trail.node.0 z)) s ∙ e

level_below : (c : Call) (h : History) (m : WalkRun) (side : Side) (n low : ℕ) → WalkStands m c h → level (value h) m.trail.node.0 ≡ low → is_leaf (value h) m.trail.node.0 ≡ false → here h m (ChildWord side) ≡ n → low < level (value h) n
level_below c h m side n low k e fork d =
    let x : level (value h) m.trail.node.0 < level (value h) (value h (child m.trail.node.0 side)) = levels_rise c.layout h m.trail.node.0 side k.run (walked_stood c.layout h k.trail.node.first (path_key m.goal) m.trail.node.0 k.trail.node.passed) fork in
    let y : level (value h) m.trail.node.0 < level (value h) n = rw d at x in
    subst (λ l. l < level (value h) n) e y

-- it waits for the head of the child to which it goes
pub turn_down : (c : Call) (h : History) (m now : WalkRun) (turn : Turn Found) (low : ℕ) (side : Side) (n : ℕ) → WalkStands m c h → (m.way ≡ Within → Stays c.layout (value h) (path_key m.goal) m.trail.node.0) → level (value h) m.trail.node.0 ≡ low → is_leaf (value h) m.trail.node.0 ≡ false → toward (value h) m.trail.node.0 (path_key m.goal) ≡ side → here h m (ChildWord side) ≡ n
    → WalkAsks (record m { trail = below m.trail side n }) now turn (Head low) (walk_step (record m { trail = below m.trail side n }) (Head low)) → WalkTurn c h now turn
turn_down c h m now turn low side n k leaves e fork s d a =
    let t : OnTrail c h (path_key m.goal) (below m.trail side n) = trail_below c h m side n k fork s d in
    waits_at c h (record m { trail = below m.trail side n }) now turn (Head low) (walk_step (record m { trail = below m.trail side n }) (Head low))
    (record { run = k.run; may = k.may; small = k.small; own = k.own; trail = t; sure = λ w d. leaves w }) a (t, level_below c h m side n low k e fork d) (λ w. absurd) refl

-- at its start it waits for the root's head
pub turn_start : (m now : WalkRun) (c : Call) (h : History) (got : Option ℕ) (turn : Turn Found) → m.at ≡ Start → WalkIsReady m c h got → WalkAsks m now turn Root (walk_step m Root) → WalkTurn c h now turn
turn_start m now c h None turn is r a = rw (a.asked, a.stands) record { run = r.run; may = r.may; small = r.small; since = r.since; known = r.root; sure = λ w. record { above = λ d. absurd (d r.root); leaves = λ x. absurd x }; asked = refl }
turn_start m now c h (Some v) turn is r a = absurd (subst (WalkKnows c h m) is r.known)

-- what it has got, at a place after its start
pub told_at : (m : WalkRun) (c : Call) (h : History) (got : Option ℕ) (found : ℕ) (at : WalkAt) → m.at ≡ at → (at ≡ Start → ⊥) → found ≡ unwrap_or got 0 → WalkIsReady m c h got → WalkIsTold m c h found
told_at m c h None found at is d e r = absurd (d (sym is ∙ r.at))
told_at m c h (Some v) found at is d e r = subst (WalkIsTold m c h) (sym e) r

pub told_root : (m : WalkRun) (c : Call) (h : History) (found : ℕ) → m.at ≡ Root → WalkIsTold m c h found → WalkStands m c h × (here h m (Settled HeadWord) ≡ found)
told_root m c h found is t =
    let k : m.trail.node.0 ≡ 0 = subst (WalkKnows c h m) is t.known in
    (stands_at_root c h m t.run t.may t.small t.own k, rw is at t.told)

-- at a place where it knows the trail of its node
pub stands_by : (m : WalkRun) (c : Call) (h : History) (found : ℕ) → WalkIsTold m c h found → OnTrail c h (path_key m.goal) m.trail → WalkStands m c h
stands_by m c h found t trail = record { run = t.run; may = t.may; small = t.small; own = t.own; trail = trail; sure = λ w. (t.sure w).above }

-- At a fork of class 0, whose key it has loaded

module _ (c : Call) (h : History) (m : WalkRun) (head : HeadParts) (key : ℕ) (k : WalkStands m c h) (e : head_of (here h m (Settled HeadWord)) ≡ head) (low : head.class ≡ 0) (fork : head.leaf ≡ false) (d : here h m first_key ≡ key) where
  abbrev fork_no : ℕ
  fork_no = m.trail.node.0

  is_low : class (value h) fork_no ≡ 0
  is_low = ap (λ w. w.class) e ∙ low

  -- within a trie
  pub is_trie : m.way ≡ Within → c.layout.mode ≡ TrieMode
  is_trie w = in_trie m.way m.goal w k.may
    where
      in_trie : (way : Way) (goal : Goal) → way ≡ Within → MayGo c.layout way goal → c.layout.mode ≡ TrieMode
      in_trie InTree goal w may = absurd (let x : InTree ≡ Within = w in cc)
      in_trie InTrie goal w may = absurd (let x : InTrie ≡ Within = w in cc)
      in_trie Within (ToKey k) w may = may
      in_trie Within (End side) w may = absurd may

  -- that key is one of a fork of its level
  is_key : m.way ≡ Within → IsForkKey key (level (value h) fork_no)
  is_key w = subst (λ x. IsForkKey x (level (value h) fork_no)) d ((stood_parted c.layout h fork_no (is_trie w) k.run (walked_stood c.layout h k.trail.node.first (path_key m.goal) fork_no k.trail.node.passed) (fork_is c h m k head e fork)).0.key is_low)

  -- so it stays on the path where it shares it
  pub stays_within : EndsAt m key false → m.way ≡ Within → Stays c.layout (value h) (path_key m.goal) fork_no
  stays_within x w = inr (fork_is c h m k head e fork, λ low. (shares_span (value h) fork_no (path_key m.goal) low).1 (subst (λ y. IsInSpan y (level (value h) fork_no) (path_key m.goal)) (sym d) (go m.goal refl)))
    where
      go : (goal : Goal) → m.goal ≡ goal → IsInSpan key (level (value h) fork_no) (path_key m.goal)
      go (ToKey j) is = subst (λ goal. IsInSpan key (level (value h) fork_no) (path_key goal)) (sym is) (x.inside refl w j is (level (value h) fork_no) (is_key w))
      go (End side) is = absurd (no_end m.way w (subst (MayGo c.layout m.way) is k.may))
        where
          no_end : (way : Way) → way ≡ Within → MayGo c.layout way (End side) → ⊥
          no_end InTree w may = let y : InTree ≡ Within = w in cc
          no_end InTrie w may = let y : InTrie ≡ Within = w in cc
          no_end Within w may = may

  -- where it ends, it does not
  pub not_shared : EndsAt m key true → ¬ Shares (value h) fork_no (path_key m.goal)
  not_shared x s =
      let w : m.way ≡ Within = x.within refl in
      x.outside refl (level (value h) fork_no) (is_key w) (subst (λ y. IsInSpan y (level (value h) fork_no) (path_key m.goal)) d ((shares_span (value h) fork_no (path_key m.goal) is_low).0 s))

  -- the root is above all keys
  pub below_top : fork_no ≢ 0
  below_top z =
      let two : class (value h) 0 ≡ 2 = rw (root_head c.layout h k.run) refl in
      let zero : class (value h) 0 ≡ 0 = subst (λ n. class (value h) n ≡ 0) z is_low in
      omega (arith, two, zero)

-- by the key of a fork it goes down on a side
pub turn_key : (c : Call) (h : History) (old now : WalkRun) (turn : Turn Found) (head : HeadParts) (side : Side) (key : ℕ) → WalkStands old c h → head_of (here h old (Settled HeadWord)) ≡ head → head.class ≡ 0 → head.leaf ≡ false → here h old first_key ≡ key → side ≡ cond (ltb (path_key old.goal) key) Left Right → EndsAt old key false → WalkAsks old now turn (Child head.level side) (walk_step old (Child head.level side)) → WalkTurn c h now turn
turn_key c h old now turn head side key k e low fork d by goes a =
    waits_at c h old now turn (Child head.level side) (walk_step old (Child head.level side)) k a (k.trail, level_is c h old k head e, fork_is c h old k head e fork, goes_by_key c h old k head e low key d ∙ sym by) (λ w x. stays_within c h old head key k e low fork d goes w) refl

-- or it ends there
pub ends_at_fork : (c : Call) (h : History) (old now : WalkRun) (turn : Turn Found) (head : HeadParts) (key : ℕ) → WalkStands old c h → head_of (here h old (Settled HeadWord)) ≡ head → head.class ≡ 0 → head.leaf ≡ false → here h old first_key ≡ key → key < 2 ^ 64 → EndsAt old key true → WalkEnds old now turn head 0 key None → WalkTurn c h now turn
ends_at_fork c h old now turn head key k e low fork d small ends a = rw (a.done, a.stands) (subst (λ way. FoundBy way old.goal c h (record { trail = old.trail; head = head; more = 0; key = key; value = None })) (sym w) (inr record {
  trie = is_trie c h old head key k e low fork d w;
  to_key = within_to_key c.layout old.goal (subst (λ way. MayGo c.layout way old.goal) w k.may);
  trail = k.trail;
  below = below_top c h old head key k e low fork d;
  stays = k.sure w (below_top c h old head key k e low fork d);
  fork = fork_is c h old k head e fork;
  head = e;
  low = low;
  key = d;
  small = small;
  outside = not_shared c h old head key k e low fork d ends;
  none = refl;
}))
  where
    w : old.way ≡ Within
    w = ends.within refl

-- once it knows how many pairs a leaf has, it waits for the key with which it begins
pub turn_more : (c : Call) (h : History) (old now : WalkRun) (turn : Turn Found) (head : HeadParts) (found : ℕ) → old.at ≡ More head → WalkIsTold old c h found → WalkAsks old now turn (Pair head found (goal_slot old.goal found)) (walk_step old (Pair head found (goal_slot old.goal found))) → WalkTurn c h now turn
turn_more c h old now turn head found is t a =
    let x : WalkStandsAtLeaf c h old.goal old.trail head = subst (WalkKnows c h old) is t.known in
    let many : here h old (Settled MoreWord) ≡ found = rw is at t.told in
    waits_at c h old now turn (Pair head found (goal_slot old.goal found)) (walk_step old (Pair head found (goal_slot old.goal found))) (stands_by old c h found t x.trail) a (x, many, first_slot old.goal (value h) old.trail.node.0 found many) (λ w. absurd) refl

-- after the value of a key it waits for the high half of that
pub turn_value : (c : Call) (h : History) (old now : WalkRun) (turn : Turn Found) (head : HeadParts) (more : ℕ) (slot : Slot) (key found : ℕ) → old.at ≡ Value head more slot key → WalkIsTold old c h found → WalkAsks old now turn (High head more slot key found) (walk_step old (High head more slot key found)) → WalkTurn c h now turn
turn_value c h old now turn head more slot key found is t a =
    let x : WalkKnows c h old (Value head more slot key) = subst (WalkKnows c h old) is t.known in
    waits_at c h old now turn (High head more slot key found) (walk_step old (High head more slot key found)) (stands_by old c h found t x.0.trail) a (x.0, x.1, x.2, x.3, x.4, rw is at t.told) (λ w. absurd) refl

-- which is the last word that it gets
pub turn_high : (c : Call) (h : History) (old now : WalkRun) (turn : Turn Found) (head : HeadParts) (more : ℕ) (slot : Slot) (key low found : ℕ) → old.at ≡ High head more slot key low → WalkIsTold old c h found → WalkEnds old now turn head more key (Some (wide_value low found)) → WalkTurn c h now turn
turn_high c h old now turn head more slot key low found is t a =
    let x : WalkKnows c h old (High head more slot key low) = subst (WalkKnows c h old) is t.known in
    ends_with c h old now turn head more slot key (stands_by old c h found t x.0.trail) x.0 x.1 x.2 x.3 x.4 low found x.5 (rw is at t.told) a

-- Its steps

-- what is left at a node is no more than was left as its head was asked for
pub nearer_root : (turn : Turn Found) (nodes deep left : ℕ) → MatchTurn turn (λ _. left < 3 * (2 + nodes - deep) + 4) (λ _. Unit {0}) → MatchTurn turn (λ _. left < 3 * (2 + nodes) + 4) (λ _. Unit {0})
nearer_root (Ask s) nodes deep left x = omega (arith, x)
nearer_root (Done f) nodes deep left x = tt

pub nearer_below : (turn : Turn Found) (nodes above deep left : ℕ) → above < deep → MatchTurn turn (λ _. left < 3 * (2 + nodes - deep) + 4) (λ _. Unit {0}) → MatchTurn turn (λ _. left < 3 * (1 + nodes - above) + 4) (λ _. Unit {0})
nearer_below (Ask s) nodes above deep left rises x = omega (arith, rises, x)
nearer_below (Done f) nodes above deep left rises x = tt
