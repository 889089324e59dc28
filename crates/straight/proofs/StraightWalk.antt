-- From place to place of a walk, of whatever machine walks.
use Rattle.std.proofs.Common.{if◌then◌else◌, ◌≡◌, ◌≢◌, ℕ, suc, ◌+◌, ◌*◌, ◌^◌, ◌<◌, ◌≤◌, ◌⊎◌, Bool, true, false, cond, ltb, List, None, Some, unwrap_or, inl, inr, refl, sym, ◌∙◌, ap, subst, arith}
use Rattle.arena.specs.declared.head.Head.{Head as HeadParts}
use Rattle.histories.specs.Common.{LoadSettled, LoadChild, Step, Side, Left, Right, Settled, Child as ChildWord, Head as HeadWord, More as MoreWord, Key as KeyWord}
use Rattle.histories.specs.Common.{Value as ValueWord, High as HighWord, Slot, First, Second, Third, Fourth, head_of, History, value, Call, node, first_key, slot_no}
use Rattle.template.specs.Common.{slot_behind, wide_value, load, asked_key, path_key, WalkIsTold, WalkWaits, IsPastRoot, walk_left, Goal}
use Rattle.template.specs.Balance.{leaf_way, nodes_by}
use Rattle.template.specs.Walk.Known.{EndsAt, asks_key, goal_slot, open_side}
use Rattle.template.specs.Walk.Laws.{walk_told}
use Rattle.template.specs.Walk.Places.{way_at, way_from, trail_below, LoadsHead}
use Rattle.template.specs.Walk.Steps.{WalkFitsAt, room}
use Rattle.template.specs.declared.walk.Trail.{Trail}
use Rattle.template.specs.declared.walk.WalkAt.{WalkAt}
use Rattle.template.specs.declared.walk.WalkAt.TheVariants.{Start, Root, Head, Key, Child, More, Pair, Value, High}
use Rattle.template.specs.declared.walk.WalkRun.{WalkRun}
use Rattle.template.specs.declared.walk.Way.{Way}
use Rattle.template.specs.declared.walk.Way.TheVariants.{InTree, InTrie, Within}
use Rattle.template.specs.Common.{MayGo}
use Rattle.ordered_map.specs.Bits.{IsInSpan}
use Rattle.ordered_map.specs.TrieShape.{Stays}
use Rattle.order.proofs.Lemmas.{stays_high, stays_shared}
use Rattle.straight.specs.StraightWalk.{KeepsTurns, with_turn_if}
use Rattle.order.specs.LastTurns.{SharesKey}
use Rattle.template.proofs.Lemmas.{head_to_key, head_to_more, head_ends, head_to_child, key_ends, key_to_child, more_to_pair, pair_to_value, pair_to_pair, pair_ends, value_to_high, high_ends, child_to_head}
use Rattle.order.specs.declared.last_turns.LastTurns.{LastTurns}
use Rattle.tables.specs.declared.view.SeatedPass.{SeatedPass}
use Rattle.straight.specs.StraightWalk.{GoesAs, Walker, WalkerWaits, WalkerIsTold, WalkerGoesDown, WalkerFinds}
use Rattle.tables.specs.Traces.{shared_nodes}
use Rattle.straight.specs.CallKinds.{Calls}
use Rattle.straight.proofs.Inside.{goes_to}
use Rattle.straight.proofs.Advances.{few_taken}

module _ {M : Type 0} {o : Calls M} (w : Walker o) (ps : List SeatedPass) where
  -- an edge takes it from place to place
  turns_to : (m now : WalkRun) (turn next : LastTurns) (v : ℕ) (s : Step) → IsPastRoot now.at → GoesAs m now → KeepsTurns (m, turn) v (now, next) → ((d : Call) (h : History) → WalkIsTold m d h v → WalkWaits now d h s) → WalkerIsTold w ps m turn v → WalkerWaits w ps now next s
  turns_to m now turn next v s past goal keeps edge = goes_to w ps (m, turn) (now, next) v s (past, goal, keeps) edge

  -- where it does not turn it keeps its turns
  goes : (m now : WalkRun) (turn : LastTurns) (v : ℕ) (s : Step) → IsPastRoot now.at → GoesAs m now → ((d : Call) (h : History) → WalkIsTold m d h v → WalkWaits now d h s) → WalkerIsTold w ps m turn v → WalkerWaits w ps now turn s
  goes m now turn v s past goal edge = turns_to m now turn turn v s past goal (inl refl) edge

  module _ (way : Way) (goal : Goal) (t : Trail) (turn : LastTurns) where
    -- where it ends does not depend on its place
    ends_there : (head : HeadParts) (low : ℕ) (ends : Bool) → EndsAt (way_from way goal) low ends → EndsAt (way_at way goal t (Key head)) low ends
    ends_there head low ends x = record { within = x.within; outside = x.outside; inside = x.inside }

    -- at the child of a fork that is above all keys, or whose key it shares, that stays on its path
    module _ (d : Call) (h : History) (level : ℕ) (side : Side) (s : Step) (y : WalkWaits (way_at way goal t (Child level side)) d h s) where
      in_tree : (by : Way) → way ≡ by → (way ≢ InTree → Stays d.layout (value h) (path_key goal) t.node.0) → Stays d.layout (value h) (path_key goal) t.node.0
      in_tree InTree e other = inl (subst (λ b. MayGo d.layout b goal) e y.may)
      in_tree InTrie e other = other (λ i. let z : InTrie ≡ InTree = sym e ∙ i in cc)
      in_tree Within e other = other (λ i. let z : Within ≡ InTree = sym e ∙ i in cc)

      stays_above : (way ≢ InTree → level < 2) → Stays d.layout (value h) (path_key goal) t.node.0
      stays_above high = in_tree way refl (λ other. stays_high d h (path_key goal) t.node.0 y.run y.known.0.node y.known.2 (let e = y.known.1 in let i = high other in omega (arith, e, i)))

      stays_where : (low : ℕ) → value h (node t.node.0 first_key) ≡ low → (way ≢ InTree → SharesKey goal low) → Stays d.layout (value h) (path_key goal) t.node.0
      stays_where low is shares = in_tree way refl (λ other. let z = shares other in stays_shared d h (path_key goal) t.node.0 y.run y.known.0.node y.known.2 low is (λ l fork. subst (IsInSpan low l) (sym (ap path_key z.1)) (z.2 l fork)))

    module _ (p : WalkAt) (v : ℕ) (head : HeadParts) (at : LoadsHead p) (is : head_of v ≡ head) where
      pub to_key : head.leaf ≡ false → asks_key goal head ≡ true → WalkerIsTold w ps (way_at way goal t p) turn v → WalkerWaits w ps (way_at way goal t (Key head)) turn (load LoadSettled (node t.node.0 first_key))
      to_key fork asks = goes (way_at way goal t p) (way_at way goal t (Key head)) turn v _ tt (refl, refl) (λ d h x. head_to_key way goal t d h p v head at is x fork asks)

      keeps_open : (counts : Bool) → (counts ≡ true → way ≢ InTree → head.level < 2) → head.leaf ≡ false → asks_key goal head ≡ false → KeepsTurns (way_at way goal t p, turn) v (way_at way goal t (Child head.level (open_side goal head)), with_turn_if counts (open_side goal head) t.node turn)
      keeps_open false high fork asks = inl refl
      keeps_open true high fork asks = inr (refl, λ d h x. stays_above d h head.level (open_side goal head) _ (head_to_child way goal t d h p v head at is x fork asks) (high refl))

      pub to_open : head.leaf ≡ false → asks_key goal head ≡ false → (counts : Bool) → (counts ≡ true → way ≢ InTree → head.level < 2) → WalkerIsTold w ps (way_at way goal t p) turn v → WalkerWaits w ps (way_at way goal t (Child head.level (open_side goal head))) (with_turn_if counts (open_side goal head) t.node turn) (load LoadChild (node t.node.0 (ChildWord (open_side goal head))))
      to_open fork asks counts high = turns_to (way_at way goal t p) (way_at way goal t (Child head.level (open_side goal head))) turn (with_turn_if counts (open_side goal head) t.node turn) v _ tt (refl, refl) (keeps_open counts high fork asks) (λ d h x. head_to_child way goal t d h p v head at is x fork asks)

      -- to an end no turn counts
      pub to_known : (side : Side) → head.leaf ≡ false → asks_key goal head ≡ false → open_side goal head ≡ side → WalkerIsTold w ps (way_at way goal t p) turn v → WalkerGoesDown w ps way goal t head.level side turn
      to_known side fork asks is x = subst (λ s. WalkerGoesDown w ps way goal t head.level s turn) is (to_open fork asks false (λ e. absurd cc) x)

      pub to_more : head.leaf ≡ true → head.class ≡ 0 → WalkerIsTold w ps (way_at way goal t p) turn v → WalkerWaits w ps (way_at way goal t (More head)) turn (load LoadSettled (node t.node.0 (Settled MoreWord)))
      to_more leaf low = goes (way_at way goal t p) (way_at way goal t (More head)) turn v _ tt (refl, refl) (λ d h x. head_to_more way goal t d h p v head at is x leaf low)

      pub finds_none : head.leaf ≡ true → head.class ≢ 0 → WalkerIsTold w ps (way_at way goal t p) turn v → WalkerFinds w ps way goal turn record { trail = t; head = head; more = 0; key = asked_key goal 0; value = None }
      finds_none leaf high x = record { last = way_at way goal t p; is_goal = refl; is_way = refl; told = v; finds = λ d h y. head_ends way goal t d h p v head at is y leaf high; so = x }

    module _ (head : HeadParts) (low : ℕ) (side : Side) (goes_on : EndsAt (way_from way goal) low false) (is : side ≡ cond (ltb (path_key goal) low) Left Right) where
      waits_side : (d : Call) (h : History) → WalkIsTold (way_at way goal t (Key head)) d h low → WalkWaits (way_at way goal t (Child head.level side)) d h (load LoadChild (node t.node.0 (ChildWord side)))
      waits_side d h x = key_to_child way goal t d h head low side x (ends_there head low false goes_on) is

      keeps_side : (counts : Bool) → (counts ≡ true → way ≢ InTree → SharesKey goal low) → KeepsTurns (way_at way goal t (Key head), turn) low (way_at way goal t (Child head.level side), with_turn_if counts side t.node turn)
      keeps_side false shares = inl refl
      keeps_side true shares = inr (refl, λ d h x. stays_where d h head.level side _ (waits_side d h x) low x.told (shares refl))

      pub to_side : (counts : Bool) → (counts ≡ true → way ≢ InTree → SharesKey goal low) → WalkerIsTold w ps (way_at way goal t (Key head)) turn low → WalkerWaits w ps (way_at way goal t (Child head.level side)) (with_turn_if counts side t.node turn) (load LoadChild (node t.node.0 (ChildWord side)))
      to_side counts shares = turns_to (way_at way goal t (Key head)) (way_at way goal t (Child head.level side)) turn (with_turn_if counts side t.node turn) low _ tt (refl, refl) (keeps_side counts shares) waits_side

    pub finds_fork : (head : HeadParts) (low : ℕ) → low < 2 ^ 64 → EndsAt (way_from way goal) low true → WalkerIsTold w ps (way_at way goal t (Key head)) turn low → WalkerFinds w ps way goal turn record { trail = t; head = head; more = 0; key = low; value = None }
    finds_fork head low small ends x = record { last = way_at way goal t (Key head); is_goal = refl; is_way = refl; told = low; finds = λ d h y. key_ends way goal t d h head low y small (ends_there head low true ends); so = x }

    pub to_first : (head : HeadParts) (more : ℕ) → WalkerIsTold w ps (way_at way goal t (More head)) turn more → WalkerWaits w ps (way_at way goal t (Pair head more (goal_slot goal more))) turn (load LoadSettled (node t.node.0 (Settled (KeyWord (goal_slot goal more)))))
    to_first head more = goes (way_at way goal t (More head)) (way_at way goal t (Pair head more (goal_slot goal more))) turn more _ tt (refl, refl) (λ d h x. more_to_pair way goal t d h head more x)

    module _ (head : HeadParts) (more : ℕ) (slot : Slot) (key : ℕ) where
      pub to_next : asked_key goal key ≢ key → (next : Slot) → slot_behind more slot ≡ Some next → WalkerIsTold w ps (way_at way goal t (Pair head more slot)) turn key → WalkerWaits w ps (way_at way goal t (Pair head more next)) turn (load LoadSettled (node t.node.0 (Settled (KeyWord next))))
      to_next other next behind = goes (way_at way goal t (Pair head more slot)) (way_at way goal t (Pair head more next)) turn key _ tt (refl, refl) (λ d h x. pair_to_pair way goal t d h head more slot key x other next behind)

      pub finds_other : asked_key goal key ≢ key → (slot_behind more slot ≡ None) ⊎ (asked_key goal key < key) → WalkerIsTold w ps (way_at way goal t (Pair head more slot)) turn key → WalkerFinds w ps way goal turn record { trail = t; head = head; more = more; key = asked_key goal key; value = None }
      finds_other other none x = record { last = way_at way goal t (Pair head more slot); is_goal = refl; is_way = refl; told = key; finds = λ d h y. pair_ends way goal t d h head more slot key y other none; so = x }

      pub to_value : asked_key goal key ≡ key → WalkerIsTold w ps (way_at way goal t (Pair head more slot)) turn key → WalkerWaits w ps (way_at way goal t (Value head more slot key)) turn (load LoadSettled (node t.node.0 (Settled (ValueWord slot))))
      to_value same = goes (way_at way goal t (Pair head more slot)) (way_at way goal t (Value head more slot key)) turn key _ tt (refl, refl) (λ d h x. pair_to_value way goal t d h head more slot key x same)

      pub to_high : (low : ℕ) → WalkerIsTold w ps (way_at way goal t (Value head more slot key)) turn low → WalkerWaits w ps (way_at way goal t (High head more slot key low)) turn (load LoadSettled (node t.node.0 (Settled (HighWord slot))))
      to_high low = goes (way_at way goal t (Value head more slot key)) (way_at way goal t (High head more slot key low)) turn low _ tt (refl, refl) (λ d h x. value_to_high way goal t d h head more slot key low x)

      pub finds_value : (low high : ℕ) → WalkerIsTold w ps (way_at way goal t (High head more slot key low)) turn high → WalkerFinds w ps way goal turn record { trail = t; head = head; more = more; key = key; value = Some (wide_value low high) }
      finds_value low high x = record { last = way_at way goal t (High head more slot key low); is_goal = refl; is_way = refl; told = high; finds = λ d h y. high_ends way goal t d h head more slot key low high y; so = x }

    pub to_head : (level : ℕ) (side : Side) (n : ℕ) → WalkerIsTold w ps (way_at way goal t (Child level side)) turn n → WalkerWaits w ps (way_at way goal (trail_below t side n) (Head level)) turn (load LoadSettled (node n (Settled HeadWord)))
    to_head level side n = goes (way_at way goal t (Child level side)) (way_at way goal (trail_below t side n) (Head level)) turn n _ tt (refl, refl) (λ d h x. child_to_head way goal t d h level side n x)

  -- what it gets leads it no deeper than the taken nodes allow
  pub fits : (m : WalkRun) (turn : LastTurns) (v : ℕ) → WalkerIsTold w ps m turn v → WalkFitsAt m.at v (room m.way (shared_nodes o.layout))
  fits m turn v x =
      let y = w.tells (m, turn) _ v x.sound x.so.0 in
      walk_told m y.0 _ (Some v) (shared_nodes o.layout) y.1.run.1 y.1 (few_taken o.allows o.layout w.call _ w.is_layout x.sound)

-- a node's head, and what is loaded after it, take at most three steps
pub fewer : (p : WalkAt) (v nodes : ℕ) (head : HeadParts) → LoadsHead p → head_of v ≡ head → WalkFitsAt p v nodes → head.level + 1 < 2 + nodes → 3 + walk_left (Head head.level) nodes ≤ walk_left p nodes
fewer Root v nodes head x is fits deep = omega (arith, deep)
fewer (Head above) v nodes head x is fits deep = let rises : above < head.level = subst (λ (k : HeadParts). above < k.level) is fits.0 in omega (arith, rises, deep)
fewer Start v nodes head x is fits deep = absurd x
fewer (Key k) v nodes head x is fits deep = absurd x
fewer (Child low side) v nodes head x is fits deep = absurd x
fewer (More k) v nodes head x is fits deep = absurd x
fewer (Pair k more slot) v nodes head x is fits deep = absurd x
fewer (Value k more slot low) v nodes head x is fits deep = absurd x
fewer (High k more slot low high) v nodes head x is fits deep = absurd x

-- a leaf takes at most seven after its head
pub some_left : (p : WalkAt) (v nodes : ℕ) → LoadsHead p → WalkFitsAt p v nodes → 7 ≤ walk_left p nodes
some_left Root v nodes x fits = omega arith
some_left (Head above) v nodes x fits = let a = fits.0 in let b = fits.1 in omega (arith, a, b)
some_left Start v nodes x fits = absurd x
some_left (Key k) v nodes x fits = absurd x
some_left (Child low side) v nodes x fits = absurd x
some_left (More k) v nodes x fits = absurd x
some_left (Pair k more slot) v nodes x fits = absurd x
some_left (Value k more slot low) v nodes x fits = absurd x
some_left (High k more slot low high) v nodes x fits = absurd x

-- the slot after one is the next, of four
slot_after : (slot behind next : Slot) (t : Bool) → slot_no behind ≡ suc (slot_no slot) → (if t then Some behind else None) ≡ Some next → slot_no next ≡ suc (slot_no slot)
slot_after slot behind next true e i = subst (λ s. slot_no s ≡ suc (slot_no slot)) (ap (λ o. unwrap_or o behind) i) e
slot_after slot behind next false e i = absurd (let z : None ≡ Some next = i in cc)

pub next_slot : (more : ℕ) (slot next : Slot) → slot_behind more slot ≡ Some next → slot_no next ≡ suc (slot_no slot)
next_slot more First next e = slot_after First Second next (ltb 0 more) refl e
next_slot more Second next e = slot_after Second Third next (ltb 1 more) refl e
next_slot more Third next e = slot_after Third Fourth next (ltb 2 more) refl e
next_slot more Fourth next e = absurd (let z : None ≡ Some next = e in cc)

pub few_slots : (slot : Slot) → slot_no slot ≤ 3
few_slots First = omega arith
few_slots Second = omega arith
few_slots Third = omega arith
few_slots Fourth = omega arith

-- the bounds of a walk to a leaf are those of its map
room_is : (trie : Bool) (nodes : ℕ) → room (leaf_way trie) nodes ≡ nodes_by trie nodes
room_is false nodes = refl
room_is true nodes = refl

pub leaf_steps : (trie : Bool) (way : Way) (old now nodes : ℕ) → way ≡ leaf_way trie → now ≤ old + (3 * (2 + room way nodes) + 5) → now ≤ old + (3 * (2 + nodes_by trie nodes) + 5)
leaf_steps trie way old now nodes is few = subst (λ r. now ≤ old + (3 * (2 + r) + 5)) (ap (λ w. room w nodes) is ∙ room_is trie nodes) few
