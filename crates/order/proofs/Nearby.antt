-- A search in one leaf for the pair beside a key, one place further.
use Rattle.std.proofs.Common.{◌≡◌, ◌≢◌, ℕ, ◌^◌, ◌<◌, true, false, ◌⊎◌, inl, inr, refl, sym, ◌∙◌, ap, subst, arith, List, Option, Some, None}
use Rattle.histories.specs.Common.{NodeNo, Settled, High as HighWord, More as MoreWord, Side, Left, Right, Slot, First, node, child, History, value, Call}
use Rattle.arena.specs.declared.head.Head.{Head as HeadParts}
use Rattle.arena.proofs.Lemmas.{ends_self, ends_trans}
use Rattle.template.specs.Common.{AllBelow, MapReply, Neighbour as NeighbourOf, Pair, Spells, pair_or_none, reply, Passed, IsMapRun, class, is_leaf, toward, slot_behind, pair, wide_value, HasWalked, HasFoundGoal, HasTurned, Key as ToKey}
use Rattle.ordered_map.specs.Paths.{StoodSince}
use Rattle.ordered_map.specs.TrieShape.{Stays}
use Rattle.ordered_map.proofs.Lemmas.{SameSettled, pair_stays, same_stays, settled_class, settled_leaf, settled_toward}
use Rattle.ordered_map.proofs.MapLemmas.{root_head, run_since, run_spells, stays_shares, stood_settled, walk_next, walked_since, walked_stood}
use Rattle.template.specs.declared.walk.Found.{Found}
use Rattle.order.specs.Found.{place_key, place_pair}
use Rattle.order.specs.Found.{WalksTo}
use Rattle.order.specs.Known.{AreLastTurns, IsLastTurn, IsSearchFor, LastTurned, ReadGoes, SearchesLeaf}
use Rattle.order.specs.LastTurns.{turn_to}
use Rattle.order.specs.Meaning.{ReadMeaning}
use Rattle.order.specs.Replies.{IsReplyAt}
use Rattle.order.specs.Laws.Search.{Finds, IsAnswer, IsSearched, IsSearchedIn}
use Rattle.order.specs.Loads.{place_in}
use Rattle.order.specs.Near.{FindsBehind, IsPassed, NearKnows, NearStands, NextStands, near_part, near_place, near_value}
use Rattle.order.specs.declared.near.NearAt.TheVariants.{Key, High}
use Rattle.order.specs.declared.last_turns.LastTurns.{LastTurns}
use Rattle.order.specs.declared.near.NearNext.TheVariants.{Load, Found as FoundPair}
use Rattle.order.specs.declared.near.NearRun.{NearRun}
use Rattle.order.specs.declared.read.Children.{Children}
use Rattle.order.specs.declared.run.ReadRun.{ReadRun}
use Rattle.order.proofs.Placing.{place_next}
use Rattle.order.proofs.Searching.{answers_here, ends_there, finds_as, goes_on, on_path, passes_left, passes_right, past_here, searched_in, finds_tells}

module _ (m : NearRun) (b : History) where
  -- it takes the pair that it has passed
  pub takes : (slot : Slot) (key : ℕ) (rest : Option Pair) → IsPassed m b (Some (slot, key)) rest → Finds b m.side m.key rest → IsAnswer b m.side m.key (near_place m slot) × (place_key b (near_place m slot) ≡ key)
  takes slot key rest is x = (record { small = (let e = is.1 in let i = is.2 in omega (arith, e, i)); finds = finds_as b m.side m.key rest _ is.0 x }, is.1)

  module _ (slot : Slot) (rest : Option Pair) (x : FindsBehind m b slot rest) where
    -- it goes on to the next key
    pub to_next : (next : Slot) → slot_behind m.more slot ≡ Some next → IsSearchedIn b m.side m.key (near_place m next) rest
    to_next next is = goes_on b m.side m.key (near_place m slot) x.before rest x.searched x.finds (near_place m next) (ap (place_in (near_place m slot)) is)

    -- or there is none
    pub at_last : slot_behind m.more slot ≡ None → Finds b m.side m.key rest
    at_last is = ends_there b m.side m.key (near_place m slot) x.before rest x.searched x.finds (ap (place_in (near_place m slot)) is)

  module _ (slot : Slot) (key : ℕ) (rest : Option Pair) (is : place_key b (near_place m slot) ≡ key) (x : IsSearchedIn b m.side m.key (near_place m slot) rest) where
    -- on the right the first key above its own is the answer
    pub above_takes : m.side ≡ Right → m.key < key → IsPassed m b (Some (slot, key)) (Some (place_pair b (near_place m slot))) × Finds b m.side m.key (Some (place_pair b (near_place m slot)))
    above_takes right above =
        let y : IsAnswer b Right m.key (near_place m slot) = answers_here b m.key (near_place m slot) rest (rw right at x) (omega (arith, above, is)) in
        ((refl, is, (let s = y.small in omega (arith, s, is))), rw right y.finds)

    pub below_passes : m.side ≡ Right → ¬ (m.key < key) → FindsBehind m b slot rest
    below_passes right below = record { before = rest; searched = x; finds = rw right (passes_right b m.key (near_place m slot) rest (rw right at x) (omega (arith, below, is))) }

    -- on the left the last one below is
    pub below_kept : m.side ≡ Left → key < m.key → IsPassed m b (Some (slot, key)) (Some (place_pair b (near_place m slot))) × FindsBehind m b slot (Some (place_pair b (near_place m slot)))
    below_kept left below = ((refl, is, (let s = (subst (AllBelow (2 ^ 64)) (place_next b (near_place m slot) x.more) x.small).0 in omega (arith, s, is))), record { before = rest; searched = x; finds = rw left (passes_left b m.key (near_place m slot) rest (rw left at x) (omega (arith, below, is))) })

    pub above_ends : m.side ≡ Left → ¬ (key < m.key) → Finds b m.side m.key rest
    above_ends left above = rw left (past_here b m.key (near_place m slot) rest (rw left at x) (omega (arith, above, is)))

  -- once it knows all of the pair, that is its answer
  pub finds_this : (slot : Slot) (key low high : ℕ) → NearStands m b (High slot key low) → value b (node m.node.0 (Settled (HighWord slot))) ≡ high → (key < 2 ^ 64) × Finds b m.side m.key (Some (pair key (wide_value low high)))
  finds_this slot key low high x is = (
    (let s = x.0.small in let e = x.1 in omega (arith, s, e)),
    finds_as b m.side m.key _ _ (λ i. Some (pair (x.1 i) (wide_value (x.2 i) (is i)))) x.0.finds,
  )

-- Where the leaf was on the path

-- the fork above it stays on the path of the key: so it was on that too
leaf_passed : (c : Call) (h : History) (k : ℕ) (f : Found) → k < 2 ^ 64 → IsMapRun c.layout h → LastTurned c h k f.trail.side f.trail.parent.0 → (x : HasTurned c h k f.trail.parent.0 f.trail.side f.trail.node.0) → Passed h x.shown.passed.first k f.trail.node.0
leaf_passed c h k f small run last x = (p.0, ends_trans h m p.0 x.shown.within p.1, p.2, p.3)
  where
    n : ℕ
    n = f.trail.parent.0

    m : History
    m = x.shown.moment

    first : History
    first = x.shown.passed.first

    run_then : IsMapRun c.layout m
    run_then = run_since c.layout h m run x.shown.within

    same : SameSettled (value m) (value h) n
    same = stood_settled c.layout h m n run x.shown.within (walked_stood c.layout m first k n x.shown.passed.passed)

    stays : Stays c.layout (value m) k n
    stays = same_stays (value h) (value m) c.layout k n (λ part i. sym (same part i)) last.sure.stays

    fork : is_leaf (value m) n ≡ false
    fork = sym (settled_leaf (value m) (value h) n same) ∙ last.fork

    turn : toward (value m) n k ≡ f.trail.side
    turn = sym (settled_toward (value m) (value h) n k same) ∙ last.turn

    on : HasWalked c.layout m first k n → Passed m first k (value m (child n (toward (value m) n k)))
    on (inl q) = walk_next c.layout m first k n run_then q stays fork
    on (inr s) = absurd ((s.apart.fork fork).1 (stays_shares c.layout (value m) k n small s.trie stays))

    p : Passed m first k f.trail.node.0
    p = subst (Passed m first k) (ap (λ side. value m (child n side)) turn ∙ x.shown.held) (on x.shown.passed.passed)

-- it is not the root
below_root : (c : Call) (h : History) (k : ℕ) (f : Found) → IsMapRun c.layout h → HasFoundGoal (ToKey k) c h f → f.trail.node.0 ≢ 0
below_root c h k f run x z =
    let l : is_leaf (value h) 0 ≡ true = subst (λ j. is_leaf (value h) j ≡ true) z x.leaf in
    (let e : false ≡ true = rw (root_head c.layout h run) at l in cc)

-- and there the search in it begins
near_begins : (c : Call) (h : History) (k : ℕ) (side : Side) (f : Found) → k < 2 ^ 64 → IsMapRun c.layout h → HasFoundGoal (ToKey k) c h f → f.head.class ≡ 0 → LastTurned c h k f.trail.side f.trail.parent.0 → NearKnows (record { key = k; side = side; node = f.trail.node; more = f.more; at = Key First None }) c h
near_begins c h k side f small run x low last = record {
  moment = b;
  within = p.1;
  first = turned.shown.passed.first;
  own = turned.shown.passed.own;
  since = p.2;
  stood = stood;
  small = small;
  stands = (rest.0, tt, searched_in b side k f.trail.node f.more (sym (settled_leaf (value b) (value h) n same) ∙ x.leaf) (sym (settled_class (value b) (value h) n same) ∙ class_is) (sym (same (Settled MoreWord) tt) ∙ x.more low) rest.0 rest.1);
}
  where
    n : ℕ
    n = f.trail.node.0

    turned : HasTurned c h k f.trail.parent.0 f.trail.side n
    turned = x.trail.parent (below_root c h k f run x)

    p : Passed h turned.shown.passed.first k n
    p = leaf_passed c h k f small run last turned

    b : History
    b = p.0

    stood : StoodSince b turned.shown.passed.first n
    stood = walked_since c.layout b turned.shown.passed.first k n (inl (b, ends_self b, p.2, p.3))

    same : SameSettled (value b) (value h) n
    same = stood_settled c.layout h b n run p.1 stood.0

    class_is : class (value h) n ≡ 0
    class_is = ap (λ (w : HeadParts). w.class) x.head ∙ low

    rest : (rest : Option Pair) × IsSearched b side k n rest
    rest = on_path b side k n p.3

-- In a read

module _ {R A : Type 0} (means : ReadMeaning R A) (m : ReadRun R) (c : Call) (h : History) (goes : ReadGoes means m c h) where
  -- a search for what that looks for may begin where the last fork that counts is above the leaf
  pub searches_for : (key : ℕ) (to_side : Side) (turns : LastTurns) (f : Found) (k : ℕ) (side : Side) → WalksTo means m.read key to_side → AreLastTurns c h key turns → HasFoundGoal (ToKey key) c h f → f.head.class ≡ 0 → (turn_to f.trail.side turns).0 ≡ f.trail.parent.0 → means.call m.read ≡ NeighbourOf side k → IsSearchFor means m.read c h (record { key = k; side = side; node = f.trail.node; more = f.more; at = Key First None })
  searches_for key to_side turns f k side to last x low is call = (call, subst (λ j. NearKnows (record { key = j; side = side; node = f.trail.node; more = f.more; at = Key First None }) c h) (sym (to.own side k call)) (near_begins c h key side f (to.small goes.suits) goes.reads.run x low turned))
    where
      class_is : class (value h) f.trail.node.0 ≡ 0
      class_is = ap (λ (w : HeadParts). w.class) x.head ∙ low

      turned : LastTurned c h key f.trail.side f.trail.parent.0
      turned = go (last f.trail.side)
        where
          go : IsLastTurn c h key f.trail.side (turn_to f.trail.side turns).0 → LastTurned c h key f.trail.side f.trail.parent.0
          go (inl e) = absurd (x.trail.high (below_root c h key f goes.reads.run x) (sym is ∙ e) x.leaf class_is)
          go (inr t) = subst (LastTurned c h key f.trail.side) is t

  module _ (near : NearRun) (children : Children) (fork : NodeNo) (x : SearchesLeaf means m.read m.snaps.items c h near children fork.0) where
    -- what a load of it finds was so at its moment
    pub found_then : (v : ℕ) → near_value near h ≡ v → near_value near x.search.1.moment ≡ v
    found_then v told = let y = x.search.1 in sym (stood_settled c.layout h y.moment near.node.0 goes.reads.run y.within y.stood.0 (Settled (near_part near.at)) tt) ∙ told

    -- it goes on
    pub searches_on : (now : NearRun) → NextStands near x.search.1.moment (Load now) → SearchesLeaf means m.read m.snaps.items c h now children fork.0
    searches_on now on = record {
      looks = x.looks;
      search = (
        x.search.0 ∙ ap (λ (n : NearRun). NeighbourOf n.side n.key) (sym on.0),
        record {
          moment = y.moment;
          within = y.within;
          first = y.first;
          own = y.own;
          since = y.since;
          stood = subst (λ (n : NearRun). StoodSince y.moment y.first n.node.0) (sym on.0) y.stood;
          small = subst (λ (n : NearRun). n.key < 2 ^ 64) (sym on.0) y.small;
          stands = on.1;
        },
      );
    }
      where
        y : NearKnows near c h
        y = x.search.1

    -- or has found what the map replied then
    pub replies_near : (found : Pair) (told : MapReply) → NextStands near x.search.1.moment (FoundPair found) → told ≡ pair_or_none (Some found) → IsReplyAt c h (means.call m.read) told
    replies_near found told on tells = record {
      moment = y.moment;
      within = y.within;
      first = y.first;
      own = y.own;
      since = y.since;
      map = spelled.0;
      spelled = spelled.1;
      gives = ap (λ call. reply call spelled.0) x.search.0 ∙ ap pair_or_none (finds_tells c.layout y.moment near.side near.key (Some found) spelled.0 on.1 y.small spelled.1 ∙ pair_stays found on.0) ∙ sym tells;
    }
      where
        y : NearKnows near c h
        y = x.search.1

        spelled : (ps : List Pair) × Spells c.layout (value y.moment) ps
        spelled = run_spells c.layout y.moment (run_since c.layout h y.moment goes.reads.run y.within)
