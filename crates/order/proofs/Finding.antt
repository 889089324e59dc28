-- What a search for the pair beside a key knows one place further.
use Rattle.std.proofs.Common.{◌≡◌, ◌≢◌, ℕ, ◌<◌, ◌≤◌, ◌⊎◌, true, false, eqb, ltb, leb, List, [], ◌∷◌, inl, inr, refl, sym, ◌∙◌, ap, subst, arith, lt-ltb, ltb-true, ltb-false, leb-true, leb-false, eq-eqb, ne_eqb, Option, Some, None}
use native.Mathlib.Decide.{ℕ_discrete}
use Rattle.arena.specs.declared.head.Head.{Head as HeadParts}
use Rattle.histories.specs.Common.{NodeNo, Settled, More as MoreWord, Key as KeyWord, Side, child, marked, History, value, Extends, Call}
use Rattle.arena.specs.declared.word.Side.TheVariants as sides
use Rattle.template.specs.Common.{Snap, Pair as MapPair, Neighbour as NeighbourOf, neighbour, pair_or_none, IsOnPath, IsMapRun, class, is_leaf, level, opposite, rank, toward, IsOwnMoment}
use Rattle.ordered_map.proofs.Lemmas.{or_else, pair_stays, SameSettled, settled_class, settled_leaf, settled_toward}
use Rattle.ordered_map.proofs.MapLemmas.{stood_settled}
use Rattle.order.specs.Found.{AreThere, GoesTo, IsAtLowFork, IsReading, IsThere, Looks, Stands, StandsIn, TakesPair, WalksTo, head_at, key_at, more_at, pairs_behind, place_key, place_pair, place_value}
use Rattle.order.specs.Laws.Search.{Finds, FindsNone, IsAnswer, IsBeside, IsSearched, IsSearchedIn}
use Rattle.order.specs.Loads.{first_in_leaf, place_behind}
use Rattle.order.specs.Neighbour.{IsInLeaf, IsLeft, IsOnRoute, IsRest, Leaves, LooksOnRoute, asks_on_route, alone, beside_path, children_on, children_toward, is_answer, is_past, leaf_load, after_leaf, neighbour_means, route_above, route_at, route_below, second_path_left, start_slot, turn_by, ways}
use Rattle.order.specs.Next.{MayDo, MayLoad, MayValidate}
use Rattle.order.specs.Reads.{HasStood, Whenever}
use Rattle.order.specs.LastTurns.{first_children, turned_at}
use Rattle.order.specs.declared.load.LeafPlace.{LeafPlace}
use Rattle.order.specs.declared.load.ReadLoad.TheVariants.{Value}
use Rattle.order.specs.declared.neighbour.Neighbour.{Neighbour}
use Rattle.order.specs.declared.neighbour.Route.{Route}
use Rattle.order.specs.declared.neighbour.Route.TheVariants.{Above, Along, Within, Beyond}
use Rattle.order.specs.declared.read.Children.{Children}
use Rattle.order.specs.declared.read.Children.TheVariants.{Left, Right, Both}
use Rattle.order.proofs.Looking.{some_taken}
use Rattle.order.proofs.Placing.{behind_node, pair_then, takes_here}
use Rattle.order.proofs.Searching.{answers_end, answers_here, at_root, ends_there, finds_as, finds_tells, goes_below, goes_near, goes_on, high_end, high_left, high_right, on_path, passes_left, passes_right, past_here, searched_in}

-- How it begins

module _ (b : History) (k n : ℕ) (path : value b (marked n) ≡ 0 → IsOnPath b k n) where
  first_looks : (side : Side) → toward (value b) n k ≡ turned_at (opposite side) n → LooksOnRoute side Above b k n (first_children (opposite side) n)
  first_looks sides.Right turn = (sym (ap (children_toward sides.Right) turn), inr turn, path)
  first_looks sides.Left turn = go (ℕ_discrete n 0) turn
    where
      go : Dec (n ≡ 0) → toward (value b) n k ≡ turned_at sides.Right n → LooksOnRoute sides.Left Above b k n (first_children sides.Right n)
      go (yes e) t =
          let to_left : toward (value b) n k ≡ sides.Left = rw (eq-eqb n 0 e) at t in
          let all : LooksOnRoute sides.Left Above b k n Left = (sym (ap (children_toward sides.Left) to_left), inl e, path) in
          rw (eq-eqb n 0 e) all
      go (no d) t =
          let to_right : toward (value b) n k ≡ sides.Right = rw (ne_eqb n 0 d) at t in
          let all : LooksOnRoute sides.Left Above b k n Both = (sym (ap (children_toward sides.Left) to_right), inr to_right, path) in
          rw (ne_eqb n 0 d) all

-- it goes down from the last fork where its walk turns away from its side
pub walks_to : (r : Neighbour) → r.route ≡ Above → WalksTo neighbour_means r r.key (opposite r.side)
walks_to r is = record {
  asks = tt;
  small = λ small. small;
  own = λ of k e. (let z : NeighbourOf r.side r.key ≡ NeighbourOf of k = e in cc);
  waits = ap beside_path is;
  turned = λ b n path turn. subst (λ route. LooksOnRoute r.side route b r.key n (first_children (opposite r.side) n)) (sym is) (first_looks b r.key n path r.side turn);
}

-- From a fork

module _ (b : History) (k n : ℕ) (fork : is_leaf (value b) n ≡ false) (left right : NodeNo) (to_left : value b (child n sides.Left) ≡ left.0) (to_right : value b (child n sides.Right) ≡ right.0) where
  -- it stands at the child to which it goes, with what is left aside
  abbrev Goes : Side → Route → Children → Type 0
  Goes side route children = IsOnRoute side (route_below route (ways side children left right).0) b k (ways side children left right).1.0

  along : (side turn : Side) (beside : Option NodeNo) (rest : Option MapPair) → IsBeside b side beside rest → IsSearched b side k n rest → toward (value b) n k ≡ turn → Goes side (Along beside) (children_toward side turn)
  along sides.Left sides.Left beside rest is x turn = (rest, is, goes_below b sides.Left k n fork left right to_left to_right rest x sides.Left turn)
  along sides.Right sides.Right beside rest is x turn = (rest, is, goes_below b sides.Right k n fork left right to_left to_right rest x sides.Right turn)
  along sides.Left sides.Right beside rest is x turn = goes_below b sides.Left k n fork left right to_left to_right rest x sides.Right turn
  along sides.Right sides.Left beside rest is x turn = goes_below b sides.Right k n fork left right to_left to_right rest x sides.Left turn

  above : (side turn : Side) → IsOnPath b k n → (n ≡ 0) ⊎ (turn ≡ opposite side) → toward (value b) n k ≡ turn → Goes side Above (children_toward side turn)
  above sides.Left sides.Left path (inl e) turn = (None, refl, goes_below b sides.Left k n fork left right to_left to_right None (at_root b sides.Left k n path e) sides.Left turn)
  above sides.Right sides.Right path (inl e) turn = (None, refl, goes_below b sides.Right k n fork left right to_left to_right None (at_root b sides.Right k n path e) sides.Right turn)
  above sides.Left sides.Left path (inr d) turn = absurd (let x : sides.Left ≡ sides.Right = d in cc)
  above sides.Right sides.Right path (inr d) turn = absurd (let x : sides.Right ≡ sides.Left = d in cc)
  above sides.Left sides.Right path first turn = let x = on_path b sides.Left k n path in goes_below b sides.Left k n fork left right to_left to_right x.0 x.1 sides.Right turn
  above sides.Right sides.Left path first turn = let x = on_path b sides.Right k n path in goes_below b sides.Right k n fork left right to_left to_right x.0 x.1 sides.Left turn

  beyond : (side : Side) → LooksOnRoute side Beyond b k n (alone (opposite side)) → Goes side Beyond (alone (opposite side))
  beyond sides.Left x = goes_near b sides.Left k n fork left right to_left to_right x.1
  beyond sides.Right x = goes_near b sides.Right k n fork left right to_left to_right x.1

  goes : (side : Side) (route : Route) (children : Children) → value b (marked n) ≡ 0 → LooksOnRoute side route b k n children → Goes side route children
  goes side Above children unmarked x = subst (Goes side Above) (sym x.0) (above side (toward (value b) n k) (x.2 unmarked) x.1 refl)
  goes side (Along beside) children unmarked x = subst (Goes side (Along beside)) (sym x.0) (along side (toward (value b) n k) beside x.1.0 x.1.1 x.1.2 refl)
  goes side (Within slot key) children unmarked x = absurd x
  goes side Beyond children unmarked x = subst (Goes side Beyond) (sym x.0) (beyond side (refl, x.1))

-- what is left aside has stood there
abbrev IsAsideThere : Call → History → Option NodeNo → Type 0
IsAsideThere c h None = Unit {0}
IsAsideThere c h (Some n) = IsThere c h n

pub goes_to : (r : Neighbour) (children : Children) (left right : NodeNo) → GoesTo neighbour_means r (record r { route = route_below r.route (ways r.side children left right).0 }) children left right (ways r.side children left right).1
goes_to r children left right = record {
  one = one r.side children;
  waits = λ c h before to_left to_right. waits c h r.route (ways r.side children left right).0 before (aside c h to_left to_right r.side children);
  below = λ lay b n run fork unmarked to_left to_right x. goes b r.key n fork left right to_left to_right r.side r.route children unmarked x;
}
  where
    one : (side : Side) (of : Children) → ((ways side of left right).1 ≡ left) ⊎ ((ways side of left right).1 ≡ right)
    one side Left = inl refl
    one side Right = inr refl
    one sides.Left Both = inr refl
    one sides.Right Both = inl refl

    aside : (c : Call) (h : History) → IsThere c h left → IsThere c h right → (side : Side) (of : Children) → IsAsideThere c h (ways side of left right).0
    aside c h to_left to_right side Left = tt
    aside c h to_left to_right side Right = tt
    aside c h to_left to_right sides.Left Both = to_left
    aside c h to_left to_right sides.Right Both = to_right

    waits : (c : Call) (h : History) (route : Route) (n : Option NodeNo) → AreThere c h (beside_path route) → IsAsideThere c h n → AreThere c h (beside_path (route_below route n))
    waits c h Above None before there = tt
    waits c h Above (Some n) before there = (there, tt)
    waits c h (Along beside) None before there = before
    waits c h (Along beside) (Some n) before there = (there, tt)
    waits c h (Within slot key) n before there = tt
    waits c h Beyond n before there = tt

-- with no more steps left than before
pub below_near : (route : Route) (aside : Option NodeNo) (nodes : ℕ) → second_path_left (route_below route aside) nodes ≤ second_path_left route nodes
below_near Above aside nodes = omega arith
below_near (Along beside) None nodes = omega arith
below_near (Along beside) (Some n) nodes = omega arith
below_near (Within slot key) aside nodes = omega arith
below_near Beyond aside nodes = omega arith

-- What is left

left_of : (b : History) (side : Side) (k : ℕ) (n : NodeNo) (route : Route) (rest : Option MapPair) → IsRest side route b n rest → Finds b side k rest → IsLeft side route b k n
left_of b side k n Above rest is x = absurd is
left_of b side k n (Along None) rest is x = record { found = None; none = refl; finds = finds_as b side k rest None is x }
left_of b side k n (Along (Some m)) rest is x = record { part = is.0; finds = finds_as b side k rest _ is.1 x }
left_of b side k n (Within slot key) rest is x = (record { small = (let e = is.1 in let i = is.2 in omega (arith, e, i)); finds = finds_as b side k rest _ is.0 x }, is.1)
left_of b side k n Beyond rest is x = absurd is

-- What its tests say of a head

-- on the path of its key it loads the key of each fork of class 0
asks_not : (head : HeadParts) → eqb head.class 0 ≡ false → head.class ≢ 0
asks_not head e z = let y : true ≡ false = sym (eq-eqb head.class 0 z) ∙ e in cc

-- At a node

module _ (r : Neighbour) (snaps : List Snap) (c : Call) (h : History) (n : NodeNo) (reading : IsReading neighbour_means r snaps c h) (x : Stands neighbour_means r snaps c h n.0) where
  same_then : (b : History) → IsMapRun c.layout b → Extends b h → SameSettled (value h) (value b) n.0
  same_then b run e = stood_settled c.layout b h n.0 run e x.stood.stood

  -- a fork
  looks_at : (turn : Side) (deep : ℕ) → is_leaf (value h) n.0 ≡ false → level (value h) n.0 ≡ deep → ((beside : Option NodeNo) → r.route ≡ Along beside → toward (value h) n.0 r.key ≡ turn) → Looks neighbour_means r snaps c h (children_on r.side r.route turn) deep n.0
  looks_at turn deep fork is turns = record {
    stood = x.stood;
    asks = tt;
    fork = fork;
    deep = omega (arith, is);
    waits = x.waits;
    here = λ b run e hold. go b (settled_toward (value h) (value b) n.0 r.key (same_then b run e)) r.route refl (x.here b run e hold);
  }
    where
      go : (b : History) → toward (value b) n.0 r.key ≡ toward (value h) n.0 r.key → (route : Route) → r.route ≡ route → IsOnRoute r.side route b r.key n.0 → LooksOnRoute r.side route b r.key n.0 (children_on r.side route turn)
      go b same Above e y = absurd y
      go b same (Along beside) e y = (sym (ap (children_toward r.side) (same ∙ turns beside e)), y)
      go b same (Within slot key) e y = absurd y
      go b same Beyond e y = (refl, y)

  -- whose key it does not load
  pub high_looks : (head : HeadParts) → head_at h n.0 ≡ head → asks_on_route r.route head ≡ false → head.leaf ≡ false → Looks neighbour_means r snaps c h (children_on r.side r.route sides.Left) head.level n.0
  high_looks head is e fork = looks_at sides.Left head.level (ap (λ (w : HeadParts). w.leaf) is ∙ fork) (ap (λ (w : HeadParts). w.level) is) (λ beside on. rw (lt-ltb r.key (rank (value h) n.0) (low (subst (λ route. asks_on_route route head ≡ false) on e))) refl)
    where
      low : eqb head.class 0 ≡ false → r.key < rank (value h) n.0
      low d =
          let high : class (value h) n.0 ≢ 0 = λ z. asks_not head d (sym (ap (λ (w : HeadParts). w.class) is) ∙ z) in
          let s = reading.suits in
          omega (arith, s, high)

  module _ (leaf : is_leaf (value h) n.0 ≡ true) where
    -- a leaf above all keys
    pub leaves_above : IsOwnMoment c h → class (value h) n.0 ≢ 0 → Leaves (record r { route = route_above r.side r.route }) n snaps c h
    leaves_above own high = record {
      stood = x.stood;
      own = own;
      some = some_taken neighbour_means r snaps c h reading n.0 x leaf;
      waits = waits r.side;
      left = λ b run e hold.
          let same : SameSettled (value h) (value b) n.0 = same_then b run e in
          go b (settled_leaf (value h) (value b) n.0 same ∙ leaf) (λ z. high (sym (settled_class (value h) (value b) n.0 same) ∙ z)) r.side r.route (x.here b run e hold);
    }
      where
        waits : (side : Side) → AreThere c h (beside_path (route_above side r.route))
        waits sides.Left = x.waits
        waits sides.Right = tt

        go : (b : History) → is_leaf (value b) n.0 ≡ true → class (value b) n.0 ≢ 0 → (side : Side) (route : Route) → IsOnRoute side route b r.key n.0 → IsLeft side (route_above side route) b r.key n
        go b leaf_then high_then side Above y = absurd y
        go b leaf_then high_then side (Within slot key) y = absurd y
        go b leaf_then high_then sides.Left Beyond y = high_end b sides.Left r.key n.0 y leaf_then high_then
        go b leaf_then high_then sides.Right Beyond y = high_end b sides.Right r.key n.0 y leaf_then high_then
        go b leaf_then high_then sides.Right (Along beside) y = high_right b r.key n.0 y.0 y.2 leaf_then high_then (let s = reading.suits in omega (arith, s, high_then))
        go b leaf_then high_then sides.Left (Along beside) y = left_of b sides.Left r.key n (Along beside) y.0 y.1 (high_left b r.key n.0 y.0 y.2 leaf_then high_then (let s = reading.suits in omega (arith, s, high_then)))

    -- one of class 0, before the place where it begins
    module _ (low : class (value h) n.0 ≡ 0) where
      starts_at : (p : LeafPlace) → p.node ≡ n → Whenever c.layout h snaps (λ b. IsInLeaf r.side r.route b r.key p) → StandsIn neighbour_means r snaps c h p
      starts_at p is here = record { stood = subst (λ (m : NodeNo). HasStood c h m.0) (sym is) x.stood; asks = tt; some = some_taken neighbour_means r snaps c h reading n.0 x leaf; waits = x.waits; here = here }

      in_leaf : (b : History) → IsMapRun c.layout b → Extends b h → (side : Side) (route : Route) → IsOnRoute side route b r.key n.0 → IsInLeaf side route b r.key (record { node = n; more = more_at h n.0; slot = start_slot side route (more_at h n.0) })
      in_leaf b run e side route y = go route y
        where
          same : SameSettled (value h) (value b) n.0
          same = same_then b run e

          go : (on : Route) → IsOnRoute side on b r.key n.0 → IsInLeaf side on b r.key (record { node = n; more = more_at h n.0; slot = start_slot side on (more_at h n.0) })
          go Above z = absurd z
          go (Within slot key) z = absurd z
          go (Along beside) z = (z.0, z.1, searched_in b side r.key n (more_at h n.0) (settled_leaf (value h) (value b) n.0 same ∙ leaf) (settled_class (value h) (value b) n.0 same ∙ low) (same (Settled MoreWord) tt) z.0 z.2)
          go Beyond z = answers_end b side r.key n (more_at h n.0) (settled_leaf (value h) (value b) n.0 same ∙ leaf) (settled_class (value h) (value b) n.0 same ∙ low) (same (Settled MoreWord) tt) z

      -- the first pair is told without their number
      first_alone : (b : History) (side : Side) (route : Route) → side ≡ sides.Right → route ≡ Beyond → IsInLeaf side route b r.key (record { node = n; more = more_at h n.0; slot = start_slot side route (more_at h n.0) }) → IsInLeaf side route b r.key (first_in_leaf n 0)
      first_alone b sides.Right Beyond is on y = record { small = y.small; finds = y.finds }
      first_alone b sides.Left route is on y = absurd (let z : sides.Left ≡ sides.Right = is in cc)
      first_alone b sides.Right Above is on y = absurd (let z : Above ≡ Beyond = on in cc)
      first_alone b sides.Right (Along beside) is on y = absurd (let z : Along beside ≡ Beyond = on in cc)
      first_alone b sides.Right (Within slot key) is on y = absurd (let z : Within slot key ≡ Beyond = on in cc)

      pub starts_in : MayLoad neighbour_means r snaps c h (leaf_load r.side r.route n)
      starts_in = go r.side r.route refl refl
        where
          counted : StandsIn neighbour_means r snaps c h (record { node = n; more = more_at h n.0; slot = start_slot r.side r.route (more_at h n.0) })
          counted = starts_at _ refl (λ b run e hold. in_leaf b run e r.side r.route (x.here b run e hold))

          go : (side : Side) (route : Route) → r.side ≡ side → r.route ≡ route → MayLoad neighbour_means r snaps c h (leaf_load side route n)
          go sides.Right Beyond is on = starts_at (first_in_leaf n 0) refl (λ b run e hold. first_alone b r.side r.route is on (in_leaf b run e r.side r.route (x.here b run e hold)))
          go sides.Right Above is on = counted
          go sides.Right (Along beside) is on = counted
          go sides.Right (Within slot key) is on = counted
          go sides.Left route is on = counted

-- At the key of a fork

pub low_looks : (r : Neighbour) (snaps : List Snap) (c : Call) (h : History) (low : ℕ) (n : NodeNo) (key : ℕ) → IsReading neighbour_means r snaps c h → IsAtLowFork neighbour_means r snaps c h low n.0 → key_at h n.0 ≡ key → Looks neighbour_means r snaps c h (children_on r.side r.route (turn_by r.key key)) low n.0
low_looks r snaps c h low n key reading x key_is = looks_at r snaps c h n reading x.stands (turn_by r.key key) low x.fork x.deep (λ beside on. ap (turn_by r.key) rank_is)
  where
    rank_is : rank (value h) n.0 ≡ key
    rank_is = let z = x.class in let e = key_is in omega (arith, z, e)

-- After the keys of a leaf

-- it takes what is left, or is done
pub leaves_to : (r : Neighbour) (n : NodeNo) (snaps : List Snap) (c : Call) (h : History) → IsReading neighbour_means r snaps c h → Leaves r n snaps c h → MayDo neighbour_means (record r { route = Beyond; found = None }) snaps c h (after_leaf r.route n)
leaves_to r n snaps c h reading x = go r.route refl
  where
    after : Neighbour
    after = record r { route = Beyond; found = None }

    left_then : (route : Route) → r.route ≡ route → Whenever c.layout h snaps (λ b. IsLeft r.side route b r.key n)
    left_then route e b run within hold = subst (λ (on : Route). IsLeft r.side on b r.key n) e (x.left b run within hold)

    ends : Whenever c.layout h snaps (λ b. FindsNone b r.side r.key) → MayValidate neighbour_means after snaps c h
    ends none = record {
      asks = tt;
      own = x.own;
      some = x.some;
      right = λ b run e hold ps spelled. let y = none b run e hold in ap pair_or_none (finds_tells c.layout b r.side r.key y.found ps y.finds reading.suits spelled ∙ y.none);
    }

    go : (route : Route) → r.route ≡ route → MayDo neighbour_means after snaps c h (after_leaf route n)
    go Above e = ends (left_then Above e)
    go Beyond e = ends (left_then Beyond e)
    go (Along None) e = ends (left_then (Along None) e)
    go (Along (Some m)) e =
        let there : AreThere c h (m ∷ []) = subst (λ (on : Route). AreThere c h (beside_path on)) e x.waits in
        (record { stood = there.0.0; asks = tt; some = inr x.some; waits = tt; here = left_then (Along (Some m)) e }, there.0.1)
    go (Within slot key) e = record {
      stands = record { stood = x.stood; asks = tt; some = x.some; waits = tt; here = λ b run within hold. (left_then (Within slot key) e b run within hold).0 };
      key_is = λ b run within hold. (left_then (Within slot key) e b run within hold).1;
      takes = refl;
    }

reading_on : (r : Neighbour) (route : Route) (snaps : List Snap) (c : Call) (h : History) → IsReading neighbour_means r snaps c h → IsReading neighbour_means (record r { route = route }) snaps c h
reading_on r route snaps c h x = record { reads = x.reads; suits = x.suits }

-- so it is at a leaf above all keys
pub leaves_high : (r : Neighbour) (snaps : List Snap) (c : Call) (h : History) (n : NodeNo) → IsReading neighbour_means r snaps c h → Stands neighbour_means r snaps c h n.0 → is_leaf (value h) n.0 ≡ true → IsOwnMoment c h → class (value h) n.0 ≢ 0 → MayDo neighbour_means (record r { route = Beyond; found = None }) snaps c h (after_leaf (route_above r.side r.route) n)
leaves_high r snaps c h n reading x leaf own high = leaves_to (record r { route = route_above r.side r.route }) n snaps c h (reading_on r (route_above r.side r.route) snaps c h reading) (leaves_above r snaps c h n reading x leaf own high)

-- At the key of a pair

module _ (r : Neighbour) (snaps : List Snap) (c : Call) (h : History) (p : LeafPlace) (key : ℕ) (reading : IsReading neighbour_means r snaps c h) (x : StandsIn neighbour_means r snaps c h p) (key_is : place_key h p ≡ key) where
  key_then : (b : History) → IsMapRun c.layout b → Extends b h → place_key b p ≡ key
  key_then b run e = stood_settled c.layout b h p.node.0 run e x.stood.stood (Settled (KeyWord p.slot)) tt ∙ key_is

  -- it is the answer
  pub takes_pair : is_answer r.side r.route r.key key ≡ true → MayLoad neighbour_means (record r { route = Beyond }) snaps c h (Value p key)
  takes_pair is = takes_here neighbour_means (record r { route = Beyond }) snaps c h p key record {
    stood = x.stood;
    asks = tt;
    some = x.some;
    waits = tt;
    here = λ b run e hold. go b (key_then b run e) r.side r.route is (x.here b run e hold);
  } key_is refl
    where
      first : (b : History) (rest : Option MapPair) → place_key b p ≡ key → ltb r.key key ≡ true → IsSearchedIn b sides.Right r.key p rest → IsAnswer b sides.Right r.key p
      first b rest e above y = answers_here b r.key p rest y (rw e (ltb-true r.key key above))

      go : (b : History) → place_key b p ≡ key → (side : Side) (route : Route) → is_answer side route r.key key ≡ true → IsInLeaf side route b r.key p → IsAnswer b side r.key p
      go b e side Beyond a y = y
      go b e sides.Right Above a y = first b y.0 e a y.2
      go b e sides.Right (Along beside) a y = first b y.0 e a y.2
      go b e sides.Right (Within slot other) a y = first b y.0 e a y.2
      go b e sides.Left Above a y = absurd (let z : false ≡ true = a in cc)
      go b e sides.Left (Along beside) a y = absurd (let z : false ≡ true = a in cc)
      go b e sides.Left (Within slot other) a y = absurd (let z : false ≡ true = a in cc)

  module _ (own : IsOwnMoment c h) (not : is_answer r.side r.route r.key key ≡ false) where
    -- it is past the answer, if that is in this leaf
    pub leaves_past : is_past r.side r.key key ≡ true → Leaves r p.node snaps c h
    leaves_past past = record { stood = x.stood; own = own; some = x.some; waits = x.waits; left = λ b run e hold. go b (key_then b run e) r.side r.route not past (x.here b run e hold) }
      where
        last : (b : History) (route : Route) (rest : Option MapPair) → place_key b p ≡ key → leb r.key key ≡ true → IsRest sides.Left route b p.node rest → IsSearchedIn b sides.Left r.key p rest → IsLeft sides.Left route b r.key p.node
        last b route rest e a is y = left_of b sides.Left r.key p.node route rest is (past_here b r.key p rest y (rw e (leb-true r.key key a)))

        go : (b : History) → place_key b p ≡ key → (side : Side) (route : Route) → is_answer side route r.key key ≡ false → is_past side r.key key ≡ true → IsInLeaf side route b r.key p → IsLeft side route b r.key p.node
        go b e side Beyond a l y = absurd (let z : true ≡ false = a in cc)
        go b e sides.Right Above a l y = absurd (let z : false ≡ true = l in cc)
        go b e sides.Right (Along beside) a l y = absurd (let z : false ≡ true = l in cc)
        go b e sides.Right (Within slot other) a l y = absurd (let z : false ≡ true = l in cc)
        go b e sides.Left Above a l y = last b Above y.0 e l y.1 y.2
        go b e sides.Left (Along beside) a l y = last b (Along beside) y.0 e l y.1 y.2
        go b e sides.Left (Within slot other) a l y = last b (Within slot other) y.0 e l y.1 y.2

    -- or it is passed
    module _ (here : is_past r.side r.key key ≡ false) where
      -- what is known then
      record HasPassed (b : History) (side : Side) (route : Route) : Type 0 where
        before : Option MapPair
        searched : IsSearchedIn b side r.key p before
        rest : Option MapPair
        is : IsRest side (route_at side route p.slot key) b p.node rest
        finds : Finds b side r.key (or_else (neighbour side r.key (pairs_behind b p)) rest)

      passed : (b : History) → place_key b p ≡ key → (side : Side) (route : Route) → is_answer side route r.key key ≡ false → is_past side r.key key ≡ false → IsInLeaf side route b r.key p → HasPassed b side route
      passed b e side route a l y = go side route a l y
        where
          below : leb r.key key ≡ false → place_key b p < r.key
          below i = rw e (leb-false r.key key i)

          lower : (before : Option MapPair) (on : Route) → route_at sides.Left on p.slot key ≡ Within p.slot key → leb r.key key ≡ false → IsSearchedIn b sides.Left r.key p before → HasPassed b sides.Left on
          lower before on is i z = record {
            before = before;
            searched = z;
            rest = Some (place_pair b p);
            is = subst (λ (w : Route). IsRest sides.Left w b p.node (Some (place_pair b p))) (sym is) (refl, e, (let j = leb-false r.key key i in let s = reading.suits in omega (arith, j, s)));
            finds = passes_left b r.key p before z (below i);
          }

          upper : (before : Option MapPair) (on : Route) → IsRest sides.Right on b p.node before → ltb r.key key ≡ false → IsSearchedIn b sides.Right r.key p before → HasPassed b sides.Right on
          upper before on is i z = record { before = before; searched = z; rest = before; is = is; finds = passes_right b r.key p before z (rw e (ltb-false r.key key i)) }

          go : (on_side : Side) (on : Route) → is_answer on_side on r.key key ≡ false → is_past on_side r.key key ≡ false → IsInLeaf on_side on b r.key p → HasPassed b on_side on
          go on_side Beyond a l z = absurd (let d : true ≡ false = a in cc)
          go sides.Left Above a l z = absurd z.1
          go sides.Left (Along beside) a l z = lower z.0 (Along beside) refl l z.2
          go sides.Left (Within slot other) a l z = lower z.0 (Within slot other) refl l z.2
          go sides.Right Above a l z = absurd z.1
          go sides.Right (Along beside) a l z = upper z.0 (Along beside) z.1 a z.2
          go sides.Right (Within slot other) a l z = upper z.0 (Within slot other) z.1 a z.2

      passed_then : Whenever c.layout h snaps (λ b. HasPassed b r.side r.route)
      passed_then b run e hold = passed b (key_then b run e) r.side r.route not here (x.here b run e hold)

      waits_on : AreThere c h (beside_path (route_at r.side r.route p.slot key))
      waits_on = go r.side r.route x.waits
        where
          go : (side : Side) (route : Route) → AreThere c h (beside_path route) → AreThere c h (beside_path (route_at side route p.slot key))
          go sides.Right route w = w
          go sides.Left Above w = tt
          go sides.Left (Along beside) w = tt
          go sides.Left (Within slot other) w = tt
          go sides.Left Beyond w = tt

      -- to the next place
      pub stands_next : (q : LeafPlace) → place_behind p ≡ Some q → StandsIn neighbour_means (record r { route = route_at r.side r.route p.slot key }) snaps c h q
      stands_next q is = record {
        stood = subst (λ (n : NodeNo). HasStood c h n.0) (sym (behind_node p q is)) x.stood;
        asks = tt;
        some = x.some;
        waits = waits_on;
        here = λ b run e hold. let y = passed_then b run e hold in go b r.side (route_at r.side r.route p.slot key) y.rest (subst (λ n. IsRest r.side (route_at r.side r.route p.slot key) b n y.rest) (sym (behind_node p q is)) y.is) (goes_on b r.side r.key p y.before y.rest y.searched y.finds q is);
      }
        where
          go : (b : History) (side : Side) (route : Route) (rest : Option MapPair) → IsRest side route b q.node rest → IsSearchedIn b side r.key q rest → IsInLeaf side route b r.key q
          go b side Above rest i y = absurd i
          go b side (Along beside) rest i y = (rest, i, y)
          go b side (Within slot other) rest i y = (rest, i, y)
          go b side Beyond rest i y = absurd i

      -- or on from the leaf
      pub leaves_last : place_behind p ≡ None → Leaves (record r { route = route_at r.side r.route p.slot key }) p.node snaps c h
      leaves_last is = record {
        stood = x.stood;
        own = own;
        some = x.some;
        waits = waits_on;
        left = λ b run e hold. let y = passed_then b run e hold in left_of b r.side r.key p.node (route_at r.side r.route p.slot key) y.rest y.is (ends_there b r.side r.key p y.before y.rest y.searched y.finds is);
      }

-- so it goes on from its last pair
pub leaves_low : (r : Neighbour) (snaps : List Snap) (c : Call) (h : History) (p : LeafPlace) (key : ℕ) → IsReading neighbour_means r snaps c h → StandsIn neighbour_means r snaps c h p → place_key h p ≡ key → IsOwnMoment c h → is_answer r.side r.route r.key key ≡ false → is_past r.side r.key key ≡ false → place_behind p ≡ None → MayDo neighbour_means (record r { route = Beyond; found = None }) snaps c h (after_leaf (route_at r.side r.route p.slot key) p.node)
leaves_low r snaps c h p key reading x key_is own not here is = leaves_to (record r { route = route_at r.side r.route p.slot key }) p.node snaps c h (reading_on r (route_at r.side r.route p.slot key) snaps c h reading) (leaves_last r snaps c h p key reading x key_is own not here is)

-- At the pair of the answer

pub tells_this : (r : Neighbour) (snaps : List Snap) (c : Call) (h : History) (p : LeafPlace) (found : MapPair) → IsReading neighbour_means r snaps c h → IsOwnMoment c h → TakesPair neighbour_means r snaps c h p found.key → place_value h p ≡ found.value → MayValidate neighbour_means (record r { found = Some found }) snaps c h
tells_this r snaps c h p found reading own x is = record {
  asks = tt;
  own = own;
  some = x.stands.some;
  right = λ b run e hold ps spelled.
      let y : IsAnswer b r.side r.key p = subst (λ (on : Route). IsInLeaf r.side on b r.key p) x.takes (x.stands.here b run e hold) in
      let pair_is : place_pair b p ≡ found = pair_then c h p found x.stands.stood.stood is b run e (x.key_is b run e hold) in
      ap pair_or_none (finds_tells c.layout b r.side r.key (Some (place_pair b p)) ps y.finds reading.suits spelled ∙ pair_stays (place_pair b p) y.small ∙ ap Some pair_is);
}
