-- How the search for the next key on a side of k goes down a tree.
use Rattle.std.proofs.Common.{◌≡◌, ◌≢◌, ℕ, ◌*◌, ◌^◌, ◌<◌, ◌≤◌, Bool, true, false, cond, List, [], ◌∷◌, inl, inr, refl, sym, ◌∙◌, ap, subst, arith, lt-ltb, le-ltb, Option, Some, None, unwrap_or}
use Rattle.histories.specs.Common.{Layout, NodeNo, Side, Left, Right, Word, child, History, value}
use Rattle.template.specs.Common.{Pair, end_slot, held_pairs, pair_in, AllBelow, IsRising, end_pair, neighbour, pair, IsOnPath, Spells, Tree, Shows, class, is_leaf, opposite, rank, root, toward}
use Rattle.ordered_map.specs.OrderedMap.{predecessor, successor}
use Rattle.ordered_map.specs.TreeWords.{Leaf, Fork, Passes, leaf_items}
use Rattle.ordered_map.proofs.Lemmas.{above_less, before_above, below_end, end_below, found_before, held_end, high_items, items, low_items, low_pair, or_else, or_none, pair_goes, part_on, rest_below, search_below, search_tells}
use Rattle.order.specs.Found.{more_at, pairs_behind, place_key, place_pair}
use Rattle.order.specs.Laws.Search.{Finds, FindsNone, IsAnswer, IsBeside, IsEndBelow, IsPartAt, IsSearched, IsSearchedIn}
use Rattle.order.specs.Loads.{first_in_leaf, place_behind}
use Rattle.order.specs.Neighbour.{alone, ways}
use Rattle.order.specs.declared.load.LeafPlace.{LeafPlace}
use Rattle.order.proofs.Following.{no_leaf, one_tree}
use Rattle.order.proofs.Placing.{behind_more, behind_none, behind_some, place_next}

-- what it finds is what the map says, but for what is above all keys
pub finds_tells : (lay : Layout) (h : History) (side : Side) (k : ℕ) (found : Option Pair) (ps : List Pair) → Finds h side k found → k < 2 ^ 64 → Spells lay (value h) ps → neighbour side k ps ≡ low_pair found
finds_tells lay h side k found ps x small spelled = search_tells side lay (value h) ps k spelled small ∙ ap low_pair (ap (λ t. neighbour side k (items (value h) t)) (one_tree h spelled.tree x.tree spelled.is_tree x.is_tree) ∙ x.finds)

-- the same, where it is called otherwise
pub finds_as : (h : History) (side : Side) (k : ℕ) (found other : Option Pair) → found ≡ other → Finds h side k found → Finds h side k other
finds_as h side k found other e x = record { tree = x.tree; is_tree = x.is_tree; finds = x.finds ∙ e }

-- At a fork

-- what is known below a fork at which the path turns so
abbrev pub IsBelow : History → Side → Side → ℕ → NodeNo → NodeNo → Option Pair → Type 0
IsBelow h Left Right k left right rest = (beside : Option Pair) × IsBeside h Left (Some left) beside × IsSearched h Left k right.0 beside
IsBelow h Right Left k left right rest = (beside : Option Pair) × IsBeside h Right (Some right) beside × IsSearched h Right k left.0 beside
IsBelow h Left Left k left right rest = IsSearched h Left k left.0 rest
IsBelow h Right Right k left right rest = IsSearched h Right k right.0 rest

-- its parts
module _ (h : History) (k m : ℕ) (a b : Tree) (lo hi : ℕ) (s : Shows (value h) lo hi (Fork m a b)) (left right : NodeNo) (to_left : value h (child m Left) ≡ left.0) (to_right : value h (child m Right) ≡ right.0) where
  abbrev part_left : IsPartAt h left.0
  part_left = record { tree = a; low = lo; high = rank (value h) m; shows = s.1; is = sym s.0.left ∙ to_left }

  abbrev part_right : IsPartAt h right.0
  part_right = record { tree = b; low = rank (value h) m; high = hi; shows = s.2; is = sym s.0.right ∙ to_right }

  below : (side turn : Side) (rest : Option Pair) → Finds h side k (or_else (neighbour side k (items (value h) (part_on turn a b))) (rest_below side turn (value h) a b rest)) → IsBelow h side turn k left right rest
  below Left Right rest x = (end_pair Right (items (value h) a), (part_left, refl), record { part = part_right; finds = x })
  below Right Left rest x = (end_pair Left (items (value h) b), (part_right, refl), record { part = part_left; finds = x })
  below Left Left rest x = record { part = part_left; finds = x }
  below Right Right rest x = record { part = part_right; finds = x }

  ends : (side : Side) → Finds h side k (end_pair (opposite side) (items (value h) (Fork m a b))) → IsEndBelow h side k (ways side (alone (opposite side)) left right).1.0
  ends Left x = record { part = part_right; finds = finds_as h Left k _ _ (end_below Right (value h) m a b) x }
  ends Right x = record { part = part_left; finds = finds_as h Right k _ _ (end_below Left (value h) m a b) x }

module _ (h : History) (side : Side) (k n : ℕ) (fork : is_leaf (value h) n ≡ false) (left right : NodeNo) (to_left : value h (child n Left) ≡ left.0) (to_right : value h (child n Right) ≡ right.0) where
  pub goes_below : (rest : Option Pair) → IsSearched h side k n rest → (turn : Side) → toward (value h) n k ≡ turn → IsBelow h side turn k left right rest
  goes_below rest x turn is = go x.part.tree x.part.low x.part.high x.part.shows x.part.is x.finds
    where
      go : (p : Tree) (low high : ℕ) → Shows (value h) low high p → root p ≡ n → Finds h side k (or_else (neighbour side k (items (value h) p)) rest) → IsBelow h side turn k left right rest
      go (Leaf m) low high s e d = no_leaf (value h) n _ (rw e at s.leaf) fork
      go (Fork m a b) low high s e d =
          let same : toward (value h) m k ≡ turn = ap (λ j. toward (value h) j k) e ∙ is in
          let step = search_below side (value h) k m a b low high rest s ∙ ap (λ t. or_else (neighbour side k (items (value h) (part_on t a b))) (rest_below side t (value h) a b rest)) same in
          below h k m a b low high s left right (ap (λ j. value h (child j Left)) e ∙ to_left) (ap (λ j. value h (child j Right)) e ∙ to_right) side turn rest (finds_as h side k _ _ step d)

  pub goes_near : IsEndBelow h side k n → IsEndBelow h side k (ways side (alone (opposite side)) left right).1.0
  goes_near x = go x.part.tree x.part.low x.part.high x.part.shows x.part.is x.finds
    where
      go : (p : Tree) (low high : ℕ) → Shows (value h) low high p → root p ≡ n → Finds h side k (end_pair (opposite side) (items (value h) p)) → IsEndBelow h side k (ways side (alone (opposite side)) left right).1.0
      go (Leaf m) low high s e d = no_leaf (value h) n _ (rw e at s.leaf) fork
      go (Fork m a b) low high s e d = ends h k m a b low high s left right (ap (λ j. value h (child j Left)) e ∙ to_left) (ap (λ j. value h (child j Right)) e ∙ to_right) side d

-- On the path

-- the search in the tree t, with d besides, is that below the node n, with the rest
record Reaches (f : Word → ℕ) (side : Side) (k : ℕ) (t : Tree) (n : ℕ) (d : Option Pair) : Type 0 where
  part : Tree
  low : ℕ
  high : ℕ
  shows : Shows f low high part
  is : root part ≡ n
  rest : Option Pair
  finds : or_else (neighbour side k (items f t)) d ≡ or_else (neighbour side k (items f part)) rest

-- on the side of a fork where the path goes on, with what is left besides there
goes_on_at : (f : Word → ℕ) (side : Side) (k m : ℕ) (a b : Tree) (lo hi n : ℕ) (d : Option Pair) (turn : Side) → Shows f lo hi (Fork m a b) → toward f m k ≡ turn → Reaches f side k (part_on turn a b) n (rest_below side turn f a b d) → Reaches f side k (Fork m a b) n d
goes_on_at f side k m a b lo hi n d turn s is x = record {
  part = x.part;
  low = x.low;
  high = x.high;
  shows = x.shows;
  is = x.is;
  rest = x.rest;
  finds = search_below side f k m a b lo hi d s ∙ ap (λ t. or_else (neighbour side k (items f (part_on t a b))) (rest_below side t f a b d)) is ∙ x.finds;
}

reaches : (f : Word → ℕ) (side : Side) (k : ℕ) (t : Tree) (lo hi n : ℕ) (d : Option Pair) → Shows f lo hi t → Passes f k t n → Reaches f side k t n d
reaches f side k (Leaf m) lo hi n d s e = record { part = Leaf m; low = lo; high = hi; shows = s; is = e; rest = d; finds = refl }
reaches f side k (Fork m a b) lo hi n d s (inl e) = record { part = Fork m a b; low = lo; high = hi; shows = s; is = e; rest = d; finds = refl }
reaches f side k (Fork m a b) lo hi n d s (inr (inl q)) =
    goes_on_at f side k m a b lo hi n d Left s (rw (lt-ltb k (rank f m) q.0) refl) (reaches f side k a lo (rank f m) n (rest_below side Left f a b d) s.1 q.1)
reaches f side k (Fork m a b) lo hi n d s (inr (inr q)) =
    goes_on_at f side k m a b lo hi n d Right s (rw (le-ltb k (rank f m) q.0) refl) (reaches f side k b (rank f m) hi n (rest_below side Right f a b d) s.2 q.1)

-- at any node of it something is left besides
pub on_path : (h : History) (side : Side) (k n : ℕ) → IsOnPath h k n → (rest : Option Pair) × IsSearched h side k n rest
on_path h side k n p =
    let x : Reaches (value h) side k p.tree n None = reaches (value h) side k p.tree _ _ n None p.is_tree.shows p.passes in (
      x.rest,
      record {
        part = record { tree = x.part; low = x.low; high = x.high; shows = x.shows; is = x.is };
        finds = record { tree = p.tree; is_tree = p.is_tree; finds = sym (or_none (neighbour side k (items (value h) p.tree))) ∙ x.finds };
      },
    )

-- at the root nothing is
pub at_root : (h : History) (side : Side) (k n : ℕ) → IsOnPath h k n → n ≡ 0 → IsSearched h side k n None
at_root h side k n p e = record {
  part = record { tree = p.tree; low = 0; high = 3 * 2 ^ 64; shows = p.is_tree.shows; is = p.is_tree.is ∙ sym e };
  finds = record { tree = p.tree; is_tree = p.is_tree; finds = sym (or_none (neighbour side k (items (value h) p.tree))) };
}

-- At a leaf above all keys

-- which is above k: on the left of k nothing is in it, and what is on the right has no pair
pub high_left : (h : History) (k n : ℕ) (rest : Option Pair) → IsSearched h Left k n rest → is_leaf (value h) n ≡ true → class (value h) n ≢ 0 → k < rank (value h) n → Finds h Left k rest
high_left h k n rest x leaf high above = go x.part.tree x.part.low x.part.high x.part.shows x.part.is x.finds
  where
    go : (p : Tree) (low hi : ℕ) → Shows (value h) low hi p → root p ≡ n → Finds h Left k (or_else (neighbour Left k (items (value h) p)) rest) → Finds h Left k rest
    go (Fork m a b) low hi s e d = no_leaf (value h) n _ leaf (rw e at s.0.fork)
    go (Leaf m) low hi s e d =
        let is : leaf_items (value h) m ≡ pair (rank (value h) m) 0 ∷ [] = high_items (value h) m (λ z. high (sym (ap (class (value h)) e) ∙ z)) in
        finds_as h Left k _ rest (ap (λ ps. or_else (predecessor k ps) rest) is ∙ ap (λ o. or_else o rest) (before_above k (pair (rank (value h) m) 0 ∷ []) (subst (λ j. k < rank (value h) j) (sym e) above, tt))) d

pub high_right : (h : History) (k n : ℕ) (rest : Option Pair) → IsSearched h Right k n rest → is_leaf (value h) n ≡ true → class (value h) n ≢ 0 → k < rank (value h) n → FindsNone h Right k
high_right h k n rest x leaf high above = go x.part.tree x.part.low x.part.high x.part.shows x.part.is x.finds
  where
    go : (p : Tree) (low hi : ℕ) → Shows (value h) low hi p → root p ≡ n → Finds h Right k (or_else (neighbour Right k (items (value h) p)) rest) → FindsNone h Right k
    go (Fork m a b) low hi s e d = no_leaf (value h) n _ leaf (rw e at s.0.fork)
    go (Leaf m) low hi s e d =
        let other : class (value h) m ≢ 0 = λ z. high (sym (ap (class (value h)) e) ∙ z) in
        let is : leaf_items (value h) m ≡ pair (rank (value h) m) 0 ∷ [] = high_items (value h) m other in
        let found : successor k (pair (rank (value h) m) 0 ∷ []) ≡ Some (pair (rank (value h) m) 0) = rw (lt-ltb k (rank (value h) m) (subst (λ j. k < rank (value h) j) (sym e) above)) refl in
        record { found = Some (pair (rank (value h) m) 0); none = pair_goes (pair (rank (value h) m) 0) (omega (arith, other)); finds = finds_as h Right k _ _ (ap (λ ps. or_else (successor k ps) rest) is ∙ ap (λ o. or_else o rest) found) d }

pub high_end : (h : History) (side : Side) (k n : ℕ) → IsEndBelow h side k n → is_leaf (value h) n ≡ true → class (value h) n ≢ 0 → FindsNone h side k
high_end h side k n x leaf high = go x.part.tree x.part.low x.part.high x.part.shows x.part.is x.finds
  where
    one : (end : Side) (q : Pair) → end_pair end (q ∷ []) ≡ Some q
    one Left q = refl
    one Right q = refl

    go : (p : Tree) (low hi : ℕ) → Shows (value h) low hi p → root p ≡ n → Finds h side k (end_pair (opposite side) (items (value h) p)) → FindsNone h side k
    go (Fork m a b) low hi s e d = no_leaf (value h) n _ leaf (rw e at s.0.fork)
    go (Leaf m) low hi s e d =
        let other : class (value h) m ≢ 0 = λ z. high (sym (ap (class (value h)) e) ∙ z) in
        record { found = Some (pair (rank (value h) m) 0); none = pair_goes (pair (rank (value h) m) 0) (omega (arith, other)); finds = finds_as h side k _ _ (ap (end_pair (opposite side)) (high_items (value h) m other) ∙ one (opposite side) (pair (rank (value h) m) 0)) d }

-- At a leaf of class 0

module _ (h : History) (side : Side) (k : ℕ) (n : NodeNo) (more : ℕ) (leaf : is_leaf (value h) n.0 ≡ true) (low : class (value h) n.0 ≡ 0) (count : more_at h n.0 ≡ more) where
  -- on the path of k it stands at the first place
  pub searched_in : (rest : Option Pair) → IsSearched h side k n.0 rest → IsSearchedIn h side k (first_in_leaf n more) rest
  searched_in rest x = go x.part.tree x.part.low x.part.high x.part.shows x.part.is x.finds
    where
      go : (p : Tree) (least high : ℕ) → Shows (value h) least high p → root p ≡ n.0 → Finds h side k (or_else (neighbour side k (items (value h) p)) rest) → IsSearchedIn h side k (first_in_leaf n more) rest
      go (Fork m a b) least high s e d = no_leaf (value h) n.0 _ leaf (rw e at s.0.fork)
      go (Leaf m) least high s e d =
          let is_low : class (value h) m ≡ 0 = ap (class (value h)) e ∙ low in
          let held : leaf_items (value h) m ≡ held_pairs (value h) n.0 = low_items (value h) m is_low ∙ ap (held_pairs (value h)) e in
          record {
            more = count;
            small = subst (λ j. AllBelow (2 ^ 64) (held_pairs (value h) j)) e (s.items.keys is_low).1;
            rises = subst IsRising held s.items.rising;
            finds = finds_as h side k _ _ (ap (λ ps. or_else (neighbour side k ps) rest) held) d;
          }

  -- beside that path the pair at the near end is the answer
  pub answers_end : IsEndBelow h side k n.0 → IsAnswer h side k (record { node = n; more = more; slot = end_slot (opposite side) more })
  answers_end x = go x.part.tree x.part.low x.part.high x.part.shows x.part.is x.finds
    where
      go : (p : Tree) (least high : ℕ) → Shows (value h) least high p → root p ≡ n.0 → Finds h side k (end_pair (opposite side) (items (value h) p)) → IsAnswer h side k (record { node = n; more = more; slot = end_slot (opposite side) more })
      go (Fork m a b) least high s e d = no_leaf (value h) n.0 _ leaf (rw e at s.0.fork)
      go (Leaf m) least high s e d =
          let is_low : class (value h) m ≡ 0 = ap (class (value h)) e ∙ low in
          let small : AllBelow (2 ^ 64) (held_pairs (value h) n.0) = subst (λ j. AllBelow (2 ^ 64) (held_pairs (value h) j)) e (s.items.keys is_low).1 in
          let last : end_pair (opposite side) (held_pairs (value h) n.0) ≡ Some (pair_in (value h) n.0 (end_slot (opposite side) more)) = held_end (opposite side) (value h) n.0 ∙ ap (λ j. Some (pair_in (value h) n.0 (end_slot (opposite side) j))) count in
          record {
            small = below_end (opposite side) (2 ^ 64) (held_pairs (value h) n.0) _ small last;
            finds = finds_as h side k _ _ (ap (end_pair (opposite side)) (low_items (value h) m is_low ∙ ap (held_pairs (value h)) e) ∙ last) d;
          }

-- At a place of it

module _ (h : History) (k : ℕ) (p : LeafPlace) (rest : Option Pair) where
  -- on the right the first pair above k is the answer
  pub answers_here : IsSearchedIn h Right k p rest → k < place_key h p → IsAnswer h Right k p
  answers_here x l = record {
    small = (subst (AllBelow (2 ^ 64)) (place_next h p x.more) x.small).0;
    finds = finds_as h Right k _ _ (ap (λ ps. or_else (successor k ps) rest) (place_next h p x.more) ∙ ap (λ (b : Bool). or_else (cond b (Some (place_pair h p)) (successor k (pairs_behind h p))) rest) (lt-ltb k (place_key h p) l)) x.finds;
  }

  -- on the left none is from one on that is not below k
  pub past_here : IsSearchedIn h Left k p rest → k ≤ place_key h p → Finds h Left k rest
  past_here x l =
      let none : predecessor k (pairs_behind h p) ≡ None = before_above k (pairs_behind h p) (above_less k (place_key h p) (pairs_behind h p) l (subst IsRising (place_next h p x.more) x.rises).0) in
      finds_as h Left k _ _ (ap (λ ps. or_else (predecessor k ps) rest) (place_next h p x.more) ∙ ap (λ (b : Bool). or_else (cond b (Some (unwrap_or (predecessor k (pairs_behind h p)) (place_pair h p))) (predecessor k (pairs_behind h p))) rest) (le-ltb (place_key h p) k l) ∙ ap (λ o. or_else o rest) none) x.finds

  -- else it is among those that follow, or the last that is below k
  pub passes_right : IsSearchedIn h Right k p rest → place_key h p ≤ k → Finds h Right k (or_else (successor k (pairs_behind h p)) rest)
  passes_right x l = finds_as h Right k _ _ (ap (λ ps. or_else (successor k ps) rest) (place_next h p x.more) ∙ ap (λ (b : Bool). or_else (cond b (Some (place_pair h p)) (successor k (pairs_behind h p))) rest) (le-ltb k (place_key h p) l)) x.finds

  pub passes_left : IsSearchedIn h Left k p rest → place_key h p < k → Finds h Left k (or_else (predecessor k (pairs_behind h p)) (Some (place_pair h p)))
  passes_left x l = finds_as h Left k _ _ (ap (λ ps. or_else (predecessor k ps) rest) (place_next h p x.more) ∙ ap (λ (b : Bool). or_else (cond b (Some (unwrap_or (predecessor k (pairs_behind h p)) (place_pair h p))) (predecessor k (pairs_behind h p))) rest) (lt-ltb (place_key h p) k l) ∙ found_before (predecessor k (pairs_behind h p)) rest (place_pair h p)) x.finds

-- behind a place
module _ (h : History) (side : Side) (k : ℕ) (p : LeafPlace) (rest left : Option Pair) (x : IsSearchedIn h side k p rest) (finds : Finds h side k (or_else (neighbour side k (pairs_behind h p)) left)) where
  pub goes_on : (q : LeafPlace) → place_behind p ≡ Some q → IsSearchedIn h side k q left
  goes_on q is = record {
    more = behind_more h p q is x.more;
    small = subst (AllBelow (2 ^ 64)) (behind_some h p q is) (subst (AllBelow (2 ^ 64)) (place_next h p x.more) x.small).1;
    rises = subst IsRising (behind_some h p q is) (subst IsRising (place_next h p x.more) x.rises).1;
    finds = finds_as h side k _ _ (ap (λ ps. or_else (neighbour side k ps) left) (behind_some h p q is)) finds;
  }

  pub ends_there : place_behind p ≡ None → Finds h side k left
  ends_there is = finds_as h side k _ _ (ap (λ ps. or_else (neighbour side k ps) left) (behind_none h p is) ∙ ap (λ o. or_else o left) (none side)) finds
    where
      none : (on : Side) → neighbour on k [] ≡ None
      none Left = refl
      none Right = refl
