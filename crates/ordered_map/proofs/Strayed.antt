-- Walks of a trie: where one comes to a fork that its key does not share, the map has no such key,
-- and what is below is apart from the key.
use Rattle.std.proofs.Common.{◌≡◌, ◌≢◌, ℕ, ◌^◌, ◌<◌, ◌≤◌, true, false, ◌⊎◌, inl, inr, ⊎_elim, List, ◌++◌, None, refl, sym, ◌∙◌, ap, arith, subst}
use native.Mathlib.Decide.{ℕ_discrete}
use Rattle.histories.specs.Common.{Mode, Tree as TreeMode, Records, Layout, Side, Left, Right, Word, Row, info, child, History, ◌⊳◌, value, Extends, log}
use Rattle.arena.specs.declared.limits.Mode.TheVariants.{Trie as TrieMode}
use Rattle.arena.specs.Layout.{IsMap}
use Rattle.arena.proofs.Lemmas.{ends_self, ends_trans}
use Rattle.ordered_map.specs.declared.pair.Pair.{Pair}
use Rattle.ordered_map.specs.OrderedMap.{AllAbove, AllBelow, AllFrom, MapEdit, get}
use Rattle.ordered_map.specs.Holding.{held_pairs}
use Rattle.ordered_map.specs.Bits.{side_from, side_to, Shares, Keeps}
use Rattle.ordered_map.specs.Paths.{Passed, StoodSince, WasInTree, HasHadChild, IsAnswerAt}
use Rattle.ordered_map.specs.Runs.{IsMapRun, map_of_log, first_pairs}
use Rattle.ordered_map.specs.Strays.{IsApart, HasStrayed, HasWalked, IsGuardedOn, IsUnguarded}
use Rattle.ordered_map.specs.TrieShape.{Stays}
use Rattle.ordered_map.specs.TreeWords.{Tree, Leaf, Fork, root, Shows, class, is_leaf, rank, toward, said}
use Rattle.ordered_map.proofs.Holding.{SameSettled, low_pairs}
use Rattle.ordered_map.proofs.Lists.{above_from, from_less, below_more, below_join}
use Rattle.ordered_map.proofs.Maps.{get_above}
use Rattle.ordered_map.proofs.Searches.{get_below, get_left}
use Rattle.ordered_map.proofs.Trees.{EndsLow, items, ends, last_leaf, split_at}
use Rattle.ordered_map.proofs.Spanned.{PathPart, path_part, AreForks, child_items, last_left, from_join, side_in, same_shares}
use Rattle.ordered_map.proofs.Parted.{IsOnSide, high_from, high_to, own_side}
use Rattle.ordered_map.proofs.Moved.{settled_class, settled_leaf, settled_said}
use Rattle.ordered_map.proofs.TreeFacts.{TreeFacts, path_now}
use Rattle.ordered_map.proofs.Grown.{IsGrown, tree_facts}
use Rattle.ordered_map.proofs.Growing.{spells}
use Rattle.ordered_map.proofs.Stood.{passed_since, since_more, was_passed}
use Rattle.ordered_map.proofs.Meanings.{edits_of, grown, run_since, walk_next, walk_answers}
use Rattle.ordered_map.proofs.MapRuns.{stood_settled}
use Rattle.ordered_map.proofs.Children.{has_child, had_low, had_keeps, stood_next}
use Rattle.ordered_map.proofs.Guarded.{guarded_next}
use Rattle.ordered_map.proofs.Past.{walk_stays}

-- What words show

-- pairs between two bounds have no key that is not
get_outside : (from to k : ℕ) (m : List Pair) → AllFrom from m → AllBelow to m → ¬ ((from ≤ k) × (k < to)) → get k m ≡ None
get_outside from to k m a b out = go (split_at k from) (split_at k to)
  where
    go : (k < from) ⊎ (from ≤ k) → (k < to) ⊎ (to ≤ k) → get k m ≡ None
    go (inl l) _ = get_above k m (above_from k from m l a)
    go (inr l) (inl u) = absurd (out (l, u))
    go (inr l) (inr u) = get_below k m (below_more to k m u b)

-- what is below a fork of class 0 that does not share the key does not have it
part_none : (f : Word → ℕ) (k u : ℕ) (t : Tree) (lo hi : ℕ) → Shows f lo hi t → EndsLow f t → AreForks f t → root t ≡ u → is_leaf f u ≡ false → class f u ≡ 0 → ¬ Shares f u k → get k (items f t) ≡ None
part_none f k u (Leaf n) lo hi s w all e d low out = absurd (let x : true ≡ false = sym s.leaf ∙ rw (← e) at d in cc)
part_none f k u (Fork n a b) lo hi s w all e d low out =
    let zero : class f n ≡ 0 = ap (class f) e ∙ low in
    let last : class f (last_leaf b) ≡ 0 = w.0 zero in
    let fork = all n (inl refl) s.0.fork in
    let left = child_items f n Left a lo (rank f n) s.1 (last_left f n lo hi a b s last) (λ j h. all j (inr (inl h))) (subst (Keeps f n Left) s.0.left (fork.1 Left)) in
    let right = child_items f n Right b (rank f n) hi s.2 last (λ j h. all j (inr (inr h))) (subst (Keeps f n Right) s.0.right (fork.1 Right)) in
    let l = side_in f n Left zero in
    let r = side_in f n Right zero in
    get_outside (side_from f n Left) (side_to f n Right) k (items f a ++ items f b)
    (from_join (side_from f n Left) (items f a) (items f b) left.0 (from_less (side_from f n Left) (side_from f n Right) (items f b) r.0 right.0))
    (below_join (side_to f n Right) (items f a) (items f b) (below_more (side_to f n Left) (side_to f n Right) (items f a) l.1 left.1) right.1)
    (λ x. out (subst (λ v. Shares f v k) e x))

-- a key shares a fork or does not
pub shares_or_not : (f : Word → ℕ) (n k : ℕ) → Shares f n k ⊎ ¬ Shares f n k
shares_or_not f n k = go (split_at k (side_from f n Left)) (split_at k (side_to f n Right))
  where
    go : (k < side_from f n Left) ⊎ (side_from f n Left ≤ k) → (k < side_to f n Right) ⊎ (side_to f n Right ≤ k) → Shares f n k ⊎ ¬ Shares f n k
    go (inl l) _ = inr (λ s. let a = s.0 in omega (arith, l, a))
    go (inr l) (inl u) = inl (l, u)
    go (inr l) (inr u) = inr (λ s. let a = s.1 in omega (arith, u, a))

same_apart : (b f : Word → ℕ) (n k : ℕ) → SameSettled b f n → IsApart b n k → IsApart f n k
same_apart b f n k same x = record {
  fork = λ d.
      let y = x.fork (sym (settled_leaf b f n same) ∙ d) in
      (settled_class b f n same ∙ y.0, λ s. y.1 (same_shares f b n k (λ part i. sym (same part i)) s));
  leaf = λ d. settled_said b f k n same ∙ x.leaf (sym (settled_leaf b f n same) ∙ d);
}

-- a key stays at forks
pub stays_fork : (lay : Layout) (f : Word → ℕ) (k n : ℕ) → lay.mode ≡ TrieMode → Stays lay f k n → is_leaf f n ≡ false
stays_fork lay f k n trie (inl tree) = absurd (let e : TreeMode ≡ TrieMode = sym tree ∙ trie in cc)
stays_fork lay f k n trie (inr s) = s.0

-- where a key stays it shares the fork
pub stays_shares : (lay : Layout) (f : Word → ℕ) (k n : ℕ) → k < 2 ^ 64 → lay.mode ≡ TrieMode → Stays lay f k n → Shares f n k
stays_shares lay f k n small trie (inl tree) = absurd (let e : TreeMode ≡ TrieMode = sym tree ∙ trie in cc)
stays_shares lay f k n small trie (inr s) = go (ℕ_discrete (class f n) 0)
  where
    go : Dec (class f n ≡ 0) → Shares f n k
    go (yes low) = s.1 low
    go (no high) = let from = high_from f n high in let to = high_to f n high in (omega (arith, from), omega (arith, to, small))

-- and may stand on its side of it
pub stays_on_side : (lay : Layout) (f : Word → ℕ) (k n : ℕ) → k < 2 ^ 64 → lay.mode ≡ TrieMode → Stays lay f k n → IsOnSide f n (toward f n k) k
stays_on_side lay f k n small trie stay = own_side f n k small (stays_shares lay f k n small trie stay)

-- In a run

-- what a fork of class 0 has had below it on a side is apart from each key that is not on that side
pub apart_outside : (lay : Layout) (h : History) (k n : ℕ) (side : Side) (m : ℕ) → lay.mode ≡ TrieMode → IsMapRun lay h → is_leaf (value h) n ≡ false → HasHadChild h n side m → class (value h) n ≡ 0 → ¬ IsOnSide (value h) n side k → IsApart (value h) m k
apart_outside lay h k n side m trie g fork x zero outside = record {
  fork = λ d. (low, λ s. let a = keeps.fork d low in outside (omega (arith, a, s), omega (arith, a, s)));
  leaf = λ d.
      let held = keeps.leaf d low in
      ap (get k) (low_pairs (value h) m low) ∙ get_outside (side_from (value h) n side) (side_to (value h) n side) k (held_pairs (value h) m) held.1 held.2 outside;
}
  where
    low : class (value h) m ≡ 0
    low = had_low lay h n side m g x fork zero

    keeps : Keeps (value h) n side m
    keeps = had_keeps lay h n side m g x fork trie

-- so it is from each that the fork is apart from
pub apart_below : (lay : Layout) (h : History) (k n : ℕ) (side : Side) (m : ℕ) → lay.mode ≡ TrieMode → IsMapRun lay h → is_leaf (value h) n ≡ false → HasHadChild h n side m → IsApart (value h) n k → IsApart (value h) m k
apart_below lay h k n side m trie g fork x apart =
    let zero = (apart.fork fork).0 in
    let a = side_in (value h) n side zero in
    apart_outside lay h k n side m trie g fork x zero (λ s. (apart.fork fork).1 (omega (arith, a, s), omega (arith, a, s)))

-- Where a walk comes to a fork of class 0 that its key does not share, the map had no such key when
-- the fork was passed.
pub walk_strays : (lay : Layout) (h start : History) (k n : ℕ) → k < 2 ^ 64 → IsMapRun lay h → lay.mode ≡ TrieMode → Passed h start k n → is_leaf (value h) n ≡ false → class (value h) n ≡ 0 → ¬ Shares (value h) n k → HasStrayed lay h start k n
walk_strays lay h start k n small g trie p fork low out = record {
  trie = trie;
  absent = record { moment = m; within = p.1; since = p.2; map = map_of_log calls (first_pairs m) (log lay m); spelled = spells calls lay m now; gives = gives };
  stood = passed_since h start k n p;
  guarded = λ guard done. inl p;
  apart = record { fork = λ _. (low, out); leaf = λ d. absurd (let x : true ≡ false = sym d ∙ fork in cc) };
}
  where
    m : History
    m = p.0

    run : IsMapRun lay m
    run = run_since lay h m g p.1

    calls : ℕ → MapEdit
    calls = (edits_of lay m run).edits

    now : IsGrown calls lay m
    now = grown lay m run

    t : TreeFacts calls lay m
    t = tree_facts calls lay m now

    same : SameSettled (value m) (value h) n
    same = stood_settled lay h m n g p.1 (was_passed m m k n (m, ends_self m, ends_self m, p.3))

    part : PathPart (value m) k t.tree n
    part = path_part (value m) k t.tree _ _ n t.is_tree.shows t.ends_low (path_now m t.tree k n t.is_tree p.3)

    none : get k (items (value m) t.tree) ≡ None
    none = part.gives ∙ part_none (value m) k n part.part part.low part.high part.shows part.ends (λ j h. t.forks trie j (part.inside j h)) part.is (sym (settled_leaf (value m) (value h) n same) ∙ fork) (sym (settled_class (value m) (value h) n same) ∙ low) (λ s. out (same_shares (value m) (value h) n k same s))

    above : AllAbove k ends
    above = (omega (arith, small), (omega (arith, small), tt))

    gives : get k (map_of_log calls (first_pairs m) (log lay m)) ≡ None
    gives = sym (get_left k (map_of_log calls (first_pairs m) (log lay m)) ends above) ∙ ap (get k) (sym t.items) ∙ none

-- at each fork of its path a walk goes on there, or strays
pub stays_or_strays : (lay : Layout) (h start : History) (k n : ℕ) → k < 2 ^ 64 → IsMapRun lay h → Passed h start k n → is_leaf (value h) n ≡ false → Stays lay (value h) k n ⊎ HasStrayed lay h start k n
stays_or_strays lay h start k n small g p fork = by_mode lay.mode refl g.0
  where
    by_share : lay.mode ≡ TrieMode → class (value h) n ≡ 0 → Shares (value h) n k ⊎ ¬ Shares (value h) n k → Stays lay (value h) k n ⊎ HasStrayed lay h start k n
    by_share trie low (inl s) = inl (inr (fork, λ _. s))
    by_share trie low (inr d) = inr (walk_strays lay h start k n small g trie p fork low d)

    by_class : lay.mode ≡ TrieMode → Dec (class (value h) n ≡ 0) → Stays lay (value h) k n ⊎ HasStrayed lay h start k n
    by_class trie (yes low) = by_share trie low (shares_or_not (value h) n k)
    by_class trie (no high) = inl (inr (fork, λ low. absurd (high low)))

    by_mode : (mode : Mode) → lay.mode ≡ mode → IsMap mode → Stays lay (value h) k n ⊎ HasStrayed lay h start k n
    by_mode TreeMode e is = inl (inl e)
    by_mode TrieMode e is = by_class e (ℕ_discrete (class (value h) n) 0)
    by_mode Records e is = absurd (let x : false ≡ true = is in cc)

-- where it has strayed it goes on all the same
pub strayed_next : (lay : Layout) (h start : History) (k n : ℕ) → IsMapRun lay h → HasStrayed lay h start k n → is_leaf (value h) n ≡ false → HasStrayed lay h start k (value h (child n (toward (value h) n k)))
strayed_next lay h start k n g x fork = record {
  trie = x.trie;
  absent = x.absent;
  stood = stood_next lay h start n (toward (value h) n k) g x.stood fork;
  guarded = λ guard done. ⊎_elim (λ p. on guard (ends_trans h p.0 start p.1 p.2) (guarded_next lay h start k n guard g done p fork)) inr (x.guarded guard done);
  apart = apart_below lay h k n (toward (value h) n k) (value h (child n (toward (value h) n k))) x.trie g fork (has_child h n (toward (value h) n k) x.stood.0) x.apart;
}
  where
    on : (guard : ℕ) → Extends h start → Passed h start k (value h (child n (toward (value h) n k))) ⊎ (value h (info 2) ≢ guard) → Passed h start k (value h (child n (toward (value h) n k))) ⊎ IsUnguarded h start guard
    on guard since (inl p) = inl p
    on guard since (inr d) = inr (h, ends_self h, since, d)

-- a row more keeps that
pub strayed_more : (lay : Layout) (h start : History) (r : Row) (k n : ℕ) → IsMapRun lay (r ⊳ h) → HasStrayed lay h start k n → HasStrayed lay (r ⊳ h) start k n
strayed_more lay h start r k n g x = record {
  trie = x.trie;
  absent = let a = x.absent in record { moment = a.moment; within = inr a.within; since = a.since; map = a.map; spelled = a.spelled; gives = a.gives };
  stood = since_more h start r n x.stood;
  guarded = λ guard done. ⊎_elim (λ p. inl (walk_stays r h start k n p)) (λ u. inr (u.0, inr u.1, u.2, u.3)) (x.guarded guard done);
  apart = same_apart (value h) (value (r ⊳ h)) n k (stood_settled lay (r ⊳ h) h n g (inr (ends_self h)) x.stood.0) x.apart;
}

-- Walks by the steps of a tree's

pub walked_next : (lay : Layout) (h start : History) (k n : ℕ) → k < 2 ^ 64 → IsMapRun lay h → HasWalked lay h start k n → is_leaf (value h) n ≡ false → HasWalked lay h start k (value h (child n (toward (value h) n k)))
walked_next lay h start k n small g (inl p) fork = ⊎_elim (λ stay. inl (walk_next lay h start k n g p stay fork)) (λ s. inr (strayed_next lay h start k n g s fork)) (stays_or_strays lay h start k n small g p fork)
walked_next lay h start k n small g (inr s) fork = inr (strayed_next lay h start k n g s fork)

pub walked_answers : (lay : Layout) (h start : History) (k n : ℕ) → k < 2 ^ 64 → IsMapRun lay h → HasWalked lay h start k n → is_leaf (value h) n ≡ true → IsAnswerAt lay h start k (said (value h) k n)
walked_answers lay h start k n small g (inl p) leaf = walk_answers lay h start k n small g p leaf
walked_answers lay h start k n small g (inr s) leaf = subst (IsAnswerAt lay h start k) (sym (s.apart.leaf leaf)) s.absent

pub walked_stood : (lay : Layout) (h start : History) (k n : ℕ) → HasWalked lay h start k n → WasInTree h n
walked_stood lay h start k n (inl p) = was_passed h start k n p
walked_stood lay h start k n (inr s) = s.stood.0

-- what it has come to was in the tree since the walk began, and on the path, or node 2 has changed
-- since
pub walked_since : (lay : Layout) (h start : History) (k n : ℕ) → HasWalked lay h start k n → StoodSince h start n
walked_since lay h start k n (inl p) = passed_since h start k n p
walked_since lay h start k n (inr s) = s.stood

pub walked_guarded : (lay : Layout) (h start : History) (k n : ℕ) → HasWalked lay h start k n → IsGuardedOn h start k n
walked_guarded lay h start k n (inl p) guard done = inl p
walked_guarded lay h start k n (inr s) guard done = s.guarded guard done

-- A fork whose field has named a node that is not apart from the key has not strayed, and stays.
pub walked_above : (lay : Layout) (h start : History) (k n m : ℕ) (side : Side) → k < 2 ^ 64 → lay.mode ≡ TrieMode → IsMapRun lay h → HasWalked lay h start k n → is_leaf (value h) n ≡ false → HasHadChild h n side m → ¬ IsApart (value h) m k → Passed h start k n × Stays lay (value h) k n
walked_above lay h start k n m side small trie g w fork x here = go w
  where
    never : HasStrayed lay h start k n → ⊥
    never s = here (apart_below lay h k n side m trie g fork x s.apart)

    go : HasWalked lay h start k n → Passed h start k n × Stays lay (value h) k n
    go (inl p) = (p, ⊎_elim (λ stay. stay) (λ s. absurd (never s)) (stays_or_strays lay h start k n small g p fork))
    go (inr s) = absurd (never s)
