-- What the forks of a tree have for children, now or when they were there: where each is, seen from
-- its fork, and that in a trie it keeps to its side.
use Rattle.std.proofs.Common.{◌≡◌, ◌≢◌, ℕ, ◌/◌, ◌%◌, ◌^◌, ◌<◌, ◌≤◌, Bool, true, false, eqb, inl, inr, refl, sym, ◌∙◌, ap, arith, subst}
use Rattle.histories.specs.Common.{Layout, Side, Left, Right, Child, Settled, Head, Word, child, History, value, Extends}
use Rattle.arena.specs.declared.limits.Mode.TheVariants.{Trie as TrieMode}
use Rattle.arena.proofs.Lemmas.{ends_self, ends_trans}
use Rattle.histories.proofs.Lemmas.{node_since}
use Rattle.ordered_map.specs.Bits.{Keeps, IsTrieFork}
use Rattle.ordered_map.specs.Paths.{StoodSince, WasInTree, HasHadChild}
use Rattle.ordered_map.specs.Runs.{IsMapRun}
use Rattle.ordered_map.specs.Spelled.{IsTree}
use Rattle.ordered_map.specs.TreeWords.{Tree, Leaf, Fork, root, Shows, Has, class, is_leaf, level, rank}
use Rattle.ordered_map.proofs.Holding.{SameSettled}
use Rattle.ordered_map.proofs.Spanned.{node_from, node_low, same_keeps}
use Rattle.ordered_map.proofs.Trees.{EndsLow, last_leaf, has_last, node_below, same_tree, shown_leaf, passes_has, has_root, path_level}
use Rattle.ordered_map.proofs.Moved.{settled_rank, settled_class, settled_leaf, settled_level}
use Rattle.ordered_map.proofs.TreeFacts.{all_named}
use Rattle.ordered_map.proofs.Grown.{tree_facts}
use Rattle.ordered_map.proofs.Past.{Latest, latest, Reached, reach}
use Rattle.ordered_map.proofs.Meanings.{edits_of, grown, run_since}
use Rattle.ordered_map.proofs.MapRuns.{stood_settled}
use Rattle.ordered_map.proofs.TrieRuns.{stood_parted}

-- in a tree the rank of each fork of class 0 is a key of the map
pub fork_low : (f : Word → ℕ) (t : Tree) (lo hi n : ℕ) → Shows f lo hi t → EndsLow f t → Has t n → is_leaf f n ≡ false → class f n ≡ 0 → rank f n < 2 ^ 64
fork_low f (Leaf m) lo hi n s w e d low = absurd (let x : true ≡ false = sym s.leaf ∙ rw (← e) at d in cc)
fork_low f (Fork m a b) lo hi n s w (inl e) d low =
    let z : class f m ≡ 0 = ap (class f) e ∙ low in
    let x : rank f m ≤ rank f (last_leaf b) = node_from f b (rank f m) hi (last_leaf b) s.2 (has_last b) in
    let y : rank f (last_leaf b) < 2 ^ 64 = node_low f b (rank f m) hi (last_leaf b) s.2 (w.0 z) (has_last b) in
    rw (← e) (omega (arith, x, y))
fork_low f (Fork m a b) lo hi n s w (inr (inl q)) d low = fork_low f a lo (rank f m) n s.1 w.1 q d low
fork_low f (Fork m a b) lo hi n s w (inr (inr q)) d low = fork_low f b (rank f m) hi n s.2 w.2 q d low

-- where x is, seen from the fork n that it is below on this side: before it; or not before it, and
-- 2 ^ 64 if the fork is
abbrev pub IsBeside : (Word → ℕ) → Side → ℕ → ℕ → Type 0
IsBeside f Left n x = rank f x < rank f n
IsBeside f Right n x = (rank f n ≤ rank f x) × (rank f n < 2 ^ 64 → rank f x < 2 ^ 64)

pub beside_same : (b f : Word → ℕ) (side : Side) (n x : ℕ) → rank f n ≡ rank b n → rank f x ≡ rank b x → IsBeside b side n x → IsBeside f side n x
beside_same b f Left n x e d y = rw (e, d) y
beside_same b f Right n x e d y = (rw (e, d) y.0, λ z. rw d (y.1 (rw e at z)))

child_beside : (f : Word → ℕ) (side : Side) (t : Tree) (lo hi n : ℕ) → Shows f lo hi t → EndsLow f t → Has t n → is_leaf f n ≡ false → IsBeside f side n (f (child n side))
child_beside f side (Leaf m) lo hi n s w e d = absurd (let x : true ≡ false = sym s.leaf ∙ rw (← e) at d in cc)
child_beside f Left (Fork m a b) lo hi n s w (inl e) d =
    let q : f (child n Left) ≡ root a = rw (← e) s.0.left in
    rw (q, ← e) (node_below f a lo (rank f m) (root a) s.1 (has_root a))
child_beside f Right (Fork m a b) lo hi n s w (inl e) d =
    subst (λ x. IsBeside f Right n x) (sym q) (subst (λ k. IsBeside f Right k (root b)) e (node_from f b (rank f m) hi (root b) s.2 (has_root b), low))
  where
    q : f (child n Right) ≡ root b
    q = rw (← e) s.0.right

    low : rank f m < 2 ^ 64 → rank f (root b) < 2 ^ 64
    low x = node_low f b (rank f m) hi (root b) s.2 (w.0 (omega (arith, x))) (has_root b)
child_beside f side (Fork m a b) lo hi n s w (inr (inl q)) d = child_beside f side a lo (rank f m) n s.1 w.1 q d
child_beside f side (Fork m a b) lo hi n s w (inr (inr q)) d = child_beside f side b (rank f m) hi n s.2 w.2 q d

-- so is that of each node of class 0
low_small : (f : Word → ℕ) (t : Tree) (lo hi n : ℕ) → Shows f lo hi t → EndsLow f t → Has t n → class f n ≡ 0 → rank f n < 2 ^ 64
low_small f t lo hi n s w h low = go (is_leaf f n) refl
  where
    go : (b : Bool) → is_leaf f n ≡ b → rank f n < 2 ^ 64
    go false d = fork_low f t lo hi n s w h d low
    go true d = let small = (shown_leaf f t lo hi n s h d).2.small in omega (arith, small, low)

-- In a run

-- below each fork of class 0 the last leaf is of class 0
pub run_low : (lay : Layout) (h : History) (t : Tree) → IsMapRun lay h → IsTree (value h) t → EndsLow (value h) t
run_low lay h t g is =
    let x = tree_facts (edits_of lay h g).edits lay h (grown lay h g) in
    subst (EndsLow (value h)) (same_tree (value h) x.tree t _ _ _ _ x.is_tree.shows is.shows (x.is_tree.is ∙ sym is.is)) x.ends_low

-- a node that has had a child was in the tree
pub parent_stood : (h : History) (n : ℕ) (side : Side) (m : ℕ) → HasHadChild h n side m → WasInTree h n
parent_stood h n side m x = let s = x.stood in record { moment = s.moment; within = ends_trans h x.moment s.moment x.within s.within; tree = s.tree; is_tree = s.is_tree; has = s.has }

-- what a fork has now that was ever in the tree
pub has_child : (h : History) (n : ℕ) (side : Side) → WasInTree h n → HasHadChild h n side (value h (child n side))
has_child h n side x = record { moment = h; within = ends_self h; stood = x; held = refl }

-- what a fork has now that was in the tree since some moment was there since then too
pub stood_next : (lay : Layout) (h start : History) (n : ℕ) (side : Side) → IsMapRun lay h → StoodSince h start n → is_leaf (value h) n ≡ false → StoodSince h start (value h (child n side))
stood_next lay h start n side g (x, since) fork = (
  record { moment = l.moment; within = l.within; tree = l.on_path.tree; is_tree = l.on_path.is_tree; has = subst (λ c. Has l.on_path.tree c) (sym (l.same (Child side) tt)) below },
  ends_trans l.moment x.moment start l.since since,
)
  where
    own : Reached lay h x.moment n
    own = reach (edits_of lay h g).edits lay h n (grown lay h g) x (inr fork)

    l : Latest h x.moment own.key n
    l = latest (edits_of lay h g).edits lay h x.moment own.key n (grown lay h g) x.within own.path own.stays

    has : Has l.on_path.tree n
    has = passes_has (value l.moment) own.key l.on_path.tree n l.on_path.passes

    fork_then : is_leaf (value l.moment) n ≡ false
    fork_then = ap (λ v. eqb (v / 4 % 2) 1) (sym (l.same (Settled Head) tt)) ∙ fork

    below : Has l.on_path.tree (value l.moment (child n side))
    below = (path_level (value l.moment) l.on_path.tree _ _ n side l.on_path.is_tree.shows has fork_then).1

-- a moment at which the fork n was in the tree, with the child m on this side; both are as they
-- were
record IsShownBelow (h : History) (n : ℕ) (side : Side) (m : ℕ) : Type 0 where
  moment : History
  within : Extends h moment
  tree : Tree
  is_tree : IsTree (value moment) tree
  has : Has tree n
  fork : is_leaf (value moment) n ≡ false
  holds : value moment (child n side) ≡ m
  has_below : Has tree m
  deeper : level (value moment) n < level (value moment) m
  same : SameSettled (value moment) (value h) n
  same_below : SameSettled (value moment) (value h) m

module _ (lay : Layout) (h : History) (n : ℕ) (side : Side) (m : ℕ) (g : IsMapRun lay h) (x : HasHadChild h n side m) (kind : is_leaf (value h) n ≡ false) where
  shown : IsShownBelow h n side m
  shown = record {
    moment = l.moment;
    within = within;
    tree = l.on_path.tree;
    is_tree = l.on_path.is_tree;
    has = has;
    fork = fork;
    holds = holds;
    has_below = has_below;
    deeper = subst (λ c. level (value l.moment) n < level (value l.moment) c) holds below.0;
    same = same;
    same_below = λ part i. node_since lay h l.moment m part g.1.lawful within i (all_named lay l.moment l.on_path.tree m g.0 l.on_path.is_tree has_below);
  }
    where
      run : IsMapRun lay x.moment
      run = run_since lay h x.moment g x.within

      kind_then : is_leaf (value x.moment) n ≡ false
      kind_then = sym (settled_leaf (value x.moment) (value h) n (stood_settled lay h x.moment n g x.within x.stood)) ∙ kind

      own : Reached lay x.moment x.stood.moment n
      own = reach (edits_of lay x.moment run).edits lay x.moment n (grown lay x.moment run) x.stood (inr kind_then)

      l : Latest x.moment x.stood.moment own.key n
      l = latest (edits_of lay x.moment run).edits lay x.moment x.stood.moment own.key n (grown lay x.moment run) x.stood.within own.path own.stays

      within : Extends h l.moment
      within = ends_trans h x.moment l.moment x.within l.within

      has : Has l.on_path.tree n
      has = passes_has (value l.moment) own.key l.on_path.tree n l.on_path.passes

      same : SameSettled (value l.moment) (value h) n
      same = stood_settled lay h l.moment n g within record { moment = l.moment; within = ends_self l.moment; tree = l.on_path.tree; is_tree = l.on_path.is_tree; has = has }

      fork : is_leaf (value l.moment) n ≡ false
      fork = sym (settled_leaf (value l.moment) (value h) n same) ∙ kind

      holds : value l.moment (child n side) ≡ m
      holds = sym (l.same (Child side) tt) ∙ x.held

      below : (level (value l.moment) n < level (value l.moment) (value l.moment (child n side))) × Has l.on_path.tree (value l.moment (child n side))
      below = path_level (value l.moment) l.on_path.tree _ _ n side l.on_path.is_tree.shows has fork

      has_below : Has l.on_path.tree m
      has_below = subst (λ c. Has l.on_path.tree c) holds below.1

  abbrev then : Word → ℕ
  then = value shown.moment

  low : EndsLow then shown.tree
  low = run_low lay shown.moment shown.tree (run_since lay h shown.moment g shown.within) shown.is_tree

  was : WasInTree shown.moment n
  was = record { moment = shown.moment; within = ends_self shown.moment; tree = shown.tree; is_tree = shown.is_tree; has = shown.has }

  -- the child was in the tree, on a greater level
  pub had_stood : WasInTree h m
  had_stood = record { moment = shown.moment; within = shown.within; tree = shown.tree; is_tree = shown.is_tree; has = shown.has_below }

  pub had_deeper : level (value h) n < level (value h) m
  had_deeper =
      let a = settled_level then (value h) n shown.same in
      let b = settled_level then (value h) m shown.same_below in
      rw (a, b) shown.deeper

  beside_then : IsBeside then side n m
  beside_then = subst (IsBeside then side n) shown.holds (child_beside then side shown.tree _ _ n shown.is_tree.shows low shown.has shown.fork)

  -- where it is, seen from the fork
  pub had_beside : IsBeside (value h) side n m
  had_beside = beside_same then (value h) side n m (settled_rank then (value h) n shown.same) (settled_rank then (value h) m shown.same_below) beside_then

  -- below a fork of class 0 there are keys of the map alone
  pub had_low : class (value h) n ≡ 0 → class (value h) m ≡ 0
  had_low z = settled_class then (value h) m shown.same_below ∙ go side beside_then
    where
      small : rank then n < 2 ^ 64
      small = low_small then shown.tree _ _ n shown.is_tree.shows low shown.has (sym (settled_class then (value h) n shown.same) ∙ z)

      go : (side : Side) → IsBeside then side n m → class then m ≡ 0
      go Left b = omega (arith, small, b)
      go Right b = let c = b.1 small in omega (arith, c)

  -- and on the right of one above all keys there is none
  pub had_high : side ≡ Right → class (value h) n ≢ 0 → class (value h) m ≢ 0
  had_high right high z =
      let b : IsBeside then Right n m = subst (λ s. IsBeside then s n m) right beside_then in
      let d = settled_class then (value h) n shown.same in
      let small = low_small then shown.tree _ _ m shown.is_tree.shows low shown.has_below (sym (settled_class then (value h) m shown.same_below) ∙ z) in
      omega (arith, b.0, small, d, high)

  -- in a trie it keeps to its side
  pub had_keeps : lay.mode ≡ TrieMode → Keeps (value h) n side m
  had_keeps trie = same_keeps then (value h) n side m shown.same shown.same_below (subst (Keeps then n side) shown.holds ((fork_then shown.fork).1 side))
    where
      fork_then : IsTrieFork then n
      fork_then = stood_parted lay shown.moment n trie (run_since lay h shown.moment g shown.within) was
