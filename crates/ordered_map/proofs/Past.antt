-- A walk by child loads visits only nodes that were on the search path at a moment since its start.
use Rattle.std.proofs.Common.{◌≡◌, ◌≢◌, ℕ, ◌<◌, ◌/◌, ◌%◌, ◌^◌, true, false, eqb, ltb, ◌⊎◌, inl, inr, ⊎_elim, refl, sym, ◌∙◌, ap, arith, subst, cond, Option}
use native.Mathlib.Decide.{ℕ_discrete}
use Rattle.histories.specs.Common.{Tree as TreeMode, Side, Left, Right, Settled, Child, Head, Word, Layout, Row, node, marked, child}
use Rattle.histories.specs.Common.{History, Opened, ◌⊳◌, value, Extends, field_index, member, plan, side_of, IsNamed, Lawful, log}
use Rattle.arena.specs.Layout.{IsMap}
use Rattle.ordered_map.specs.TrieShape.{Stays}
use Rattle.ordered_map.proofs.Spanned.{node_from, own_share, same_stays}
use Rattle.arena.proofs.Lemmas.{node_apart, ends_self, ends_trans}
use Rattle.histories.proofs.Lemmas.{Effect, Facts, effect, facts_before, freeze, freeze_keeps_field, lawful_tail, named_since, node_since, node_stays, quiet, update, update_keeps_mark, update_keeps_other}
use Rattle.ordered_map.specs.OrderedMap.{MapEdit, get, AllAbove}
use Rattle.ordered_map.proofs.Trees.{items, ends, Same, same_rank, passes_has, path_level, node_below}
use Rattle.ordered_map.proofs.Holding.{SameSettled, same_items}
use Rattle.ordered_map.proofs.Moved.{settled_rank}
use Rattle.ordered_map.specs.Paths.{IsOnPath, Passed, WasInTree}
use Rattle.ordered_map.specs.Runs.{map_of_log, first_pairs}
use Rattle.ordered_map.specs.TreeWords.{Tree, Leaf, Fork, Shows, Has, Passes, is_leaf, level, rank, toward, said}
use Rattle.ordered_map.proofs.Searches.{told, told_said, passes_root, path_child, get_left, get_leaf}
use Rattle.ordered_map.proofs.TreeFacts.{TreeFacts, all_named, path_now}
use Rattle.ordered_map.proofs.Edited.{spot_unmarked}
use Rattle.ordered_map.proofs.Grown.{IsGrown, tree_facts, grown_tail, grown_since}

pub path_named : (lay : Layout) (m : History) (k n : ℕ) → IsMap lay.mode → IsOnPath m k n → IsNamed lay m n
path_named lay m k n o p = all_named lay m p.tree n o p.is_tree (passes_has (value m) k p.tree n p.passes)

-- a row changes no field of a node that is marked after it
marked_keeps : (calls : ℕ → MapEdit) (lay : Layout) (h : History) (r : Row) (n : ℕ) → IsGrown calls lay (r ⊳ h) → IsNamed lay h n → value (r ⊳ h) (marked n) ≢ 0 → (side : Side) → value (r ⊳ h) (child n side) ≡ value h (child n side)
marked_keeps calls lay h r n g p d side = go (effect lay h r g.lawful)
  where
    f : Facts lay h
    f = facts_before lay h r g.lawful

    t : TreeFacts calls lay h
    t = tree_facts calls lay h (grown_tail calls lay h r g)

    go : Effect lay h r → value (r ⊳ h) (child n side) ≡ value h (child n side)
    go (quiet k) = k.node n (Child side) tt p
    go (freeze s j w) = freeze_keeps_field f w n side
    go (update s w) = other (ℕ_discrete (member h s (field_index h s)) n)
      where
        other : Dec (member h s (field_index h s) ≡ n) → value (r ⊳ h) (child n side) ≡ value h (child n side)
        other (no q) = update_keeps_other f w (child n side) (node_apart (member h s (field_index h s)) n (Child (side_of (plan h s))) (Child side) q)
        other (yes q) =
            let e : value (r ⊳ h) (marked n) ≡ value h (marked n) = update_keeps_mark f w n in
            absurd (spot_unmarked calls lay h r s f w g.mode g.lawful t (rw q (λ y. d (e ∙ y))))

-- The latest moment at which a node was on the path: its settled words and its fields are still
-- those of that moment.
pub record Latest (h m : History) (k n : ℕ) : Type 0 where
  pub moment : History
  pub within : Extends h moment
  pub since : Extends moment m
  pub on_path : IsOnPath moment k n
  pub same : Same (value moment) (value h) n

same_refl : (f : Word → ℕ) (n : ℕ) → Same f f n
same_refl f n a i = refl

same_trans : (f g e : Word → ℕ) (n : ℕ) → Same f g n → Same g e n → Same f e n
same_trans f g e n p q a i = q a i ∙ p a i

-- it is this one
pub latest_now : (h m : History) (k n : ℕ) → Extends h m → IsOnPath h k n → Latest h m k n
latest_now h m k n e p = record { moment = h; within = ends_self h; since = e; on_path = p; same = same_refl (value h) n }

-- a row after which the node is marked keeps it
pub latest_more : (calls : ℕ → MapEdit) (lay : Layout) (h m : History) (r : Row) (k n : ℕ) → IsGrown calls lay (r ⊳ h) → IsNamed lay h n → value (r ⊳ h) (marked n) ≢ 0 → Latest h m k n → Latest (r ⊳ h) m k n
latest_more calls lay h m r k n g named d x = record { moment = x.moment; within = inr x.within; since = x.since; on_path = x.on_path; same = same_trans (value x.moment) (value h) (value (r ⊳ h)) n x.same row_same }
  where
    row_same : Same (value h) (value (r ⊳ h)) n
    row_same (Settled p) i = node_stays lay h r n (Settled p) g.lawful tt named
    row_same (Child side) i = marked_keeps calls lay h r n g named d side
    row_same _ i = absurd i

pub latest : (calls : ℕ → MapEdit) (lay : Layout) (h m : History) (k n : ℕ) → IsGrown calls lay h → Extends h m → IsOnPath m k n → Stays lay (value h) k n → Latest h m k n
latest calls lay (Opened o) m k n g e p stay = latest_now (Opened o) m k n e (rw e at p)
latest calls lay (r ⊳ h) m k n g (inl e) p stay = latest_now (r ⊳ h) m k n (inl e) (rw e at p)
latest calls lay (r ⊳ h) m k n g (inr e) p stay =
    go (latest calls lay h m k n (grown_tail calls lay h r g) e p (same_stays (value (r ⊳ h)) (value h) lay k n (λ a i. sym (node_stays lay h r n a g.lawful i named)) stay))
    (t.path m k n (inr e) p stay)
  where
    t : TreeFacts calls lay (r ⊳ h)
    t = tree_facts calls lay (r ⊳ h) g

    named : IsNamed lay h n
    named = named_since lay h m n (lawful_tail lay h r g.lawful) e (path_named lay m k n g.mode p)

    go : Latest h m k n → Passes (value (r ⊳ h)) k t.tree n ⊎ (value (r ⊳ h) (marked n) ≢ 0) → Latest (r ⊳ h) m k n
    go x (inl q) = latest_now (r ⊳ h) m k n (inr e) record { tree = t.tree; is_tree = t.is_tree; passes = q }
    go x (inr d) = latest_more calls lay h m r k n g named d x

-- At the start of a walk: node 0.
pub walk_begins : (calls : ℕ → MapEdit) (lay : Layout) (h : History) (k : ℕ) → IsGrown calls lay h → Passed h h k 0
walk_begins calls lay h k g =
    let t : TreeFacts calls lay h = tree_facts calls lay h g in
    (h, ends_self h, ends_self h, record { tree = t.tree; is_tree = t.is_tree; passes = subst (λ n. Passes (value h) k t.tree n) t.is_tree.is (passes_root (value h) k t.tree) })

-- Rows of others keep it.
pub walk_stays : (r : Row) (h start : History) (k n : ℕ) → Passed h start k n → Passed (r ⊳ h) start k n
walk_stays r h start k n p = (p.0, inr p.1, p.2, p.3)

-- What is on the path now goes on by what its field names now.
pub path_next : (h : History) (k n : ℕ) → IsOnPath h k n → is_leaf (value h) n ≡ false → IsOnPath h k (value h (child n (toward (value h) n k)))
path_next h k n p fork = record { tree = p.tree; is_tree = p.is_tree; passes = path_child (value h) k p.tree _ _ n p.is_tree.shows p.passes fork }

-- One more child load, of a node whose fields are as at a moment when it was on the path: so is
-- what is found there.
pub latest_goes_on : (h m start : History) (k n : ℕ) → Latest h m k n → Extends m start → is_leaf (value h) n ≡ false → Passed h start k (value h (child n (toward (value h) n k)))
latest_goes_on h m start k n x since fork =
    let then : History = x.moment in
    let head : value h (node n (Settled Head)) ≡ value then (node n (Settled Head)) = x.same (Settled Head) tt in
    let side : toward (value h) n k ≡ toward (value then) n k = ap (λ v. cond (ltb k v) Left Right) (same_rank (value then) (value h) n x.same) in
    let c : value h (child n (toward (value h) n k)) ≡ value then (child n (toward (value then) n k)) = ap (λ s. value h (child n s)) side ∙ x.same (Child (toward (value then) n k)) tt in
    let q : IsOnPath then k (value then (child n (toward (value then) n k))) = path_next then k n x.on_path (ap (λ v. eqb (v / 4 % 2) 1) (sym head) ∙ fork) in
    (then, x.within, ends_trans then m start x.since since, subst (IsOnPath then k) (sym c) q)

-- A node that stays on the path is such a node.
pub walk_goes_on : (calls : ℕ → MapEdit) (lay : Layout) (h start : History) (k n : ℕ) → IsGrown calls lay h → Passed h start k n → Stays lay (value h) k n → is_leaf (value h) n ≡ false → Passed h start k (value h (child n (toward (value h) n k)))
walk_goes_on calls lay h start k n g p stay fork = latest_goes_on h p.0 start k n (latest calls lay h p.0 k n g p.1 p.3 stay) p.2 fork

-- The map at a moment since the start gives what the leaf says now.
pub record Answered (calls : ℕ → MapEdit) (lay : Layout) (h start : History) (k : ℕ) (answer : Option ℕ) : Type 0 where
  pub moment : History
  pub within : Extends h moment
  pub since : Extends moment start
  pub gives : get k (map_of_log calls (first_pairs moment) (log lay moment)) ≡ answer

-- its settled words are those of the moment when it was passed
passed_settled : (lay : Layout) (h start : History) (k n : ℕ) → Lawful lay h → IsMap lay.mode → (p : Passed h start k n) → SameSettled (value p.0) (value h) n
passed_settled lay h start k n l o p part i = node_since lay h p.0 n part l p.1 i (path_named lay p.0 k n o p.3)

pub walk_ends : (calls : ℕ → MapEdit) (lay : Layout) (h start : History) (k n : ℕ) → k < 2 ^ 64 → IsGrown calls lay h → Passed h start k n → is_leaf (value h) n ≡ true → Answered calls lay h start k (said (value h) k n)
walk_ends calls lay h start k n small g p leaf =
    let m : History = p.0 in
    let t : TreeFacts calls lay m = tree_facts calls lay m (grown_since calls lay h m p.1 g) in
    let same : SameSettled (value m) (value h) n = passed_settled lay h start k n g.lawful g.mode p in
    let q : Passes (value m) k t.tree n = path_now m t.tree k n t.is_tree p.3 in
    let head : value h (node n (Settled Head)) ≡ value m (node n (Settled Head)) = same (Settled Head) tt in
    let d : is_leaf (value m) n ≡ true = ap (λ v. eqb (v / 4 % 2) 1) (sym head) ∙ leaf in
    let a : AllAbove k ends = (omega (arith, small), (omega (arith, small), tt)) in
    let e : get k (items (value m) t.tree) ≡ told (value m) k n = get_leaf (value m) k t.tree _ _ n t.is_tree.shows q d in
    let same_told : told (value m) k n ≡ told (value h) k n = ap (get k) (sym (same_items (value m) (value h) n same)) in
    record {
      moment = m;
      within = p.1;
      since = p.2;
      gives = sym (get_left k (map_of_log calls (first_pairs m) (log lay m)) ends a) ∙ ap (get k) (sym t.items) ∙ e ∙ same_told ∙ told_said (value h) k n small;
    }

-- Levels rise, in the tree and in removed nodes.

pub level_rises : (calls : ℕ → MapEdit) (lay : Layout) (h m : History) (k n : ℕ) (side : Side) → IsGrown calls lay h → Extends h m → IsOnPath m k n → Stays lay (value h) k n → is_leaf (value h) n ≡ false → level (value h) n < level (value h) (value h (child n side))
level_rises calls lay h m k n side g e p stay fork =
    let x : Latest h m k n = latest calls lay h m k n g e p stay in
    let l : History = x.moment in
    let head : value h (node n (Settled Head)) ≡ value l (node n (Settled Head)) = x.same (Settled Head) tt in
    let d : is_leaf (value l) n ≡ false = ap (λ v. eqb (v / 4 % 2) 1) (sym head) ∙ fork in
    let y : (level (value l) n < level (value l) (value l (child n side))) × Has x.on_path.tree (value l (child n side)) = path_level (value l) x.on_path.tree _ _ n side x.on_path.is_tree.shows (passes_has (value l) k x.on_path.tree n x.on_path.passes) d in
    let c : value h (child n side) ≡ value l (child n side) = x.same (Child side) tt in
    let named : IsNamed lay l (value l (child n side)) = all_named lay l x.on_path.tree _ g.mode x.on_path.is_tree y.1 in
    let child_head : value h (node (value l (child n side)) (Settled Head)) ≡ value l (node (value l (child n side)) (Settled Head)) = node_since lay h l (value l (child n side)) (Settled Head) g.lawful x.within tt named in
    rw (c, head, child_head) y.0

-- every node of the tree is on the path of its own rank
own_path : (f : Word → ℕ) (t : Tree) (lo hi n : ℕ) → Shows f lo hi t → Has t n → Passes f (rank f n) t n
own_path f (Leaf m) lo hi n s e = e
own_path f (Fork m a b) lo hi n s (inl e) = inl e
own_path f (Fork m a b) lo hi n s (inr (inl q)) = inr (inl (node_below f a lo (rank f m) n s.1 q, own_path f a lo (rank f m) n s.1 q))
own_path f (Fork m a b) lo hi n s (inr (inr q)) = inr (inr (node_from f b (rank f m) hi n s.2 q, own_path f b (rank f m) hi n s.2 q))

-- so each that was in the tree was on the path of a key with which it stays, but for the leaves of
-- a trie
pub record Reached (lay : Layout) (h m : History) (n : ℕ) : Type 0 where
  pub key : ℕ
  pub path : IsOnPath m key n
  pub stays : Stays lay (value h) key n

pub reach : (calls : ℕ → MapEdit) (lay : Layout) (h : History) (n : ℕ) → IsGrown calls lay h → (w : WasInTree h n) → (lay.mode ≡ TreeMode) ⊎ (is_leaf (value h) n ≡ false) → Reached lay h w.moment n
reach calls lay h n g w kind = record {
  key = rank (value h) n;
  path = record { tree = w.tree; is_tree = w.is_tree; passes = subst (λ k. Passes (value w.moment) k w.tree n) (sym (settled_rank (value w.moment) (value h) n same)) (own_path (value w.moment) w.tree _ _ n w.is_tree.shows w.has) };
  stays = ⊎_elim inl (λ d. inr (d, own_share (value h) n)) kind;
}
  where
    same : SameSettled (value w.moment) (value h) n
    same part i = node_since lay h w.moment n part g.lawful w.within i (all_named lay w.moment w.tree n g.mode w.is_tree w.has)

-- in every node that was ever in the tree each child's level is above its own
pub grown_rises : (calls : ℕ → MapEdit) (lay : Layout) (h : History) (n : ℕ) (side : Side) → IsGrown calls lay h → WasInTree h n → is_leaf (value h) n ≡ false → level (value h) n < level (value h) (value h (child n side))
grown_rises calls lay h n side g w d =
    let x : Reached lay h w.moment n = reach calls lay h n g w (inr d) in
    level_rises calls lay h w.moment x.key n side g w.within x.path x.stays d
